use Rattle.std.proofs.Common.{◌<◌, ℕ, get_or}
use Rattle.page_tree.specs.Pages.{nodes, root, IsOwn}
use Rattle.page_tree.proofs.page.Page.are_own.Given as goal

abbrev pub invariant-each : goal.invariant-each
invariant-each l = (i : ℕ) → i < l.node-index → IsOwn (nodes l.self) (root l.self) l.owner (get_or l.news i 0)
