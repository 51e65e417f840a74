use Rattle.std.proofs.Common.{◌<◌, ℕ, get_or}
use Rattle.page_tree.specs.Pages.{nodes, IsOpen}
use Rattle.page_tree.proofs.page.Page.all_open.Given as goal

abbrev pub invariant-each : goal.invariant-each
invariant-each l = (j : ℕ) → j < l.target-index → IsOpen (nodes l.self) (get_or l.targets j 0) l.height
