use Rattle.std.proofs.Common.{◌≡◌, ◌++◌, take}
use Rattle.page_tree.specs.Pages.{nodes}
use Rattle.page_image.specs.Own.{own_nodes}
use Rattle.slot_reach.specs.Reads.{handler_refs}
use Rattle.slot_reach.proofs.held.push_handlers.Given as goal

-- the nodes before
abbrev pub invariant-nodes : goal.invariant-nodes
invariant-nodes l = l.out.items ≡ l.fn.out.items ++ handler_refs l.names l.store.cells l.around (own_nodes (take l.node (nodes l.page)) l.w)
