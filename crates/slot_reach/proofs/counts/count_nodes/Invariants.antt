use Rattle.std.proofs.Common.{◌≡◌, ◌+◌, ◌*◌, ◌≤◌}
use Rattle.page_tree.specs.Pages.{nodes}
use Rattle.slot_reach.proofs.Counted.{counted}
use Rattle.slot_reach.proofs.counts.count_nodes.Given as goal

-- the nodes of the owners before
abbrev pub invariant-widgets : goal.invariant-widgets
invariant-widgets l = record {
  exact : l.many ≡ counted l.w (nodes l.page);
  few : l.many ≤ 300000 + 16384 * l.w;
}
