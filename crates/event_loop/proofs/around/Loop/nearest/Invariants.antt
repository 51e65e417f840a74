use Rattle.std.proofs.Common.{◌≡◌, ◌-◌}
use Rattle.page_tree.specs.Pages.{nodes}
use Rattle.event_loop.specs.Deliveries.{nearest, most, IsNodeOf}
use Rattle.event_loop.proofs.around.Loop.nearest.Given as goal

abbrev pub invariant-up : goal.invariant-up
invariant-up l = record {
  same : nearest (most - l.counter) (nodes l.page) l.root l.self l.place l.kind ≡ nearest most (nodes l.page) l.root l.self l.fn.node l.kind;
  is_in : IsNodeOf (nodes l.page) l.place;
}
