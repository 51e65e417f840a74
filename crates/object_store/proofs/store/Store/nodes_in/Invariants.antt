use Rattle.std.proofs.Common.{◌≡◌, slice_get, take}
use Rattle.std.specs.Prelude.{IfSome}
use Rattle.object_store.specs.Owned.{nodes_in}
use Rattle.object_store.proofs.store.Store.nodes_in.Given as goal

abbrev pub invariant-loop-at : goal.invariant-loop-at
invariant-loop-at l = IfSome (slice_get l.self.cells l.array) (λ a. l.nodes.items ≡ nodes_in l.self.cells (take l.at a.pairs))
