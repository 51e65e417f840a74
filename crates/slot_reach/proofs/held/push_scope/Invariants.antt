use Rattle.std.proofs.Common.{◌≡◌, ◌++◌, IfSome, slice_get, take}
use Rattle.slot_reach.specs.Reads.{pair_refs}
use Rattle.slot_reach.proofs.held.push_scope.Given as goal

-- the pairs before
abbrev pub invariant-pairs : goal.invariant-pairs
invariant-pairs l = IfSome (slice_get l.store.cells l.scope) (λ c. l.out.items ≡ l.fn.out.items ++ pair_refs l.names l.store.cells (take l.at c.pairs))
