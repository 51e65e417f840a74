use Rattle.std.proofs.Common.{◌≡◌, map, take}
use Rattle.list_methods.proofs.sorting.values_in.Given as goal

abbrev pub invariant-loop-k : goal.invariant-loop-k
invariant-loop-k l = l.values.items ≡ map (λ k. k.value) (take l.k-index l.all)
