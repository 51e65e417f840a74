use Rattle.std.proofs.Common.{◌≡◌, map, take}
use Rattle.std.specs.List.{AllByRecursion}
use Rattle.list_methods.specs.Sorting.{IsKeyed}
use Rattle.list_methods.proofs.sorting.with_keys.Given as goal

abbrev pub invariant-loop-v : goal.invariant-loop-v
invariant-loop-v l = (map (λ k. k.value) l.all.items ≡ take l.v-index l.values) × AllByRecursion IsKeyed l.all.items
