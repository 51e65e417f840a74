use Rattle.std.proofs.Common.{◌≡◌, ◌++◌, take}
use Rattle.list_methods.proofs.array.share_all.Given as goal

abbrev pub invariant-loop-v : goal.invariant-loop-v
invariant-loop-v l = l.values.items ≡ l.initial.values.items ++ take l.v-index l.more
