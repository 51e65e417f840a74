use Rattle.std.proofs.Common.{◌≡◌, take, length}
use Rattle.code_units.proofs.text.are_same.Given as goal

abbrev pub invariant-loop-k : goal.invariant-loop-k
invariant-loop-k l = (take l.k l.a ≡ take l.k l.b) × (length l.a ≡ length l.b)
