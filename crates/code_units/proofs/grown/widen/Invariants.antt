use Rattle.std.proofs.Common.{◌≡◌, ◌+◌, ◌++◌, take}
use Rattle.code_units.proofs.grown.widen.Given as goal

abbrev pub invariant-loop-i : goal.invariant-loop-i
invariant-loop-i l = take (l.from + l.i) l.units ≡ take l.from l.initial.units ++ take l.i l.bytes
