use Rattle.std.proofs.Common.{◌≡◌, ◌+◌, ◌++◌, take}
use Rattle.code_units.proofs.grown.narrow.Given as goal

abbrev pub invariant-loop-i : goal.invariant-loop-i
invariant-loop-i l = take (l.from + l.i) l.bytes ≡ take l.from l.initial.bytes ++ take l.i l.units
