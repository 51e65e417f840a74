use Rattle.std.proofs.Common.{◌≡◌, take}
use Rattle.keyed_names.specs.Numbers as spec
use Rattle.keyed_names.proofs.numbers.number.Given as goal

abbrev pub invariant-loop-byte : goal.invariant-loop-byte
invariant-loop-byte l = l.n ≡ spec.number (take l.byte-index l.bytes)
