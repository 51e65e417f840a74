use Rattle.std.proofs.Common.{◌≡◌, take}
use Rattle.std.specs.Prelude.{min}
use Rattle.node_rules.specs.Numbers.{value_to}
use Rattle.node_rules.proofs.numbers.is_over.Given as goal

-- the value so far, where it is not too large
abbrev pub invariant-digits : goal.invariant-digits
invariant-digits l = l.value ≡ min (value_to l.base (take l.unit-index l.digits)) 9007199254740992
