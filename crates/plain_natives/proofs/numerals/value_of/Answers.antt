use Rattle.std.proofs.Common.{◌+◌, sym, ap, ◌∙◌, arith, take}
use Rattle.std.proofs.Common.{◌*◌, ◌^◌, ◌≤◌, min, get_or}
use Rattle.std.specs.Char.{digit_value}
use Rattle.std.specs.Str.Parse.{digits_value}
use Rattle.std.proofs.Math.Nat.{mul-le-mul_left}
use Rattle.std.proofs.lemmas.Int.Digits.{digits_value_more}
use Rattle.code_units.proofs.Numerals.{step}
use Rattle.plain_natives.proofs.numerals.value_of.Goals as goal

pub overflow_mul-n : goal.overflow_mul-n
overflow_mul-n c =
    omega (arith, mul-le-mul_left c.loop-unit.n c.requires.1, c.loop-unit.invariant)

pub loop-unit-preserved : goal.loop-unit-preserved
loop-unit-preserved c =
    let radix = c.args.radix in
    let us = c.args.units.now in
    let i = c.loop-unit.unit-index in
    let d = digit_value (get_or us i 0) in
    let least : 1 ≤ radix = omega (arith, c.requires.0) in
    c.min-n.ensures
    ∙ (λ j. min (2 ^ 53) (c.loop-unit.n * radix + (c.from.ensures ∙ c.digit_value.ensures) j))
    ∙ step (digits_value radix (take i us)) c.loop-unit.n radix d (2 ^ 53) c.loop-unit.invariant least
    ∙ ap (λ n. min n (2 ^ 53)) (sym (digits_value_more radix us i c.loop-unit-test.true))
