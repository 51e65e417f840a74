use Rattle.std.proofs.Common.{sym, ◌∙◌}
use Rattle.code_units.proofs.Numerals.{number_decimal, number_hexadecimal}
use Rattle.code_units.proofs.whole.read_trimmed.Goals as goal

pub returns-in-Some : goal.returns-in-Some
returns-in-Some c =
    number_decimal c.args.units.now c.without_sign-digits.result.now c.in-Some.n c.bounded.result (sym c.is_empty.ensures ∙ c.if-is_empty.false) c.without_sign-digits.ensures c.in-Some.ensures.0 c.in-Some.ensures.1 c.bounded.ensures

pub returns-in-Some-hexadecimal : goal.returns-in-Some-hexadecimal
returns-in-Some-hexadecimal c =
    number_hexadecimal c.args.units.now c.without_sign-digits.result.now c.in-Some-hexadecimal.n c.bounded-in-Some-hexadecimal.result (sym c.is_empty.ensures ∙ c.if-is_empty.false) c.without_sign-digits.ensures c.in_default.ensures (sym c.spells.ensures ∙ c.if-spells.false) (sym c.is_fraction.ensures ∙ c.if-is_fraction.false) c.in-Some-hexadecimal.ensures.0 c.in-Some-hexadecimal.ensures.1 c.bounded-in-Some-hexadecimal.ensures
