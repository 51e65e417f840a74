use Rattle.std.proofs.Common.{◌∙◌, ◌&&◌, ap, sym, refl, length, take, drop, ◌-◌}
use Rattle.std.specs.Prelude.{◌||◌, ◌==◌}
use Rattle.std.proofs.lemmas.List.{take_rest}
use Rattle.code_units.specs.Whole.{is_exponent}
use Rattle.code_units.proofs.FractionEnds.{ends_behind_point}
use Rattle.code_units.proofs.whole.ends_behind_point.Goals as goal

pub returns-then-is_empty : goal.returns-then-is_empty
returns-then-is_empty c ds d behind =
    let us = c.args.units.now in
    let rest = take (length us - c.run-part.result) (drop c.run-part.result us) in
    c.if-is_empty.true
    ∙ sym (λ j. c.if-some_digits.true j && (c.if-is_empty.true j || is_exponent rest))
    ∙ ends_behind_point ds us rest c.run-part.result c.args.behind_digits c.some_digits.result c.is_empty.result c.run-part.ensures.len c.run-part.ensures.within (take_rest us c.run-part.result) d behind c.some_digits.ensures c.is_empty.ensures

pub returns-else-is_empty : goal.returns-else-is_empty
returns-else-is_empty c ds d behind =
    let us = c.args.units.now in
    let rest = take (length us - c.run-part.result) (drop c.run-part.result us) in
    c.is_exponent.ensures
    ∙ sym (λ j. c.if-some_digits.true j && (c.if-is_empty.false j || is_exponent rest))
    ∙ ends_behind_point ds us rest c.run-part.result c.args.behind_digits c.some_digits.result c.is_empty.result c.run-part.ensures.len c.run-part.ensures.within (take_rest us c.run-part.result) d behind c.some_digits.ensures c.is_empty.ensures

pub returns-else-some_digits : goal.returns-else-some_digits
returns-else-some_digits c ds d behind =
    let us = c.args.units.now in
    let rest = drop c.run-part.result us in
    c.if-some_digits.false
    ∙ sym (ap (λ b. b && ((length rest == 0) || is_exponent rest)) c.if-some_digits.false)
    ∙ ends_behind_point ds us rest c.run-part.result c.args.behind_digits c.some_digits.result (length rest == 0) c.run-part.ensures.len c.run-part.ensures.within refl d behind c.some_digits.ensures refl
