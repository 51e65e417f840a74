use Rattle.std.proofs.Common.{◌∙◌, ◌++◌, ◌&&◌, ap, sym}
use Rattle.std.proofs.lemmas.List.{take_rest}
use Rattle.code_units.specs.Whole.{is_exponent, is_fraction}
use Rattle.code_units.proofs.FractionEnds.{ends_fraction, pointed_text}
use Rattle.code_units.proofs.whole.ends_fraction.Goals as goal

pub returns-then-has_point : goal.returns-then-has_point
returns-then-has_point c ds d behind =
    let us = c.args.units.now in
    c.ends_behind_point.ensures ds d behind
    ∙ ap (λ xs. is_fraction (ds ++ xs)) (pointed_text us _ (c.has_point.ensures.some c.if-has_point.true) (sym c.has_point.ensures.point ∙ c.if-has_point.true) (take_rest us 1))

pub returns-then-behind_digits : goal.returns-then-behind_digits
returns-then-behind_digits c ds d behind =
    let us = c.args.units.now in
    c.is_exponent.ensures
    ∙ ap (λ b. b && is_exponent us) (sym (sym behind ∙ c.if-behind_digits.true))
    ∙ ends_fraction ds us d c.requires (sym c.has_point.ensures.point ∙ c.if-has_point.false)

pub returns-else-behind_digits : goal.returns-else-behind_digits
returns-else-behind_digits c ds d behind =
    let us = c.args.units.now in
    c.if-behind_digits.false
    ∙ ap (λ b. b && is_exponent us) (sym (sym behind ∙ c.if-behind_digits.false))
    ∙ ends_fraction ds us d c.requires (sym c.has_point.ensures.point ∙ c.if-has_point.false)
