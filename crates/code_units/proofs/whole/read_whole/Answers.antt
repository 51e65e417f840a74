use Rattle.std.proofs.Common.{◌∙◌, ap, sym, subst}
use Rattle.code_units.specs.Whole.{trimmed, number_of}
use Rattle.code_units.specs.Readings.{Gives}
use Rattle.code_units.proofs.Forms.{gives}
use Rattle.code_units.proofs.whole.read_whole.Goals as goal

pub returns-clause-form : goal.returns-clause-form
returns-clause-form c =
    let us = trimmed c.args.text.now in
    let is = c.read_trimmed.ensures ∙ ap number_of (c.trimmed.ensures ∙ ap trimmed c.units.ensures) in
    subst (λ r. Gives us r) (sym is) (gives us)
