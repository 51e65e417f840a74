use Rattle.std.proofs.Common.{ap, ◌∙◌}
use Rattle.std.specs.Option.{unwrap_or}
use Rattle.std.specs.Char.Utf16.{lone_unit_char}
use Rattle.code_units.proofs.LossyChars.{lossy-lone, lossy-pair}
use Rattle.code_units.proofs.utf8.char_at.Goals as goal

pub returns-in-Some-clause-first : goal.returns-in-Some-clause-first
returns-in-Some-clause-first c =
    lossy-pair c.args.units.now c.args.at c.in-Some.code _ c.in-Some.ensures.within c.in-Some.ensures.pair.0 c.in-Some.ensures.pair.1 c.char_or_replacement.ensures

pub returns-in-None-clause-first : goal.returns-in-None-clause-first
returns-in-None-clause-first c =
    lossy-lone c.args.units.now c.args.at _ c.requires c.in-None.ensures.pair (c.char_or_replacement-in-None.ensures ∙ ap (λ u. unwrap_or (lone_unit_char u) 0xFFFD) c.from.ensures)
