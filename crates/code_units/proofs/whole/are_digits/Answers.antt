use Rattle.std.proofs.Common.{◌∙◌, ap, length}
use Rattle.std.specs.Prelude.{◌==◌}
use Rattle.std.specs.Char.{is_digit}
use Rattle.code_units.specs.Runs.{is_of}
use Rattle.code_units.proofs.RunLemmas.{all_same}
use Rattle.code_units.proofs.whole.are_digits.Goals as goal

pub returns : goal.returns
returns c =
    let us = c.args.units.now in
    ap (λ n. n == length us) c.run.ensures.len ∙ all_same (is_of c.digits_of.result) (λ u. is_digit u c.args.radix) c.digits_of.ensures us
