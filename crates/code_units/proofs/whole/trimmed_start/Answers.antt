use Rattle.std.proofs.Common.{◌∙◌, ap, drop}
use Rattle.std.proofs.lemmas.List.{take_rest}
use Rattle.code_units.proofs.whole.trimmed_start.Goals as goal

pub returns : goal.returns
returns c = take_rest c.args.units.now c.run.result ∙ ap (λ n. drop n c.args.units.now) c.run.ensures.len
