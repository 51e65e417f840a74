use Rattle.std.proofs.Common.{eqb-true, sym, ◌∙◌}
use Rattle.code_units.specs.Runs.{is_of}
use Rattle.code_units.proofs.Lanes.{all_pass}
use Rattle.code_units.proofs.runs.is_block.Goals as goal

pub returns : goal.returns
returns c none = all_pass (is_of c.args.kind) c.args.units.now c.args.at c.requires (sym c.others.ensures ∙ eqb-true _ 0 none)
