use Rattle.std.proofs.Common.{◌∙◌, ap}
use Rattle.code_units.specs.Indices.{index_of}
use Rattle.code_units.proofs.Indexed.{known_text, known_small, index_only}
use Rattle.code_units.proofs.index.index_of.Goals as goal

pub returns-clause-decimal : goal.returns-clause-decimal
returns-clause-decimal c = known_text c.args.name.now c.index_in.result (c.index_in.ensures ∙ ap index_of c.units.ensures)

pub returns-clause-only : goal.returns-clause-only
returns-clause-only c = λ i small is. c.index_in.ensures ∙ ap index_of c.units.ensures ∙ index_only c.args.name.now i small is

pub returns-clause-small : goal.returns-clause-small
returns-clause-small c = known_small c.args.name.now c.index_in.result (c.index_in.ensures ∙ ap index_of c.units.ensures)
