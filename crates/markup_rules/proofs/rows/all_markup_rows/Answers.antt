use Rattle.markup_rules.specs.Parts.{element_of}
use Rattle.markup_rules.specs.Rows.{MarkupRows}
use Rattle.markup_rules.proofs.Steps.{map_step}
use Rattle.markup_rules.proofs.rows.all_markup_rows.Goals as goal

pub parts-preserved : goal.parts-preserved
parts-preserved c = map_step MarkupRows _ _ _ element_of c.args.parts.now c.parts.part-index c.part-item.result c.parts-test.true c.part-item.is c.parts.invariant c.in_ok-least.ensures
