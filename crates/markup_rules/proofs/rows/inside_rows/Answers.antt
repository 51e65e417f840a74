use Rattle.markup_rules.specs.Parts.{element_of}
use Rattle.markup_rules.specs.Rows.{InsideRow}
use Rattle.markup_rules.proofs.Steps.{map_step, narrows_sure}
use Rattle.markup_rules.proofs.rows.inside_rows.Goals as goal

pub scripts-preserved : goal.scripts-preserved
scripts-preserved c = map_step InsideRow _ _ _ element_of c.args.scripts.now c.scripts.script-index c.script-item.result c.scripts-test.true c.script-item.is c.scripts.invariant (narrows_sure c.offer-least.ensures)
