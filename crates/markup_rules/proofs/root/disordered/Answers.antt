use Rattle.markup_rules.specs.Parts.{element_of}
use Rattle.markup_rules.proofs.Siblings.{disordered_step, disordered_done}
use Rattle.markup_rules.proofs.root.disordered.Goals as goal

pub scripts-preserved : goal.scripts-preserved
scripts-preserved c = disordered_step element_of c.scripts.is_first c.is_misplaced.result c.args.scripts.now c.scripts.script-index c.script-item.result c.scripts-test.true c.script-item.is c.is_misplaced.ensures c.scripts.invariant c.offer-least.ensures

pub returns : goal.returns
returns c = disordered_done element_of c.scripts.is_first c.args.scripts.now c.scripts.script-index c.scripts-test.false c.scripts.invariant
