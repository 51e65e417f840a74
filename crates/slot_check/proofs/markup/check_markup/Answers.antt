use Rattle.plain_tree.specs.Plains.{placed_all}
use Rattle.slot_check.proofs.Refusing.{pass_markup, pass_form}
use Rattle.slot_check.proofs.markup.check_markup.Goals as goal

pub returns-in_err-content-clause-first : goal.returns-in_err-content-clause-first
returns-in_err-content-clause-first c = pass_markup c.args.name.now c.args.libs.now c.args.bytes.now c.from_residual.result c.in_err-content.field-0.0 c.from_residual.ensures.1 c.in_err-content.ensures.place

pub returns-in_err-split-clause-first : goal.returns-in_err-split-clause-first
returns-in_err-split-clause-first c = pass_form c.args.name.now c.args.libs.now c.args.bytes.now c.from_residual-in_err-split.result (placed_all c.in_ok-content.content.items) c.in_err-split.field-0.0 c.from_residual-in_err-split.ensures.1 c.in_ok-content.ensures.read c.in_err-split.ensures.first
