use Rattle.markup_rules.specs.Rows.{AttributeRows}
use Rattle.markup_rules.proofs.Steps.{each_step}
use Rattle.markup_rules.proofs.rows.all_attribute_rows.Goals as goal

pub attrs-preserved : goal.attrs-preserved
attrs-preserved c = each_step (AttributeRows c.args.of_script) _ _ _ c.args.attrs.now c.attrs.attr-index c.attr-item.result c.attrs-test.true c.attr-item.is c.attrs.invariant c.in_ok-least.ensures
