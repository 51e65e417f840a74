use Rattle.first_breach.proofs.Narrowing.{narrows_along}
use Rattle.markup_rules.specs.Rows.{IdRow}
use Rattle.markup_rules.proofs.Steps.{each_step}
use Rattle.markup_rules.proofs.rows.id_rows.Goals as goal

pub attrs-preserved : goal.attrs-preserved
attrs-preserved c = each_step (IdRow c.args.name.now) _ _ _ c.args.attrs.now c.attrs.attr-index c.attr-item.result c.attrs-test.true c.attr-item.is c.attrs.invariant (narrows_along c.is_stray.ensures c.offer-least.ensures)
