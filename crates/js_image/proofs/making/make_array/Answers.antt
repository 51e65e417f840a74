use Rattle.std.proofs.Common.{◌∙◌}
use Rattle.widget_meaning.specs.Costs.{pay, units_cost}
use Rattle.js_image.proofs.Units.{array_in_turn, array_stop, kept_then}
use Rattle.js_image.proofs.making.make_array.Goals as goal

pub returns-then-units-paid-clause-plan : goal.returns-then-units-paid-clause-plan
returns-then-units-paid-clause-plan c = λ fs r go. array_stop fs r c.args.w c.args.store.now c.counts-paid.result c.counts-paid.ensures.paid c.args.units c.args.values.items go c.counts-paid.ensures.units c.if-units-paid.true

pub returns-in_err-made-clause-kept : goal.returns-in_err-made-clause-kept
returns-in_err-made-clause-kept c = λ fs. c.make.ensures.kept fs tt

pub returns-clause-plan : goal.returns-clause-plan
returns-clause-plan c = λ fs r go.
    array_in_turn fs r c.args.w c.args.store.now c.counts-paid.result c.counts-paid.ensures.paid c.args.units c.args.values.items go c.counts-paid.ensures.units c.if-units-paid.false
    ∙ c.in_ok-made.ensures.plan fs r (λ v t. pay (units_cost c.args.units) t (go v))
    ∙ c.with_units.ensures.plan fs r go

pub returns-clause-kept : goal.returns-clause-kept
returns-clause-kept c = λ fs. kept_then fs c.args.w c.args.store.now c.make.new.store c.with_units.new.store (c.make.ensures.kept fs tt) (c.with_units.ensures.kept fs)
