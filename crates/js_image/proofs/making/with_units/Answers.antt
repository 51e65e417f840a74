use Rattle.std.proofs.Common.{[], ap, subst, sym, ◌∙◌}
use Rattle.store_cells.specs.declared.value.Value.TheVariants as value
use Rattle.widget_meaning.specs.Values.{Value}
use Rattle.widget_meaning.specs.Costs.{pay, units_cost}
use Rattle.js_image.specs.declared.outcome.Made.{Made}
use Rattle.js_image.specs.Image.{image, seen}
use Rattle.js_image.specs.Plans.{IsFineMade, made_plan}
use Rattle.js_image.proofs.Grown.{held_stays, seen_stays}
use Rattle.js_image.proofs.making.with_units.Goals as goal

pub returns-in-Done-clause-plan : goal.returns-in-Done-clause-plan
returns-in-Done-clause-plan c = λ fs r go.
    ap (λ (m : Made). made_plan c.args.w c.args.store.now.cells m (λ v t. pay (units_cost c.args.units) t (go v)) (image fs r c.args.w c.args.store.now)) c.in-Cell.is
    ∙ c.in-Done.ensures.plan fs r (go (seen c.args.w c.args.store.now.cells (value.Ref c.in-Cell.id)))
    ∙ ap (λ (v : Value). go v (image fs r c.args.w c.pay_units.new.store)) (sym (seen_stays c.args.w c.args.store.now.cells c.pay_units.new.store.cells (c.in-Done.ensures.kept fs).grows (value.Ref c.in-Cell.id) (subst (IsFineMade c.args.w c.args.store.now.cells) c.in-Cell.is c.requires.made)))

pub returns-in-Done-clause-fine : goal.returns-in-Done-clause-fine
returns-in-Done-clause-fine c = held_stays c.args.w c.args.store.now.cells c.pay_units.new.store.cells (c.in-Done.ensures.kept []).grows c.in-Cell.id (subst (IsFineMade c.args.w c.args.store.now.cells) c.in-Cell.is c.requires.made)
