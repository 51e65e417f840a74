use Rattle.std.proofs.Common.{◌≡◌, ℕ, ◌-◌, ◌<◌, ◌≤◌, refl, sym, ap, subst, ◌∙◌, arith}
use Rattle.widget_meaning.specs.Plan.{Plan}
use Rattle.widget_meaning.specs.Meaning.{run_plan}
use Rattle.js_image.specs.Image.{image}
use Rattle.js_image.proofs.Grown.{kept_same}
use Rattle.js_image.proofs.Units.{kept_then}
use Rattle.js_values.specs.Answers.{out_of_fuel}
use Rattle.js_names.specs.Code.{trees_of}
use Rattle.js_flow.specs.declared.task.Stepped.{Stepped}
use Rattle.js_flow.specs.Todo.{Follows, IsNotFuel, Moves, Strides, after_step}
use Rattle.js_flow.proofs.Moves.{strides_none}
use Rattle.js_steps.specs.Answered.{remaining}
use Rattle.js_steps.specs.Charges.{charge_of}
use Rattle.js_steps.proofs.Answering.{fine_as, follows_as, fuel_as, other_as, went_as}
use Rattle.js_steps.proofs.Charged.{charged}
use Rattle.js_steps.proofs.Moved.{begins_before, strides_next, strides_on}
use Rattle.js_steps.proofs.calling.stride_by_steps.Goals as goal

pub steps-init : goal.steps-init
steps-init c =
    let w = c.args.task.now.widget in
    let fs = trees_of c.args.codes.now.items in
    let old = c.args.store.now in
    let i = c.args.meter.now.left in
    let none : 0 ≡ i - i = omega arith in
    record {
      strides = λ r. subst (λ (n : ℕ). Strides c.args.units n (remaining fs w old c.args.task.now r) (remaining fs w old c.args.task.now r)) none (strides_none c.args.units _ _ refl);
      going = c.requires.going;
      held = c.requires.held;
      near = omega arith;
      widget = refl;
      kept = kept_same fs w old old refl;
      spends = (omega arith, refl);
    }

pub steps-preserved : goal.steps-preserved
steps-preserved c =
    let w = c.args.task.now.widget in
    let fs = trees_of c.args.codes.now.items in
    let mid = c.steps.store in
    let new = c.step_for.new.store in
    let is = c.step_for.new.task in
    let i = c.args.meter.now.left in
    let had = c.steps.meter.left in
    let has = c.step_for.new.meter.left in
    let kept = c.steps.invariant in
    let step = c.in_ok-answer.ensures in
    record {
      strides = λ r. strides_on c.args.units i had has _ _ _ (kept.strides r)
          (strides_next c.args.units i had has (image fs r w mid) _ _
          (subst (λ (q : Stepped). Moves (had - has) (image fs r w mid) (remaining fs w mid c.steps.task r)
          (after_step fs w new.cells q is.control is.frames.list.items (image fs r w new))) c.in-Went.is (step.moves r))
          (λ u. omega (arith, step.charge, c.cost.ensures, c.is_used.ensures.no c.steps-test.true (omega (arith, u, c.left.ensures.value, c.left-start.ensures.value)))))
          step.spends.0 kept.spends.0;
      going = subst (λ (q : Stepped). Follows q is.control) c.in-Went.is step.follows;
      held = (step.held.0, step.held.1, step.call.0);
      near = omega (arith, kept.near, step.near (subst (λ (q : Stepped). IsNotFuel q) (sym c.in-Went.is) tt));
      widget = step.widget ∙ kept.widget;
      kept = kept_then fs w c.args.store.now mid new kept.kept step.kept;
      spends = (omega (arith, step.spends.0, kept.spends.0), step.spends.1 ∙ kept.spends.1);
    }

pub returns-in_err-answer-clause-kept : goal.returns-in_err-answer-clause-kept
returns-in_err-answer-clause-kept c =
    kept_then (trees_of c.args.codes.now.items) c.args.task.now.widget c.args.store.now c.steps.store c.step_for.new.store c.steps.invariant.kept c.step_for.ensures.kept

pub answered-requires : goal.answered-requires
answered-requires c = record { ends = c.in_ok-answer.ensures.call.1 }

pub returns-clause-cut : goal.returns-clause-cut
returns-clause-cut c = λ t.
    let w = c.args.task.now.widget in
    let fs = trees_of c.args.codes.now.items in
    let mid = c.steps.store in
    let task = c.steps.task in
    let used = c.is_used.ensures.yes c.steps-test.false in (
      omega (arith, used.0, c.left.ensures.value, c.left-start.ensures.value),
      λ r. (charged fs w mid.cells task.control task.frames.list.items (image fs r w mid) c.steps.invariant.going).beyond 0 (omega (arith, used.1, c.cost.ensures)),
    )

pub returns-in_default : goal.returns-in_default
returns-in_default c =
    let w = c.args.task.now.widget in
    let fs = trees_of c.args.codes.now.items in
    let mid = c.steps.store in
    let new = c.step_for.new.store in
    let is = c.step_for.new.task in
    let i = c.args.meter.now.left in
    let had = c.steps.meter.left in
    let has = c.step_for.new.meter.left in
    let kept = c.steps.invariant in
    let step = c.in_ok-answer.ensures in
    let e = c.answered.ensures in
    let none : c.args.units ≤ i - had → charge_of c.steps.task.control ≡ 0 = λ u. omega (arith, c.cost.ensures, c.is_used.ensures.no c.steps-test.true (omega (arith, u, c.left.ensures.value, c.left-start.ensures.value))) in
    record {
      strides = λ r. subst (λ (p : Plan). Strides c.args.units (i - has) (remaining fs w c.args.store.now c.args.task.now r) p)
          (sym (ap (λ q. after_step fs w new.cells q is.control is.frames.list.items (image fs r w new)) e))
          (strides_on c.args.units i had has _ _ _ (kept.strides r) (strides_next c.args.units i had has (image fs r w mid) _ _ (step.moves r) (λ u. omega (arith, step.charge, none u))) step.spends.0 kept.spends.0);
      cut = λ t. absurd (went_as c.answered.result _ e c.in_default.not-Went t);
      fuel = λ t.
          let x = fuel_as c.answered.result _ e _ step.fuel t in (
            subst (λ (n : ℕ). i - n < c.args.units) (ap (λ m. m.left) (sym x.2)) (begins_before c.args.units (i - had) _ had none (fuel_as c.answered.result _ e _ step.short t)),
            λ r. (λ j. run_plan (x.2 j).left (remaining fs w (x.1 j) (x.0 j) r)) ∙ (x.3 r ∙ sym (λ j. out_of_fuel (image fs r w (x.1 j)) (x.2 j).left)),
          );
      near = λ o f. omega (arith, kept.near, other_as c.answered.result _ e _ step.near f);
      follows = follows_as c.answered.result _ e _ step.follows;
      held = ((step.held.0, step.held.1, step.call.0), fine_as c.answered.result _ e fs w new.cells step.held.2);
      spends = (omega (arith, step.spends.0, kept.spends.0), step.spends.1 ∙ kept.spends.1);
      widget = step.widget ∙ kept.widget;
      kept = kept_then fs w c.args.store.now mid new kept.kept step.kept;
    }
