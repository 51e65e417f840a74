use Rattle.std.proofs.Common.{◌-◌, arith, sym, subst, ◌∙◌}
use Rattle.js_image.specs.Image.{image}
use Rattle.js_image.proofs.Units.{kept_then}
use Rattle.js_values.specs.Answers.{out_of_fuel}
use Rattle.js_names.specs.Code.{trees_of}
use Rattle.js_flow.specs.declared.task.Stepped.{Stepped}
use Rattle.js_flow.specs.Todo.{Follows, Moves, after_step, todo}
use Rattle.js_steps.proofs.Moved.{goes, if_weaker, is_over}
use Rattle.js_steps.proofs.calling.run_for.Goals as goal

pub returns-in_err-answer-clause-kept : goal.returns-in_err-answer-clause-kept
returns-in_err-answer-clause-kept c =
    kept_then (trees_of c.args.codes.now.items) c.args.w c.args.store.now c.loop-answer.store c.step_for.new.store c.loop-answer.invariant.kept c.step_for.ensures.kept

pub loop-answer-preserved : goal.loop-answer-preserved
loop-answer-preserved c =
    let w = c.args.w in
    let fs = trees_of c.args.codes.now.items in
    let mid = c.loop-answer.store in
    let new = c.step_for.new.store in
    let was = c.loop-answer.task in
    let is = c.step_for.new.task in
    let had = c.loop-answer.meter.left in
    let has = c.step_for.new.meter.left in
    let kept = c.loop-answer.invariant in
    let step = c.in_ok-answer.ensures in
    record {
      same = λ r. kept.same r ∙ goes had has (image fs r w mid) _ _
          (subst (λ (q : Stepped). Moves (had - has) (image fs r w mid) (todo fs w mid.cells was.control was.frames.list.items (image fs r w mid))
          (after_step fs w new.cells q is.control is.frames.list.items (image fs r w new))) c.in-Went.is (step.moves r)) step.spends.0;
      going = subst (λ (q : Stepped). Follows q is.control) c.in-Went.is step.follows;
      held = (step.held.0, step.held.1);
      call = step.call.0;
      widget = step.widget ∙ kept.widget;
      kept = kept_then fs w c.args.store.now mid new kept.kept step.kept;
      spends = (omega (arith, step.spends.0, kept.spends.0), step.spends.1 ∙ kept.spends.1);
    }

pub returns-in_default : goal.returns-in_default
returns-in_default c =
    let w = c.args.w in
    let fs = trees_of c.args.codes.now.items in
    let mid = c.loop-answer.store in
    let new = c.step_for.new.store in
    let kept = c.loop-answer.invariant in
    let step = c.in_ok-answer.ensures in
    record {
      meaning = λ r. kept.same r ∙ goes c.loop-answer.meter.left c.step_for.new.meter.left (image fs r w mid) _ _ (step.moves r) step.spends.0;
      ends = is_over c.in_ok-answer.answer c.in_default.not-Went;
      fuel = if_weaker c.in_ok-answer.answer _ _ (λ h r. kept.same r ∙ (h.3 r ∙ sym (λ i. out_of_fuel (image fs r w (h.1 i)) (h.2 i).left))) step.fuel;
      spends = (omega (arith, step.spends.0, kept.spends.0), step.spends.1 ∙ kept.spends.1);
      follows = step.follows;
      held = step.held;
      call = step.call;
      kept = kept_then fs w c.args.store.now mid new kept.kept step.kept;
      widget = step.widget ∙ kept.widget;
    }
