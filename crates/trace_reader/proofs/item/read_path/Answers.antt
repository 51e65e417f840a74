use Rattle.std.proofs.Common.{ℕ, List, [], sym, subst, arith}
use Rattle.std.proofs.lemmas.Grind.{common_steps}
use Rattle.json_shapes.specs.Each.{Each, none_left}
use Rattle.trace_reader.specs.Items.{IsStep}
use Rattle.trace_reader.proofs.ItemLemmas.{too_long, no_number, too_large, all_steps, step_more}
use Rattle.trace_reader.proofs.item.read_path.Goals as goal

pub returns-then-steps-gt-LONGEST_PATH-clause-misfit : goal.returns-then-steps-gt-LONGEST_PATH-clause-misfit
returns-then-steps-gt-LONGEST_PATH-clause-misfit c = λ err path is. too_long c.args.steps.now path c.if-steps-gt-LONGEST_PATH.true is

pub steps-init : goal.steps-init
steps-init c = subst (λ (ys : List ℕ). Each IsStep [] ys) (sym c.in_ok-path.ensures.items) none_left

pub returns-in_default-clause-misfit : goal.returns-in_default-clause-misfit
returns-in_default-clause-misfit c = λ err path is.
    no_number c.args.steps.now c.steps.step-index c.step-item.result path c.steps-test.true c.step-item.is c.in_default.ensures is

pub returns-then-n-gt-LAST_STEP-clause-misfit : goal.returns-then-n-gt-LAST_STEP-clause-misfit
returns-then-n-gt-LAST_STEP-clause-misfit c = λ err path is.
    too_large c.args.steps.now c.steps.step-index c.step-item.result c.in-Some.n path c.steps-test.true c.step-item.is c.in-Some.ensures c.if-n-gt-LAST_STEP.true is

pub steps-preserved : goal.steps-preserved
steps-preserved c =
    step_more c.args.steps.now c.steps.step-index c.step-item.result c.steps.path.items c.push.new.self.items c.in-Some.n c.steps-test.true c.step-item.is c.steps.invariant c.in-Some.ensures c.if-n-gt-LAST_STEP.false (grind (arith, common_steps, c.in_ok-push.ensures.items))

pub returns-clause-ok : goal.returns-clause-ok
returns-clause-ok c = all_steps c.args.steps.now c.steps.step-index c.steps.path.items c.steps-test.false c.if-steps-gt-LONGEST_PATH.false c.steps.invariant
