use Rattle.std.proofs.Common.{ℕ, ◌+◌, ◌<◌, ◌≤◌, sym, subst, arith}
use Rattle.std.proofs.lemmas.Result.{IfOk-weaker}
use Rattle.js_flow.specs.declared.task.Control.{Control}
use Rattle.js_flow.specs.Free.{control_free, job_weight, native_free}
use Rattle.js_steps.specs.Charges.{after_charge}
use Rattle.js_steps.proofs.machine.start_taken.Goals as goal

more : (n m : ℕ) → n ≤ m → n < m + 1
more n m h = omega (arith, h)

pub returns-in-Do-clause-native : goal.returns-in-Do-clause-native
returns-in-Do-clause-native c =
    IfOk-weaker c.begin.result _ _
    (λ k h x. (subst (λ (q : Control). native_free < control_free (after_charge q)) (sym c.in-Do.is) (more native_free (job_weight c.in-Do.job) (h x).0), (h x).1))
    c.begin.ensures.native

pub returns-in-Begin-clause-native : goal.returns-in-Begin-clause-native
returns-in-Begin-clause-native c =
    IfOk-weaker c.begin-in-Begin.result _ _
    (λ k h x. (subst (λ (q : Control). native_free < control_free (after_charge q)) (sym c.in-Begin.is) (more native_free (job_weight c.in-Begin.job) (h x).0), (h x).1))
    c.begin-in-Begin.ensures.native
