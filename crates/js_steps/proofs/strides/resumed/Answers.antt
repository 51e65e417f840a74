use Rattle.std.proofs.Common.{◌≡◌, [], ℕ, ◌+◌, ◌<◌, ◌≤◌, refl, sym, ap, subst, arith}
use Rattle.std.proofs.lemmas.Result.{IfOk-weaker}
use Rattle.js_image.specs.Image.{image}
use Rattle.js_names.specs.Code.{trees_of}
use Rattle.js_flow.specs.declared.job.Next.TheVariants as next
use Rattle.js_flow.specs.declared.task.Control.{Control}
use Rattle.js_flow.specs.Free.{control_free, free, job_weight, native_free}
use Rattle.js_flow.specs.Fine.{FineControl, FineFlow}
use Rattle.js_flow.specs.Frames.{flow_plan}
use Rattle.js_flow.specs.Left.{Left, all_frames}
use Rattle.js_flow.specs.Todo.{todo}
use Rattle.js_steps.specs.Ending.{IsNative}
use Rattle.js_steps.proofs.Settled.{fine_all}
use Rattle.js_steps.proofs.Tolls.{left_pay, left_plan, left_weight, rest_one}
use Rattle.js_steps.proofs.strides.resumed.Goals as goal

pub returns-in-Do-clause-plan : goal.returns-in-Do-clause-plan
returns-in-Do-clause-plan c = λ r.
    let w = c.args.w in
    let fs = trees_of c.args.codes.now.items in
    let old = c.args.store.now in
    subst (λ (q : Control). flow_plan fs w old.cells c.leave.new.self (image fs r w old) ≡ todo fs w old.cells q (all_frames c.args.flow.now) (image fs r w old)) (sym c.in-Do.is)
    (left_plan fs w old.cells c.leave.new.self c.args.flow.now (next.Go c.in-Do.job) (image fs r w old) c.leave.ensures)

pub returns-in-Do-clause-fine : goal.returns-in-Do-clause-fine
returns-in-Do-clause-fine c =
    let w = c.args.w in
    let fs = trees_of c.args.codes.now.items in
    let cells = c.args.store.now.cells in
    let h = subst (λ (q : Control). FineControl fs w cells q) c.in-Do.is c.requires.held.0 in
    subst (λ (l : Left). FineFlow fs w cells l) (sym c.leave.ensures)
    (fine_all fs w cells (record { below = all_frames c.args.flow.now; above = []; next = next.Go c.in-Do.job }) (all_frames c.args.flow.now) refl (tt, h) c.requires.held.1)

pub returns-in-Do-clause-near : goal.returns-in-Do-clause-near
returns-in-Do-clause-near c = omega (arith, left_weight c.leave.new.self c.args.flow.now (next.Go c.in-Do.job) c.leave.ensures, ap (λ q. free q (all_frames c.args.flow.now)) c.in-Do.is)

pub returns-in-Do-clause-native : goal.returns-in-Do-clause-native
returns-in-Do-clause-native c = λ x. absurd (subst (λ (l : Left). IsNative l.next) c.leave.ensures x)

pub returns-in-Give-clause-plan : goal.returns-in-Give-clause-plan
returns-in-Give-clause-plan c = λ r.
    let w = c.args.w in
    let fs = trees_of c.args.codes.now.items in
    let old = c.args.store.now in
    subst (λ (q : Control). flow_plan fs w old.cells c.leave-in-Give.new.self (image fs r w old) ≡ todo fs w old.cells q (all_frames c.args.flow.now) (image fs r w old)) (sym c.in-Give.is)
    (left_plan fs w old.cells c.leave-in-Give.new.self c.args.flow.now (next.Give c.in-Give.how) (image fs r w old) c.leave-in-Give.ensures)

pub returns-in-Give-clause-fine : goal.returns-in-Give-clause-fine
returns-in-Give-clause-fine c =
    let w = c.args.w in
    let fs = trees_of c.args.codes.now.items in
    let cells = c.args.store.now.cells in
    let h = subst (λ (q : Control). FineControl fs w cells q) c.in-Give.is c.requires.held.0 in
    subst (λ (l : Left). FineFlow fs w cells l) (sym c.leave-in-Give.ensures)
    (fine_all fs w cells (record { below = all_frames c.args.flow.now; above = []; next = next.Give c.in-Give.how }) (all_frames c.args.flow.now) refl (tt, h) c.requires.held.1)

pub returns-in-Give-clause-near : goal.returns-in-Give-clause-near
returns-in-Give-clause-near c = omega (arith, left_weight c.leave-in-Give.new.self c.args.flow.now (next.Give c.in-Give.how) c.leave-in-Give.ensures, ap (λ q. free q (all_frames c.args.flow.now)) c.in-Give.is)

pub returns-in-Give-clause-native : goal.returns-in-Give-clause-native
returns-in-Give-clause-native c = λ x. absurd (subst (λ (l : Left). IsNative l.next) c.leave-in-Give.ensures x)

pub returns-in-Pay-clause-plan : goal.returns-in-Pay-clause-plan
returns-in-Pay-clause-plan c = λ r.
    let w = c.args.w in
    let fs = trees_of c.args.codes.now.items in
    let old = c.args.store.now in
    subst (λ (q : Control). flow_plan fs w old.cells c.leave-in-Pay.new.self (image fs r w old) ≡ todo fs w old.cells q (all_frames c.args.flow.now) (image fs r w old)) (sym c.in-Pay.is)
    (left_pay fs w old.cells c.leave-in-Pay.new.self c.args.flow.now c.in-Pay.units (image fs r w old) c.leave-in-Pay.ensures)

pub returns-in-Pay-clause-fine : goal.returns-in-Pay-clause-fine
returns-in-Pay-clause-fine c =
    let w = c.args.w in
    let fs = trees_of c.args.codes.now.items in
    let cells = c.args.store.now.cells in
    let h = subst (λ (q : Control). FineControl fs w cells q) c.in-Pay.is c.requires.held.0 in
    subst (λ (l : Left). FineFlow fs w cells l) (sym c.leave-in-Pay.ensures)
    (fine_all fs w cells (record { below = all_frames c.args.flow.now; above = []; next = next.Pay c.in-Pay.units }) (all_frames c.args.flow.now) refl (tt, h) c.requires.held.1)

pub returns-in-Pay-clause-near : goal.returns-in-Pay-clause-near
returns-in-Pay-clause-near c = omega (arith, left_weight c.leave-in-Pay.new.self c.args.flow.now (next.Pay c.in-Pay.units) c.leave-in-Pay.ensures, ap (λ q. free q (all_frames c.args.flow.now)) c.in-Pay.is)

pub returns-in-Pay-clause-native : goal.returns-in-Pay-clause-native
returns-in-Pay-clause-native c = λ x. absurd (subst (λ (l : Left). IsNative l.next) c.leave-in-Pay.ensures x)

pub returns-in-Begin-clause-near : goal.returns-in-Begin-clause-near
returns-in-Begin-clause-near c =
    IfOk-weaker c.begin.result _ _ (λ k h. omega (arith, h, rest_one c.begin.new.flow.next, ap (λ q. free q (all_frames c.args.flow.now)) c.in-Begin.is)) c.begin.ensures.near

more : (n m : ℕ) → n ≤ m → n < m + 1
more n m h = omega (arith, h)

pub returns-in-Begin-clause-native : goal.returns-in-Begin-clause-native
returns-in-Begin-clause-native c =
    IfOk-weaker c.begin.result _ _ (λ k h x. subst (λ (q : Control). native_free < control_free q) (sym c.in-Begin.is) (more native_free (job_weight c.in-Begin.job) (h x).0)) c.begin.ensures.native
