use Rattle.std.proofs.Common.{ℕ, ◌+◌, ◌<◌, ◌≤◌, sym, ap, ◌∙◌, subst, arith}
use Rattle.std.proofs.lemmas.Result.{IfOk-weaker}
use Rattle.js_image.specs.Image.{image}
use Rattle.js_names.specs.Code.{trees_of}
use Rattle.js_flow.specs.declared.job.Completion.TheVariants as completion
use Rattle.js_flow.specs.declared.job.Next.{Next}
use Rattle.js_flow.specs.declared.job.Next.TheVariants as next
use Rattle.js_flow.specs.Free.{job_weight, native_free, next_free}
use Rattle.js_flow.specs.Left.{all_frames}
use Rattle.js_steps.specs.Tolls.{paid, paid_next}
use Rattle.js_steps.proofs.Settled.{at_next, fine_next, free_next}
use Rattle.js_steps.proofs.strides.go.Goals as goal

more : (n m : ℕ) → n ≤ m → n < m + 1
more n m h = omega (arith, h)

pub begin-requires-clause-held : goal.begin-requires-clause-held
begin-requires-clause-held c =
    let h = fine_next (trees_of c.args.codes.now.items) c.args.w c.args.store.now.cells c.args.flow.now c.take_next.new.self _ (sym c.take_next.ensures.taken ∙ c.in-Go.is) c.take_next.ensures.flow c.requires.held in
    (h.1, h.0)

pub returns-in-Go-clause-plan : goal.returns-in-Go-clause-plan
returns-in-Go-clause-plan c =
    let w = c.args.w in
    let fs = trees_of c.args.codes.now.items in
    let old = c.args.store.now in
    IfOk-weaker c.begin.result _ _
    (λ k h r. h r ∙ at_next fs w old.cells (paid c.args.flow.now) c.take_next.new.self (next.Begin c.in-Go.job) (image fs r w old) (ap paid_next (sym c.take_next.ensures.taken ∙ c.in-Go.is)) c.take_next.ensures.flow)
    c.begin.ensures.plan

pub returns-in-Go-clause-near : goal.returns-in-Go-clause-near
returns-in-Go-clause-near c =
    IfOk-weaker c.begin.result _ _
    (λ k h. omega (arith, h, free_next (paid c.args.flow.now) c.take_next.new.self (next.Begin c.in-Go.job) (ap paid_next (sym c.take_next.ensures.taken ∙ c.in-Go.is)) c.take_next.ensures.flow))
    c.begin.ensures.near

pub returns-in-Go-clause-native : goal.returns-in-Go-clause-native
returns-in-Go-clause-native c =
    IfOk-weaker c.begin.result _ _
    (λ k h x. (
      subst (λ (n : Next). native_free < next_free (paid_next n)) (sym c.in-Go.is ∙ c.take_next.ensures.taken) (more native_free (job_weight c.in-Go.job) (h x).0),
      (h x).1 ∙ ap all_frames c.take_next.ensures.flow,
    ))
    c.begin.ensures.native

pub begin-requires-in-Begin-clause-held : goal.begin-requires-in-Begin-clause-held
begin-requires-in-Begin-clause-held c =
    let h = fine_next (trees_of c.args.codes.now.items) c.args.w c.args.store.now.cells c.args.flow.now c.take_next.new.self _ (sym c.take_next.ensures.taken ∙ c.in-Begin.is) c.take_next.ensures.flow c.requires.held in
    (h.1.0, h.0)

pub returns-in-Begin-clause-plan : goal.returns-in-Begin-clause-plan
returns-in-Begin-clause-plan c =
    let w = c.args.w in
    let fs = trees_of c.args.codes.now.items in
    let old = c.args.store.now in
    IfOk-weaker c.begin-in-Begin.result _ _
    (λ k h r. h r ∙ at_next fs w old.cells (paid c.args.flow.now) c.take_next.new.self (next.Begin c.in-Begin.job) (image fs r w old) (ap paid_next (sym c.take_next.ensures.taken ∙ c.in-Begin.is)) c.take_next.ensures.flow)
    c.begin-in-Begin.ensures.plan

pub returns-in-Begin-clause-near : goal.returns-in-Begin-clause-near
returns-in-Begin-clause-near c =
    IfOk-weaker c.begin-in-Begin.result _ _
    (λ k h. omega (arith, h, free_next (paid c.args.flow.now) c.take_next.new.self (next.Begin c.in-Begin.job) (ap paid_next (sym c.take_next.ensures.taken ∙ c.in-Begin.is)) c.take_next.ensures.flow))
    c.begin-in-Begin.ensures.near

pub returns-in-Begin-clause-native : goal.returns-in-Begin-clause-native
returns-in-Begin-clause-native c =
    IfOk-weaker c.begin-in-Begin.result _ _
    (λ k h x. (
      subst (λ (n : Next). native_free < next_free (paid_next n)) (sym c.in-Begin.is ∙ c.take_next.ensures.taken) (more native_free (job_weight c.in-Begin.job) (h x).0),
      (h x).1 ∙ ap all_frames c.take_next.ensures.flow,
    ))
    c.begin-in-Begin.ensures.native

pub give-requires-clause-held : goal.give-requires-clause-held
give-requires-clause-held c =
    let h = fine_next (trees_of c.args.codes.now.items) c.args.w c.args.store.now.cells c.args.flow.now c.take_next.new.self _ (sym c.take_next.ensures.taken ∙ c.in-Give.is) c.take_next.ensures.flow c.requires.held in
    (h.1, h.0)

pub returns-in-Give-clause-plan : goal.returns-in-Give-clause-plan
returns-in-Give-clause-plan c =
    let w = c.args.w in
    let fs = trees_of c.args.codes.now.items in
    let old = c.args.store.now in
    IfOk-weaker c.give.result _ _
    (λ k h r. h r ∙ at_next fs w old.cells (paid c.args.flow.now) c.take_next.new.self (next.Give c.in-Give.how) (image fs r w old) (ap paid_next (sym c.take_next.ensures.taken ∙ c.in-Give.is)) c.take_next.ensures.flow)
    c.give.ensures.plan

pub returns-in-Give-clause-near : goal.returns-in-Give-clause-near
returns-in-Give-clause-near c =
    IfOk-weaker c.give.result _ _
    (λ k h. omega (arith, h, free_next (paid c.args.flow.now) c.take_next.new.self (next.Give c.in-Give.how) (ap paid_next (sym c.take_next.ensures.taken ∙ c.in-Give.is)) c.take_next.ensures.flow))
    c.give.ensures.near

pub returns-in-Give-clause-native : goal.returns-in-Give-clause-native
returns-in-Give-clause-native c = IfOk-weaker c.give.result _ _ (λ k h x. absurd (h x)) c.give.ensures.native

pub give-requires-in-Pay-clause-held : goal.give-requires-in-Pay-clause-held
give-requires-in-Pay-clause-held c =
    let h = fine_next (trees_of c.args.codes.now.items) c.args.w c.args.store.now.cells c.args.flow.now c.take_next.new.self _ (sym c.take_next.ensures.taken ∙ c.in-Pay.is) c.take_next.ensures.flow c.requires.held in
    (tt, h.0)

pub returns-in-Pay-clause-plan : goal.returns-in-Pay-clause-plan
returns-in-Pay-clause-plan c =
    let w = c.args.w in
    let fs = trees_of c.args.codes.now.items in
    let old = c.args.store.now in
    IfOk-weaker c.give-in-Pay.result _ _
    (λ k h r. h r ∙ at_next fs w old.cells (paid c.args.flow.now) c.take_next.new.self (next.Give completion.Normal) (image fs r w old) (ap paid_next (sym c.take_next.ensures.taken ∙ c.in-Pay.is)) c.take_next.ensures.flow)
    c.give-in-Pay.ensures.plan

pub returns-in-Pay-clause-near : goal.returns-in-Pay-clause-near
returns-in-Pay-clause-near c =
    IfOk-weaker c.give-in-Pay.result _ _
    (λ k h. omega (arith, h, free_next (paid c.args.flow.now) c.take_next.new.self (next.Give completion.Normal) (ap paid_next (sym c.take_next.ensures.taken ∙ c.in-Pay.is)) c.take_next.ensures.flow))
    c.give-in-Pay.ensures.near

pub returns-in-Pay-clause-native : goal.returns-in-Pay-clause-native
returns-in-Pay-clause-native c = IfOk-weaker c.give-in-Pay.result _ _ (λ k h x. absurd (h x)) c.give-in-Pay.ensures.native

pub run-requires-clause-code : goal.run-requires-clause-code
run-requires-clause-code c = (fine_next (trees_of c.args.codes.now.items) c.args.w c.args.store.now.cells c.args.flow.now c.take_next.new.self _ (sym c.take_next.ensures.taken ∙ c.in-Run.is) c.take_next.ensures.flow c.requires.held).1.0.0

pub run-requires-clause-block : goal.run-requires-clause-block
run-requires-clause-block c = (fine_next (trees_of c.args.codes.now.items) c.args.w c.args.store.now.cells c.args.flow.now c.take_next.new.self _ (sym c.take_next.ensures.taken ∙ c.in-Run.is) c.take_next.ensures.flow c.requires.held).1.1

pub returns-in-Run-clause-plan : goal.returns-in-Run-clause-plan
returns-in-Run-clause-plan c =
    let w = c.args.w in
    let fs = trees_of c.args.codes.now.items in
    let old = c.args.store.now in
    IfOk-weaker c.run.result _ _
    (λ k h r. h w old.cells (image fs r w old) ∙ at_next fs w old.cells (paid c.args.flow.now) c.take_next.new.self (next.Run c.in-Run.block c.in-Run.place) (image fs r w old) (ap paid_next (sym c.take_next.ensures.taken ∙ c.in-Run.is)) c.take_next.ensures.flow)
    c.run.ensures.plan

pub returns-in-Run-clause-fine : goal.returns-in-Run-clause-fine
returns-in-Run-clause-fine c =
    let w = c.args.w in
    let cells = c.args.store.now.cells in
    let p = fine_next (trees_of c.args.codes.now.items) c.args.w c.args.store.now.cells c.args.flow.now c.take_next.new.self _ (sym c.take_next.ensures.taken ∙ c.in-Run.is) c.take_next.ensures.flow c.requires.held in
    IfOk-weaker c.run.result _ _ (λ k h. h w cells p.1.0.1 p.0) c.run.ensures.fine

pub returns-in-Run-clause-near : goal.returns-in-Run-clause-near
returns-in-Run-clause-near c =
    IfOk-weaker c.run.result _ _
    (λ k h. omega (arith, h, free_next (paid c.args.flow.now) c.take_next.new.self (next.Run c.in-Run.block c.in-Run.place) (ap paid_next (sym c.take_next.ensures.taken ∙ c.in-Run.is)) c.take_next.ensures.flow))
    c.run.ensures.near

pub returns-in-Run-clause-native : goal.returns-in-Run-clause-native
returns-in-Run-clause-native c = IfOk-weaker c.run.result _ _ (λ k h x. absurd (h x)) c.run.ensures.native
