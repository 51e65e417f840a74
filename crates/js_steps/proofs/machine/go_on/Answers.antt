use Rattle.std.proofs.Common.{sym, ◌∙◌, arith}
use Rattle.std.proofs.lemmas.Result.{IfOk-weaker}
use Rattle.js_image.specs.Image.{image}
use Rattle.js_names.specs.Code.{trees_of}
use Rattle.js_flow.specs.declared.job.Next.TheVariants as next
use Rattle.js_steps.proofs.Settled.{at_next, fine_next, free_next}
use Rattle.js_steps.proofs.Weights.{no_begun}
use Rattle.js_steps.proofs.machine.go_on.Goals as goal

pub give-requires-clause-held : goal.give-requires-clause-held
give-requires-clause-held c =
    let h = fine_next (trees_of c.args.codes.now.items) c.args.w c.args.store.now.cells c.args.flow.now c.take_next.new.self _ (sym c.take_next.ensures.taken ∙ c.in-Give.is) c.take_next.ensures.flow c.requires.held in
    (h.1, h.0)

pub begin-requires-clause-held : goal.begin-requires-clause-held
begin-requires-clause-held c =
    let h = fine_next (trees_of c.args.codes.now.items) c.args.w c.args.store.now.cells c.args.flow.now c.take_next.new.self _ (sym c.take_next.ensures.taken ∙ c.in-Begin.is) c.take_next.ensures.flow c.requires.held in
    (h.1.0, h.0)

pub run-requires-clause-code : goal.run-requires-clause-code
run-requires-clause-code c =
    (fine_next (trees_of c.args.codes.now.items) c.args.w c.args.store.now.cells c.args.flow.now c.take_next.new.self _ (sym c.take_next.ensures.taken ∙ c.in-Run.is) c.take_next.ensures.flow c.requires.held).1.0.0

pub run-requires-clause-block : goal.run-requires-clause-block
run-requires-clause-block c =
    (fine_next (trees_of c.args.codes.now.items) c.args.w c.args.store.now.cells c.args.flow.now c.take_next.new.self _ (sym c.take_next.ensures.taken ∙ c.in-Run.is) c.take_next.ensures.flow c.requires.held).1.1

pub returns-in-Give-clause-plan : goal.returns-in-Give-clause-plan
returns-in-Give-clause-plan c =
    let w = c.args.w in
    let fs = trees_of c.args.codes.now.items in
    let old = c.args.store.now in
    IfOk-weaker c.give.result _ _
    (λ k h r. h r ∙ at_next fs w old.cells c.args.flow.now c.take_next.new.self (next.Give c.in-Give.how) (image fs r w old) (sym c.take_next.ensures.taken ∙ c.in-Give.is) c.take_next.ensures.flow)
    c.give.ensures.plan

pub returns-in-Give-clause-near : goal.returns-in-Give-clause-near
returns-in-Give-clause-near c =
    IfOk-weaker c.give.result _ _ (λ k h. omega (arith, h, free_next c.args.flow.now c.take_next.new.self _ (sym c.take_next.ensures.taken ∙ c.in-Give.is) c.take_next.ensures.flow)) c.give.ensures.near

pub returns-in-Run-clause-plan : goal.returns-in-Run-clause-plan
returns-in-Run-clause-plan c =
    let w = c.args.w in
    let fs = trees_of c.args.codes.now.items in
    let old = c.args.store.now in
    IfOk-weaker c.run.result _ _
    (λ k h r. h w old.cells (image fs r w old) ∙ at_next fs w old.cells c.args.flow.now c.take_next.new.self (next.Run c.in-Run.block c.in-Run.place) (image fs r w old) (sym c.take_next.ensures.taken ∙ c.in-Run.is) c.take_next.ensures.flow)
    c.run.ensures.plan

pub returns-in-Run-clause-fine : goal.returns-in-Run-clause-fine
returns-in-Run-clause-fine c =
    let w = c.args.w in
    let cells = c.args.store.now.cells in
    let p = fine_next (trees_of c.args.codes.now.items) w cells c.args.flow.now c.take_next.new.self _ (sym c.take_next.ensures.taken ∙ c.in-Run.is) c.take_next.ensures.flow c.requires.held in
    IfOk-weaker c.run.result _ _ (λ k h. h w cells p.1.0.1 p.0) c.run.ensures.fine

pub returns-in-Run-clause-near : goal.returns-in-Run-clause-near
returns-in-Run-clause-near c =
    IfOk-weaker c.run.result _ _ (λ k h. omega (arith, h, free_next c.args.flow.now c.take_next.new.self _ (sym c.take_next.ensures.taken ∙ c.in-Run.is) c.take_next.ensures.flow)) c.run.ensures.near

pub returns-in-Begin-clause-plan : goal.returns-in-Begin-clause-plan
returns-in-Begin-clause-plan c =
    let w = c.args.w in
    let fs = trees_of c.args.codes.now.items in
    let old = c.args.store.now in
    IfOk-weaker c.begin.result _ _
    (λ k h r. h r ∙ at_next fs w old.cells c.args.flow.now c.take_next.new.self (next.Begin c.in-Begin.job) (image fs r w old) (sym c.take_next.ensures.taken ∙ c.in-Begin.is) c.take_next.ensures.flow)
    c.begin.ensures.plan

pub returns-in-Begin-clause-near : goal.returns-in-Begin-clause-near
returns-in-Begin-clause-near c =
    IfOk-weaker c.begin.result _ _ (λ k h. omega (arith, h, free_next c.args.flow.now c.take_next.new.self _ (sym c.take_next.ensures.taken ∙ c.in-Begin.is) c.take_next.ensures.flow)) c.begin.ensures.near

pub returns-in-Begin-clause-native : goal.returns-in-Begin-clause-native
returns-in-Begin-clause-native c =
    let begun = (fine_next (trees_of c.args.codes.now.items) c.args.w c.args.store.now.cells c.args.flow.now c.take_next.new.self _ (sym c.take_next.ensures.taken ∙ c.in-Begin.is) c.take_next.ensures.flow c.requires.held).1.1 in
    IfOk-weaker c.begin.result _ _ (λ k h x. no_begun c.in-Begin.job begun (h x).0) c.begin.ensures.native
