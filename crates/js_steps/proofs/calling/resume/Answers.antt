use Rattle.std.proofs.Common.{◌≡◌, ℕ, ◌+◌, ap, arith, sym, ◌∙◌, subst}
use Rattle.widget_meaning.specs.Plan.{and_then}
use Rattle.js_image.specs.Image.{image}
use Rattle.js_image.proofs.Units.{kept_then}
use Rattle.js_names.specs.Code.{trees_of}
use Rattle.js_calls.specs.Called.{given}
use Rattle.js_flow.specs.declared.task.Control.{Control}
use Rattle.js_flow.specs.declared.task.Control.TheVariants as control
use Rattle.js_flow.specs.Frames.{rest}
use Rattle.js_flow.specs.Free.{frames_free, free, native_free}
use Rattle.js_flow.specs.Todo.{after_step}
use Rattle.js_flow.proofs.Stays.{frames_fine, rest_same}
use Rattle.js_steps.proofs.Answering.{fine_as, follows_as, none_as}
use Rattle.js_steps.specs.Ending.{EndsCall}
use Rattle.js_steps.proofs.Ending.{given_ends_so, if_native}
use Rattle.js_steps.proofs.Settled.{fine_all, free_all, plan_all}
use Rattle.js_steps.proofs.Weights.{left_light}
use Rattle.js_steps.proofs.calling.resume.Goals as goal

same_depth : (d e : ℕ) → control.Waits d ≡ control.Waits e → d ≡ e
same_depth d e h = cc

pub settle-requires-clause-held : goal.settle-requires-clause-held
settle-requires-clause-held c =
    let w = c.args.task.now.widget in
    let fs = trees_of c.args.codes.now.items in
    let new = c.answer.new.store in
    let frames = c.args.task.now.frames.list.items in
    fine_all fs w new.cells c.answer.new.flow frames (c.in_ok-answer.ensures.below ∙ c.take_flow-flow.ensures.frames) c.in_ok-answer.ensures.fine
    (frames_fine fs w c.args.store.now.cells new.cells c.answer.ensures.kept.grows frames c.requires.held.1)

pub answered-requires : goal.answered-requires
answered-requires c =
    let w = c.args.task.now.widget in
    let fs = trees_of c.args.codes.now.items in
    let old = c.args.store.now in
    let mid = c.answer.new.store in
    let new = c.settle.new.store in
    let is = c.put-step.new.task in
    let frames = c.args.task.now.frames.list.items in
    let below = c.in_ok-answer.ensures.below ∙ c.take_flow-flow.ensures.frames in
    let stay = rest_same fs w old.cells mid.cells c.answer.ensures.kept.grows frames c.requires.held.1 in
    let ends = given_ends_so fs w old new is.control c.put-step.result frames is.frames.list.items (λ n. n) c.depth-at.result c.args.out
    (subst (λ (q : Control). EndsCall fs w old q frames) c.depth-at.ensures c.requires.held.2)
    (λ r. c.put-step.ensures.plan fs w new.cells (image fs r w new) ∙ (c.in_ok-settle.ensures.plan r
    ∙ plan_all fs w old.cells mid.cells c.answer.new.flow (image fs r w mid) frames _ below (c.in_ok-answer.ensures.plan (λ n. n) r) stay))
    c.put-step.ensures.follows.0 c.put-step.ensures.follows.1 c.put-step.ensures.light
    (if_native c.put-step.result _ _ (λ x. left_light c.answer.new.flow c.in_ok-answer.ensures.near (c.in_ok-settle.ensures.native x.0).0) c.put-step.ensures.native) in
    record { ends = ends.1 }

pub returns-clause-plan : goal.returns-clause-plan
returns-clause-plan c =
    let w = c.args.task.now.widget in
    let fs = trees_of c.args.codes.now.items in
    let old = c.args.store.now in
    let mid = c.answer.new.store in
    let new = c.settle.new.store in
    let is = c.put-step.new.task in
    let frames = c.args.task.now.frames.list.items in
    let below = c.in_ok-answer.ensures.below ∙ c.take_flow-flow.ensures.frames in
    let stay = rest_same fs w old.cells mid.cells c.answer.ensures.kept.grows frames c.requires.held.1 in
    λ r node d at. ap (λ q. after_step fs w new.cells q is.control is.frames.list.items (image fs r w new)) c.answered.ensures
    ∙ (c.put-step.ensures.plan fs w new.cells (image fs r w new) ∙ (c.in_ok-settle.ensures.plan r
    ∙ (plan_all fs w old.cells mid.cells c.answer.new.flow (image fs r w mid) frames (given w old.cells node c.depth-at.result c.args.out (image fs r w old)) below (c.in_ok-answer.ensures.plan node r) stay
    ∙ ap (λ (n : ℕ). and_then (given w old.cells node n c.args.out (image fs r w old)) (rest fs w old.cells frames)) (same_depth c.depth-at.result d (sym c.depth-at.ensures ∙ at)))))

pub returns-clause-stop : goal.returns-clause-stop
returns-clause-stop c = none_as c.answered.result _ c.answered.ensures c.put-step.ensures.follows.1

pub returns-clause-follows : goal.returns-clause-follows
returns-clause-follows c = follows_as c.answered.result _ c.answered.ensures _ c.put-step.ensures.follows.0

pub returns-clause-near : goal.returns-clause-near
returns-clause-near c =
    let frames = c.args.task.now.frames.list.items in
    let waits : free c.args.task.now.control frames ≡ native_free + frames_free frames = ap (λ k. free k frames) c.depth-at.ensures in
    let all = free_all c.answer.new.flow frames (c.in_ok-answer.ensures.below ∙ c.take_flow-flow.ensures.frames) in
    omega (arith, waits, all, c.in_ok-answer.ensures.near, c.in_ok-settle.ensures.near, c.put-step.ensures.near)

pub returns-clause-held : goal.returns-clause-held
returns-clause-held c =
    let w = c.args.task.now.widget in
    let fs = trees_of c.args.codes.now.items in
    let old = c.args.store.now in
    let mid = c.answer.new.store in
    let new = c.settle.new.store in
    let is = c.put-step.new.task in
    let frames = c.args.task.now.frames.list.items in
    let below = c.in_ok-answer.ensures.below ∙ c.take_flow-flow.ensures.frames in
    let stay = rest_same fs w old.cells mid.cells c.answer.ensures.kept.grows frames c.requires.held.1 in
    let held = c.put-step.ensures.fine fs w new.cells c.in_ok-settle.ensures.fine in
    let ends = given_ends_so fs w old new is.control c.put-step.result frames is.frames.list.items (λ n. n) c.depth-at.result c.args.out
    (subst (λ (q : Control). EndsCall fs w old q frames) c.depth-at.ensures c.requires.held.2)
    (λ r. c.put-step.ensures.plan fs w new.cells (image fs r w new) ∙ (c.in_ok-settle.ensures.plan r
    ∙ plan_all fs w old.cells mid.cells c.answer.new.flow (image fs r w mid) frames _ below (c.in_ok-answer.ensures.plan (λ n. n) r) stay))
    c.put-step.ensures.follows.0 c.put-step.ensures.follows.1 c.put-step.ensures.light
    (if_native c.put-step.result _ _ (λ x. left_light c.answer.new.flow c.in_ok-answer.ensures.near (c.in_ok-settle.ensures.native x.0).0) c.put-step.ensures.native) in
    ((held.0, held.1, ends.0), fine_as c.answered.result _ c.answered.ensures fs w new.cells held.2)

pub returns-clause-kept : goal.returns-clause-kept
returns-clause-kept c =
    kept_then (trees_of c.args.codes.now.items) c.args.task.now.widget c.args.store.now c.answer.new.store c.settle.new.store c.answer.ensures.kept c.settle.ensures.kept

pub returns-in_err-settle-clause-kept : goal.returns-in_err-settle-clause-kept
returns-in_err-settle-clause-kept c =
    kept_then (trees_of c.args.codes.now.items) c.args.task.now.widget c.args.store.now c.answer.new.store c.settle.new.store c.answer.ensures.kept c.settle.ensures.kept
