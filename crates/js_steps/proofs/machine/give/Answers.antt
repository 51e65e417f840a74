use Rattle.std.proofs.Common.{◌≡◌, ◌+◌, List, sym, ap, subst, arith, ◌∙◌}
use Rattle.js_image.specs.Image.{image}
use Rattle.js_names.specs.Code.{trees_of}
use Rattle.js_flow.specs.declared.frame.Frame.{Frame}
use Rattle.js_flow.specs.Fine.{FineFrames}
use Rattle.js_flow.specs.Frames.{rest, taken}
use Rattle.js_flow.specs.Free.{frame_free, frames_free}
use Rattle.js_flow.specs.Left.{Left, all_frames}
use Rattle.js_flow.specs.Views.{completion_of}
use Rattle.js_flow.proofs.Follow.{rest_last}
use Rattle.js_flow.proofs.Stays.{fine_pop, frames_fine, rest_same}
use Rattle.js_steps.proofs.Settled.{ended, fine_all, fine_end, free_all, free_end, plan_all}
use Rattle.js_steps.proofs.Weights.{frame_some, free_last, left_light}
use Rattle.js_steps.specs.Ending.{IsNative}
use Rattle.js_steps.proofs.machine.give.Goals as goal

pub returns-in-None-clause-plan : goal.returns-in-None-clause-plan
returns-in-None-clause-plan c = λ r.
    let w = c.args.w in
    let fs = trees_of c.args.codes.now.items in
    let old = c.args.store.now in
    let s = image fs r w old in
    ended fs w old.cells c.end.new.self c.pop.new.self c.args.how s c.end.ensures c.in-None.ensures.popped.1
    ∙ (ap (λ (l : List Frame). rest fs w old.cells l (completion_of w old.cells c.args.how) s) (sym c.in-None.ensures.popped.0)
    ∙ c.leave.ensures.rest fs w old.cells s)

pub returns-in-None-clause-fine : goal.returns-in-None-clause-fine
returns-in-None-clause-fine c = fine_end (trees_of c.args.codes.now.items) c.args.w c.args.store.now.cells c.end.new.self c.pop.new.self c.args.how c.end.ensures c.in-None.ensures.popped.1 c.requires.held.0

pub returns-in-None-clause-near : goal.returns-in-None-clause-near
returns-in-None-clause-near c = omega (arith, free_end c.end.new.self c.pop.new.self c.args.how c.end.ensures c.in-None.ensures.popped.1)

pub take-requires-clause-held : goal.take-requires-clause-held
take-requires-clause-held c =
    let w = c.args.w in
    let fs = trees_of c.args.codes.now.items in
    let old = c.args.store.now in
    let fine = c.leave.ensures.fine fs w old.cells c.requires.held.1 in
    ((fine_pop fs w old.cells (all_frames c.pop.new.self) c.in-Some.frame (subst (λ (l : List Frame). FineFrames fs w old.cells l) c.in-Some.ensures.popped fine)).1, c.requires.held.0)

pub returns-in_ok-take-in-Some-clause-plan : goal.returns-in_ok-take-in-Some-clause-plan
returns-in_ok-take-in-Some-clause-plan c = λ r.
    let w = c.args.w in
    let fs = trees_of c.args.codes.now.items in
    let old = c.args.store.now in
    let new = c.take.new.store in
    let s = image fs r w old in
    let o = completion_of w old.cells c.args.how in
    let f = c.in-Some.frame in
    let below = all_frames c.pop.new.self in
    let fine = c.leave.ensures.fine fs w old.cells c.requires.held.1 in
    let parts = fine_pop fs w old.cells below f (subst (λ (l : List Frame). FineFrames fs w old.cells l) c.in-Some.ensures.popped fine) in
    plan_all fs w old.cells new.cells c.take.new.flow (image fs r w new) below (taken fs w old.cells f o s) c.in_ok-take-in-Some.ensures.below (c.in_ok-take-in-Some.ensures.plan r)
    (rest_same fs w old.cells new.cells c.take.ensures.kept.grows below parts.0)
    ∙ (ap (λ k. k o s) (sym (rest_last fs w old.cells below f))
    ∙ (ap (λ (l : List Frame). rest fs w old.cells l o s) (sym c.in-Some.ensures.popped) ∙ c.leave.ensures.rest fs w old.cells s))

pub returns-in_ok-take-in-Some-clause-fine : goal.returns-in_ok-take-in-Some-clause-fine
returns-in_ok-take-in-Some-clause-fine c =
    let w = c.args.w in
    let fs = trees_of c.args.codes.now.items in
    let old = c.args.store.now in
    let new = c.take.new.store in
    let below = all_frames c.pop.new.self in
    let fine = c.leave.ensures.fine fs w old.cells c.requires.held.1 in
    let parts = fine_pop fs w old.cells below c.in-Some.frame (subst (λ (l : List Frame). FineFrames fs w old.cells l) c.in-Some.ensures.popped fine) in
    fine_all fs w new.cells c.take.new.flow below c.in_ok-take-in-Some.ensures.below c.in_ok-take-in-Some.ensures.fine (frames_fine fs w old.cells new.cells c.take.ensures.kept.grows below parts.0)

pub returns-in_ok-take-in-Some-clause-near : goal.returns-in_ok-take-in-Some-clause-near
returns-in_ok-take-in-Some-clause-near c =
    let below = all_frames c.pop.new.self in
    let e : frames_free (all_frames c.leave.new.flow) ≡ frame_free c.in-Some.frame + frames_free below = ap frames_free c.in-Some.ensures.popped ∙ free_last below c.in-Some.frame in
    omega (arith, c.in_ok-take-in-Some.ensures.near, free_all c.take.new.flow below c.in_ok-take-in-Some.ensures.below, e, c.leave.ensures.free)

pub returns-in-None-clause-native : goal.returns-in-None-clause-native
returns-in-None-clause-native c = λ x. subst (λ (l : Left). IsNative l.next) c.end.ensures x

pub returns-in_ok-take-in-Some-clause-native : goal.returns-in_ok-take-in-Some-clause-native
returns-in_ok-take-in-Some-clause-native c = left_light c.take.new.flow (omega (arith, c.in_ok-take-in-Some.ensures.near, (frame_some c.in-Some.frame).1))
