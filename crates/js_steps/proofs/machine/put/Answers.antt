use Rattle.std.proofs.Common.{List, sym, ap, ◌∙◌, subst}
use Rattle.js_flow.specs.declared.frame.Frame.{Frame}
use Rattle.js_flow.specs.declared.job.Next.{Next}
use Rattle.js_flow.specs.declared.job.Next.TheVariants as next
use Rattle.js_flow.specs.declared.task.Control.{Control}
use Rattle.js_flow.specs.Fine.{FineControl, FineFrames, FineLast}
use Rattle.js_flow.specs.Left.{all_frames}
use Rattle.js_steps.proofs.Settled.{put_done, put_go, put_pay, put_plan}
use Rattle.js_steps.proofs.machine.put.Goals as goal

pub returns-in-Go-clause-plan : goal.returns-in-Go-clause-plan
returns-in-Go-clause-plan c = λ fs w cells s.
    let all = ap (λ f. f.list.items) c.set.ensures.frames ∙ (c.put_frames.ensures.frames ∙ c.into_parts-frames.ensures.frames) in
    let is = sym c.into_parts-frames.ensures.next ∙ c.in-Go.is in
    put_go fs w cells c.args.flow _ c.in-Go.job _ s is all c.set.ensures.control

pub returns-in-Go-clause-fine : goal.returns-in-Go-clause-fine
returns-in-Go-clause-fine c = λ fs w cells h.
    let all = ap (λ f. f.list.items) c.set.ensures.frames ∙ (c.put_frames.ensures.frames ∙ c.into_parts-frames.ensures.frames) in
    let is = sym c.into_parts-frames.ensures.next ∙ c.in-Go.is in
    let p = subst (λ (n : Next). FineLast fs w cells (all_frames c.args.flow) n) is h.1 in
    let control = subst (λ (q : Control). FineControl fs w cells q) (sym c.set.ensures.control) p in
    (control, subst (λ (l : List Frame). FineFrames fs w cells l) (sym all) h.0, tt)

pub returns-in-Pay-clause-plan : goal.returns-in-Pay-clause-plan
returns-in-Pay-clause-plan c = λ fs w cells s.
    let all = ap (λ f. f.list.items) c.set-in-Pay.ensures.frames ∙ (c.put_frames.ensures.frames ∙ c.into_parts-frames.ensures.frames) in
    let is = sym c.into_parts-frames.ensures.next ∙ c.in-Pay.is in
    put_pay fs w cells c.args.flow _ c.in-Pay.units _ s is all c.set-in-Pay.ensures.control

pub returns-in-Pay-clause-fine : goal.returns-in-Pay-clause-fine
returns-in-Pay-clause-fine c = λ fs w cells h.
    let all = ap (λ f. f.list.items) c.set-in-Pay.ensures.frames ∙ (c.put_frames.ensures.frames ∙ c.into_parts-frames.ensures.frames) in
    let control = subst (λ (q : Control). FineControl fs w cells q) (sym c.set-in-Pay.ensures.control) tt in
    (control, subst (λ (l : List Frame). FineFrames fs w cells l) (sym all) h.0, tt)

pub returns-in-Native-clause-plan : goal.returns-in-Native-clause-plan
returns-in-Native-clause-plan c = λ fs w cells s.
    let all = ap (λ f. f.list.items) c.set-in-Native.ensures.frames ∙ (c.put_frames.ensures.frames ∙ c.into_parts-frames.ensures.frames) in
    let is = sym c.into_parts-frames.ensures.next ∙ c.in-Native.is in
    put_plan fs w cells c.args.flow _ (next.Native c.in-Native.native) s is all

pub returns-in-Native-clause-fine : goal.returns-in-Native-clause-fine
returns-in-Native-clause-fine c = λ fs w cells h.
    let all = ap (λ f. f.list.items) c.set-in-Native.ensures.frames ∙ (c.put_frames.ensures.frames ∙ c.into_parts-frames.ensures.frames) in
    let is = sym c.into_parts-frames.ensures.next ∙ c.in-Native.is in
    let p = subst (λ (n : Next). FineLast fs w cells (all_frames c.args.flow) n) is h.1 in
    let control = subst (λ (q : Control). FineControl fs w cells q) (sym c.set-in-Native.ensures.control) tt in
    (control, subst (λ (l : List Frame). FineFrames fs w cells l) (sym all) h.0, p)

pub returns-in-Stop-clause-plan : goal.returns-in-Stop-clause-plan
returns-in-Stop-clause-plan c = λ fs w cells s.
    let all = ap (λ f. f.list.items) c.set-in-Stop.ensures.frames ∙ (c.put_frames.ensures.frames ∙ c.into_parts-frames.ensures.frames) in
    let is = sym c.into_parts-frames.ensures.next ∙ c.in-Stop.is in
    put_plan fs w cells c.args.flow _ (next.Stop c.in-Stop.cause) s is all

pub returns-in-Stop-clause-fine : goal.returns-in-Stop-clause-fine
returns-in-Stop-clause-fine c = λ fs w cells h.
    let all = ap (λ f. f.list.items) c.set-in-Stop.ensures.frames ∙ (c.put_frames.ensures.frames ∙ c.into_parts-frames.ensures.frames) in
    let control = subst (λ (q : Control). FineControl fs w cells q) (sym c.set-in-Stop.ensures.control) tt in
    (control, subst (λ (l : List Frame). FineFrames fs w cells l) (sym all) h.0, tt)

pub returns-in-Done-clause-plan : goal.returns-in-Done-clause-plan
returns-in-Done-clause-plan c = λ fs w cells s.
    let is = sym c.into_parts-frames.ensures.next ∙ c.in-Done.is in
    put_done fs w cells c.args.flow c.in-Done.how s is c.requires.settled

pub returns-in-Done-clause-fine : goal.returns-in-Done-clause-fine
returns-in-Done-clause-fine c = λ fs w cells h.
    let all = ap (λ f. f.list.items) c.set-in-Done.ensures.frames ∙ (c.put_frames.ensures.frames ∙ c.into_parts-frames.ensures.frames) in
    let is = sym c.into_parts-frames.ensures.next ∙ c.in-Done.is in
    let p = subst (λ (n : Next). FineLast fs w cells (all_frames c.args.flow) n) is h.1 in
    let control = subst (λ (q : Control). FineControl fs w cells q) (sym c.set-in-Done.ensures.control) tt in
    (control, subst (λ (l : List Frame). FineFrames fs w cells l) (sym all) h.0, p.1)
