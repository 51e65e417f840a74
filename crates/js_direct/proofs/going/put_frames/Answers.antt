use Rattle.std.proofs.Common.{List, sym, ap, ◌∙◌, subst, arith}
use Rattle.widget_meaning.specs.Plan.{and_then}
use Rattle.widget_meaning.proofs.Runs.{and_then_assoc}
use Rattle.js_flow.specs.declared.frame.Frame.{Frame}
use Rattle.js_flow.specs.Fine.{FineFrames}
use Rattle.js_flow.specs.Frames.{rest, taken}
use Rattle.js_flow.specs.Free.{frames_free}
use Rattle.js_flow.specs.Left.{all_frames}
use Rattle.js_flow.proofs.Follow.{rest_last}
use Rattle.js_flow.proofs.Stays.{fine_pop}
use Rattle.js_direct.specs.Comes.{outward}
use Rattle.js_direct.proofs.Parts.{fine_last, free_last, outward_last}
use Rattle.js_direct.proofs.going.put_frames.Goals as goal

pub frames-preserved : goal.frames-preserved
frames-preserved c =
    let kept = c.frames.invariant in
    let f = c.in-Some.frame in
    let waits = c.last.new.frames.items in
    let frames = all_frames c.frames.flow in
    let taken_out = c.in-Some.ensures in
    let put = ap all_frames c.in_ok-push_pay.ensures in
    record {
      plan = λ fs w cells o s. kept.plan fs w cells o s
          ∙ ((λ i. and_then (outward fs w cells (taken_out i) o s) (rest fs w cells frames))
          ∙ (ap (λ q. and_then q (rest fs w cells frames)) (outward_last fs w cells waits f o s)
          ∙ (and_then_assoc (outward fs w cells waits o s) (taken fs w cells f) (rest fs w cells frames)
          ∙ ((λ i. and_then (outward fs w cells waits o s) (sym (rest_last fs w cells frames f) i))
          ∙ (λ i. and_then (outward fs w cells waits o s) (rest fs w cells (sym put i)))))));
      fine = λ fs w cells h k.
          let x = kept.fine fs w cells h k in
          let y = fine_pop fs w cells waits f (subst (λ (l : List Frame). FineFrames fs w cells l) taken_out x.0) in
          (y.0, subst (λ (l : List Frame). FineFrames fs w cells l) (sym put) (fine_last fs w cells frames f x.1 y.1));
      free = omega (arith, kept.free, ap frames_free taken_out, free_last waits f, ap frames_free put, free_last frames f);
    }

pub returns-clause-plan : goal.returns-clause-plan
returns-clause-plan c = λ fs w cells o s. sym (c.frames.invariant.plan fs w cells o s ∙ (λ i. and_then (outward fs w cells (c.in_default.ensures.0 i) o s) (rest fs w cells (all_frames c.frames.flow))))

pub returns-clause-fine : goal.returns-clause-fine
returns-clause-fine c = λ fs w cells h k. (c.frames.invariant.fine fs w cells h k).1

pub returns-clause-free : goal.returns-clause-free
returns-clause-free c = omega (arith, c.frames.invariant.free, ap frames_free c.in_default.ensures.0)
