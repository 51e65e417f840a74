use Rattle.std.proofs.Common.{List, sym, ap, ◌∙◌, subst, arith}
use Rattle.widget_meaning.specs.Plan.{and_then}
use Rattle.js_flow.specs.declared.frame.Frame.{Frame}
use Rattle.js_flow.specs.Fine.{FineFrames}
use Rattle.js_flow.specs.Frames.{before, next_plan}
use Rattle.js_flow.specs.Free.{frames_free}
use Rattle.js_flow.proofs.Stays.{fine_pop}
use Rattle.js_direct.specs.Comes.{outward}
use Rattle.js_direct.proofs.Parts.{before_last, fine_last, free_last, outward_more, outward_none, suspends}
use Rattle.js_direct.proofs.run.suspended.Goals as goal

pub frames-init : goal.frames-init
frames-init c =
    let none = ap (λ v. v.items) c.set_next.ensures.waits ∙ c.requires.waits in
    record {
      plan = λ fs w cells p. ap (before fs w cells c.args.frames.items) (outward_none fs w cells p ∙ (λ i. and_then p (outward fs w cells (sym none i))));
      fine = λ fs w cells h. (h, subst (λ (l : List Frame). FineFrames fs w cells l) (sym none) tt);
      free = omega (arith, ap frames_free none);
      next = c.set_next.ensures.next;
      units = c.set_next.ensures.units;
    }

pub frames-preserved : goal.frames-preserved
frames-preserved c =
    let kept = c.frames.invariant in
    let f = c.in-Some.frame in
    let below = c.last.new.frames.items in
    let popped = c.in-Some.ensures in
    let pushed = c.in_ok-push_frame.ensures.items in
    record {
      plan = λ fs w cells p. kept.plan fs w cells p
          ∙ ((λ i. before fs w cells (popped i) (and_then p (outward fs w cells c.frames.run.waits.items)))
          ∙ (before_last fs w cells below f (and_then p (outward fs w cells c.frames.run.waits.items))
          ∙ (ap (before fs w cells below) (outward_more fs w cells c.frames.run.waits.items f p)
          ∙ (λ i. before fs w cells below (and_then p (outward fs w cells (sym pushed i)))))));
      fine = λ fs w cells h.
          let x = kept.fine fs w cells h in
          let y = fine_pop fs w cells below f (subst (λ (l : List Frame). FineFrames fs w cells l) popped x.0) in
          (y.0, subst (λ (l : List Frame). FineFrames fs w cells l) (sym pushed) (fine_last fs w cells c.frames.run.waits.items f x.1 y.1));
      free = omega (arith, kept.free, ap frames_free popped, free_last below f, ap frames_free pushed, free_last c.frames.run.waits.items f);
      next = kept.next;
      units = kept.units;
    }

pub returns-clause-comes : goal.returns-clause-comes
returns-clause-comes c = λ fs w s v fine frames.
    let kept = c.frames.invariant in
    let none = c.in_default.ensures.0 in
    suspends fs w s _ _ c.args.run.now c.frames.run _ c.args.next kept.units kept.next
    (λ x. kept.plan fs w s.cells (next_plan fs w s.cells c.args.next x) ∙ (λ i. before fs w s.cells (none i) (and_then (next_plan fs w s.cells c.args.next x) (outward fs w s.cells c.frames.run.waits.items))))
    fine (kept.fine fs w s.cells frames).1 (omega (arith, kept.free))
