use Rattle.std.proofs.Common.{◌+◌, ◌++◌, List, sym, ap, ◌∙◌, subst, arith}
use Rattle.std.proofs.lemmas.Result.{IfOk-weaker}
use Rattle.js_image.specs.Image.{image}
use Rattle.js_flow.specs.declared.frame.Frame.{Frame}
use Rattle.js_flow.specs.declared.job.Next.{Next}
use Rattle.js_flow.specs.Fine.{FineFrames}
use Rattle.js_flow.specs.Frames.{before, next_plan}
use Rattle.js_flow.specs.Free.{frames_free, next_free}
use Rattle.js_direct.specs.Comes.{FineWith}
use Rattle.js_direct.proofs.Parts.{before_it, fine_with}
use Rattle.js_direct.proofs.run.handed.Goals as goal

pub returns-then-is_none-clause-comes : goal.returns-then-is_none-clause-comes
returns-then-is_none-clause-comes c = λ fs w old s p plans fine light.
    let flow = c.args.flow in
    let all = c.into_parts-frames.ensures.frames ∙ ap (λ b. b ++ flow.above) c.requires.below in
    let none = sym all ∙ c.is_none.ensures c.if-is_none.true in
    let next = c.into_parts-frames.ensures.next in
    before_it fs w old s (next_free c.into_parts-frames.result.1) _ p (next_plan fs w s.cells c.into_parts-frames.result.1) c.args.run.now c.given.new.run _ _
    (λ r. sym (plans r) ∙ (λ i. before fs w s.cells (none i) (next_plan fs w s.cells (sym next i) (image fs r w s))))
    (c.given.ensures.comes fs w s (subst (λ (n : Next). FineWith fs w s.cells n) (sym next) (fine_with fs w s.cells flow.above flow.next fine.1 (omega (arith, light)))))
    (omega (arith, ap next_free next))

pub returns-clause-comes : goal.returns-clause-comes
returns-clause-comes c =
    let flow = c.args.flow in
    let all = c.into_parts-frames.ensures.frames ∙ ap (λ b. b ++ flow.above) c.requires.below in
    let next = c.into_parts-frames.ensures.next in
    IfOk-weaker c.suspended.result _ _
    (λ how h fs w old s p plans fine light.
    before_it fs w old s (frames_free c.into_parts-frames.result.0.items + next_free c.into_parts-frames.result.1) _ p
    (λ t. before fs w s.cells c.into_parts-frames.result.0.items (next_plan fs w s.cells c.into_parts-frames.result.1 t)) c.args.run.now c.suspended.new.run _ _
    (λ r. sym (plans r) ∙ (λ i. before fs w s.cells (sym all i) (next_plan fs w s.cells (sym next i) (image fs r w s))))
    (h fs w s c.args.out.now (subst (λ (n : Next). FineWith fs w s.cells n) (sym next) (fine_with fs w s.cells flow.above flow.next fine.1 (omega (arith, light))))
    (subst (λ (l : List Frame). FineFrames fs w s.cells l) (sym all) fine.0))
    (omega (arith, ap next_free next, ap frames_free all)))
    c.suspended.ensures.comes
