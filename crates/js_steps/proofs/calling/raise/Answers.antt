use Rattle.std.proofs.Common.{◌≡◌, List, ap, subst, sym}
use Rattle.js_flow.specs.declared.frame.Frame.{Frame}
use Rattle.js_flow.specs.declared.job.Completion.TheVariants as completion
use Rattle.js_flow.specs.declared.task.Control.{Control}
use Rattle.js_flow.specs.declared.task.Control.TheVariants as control
use Rattle.js_flow.specs.Fine.{FineControl, FineFrames}
use Rattle.js_steps.specs.Ending.{EndsCall}
use Rattle.js_steps.proofs.Ending.{goes_with, waited}
use Rattle.js_steps.proofs.calling.raise.Goals as goal

pub returns-clause-held : goal.returns-clause-held
returns-clause-held c = λ fs w s fine held.
    let was = c.args.task.now.frames.list.items in
    let is = c.set.new.task.frames.list.items in
    let frames : is ≡ was = ap (λ f. f.list.items) c.set.ensures.frames in (
      subst (λ (q : Control). FineControl fs w s.cells q) (sym c.set.ensures.control) fine,
      subst (λ (l : List Frame). FineFrames fs w s.cells l) (sym frames) held.1,
      subst (λ (q : Control). EndsCall fs w s q is) (sym c.set.ensures.control)
          (subst (λ (l : List Frame). EndsCall fs w s (control.Give (completion.Throw c.args.value)) l) (sym frames)
          (goes_with fs w s (completion.Throw c.args.value) was fine (waited fs w s c.args.task.now.control was c.requires.waits held.2))),
    )
