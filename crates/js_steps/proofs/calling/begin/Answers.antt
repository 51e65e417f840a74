use Rattle.std.proofs.Common.{List, subst, sym}
use Rattle.js_image.specs.Held.{AreFine}
use Rattle.js_flow.specs.declared.frame.Frame.{Frame}
use Rattle.js_flow.specs.declared.job.Job.TheVariants as job
use Rattle.js_flow.specs.declared.task.Control.TheVariants as control
use Rattle.js_flow.specs.Fine.{FineCall, FineFrames}
use Rattle.js_steps.specs.Ending.{EndsCall}
use Rattle.js_steps.proofs.Ending.{call_ends}
use Rattle.js_steps.proofs.calling.begin.Goals as goal

pub returns-clause-held : goal.returns-clause-held
returns-clause-held c = λ fs w s func args. (
  subst (FineCall w s.cells) (sym c.in_ok-call.ensures.ok) (func, tt, subst (AreFine w s.cells) (sym c.in_ok-shared.ensures) args),
  subst (FineFrames fs w s.cells) (sym c.new-2.ensures) tt,
  subst (λ (f : List Frame). EndsCall fs w s (control.Do (job.Call c.in_ok-call.call)) f) (sym c.new-2.ensures) (call_ends fs w s c.in_ok-call.call),
)
