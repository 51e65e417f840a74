use Rattle.std.proofs.Common.{◌≡◌, List, ap, ◌∙◌, subst, sym}
use Rattle.js_flow.specs.declared.frame.Frame.{Frame}
use Rattle.js_flow.specs.declared.task.Control.{Control}
use Rattle.js_flow.specs.declared.task.Control.TheVariants as control
use Rattle.js_flow.specs.Fine.{FineControl, FineFrames}
use Rattle.js_flow.specs.Todo.{IsGoing}
use Rattle.js_steps.specs.declared.task.Task.{Task}
use Rattle.js_steps.specs.Ending.{EndsCall}
use Rattle.js_steps.proofs.Ending.{end_fine, goes_with}
use Rattle.turn_dispatch.proofs.taking.waits.Goals as goal

pub returns-clause-fine : goal.returns-clause-fine
returns-clause-fine c = λ fs w s p level how.
    let is = c.set.new.task in
    let was = c.args.task.value.frames.list.items in
    let at = c.set.ensures.control in
    let frames : is.frames.list.items ≡ was = ap (λ f. f.list.items) c.set.ensures.frames ∙ ap (λ (t : Task). t.frames.list.items) c.deref_mut.ensures.value in record {
      widget = c.set.ensures.widget ∙ ap (λ (t : Task). t.widget) c.deref_mut.ensures.value ∙ level.0;
      going = subst IsGoing (sym at) tt;
      control = subst (FineControl fs w s.cells) (sym at) (end_fine w s.cells c.args.how how);
      frames = subst (FineFrames fs w s.cells) (sym frames) level.1;
      call = subst (λ (q : Control). EndsCall fs w s q is.frames.list.items) (sym at)
          (subst (λ (l : List Frame). EndsCall fs w s (control.Give c.args.how) l) (sym frames) (goes_with fs w s c.args.how was how level.2));
    }
