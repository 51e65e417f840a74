use Rattle.std.proofs.Common.{List, [], ◌∷◌, ap, ◌∙◌, refl, subst, sym}
use Rattle.std.specs.Prelude.{None}
use Rattle.std.specs.Option.{option_map}
use Rattle.store_cells.specs.declared.value.Value.TheVariants as value
use Rattle.widget_meaning.specs.Plan as plan
use Rattle.widget_meaning.specs.Plan.{Do, Ret}
use Rattle.js_image.specs.Held.{AreFine}
use Rattle.js_image.specs.Image.{all_seen, image, seen}
use Rattle.js_flow.specs.declared.frame.Frame.{Frame}
use Rattle.js_flow.specs.declared.job.Call.{Call}
use Rattle.js_flow.specs.declared.job.Job.TheVariants as job
use Rattle.js_flow.specs.declared.task.Control.TheVariants as control
use Rattle.js_flow.specs.Fine.{FineCall, FineFrames}
use Rattle.js_flow.specs.Free.{free}
use Rattle.js_flow.specs.Todo.{todo}
use Rattle.js_steps.specs.declared.task.Task.{Task}
use Rattle.js_steps.specs.Answered.{remaining}
use Rattle.js_steps.specs.Ending.{EndsCall}
use Rattle.js_steps.proofs.Ending.{call_ends}
use Rattle.turn_dispatch.specs.Held.{FineTask}
use Rattle.turn_dispatch.proofs.Arms.{handler_held, handler_seen}
use Rattle.turn_dispatch.proofs.taking.call_handler.Goals as goal

pub returns-clause-plan : goal.returns-clause-plan
returns-clause-plan c = λ fs s p r fine.
    let w = c.args.w.index in
    let h = c.args.hearing.now in
    let img = image fs r w s in
    let func = handler_seen w s.cells p h c.args.next c.index.result.now c.requires c.index.ensures fine in
    ap (λ (t : Task). remaining fs w s t r) c.in_ok-new-2.ensures.ok
    ∙ (ap (λ (f : List Frame). todo fs w s.cells (control.Do (job.Call c.in_ok-new.field-0)) f img) c.new-2.ensures
    ∙ (ap (λ (q : Call). Do (plan.Call (seen w s.cells q.func) (option_map (seen w s.cells) q.this) (all_seen w s.cells q.args.items) q.depth) img Ret) c.in_ok-new.ensures.ok
    ∙ (λ j. Do (plan.Call (func j) None (all_seen w s.cells (c.in_ok-event_args.ensures j)) h.dispatch.depth) img Ret)))

pub returns-clause-fine : goal.returns-clause-fine
returns-clause-fine c = λ fs s p fine.
    let w = c.args.w.index in
    let held = handler_held w s.cells p c.args.hearing.now c.args.next c.index.result.now c.requires c.index.ensures fine in
    let args : AreFine w s.cells (value.Ref c.args.hearing.now.event ∷ []) = (fine.event, tt) in
    subst (λ (t : Task). FineTask fs w s p t) (sym c.in_ok-new-2.ensures.ok)
    (record {
      widget = refl;
      going = tt;
      control = subst (FineCall w s.cells) (sym c.in_ok-new.ensures.ok) (held, tt, subst (AreFine w s.cells) (sym c.in_ok-event_args.ensures) args);
      frames = subst (FineFrames fs w s.cells) (sym c.new-2.ensures) tt;
      call = subst (λ (f : List Frame). EndsCall fs w s (control.Do (job.Call c.in_ok-new.field-0)) f) (sym c.new-2.ensures) (call_ends fs w s c.in_ok-new.field-0);
    })

pub returns-clause-free : goal.returns-clause-free
returns-clause-free c =
    ap (λ (t : Task). free t.control t.frames.list.items) c.in_ok-new-2.ensures.ok
    ∙ ap (λ (f : List Frame). free (control.Do (job.Call c.in_ok-new.field-0)) f) c.new-2.ensures
