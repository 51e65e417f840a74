use Rattle.std.proofs.Common.{◌≡◌, ◌≤◌, ◌+◌, ◌*◌}
use Rattle.widget_meaning.specs.Meaning.{run_plan}
use Rattle.js_image.specs.Image.{Rest, image}
use Rattle.js_image.specs.Held.{Kept}
use Rattle.js_names.specs.Code.{trees_of}
use Rattle.js_flow.specs.Fine.{FineControl, FineFrames}
use Rattle.js_flow.specs.Free.{free}
use Rattle.js_flow.specs.Todo.{IsGoing, todo}
use Rattle.js_steps.specs.Ending.{EndsCall}
use Rattle.js_steps.proofs.calling.run_for.Given as goal

abbrev pub invariant-loop-answer : goal.invariant-loop-answer
invariant-loop-answer l =
    record {
      same : (r : Rest) → run_plan l.initial.meter.left (todo (trees_of l.codes.items) l.w l.initial.store.cells l.initial.task.control l.initial.task.frames.list.items (image (trees_of l.codes.items) r l.w l.initial.store))
          ≡ run_plan l.meter.left (todo (trees_of l.codes.items) l.w l.store.cells l.task.control l.task.frames.list.items (image (trees_of l.codes.items) r l.w l.store));
      going : IsGoing l.task.control;
      held : FineControl (trees_of l.codes.items) l.w l.store.cells l.task.control × FineFrames (trees_of l.codes.items) l.w l.store.cells l.task.frames.list.items;
      call : EndsCall (trees_of l.codes.items) l.w l.store l.task.control l.task.frames.list.items;
      widget : l.task.widget ≡ l.initial.task.widget;
      kept : Kept (trees_of l.codes.items) l.w l.initial.store l.store;
      spends : (l.meter.left ≤ l.initial.meter.left) × (l.meter.left + l.meter.spent ≡ l.initial.meter.left + l.initial.meter.spent);
    }

abbrev pub decreases-loop-answer : goal.decreases-loop-answer
decreases-loop-answer l = 32 * l.meter.left + free l.task.control l.task.frames.list.items
