use Rattle.std.proofs.Common.{◌≡◌, ◌≤◌, ◌+◌, ◌-◌, ◌*◌}
use Rattle.js_image.specs.Image.{Rest}
use Rattle.js_image.specs.Held.{Kept}
use Rattle.js_names.specs.Code.{trees_of}
use Rattle.js_flow.specs.Free.{free}
use Rattle.js_flow.specs.Todo.{IsGoing, Strides}
use Rattle.js_steps.specs.Answered.{IsFineTask, remaining}
use Rattle.js_steps.proofs.calling.stride_by_steps.Given as goal

abbrev pub invariant-steps : goal.invariant-steps
invariant-steps l =
    record {
      strides : (r : Rest) → Strides l.units (l.initial.meter.left - l.meter.left) (remaining (trees_of l.codes.items) l.w l.initial.store l.initial.task r) (remaining (trees_of l.codes.items) l.w l.store l.task r);
      going : IsGoing l.task.control;
      held : IsFineTask (trees_of l.codes.items) l.w l.store l.task;
      near : 32 * l.meter.left + free l.task.control l.task.frames.list.items ≤ 32 * l.initial.meter.left + free l.initial.task.control l.initial.task.frames.list.items;
      widget : l.task.widget ≡ l.initial.task.widget;
      kept : Kept (trees_of l.codes.items) l.w l.initial.store l.store;
      spends : (l.meter.left ≤ l.initial.meter.left) × (l.meter.left + l.meter.spent ≡ l.initial.meter.left + l.initial.meter.spent);
    }

abbrev pub decreases-steps : goal.decreases-steps
decreases-steps l = 32 * l.meter.left + free l.task.control l.task.frames.list.items
