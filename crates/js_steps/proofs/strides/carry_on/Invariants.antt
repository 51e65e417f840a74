use Rattle.std.proofs.Common.{◌≡◌, ◌≤◌, ◌+◌, ◌-◌, ◌*◌}
use Rattle.js_image.specs.Image.{Rest, image}
use Rattle.js_image.specs.Held.{Kept}
use Rattle.js_names.specs.Code.{trees_of}
use Rattle.js_flow.specs.Fine.{FineFlow}
use Rattle.js_flow.specs.Frames.{flow_plan}
use Rattle.js_flow.specs.Free.{flow_free}
use Rattle.js_flow.specs.Todo.{Strides}
use Rattle.js_steps.specs.Tolls.{EndsFlow, at_rest}
use Rattle.js_steps.proofs.strides.carry_on.Given as goal

abbrev pub invariant-steps : goal.invariant-steps
invariant-steps l =
    record {
      strides : (r : Rest) → Strides l.units (l.initial.meter.left - l.meter.left)
          (flow_plan (trees_of l.codes.items) l.w l.initial.store.cells l.initial.flow (image (trees_of l.codes.items) r l.w l.initial.store))
          (flow_plan (trees_of l.codes.items) l.w l.store.cells l.flow (image (trees_of l.codes.items) r l.w l.store));
      fine : FineFlow (trees_of l.codes.items) l.w l.store.cells l.flow;
      call : EndsFlow (trees_of l.codes.items) l.w l.store l.flow;
      near : 32 * l.meter.left + flow_free l.flow + at_rest l.flow.next ≤ 32 * l.initial.meter.left + flow_free l.initial.flow + at_rest l.initial.flow.next;
      kept : Kept (trees_of l.codes.items) l.w l.initial.store l.store;
      spends : (l.meter.left ≤ l.initial.meter.left) × (l.meter.left + l.meter.spent ≡ l.initial.meter.left + l.initial.meter.spent);
    }

abbrev pub decreases-steps : goal.decreases-steps
decreases-steps l = 32 * l.meter.left + flow_free l.flow
