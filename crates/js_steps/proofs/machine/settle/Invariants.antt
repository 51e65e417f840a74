use Rattle.std.proofs.Common.{◌≡◌, ◌≤◌}
use Rattle.js_image.specs.Image.{Rest, image}
use Rattle.js_image.specs.Held.{Kept}
use Rattle.js_names.specs.Code.{trees_of}
use Rattle.js_flow.specs.Fine.{FineFlow}
use Rattle.js_flow.specs.Frames.{flow_plan}
use Rattle.js_flow.specs.Free.{flow_free}
use Rattle.js_flow.specs.Left.{all_frames}
use Rattle.js_steps.specs.Ending.{IsNative}
use Rattle.js_steps.proofs.machine.settle.Given as goal

abbrev pub invariant-down : goal.invariant-down
invariant-down l =
    record {
      plan : (r : Rest) → flow_plan (trees_of l.codes.items) l.w l.store.cells l.flow (image (trees_of l.codes.items) r l.w l.store)
          ≡ flow_plan (trees_of l.codes.items) l.w l.initial.store.cells l.initial.flow (image (trees_of l.codes.items) r l.w l.initial.store);
      fine : FineFlow (trees_of l.codes.items) l.w l.store.cells l.flow;
      kept : Kept (trees_of l.codes.items) l.w l.initial.store l.store;
      near : flow_free l.flow ≤ flow_free l.initial.flow;
      native : IsNative l.flow.next → IsNative l.initial.flow.next × (all_frames l.flow ≡ all_frames l.initial.flow);
    }

abbrev pub decreases-down : goal.decreases-down
decreases-down l = flow_free l.flow
