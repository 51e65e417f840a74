use Rattle.std.proofs.Common.{◌≡◌, ℕ, ◌+◌, List, length}
use Rattle.js_tree.specs.Forest.{Forest}
use Rattle.store_cells.specs.Cells.{PlainCell}
use Rattle.widget_meaning.specs.Values.{Completion}
use Rattle.widget_meaning.specs.OwnState.{State}
use Rattle.widget_meaning.specs.Plan.{and_then}
use Rattle.js_flow.specs.Fine.{FineFrames}
use Rattle.js_flow.specs.Frames.{rest}
use Rattle.js_flow.specs.Free.{frames_free}
use Rattle.js_flow.specs.Left.{all_frames}
use Rattle.js_direct.specs.Comes.{outward}
use Rattle.js_direct.proofs.going.put_frames.Given as goal

abbrev pub invariant-frames : goal.invariant-frames
invariant-frames l =
    record {
      plan : (fs : List Forest) (w : ℕ) (cells : List PlainCell) (o : Completion) (s : State)
          → and_then (outward fs w cells l.fn.waits.items o s) (rest fs w cells (all_frames l.fn.flow)) ≡ and_then (outward fs w cells l.waits.items o s) (rest fs w cells (all_frames l.flow));
      fine : (fs : List Forest) (w : ℕ) (cells : List PlainCell) → FineFrames fs w cells l.fn.waits.items → FineFrames fs w cells (all_frames l.fn.flow)
          → FineFrames fs w cells l.waits.items × FineFrames fs w cells (all_frames l.flow);
      free : frames_free (all_frames l.flow) + frames_free l.waits.items ≡ frames_free (all_frames l.fn.flow) + frames_free l.fn.waits.items;
    }

abbrev pub decreases-frames : goal.decreases-frames
decreases-frames l = length l.waits.items
