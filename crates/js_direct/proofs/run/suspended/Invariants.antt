use Rattle.std.proofs.Common.{◌≡◌, ℕ, ◌+◌, List, length}
use Rattle.js_tree.specs.Forest.{Forest}
use Rattle.store_cells.specs.Cells.{PlainCell}
use Rattle.widget_meaning.specs.Plan.{Plan, and_then}
use Rattle.js_flow.specs.Fine.{FineFrames}
use Rattle.js_flow.specs.Frames.{before}
use Rattle.js_flow.specs.Free.{frames_free}
use Rattle.js_direct.specs.Comes.{outward}
use Rattle.js_direct.proofs.run.suspended.Given as goal

abbrev pub invariant-frames : goal.invariant-frames
invariant-frames l =
    record {
      plan : (fs : List Forest) (w : ℕ) (cells : List PlainCell) (p : Plan)
          → before fs w cells l.initial.frames.items p ≡ before fs w cells l.frames.items (and_then p (outward fs w cells l.run.waits.items));
      fine : (fs : List Forest) (w : ℕ) (cells : List PlainCell) → FineFrames fs w cells l.initial.frames.items
          → FineFrames fs w cells l.frames.items × FineFrames fs w cells l.run.waits.items;
      free : frames_free l.frames.items + frames_free l.run.waits.items ≡ frames_free l.initial.frames.items;
      next : l.run.next ≡ l.fn.next;
      units : l.run.units ≡ l.fn.run.units;
    }

abbrev pub decreases-frames : goal.decreases-frames
decreases-frames l = length l.frames.items
