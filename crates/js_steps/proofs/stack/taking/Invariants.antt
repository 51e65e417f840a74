use Rattle.std.proofs.Common.{◌≡◌, ◌≤◌, ℕ, List, length, take}
use Rattle.js_tree.specs.Forest.{Forest}
use Rattle.store_cells.specs.Cells.{PlainCell}
use Rattle.widget_meaning.specs.OwnState.{State}
use Rattle.js_flow.specs.Frames.{rest}
use Rattle.js_flow.specs.Views.{completion_of}
use Rattle.js_steps.proofs.stack.taking.Given as goal

abbrev pub invariant-frames : goal.invariant-frames
invariant-frames l = record {
  within : l.left ≤ length l.frames.items;
  rest : (fs : List Forest) (w : ℕ) (cells : List PlainCell) (s : State)
      → rest fs w cells (take l.left l.frames.items) (completion_of w cells l.how) s ≡ rest fs w cells l.frames.items (completion_of w cells l.how) s;
}

abbrev pub decreases-frames : goal.decreases-frames
decreases-frames l = l.left
