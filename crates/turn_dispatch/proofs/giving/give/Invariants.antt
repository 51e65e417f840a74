use Rattle.std.proofs.Common.{◌≡◌, ◌≤◌, List}
use Rattle.js_tree.specs.Forest.{Forest}
use Rattle.js_flow.specs.Views.{completion_of}
use Rattle.native_image.specs.Image.{Outside}
use Rattle.turn_dispatch.specs.Took.{StaysSound}
use Rattle.turn_dispatch.specs.Waiting.{FineLevels}
use Rattle.js_steps.specs.Ending.{FineEnd}
use Rattle.turn_dispatch.specs.Levels.{levels_rest}
use Rattle.turn_dispatch.specs.Turns.{turn_image}
use Rattle.turn_dispatch.specs.Weights.{levels_free, weights}
use Rattle.turn_dispatch.proofs.giving.give.Given as goal

abbrev pub invariant-levels : goal.invariant-levels
invariant-levels l =
    let w = l.site.id.index in
    let p = l.site.page.now in
    let a = l.site.around.now in record {
      same : (fs : List Forest) (x : Outside) → FineLevels fs w l.fn.store.cells p l.fn.calls.levels.items
          → levels_rest fs w l.fn.store.cells p l.fn.calls.levels.items (completion_of w l.fn.store.cells l.fn.how) (turn_image fs x w l.fn.store p a l.fn.calls.dispatches.items)
          ≡ levels_rest fs w l.store.cells p l.calls.levels.items (completion_of w l.store.cells l.how) (turn_image fs x w l.store p a l.calls.dispatches.items);
      held : FineEnd w l.store.cells l.how;
      fine : (fs : List Forest) → FineLevels fs w l.fn.store.cells p l.fn.calls.levels.items → FineLevels fs w l.store.cells p l.calls.levels.items;
      near : levels_free l.calls.levels.items ≤ levels_free l.fn.calls.levels.items;
      kept : StaysSound w p l.fn.store l.store;
    }

abbrev pub decreases-levels : goal.decreases-levels
decreases-levels l = weights l.calls.levels.items
