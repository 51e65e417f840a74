use Rattle.std.proofs.Common.{◌-◌, ◌≤◌}
use Rattle.native_image.specs.Image.{Outside}
use Rattle.life_laws.specs.Life.{Fixed, Runs}
use Rattle.turn_steps.specs.Keeping.{Keeps}
use Rattle.turn_steps.specs.Steps.{near}
use Rattle.turn_steps.specs.Turning.{FineTurn, FineWidget, turn_in}
use Rattle.turn_steps.proofs.running.run_turn.Given as goal

abbrev pub invariant-steps : goal.invariant-steps
invariant-steps l =
    record {
      less : l.turn.left ≤ l.fn.turn.left;
      runs : (f : Fixed) (x : Outside) → Runs l.units (l.fn.turn.left - l.turn.left) (turn_in x l.fn.shared l.fn.widget f l.fn.turn) (turn_in x l.shared l.widget f l.turn);
      widget : FineWidget l.shared l.widget;
      turn : FineTurn l.shared l.fn.widget.id.index l.turn;
      kept : Keeps l.fn.shared l.shared l.fn.widget l.widget;
    }

abbrev pub decreases-steps : goal.decreases-steps
decreases-steps l = near l.turn.left l.turn.doing l.turn.calls
