-- The charge of what a task is at, one kind after the other.
use Rattle.std.proofs.Common.{ℕ, ◌+◌, ◌*◌, ◌≤◌, List, refl, arith}
use Rattle.js_tree.specs.Forest.{Forest}
use Rattle.store_cells.specs.Cells.{PlainCell}
use Rattle.widget_meaning.specs.OwnState.{State}
use Rattle.js_flow.specs.declared.frame.Frame.{Frame}
use Rattle.js_flow.specs.declared.task.Control.{Control}
use Rattle.js_flow.specs.declared.task.Control.TheVariants as control
use Rattle.js_flow.specs.Views.{job_of}
use Rattle.js_flow.specs.Frames.{rest}
use Rattle.js_flow.specs.Free.{control_free}
use Rattle.js_flow.specs.Todo.{IsGoing, Moves, todo}
use Rattle.js_flow.proofs.Moves.{job_moves, pay_moves, stays}
use Rattle.js_steps.specs.Charges.{after_charge, charge_of}
use Rattle.js_steps.proofs.Weights.{weight_most}

pub lighter : (c : Control) → control_free (after_charge c) ≤ 32 * charge_of c + control_free c
lighter (control.Do j) = omega (arith, weight_most j)
lighter (control.Begin j) = omega arith
lighter (control.Give o) = omega arith
lighter (control.Pay n) = omega arith
lighter (control.Waits d) = omega arith
lighter control.Over = omega arith

module _ (fs : List Forest) (w : ℕ) (cells : List PlainCell) where
  pub charged : (c : Control) (frames : List Frame) (s : State) → IsGoing c → Moves (charge_of c) s (todo fs w cells c frames s) (todo fs w cells (after_charge c) frames s)
  charged (control.Do j) frames s h = job_moves (job_of fs w cells j) s (rest fs w cells frames) _ refl
  charged (control.Begin j) frames s h = stays s _ _ refl
  charged (control.Give o) frames s h = stays s _ _ refl
  charged (control.Pay n) frames s h = pay_moves fs w cells n frames s _ refl
  charged (control.Waits d) frames s h = absurd h
  charged control.Over frames s h = absurd h
