-- What an answer of a task comes to that leaves it as it is, or stops.
use Rattle.std.proofs.Common.{◌≡◌, ℕ, Box, Global, List, arith, ap, false, refl, subst, sym, true}
use Rattle.js_tree.specs.Forest.{Forest}
use Rattle.store_cells.specs.Cells.{Cells}
use Rattle.widget_meaning.specs.Plan.{Plan, and_then}
use Rattle.page_tree.specs.declared.page.Page.{Page}
use Rattle.event_loop.specs.declared.around.Loop.{Loop}
use Rattle.js_image.specs.declared.outcome.StopCause.{StopCause}
use Rattle.js_flow.specs.Todo.{Follows, after_step}
use Rattle.turn_dispatch.specs.Stepped.{Stepped}
use Rattle.turn_dispatch.specs.Stepped.TheVariants as stepped
use Rattle.turn_dispatch.specs.Stop.{Stop}
use Rattle.turn_dispatch.specs.Stop.TheVariants as stop
use Rattle.turn_dispatch.specs.Task.{Task}
use Rattle.turn_dispatch.specs.Answered.{machine}
use Rattle.native_image.specs.Image.{Outside}
use Rattle.turn_dispatch.specs.declared.level.Doing.{Doing}
use Rattle.turn_dispatch.specs.declared.level.Doing.TheVariants as doing
use Rattle.turn_dispatch.specs.Levels.{levels_rest}
use Rattle.turn_dispatch.specs.declared.calls.Calls.{Calls}
use Rattle.turn_dispatch.specs.Turns.{turn_image}
use Rattle.turn_steps.specs.Steps.{IsFollowed, is_short}

no_true : false ≡ true → ⊥
no_true e = cc

module _ (w : ℕ) (p : Page) (l : Loop) (s : Cells) (b : Calls) (task : Box Task Global) (k : Stepped) (follows : Follows (machine k) task.value.control) where
  todo_by : (fs : List Forest) (x : Outside) → Stepped → Plan
  todo_by fs x q = and_then (after_step fs w s.cells (machine q) task.value.control task.value.frames.list.items (turn_image fs x w s p l b.dispatches.items)) (levels_rest fs w s.cells p b.levels.items)

  pub stop_followed : (q : Stop) (d : Doing) → ((c : StopCause) → q ≡ stop.Due c → d ≡ doing.Stop c) → (q ≡ stop.Fuel → d ≡ doing.Runs task) → k ≡ stepped.Stop q → IsFollowed w p l s s b b task.value k d
  unfolding todo_by
  stop_followed stop.Fuel d due fuel is = subst (IsFollowed w p l s s b b task.value k) (sym (fuel refl)) (record {
    plan = λ fs x fine. ap (todo_by fs x) is;
    fine = λ fs mine held levels. (record { widget = mine; going = subst (λ (q : Stepped). Follows (machine q) task.value.control) is follows; control = held.0.0; frames = held.0.1; call = held.0.2 }, levels);
    near = omega arith;
  })
  stop_followed (stop.Due c) d due fuel is = subst (IsFollowed w p l s s b b task.value k) (sym (due c refl)) (record {
    plan = λ fs x fine. ap (todo_by fs x) is;
    fine = λ fs mine held levels. (tt, levels);
    near = omega arith;
  })

-- a task that wants fuel stays
module _ (w : ℕ) (p : Page) (l : Loop) (s : Cells) (b : Calls) (task : Box Task Global) where
  pub short_followed : (k : Stepped) → is_short k ≡ true → Follows (machine k) task.value.control → IsFollowed w p l s s b b task.value k (doing.Runs task)
  short_followed stepped.Went e follows = record {
    plan = λ fs x fine. refl;
    fine = λ fs mine held levels. (record { widget = mine; going = follows; control = held.0.0; frames = held.0.1; call = held.0.2 }, levels);
    near = omega arith;
  }
  short_followed (stepped.Stop stop.Fuel) e follows = record {
    plan = λ fs x fine. refl;
    fine = λ fs mine held levels. (record { widget = mine; going = follows; control = held.0.0; frames = held.0.1; call = held.0.2 }, levels);
    near = omega arith;
  }
  short_followed (stepped.Stop (stop.Due c)) e follows = absurd (no_true e)
  short_followed (stepped.Native n) e follows = absurd (no_true e)
  short_followed (stepped.Done v) e follows = absurd (no_true e)
  short_followed (stepped.Threw v) e follows = absurd (no_true e)
