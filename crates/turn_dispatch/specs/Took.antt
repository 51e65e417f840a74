-- What becomes of how a call ended, by what waits for it.
use Rattle.std.specs.Prelude.{◌≡◌, ℕ, ◌+◌, ◌<◌, ◌≤◌, Bool, List, Option}
use Rattle.js_tree.specs.Forest.{Forest}
use Rattle.store_cells.specs.Cells.{Cells, PlainCell}
use Rattle.widget_meaning.specs.OwnState.{State}
use Rattle.widget_meaning.specs.Plan as plan
use Rattle.widget_meaning.specs.Plan.{Plan, Ret, Halt, Do, and_then}
use Rattle.widget_meaning.specs.Dispatch.{with_dispatch}
use Rattle.page_tree.specs.declared.page.Page.{Page}
use Rattle.event_loop.specs.declared.around.Loop.{Loop}
use Rattle.js_image.specs.Image.{Rest, image as store_image}
use Rattle.js_image.specs.Plans.{meant_cause}
use Rattle.js_flow.specs.declared.job.Completion.{Completion}
use Rattle.js_flow.specs.Views.{completion_of}
use Rattle.js_flow.specs.Todo.{todo}
use Rattle.native_image.specs.Image.{Outside, beside, image}
use Rattle.native_image.specs.Sound.{IsSound, KeepsStore}
use Rattle.turn_dispatch.specs.declared.calls.Calls.{Calls}
use Rattle.turn_dispatch.specs.declared.calls.Took.{Took}
use Rattle.turn_dispatch.specs.declared.calls.Took.TheVariants as took
use Rattle.js_steps.specs.Ending.{FineEnd}
use Rattle.turn_dispatch.specs.declared.level.Level.{Level}
use Rattle.turn_dispatch.specs.Held.{FineHearing, FineTask}
use Rattle.turn_dispatch.specs.Levels.{hearing_of, level_taken, levels_rest}
use Rattle.turn_dispatch.specs.Turns.{turn_image}
use Rattle.turn_dispatch.specs.Waiting.{FineLevel, FineLevels}
use Rattle.turn_dispatch.specs.Weights.{GivesOn, level_free, level_weight, levels_free, took_free, weights}

module _ (fs : List Forest) (w : ℕ) (cells : List PlainCell) (p : Page) where
  -- what is done next, before what waits still
  abbrev pub took_plan : Took → State → Plan
  took_plan (took.Gives o) s = Ret (completion_of w cells o) s
  took_plan (took.Stops c) s = Halt (meant_cause c) s
  took_plan (took.Hears h) s = Do (plan.Hear (hearing_of w cells p h.value)) (with_dispatch s) Ret
  took_plan (took.Runs t) s = todo fs w cells t.value.control t.value.frames.list.items s

module _ (fs : List Forest) (w : ℕ) (s : Cells) (p : Page) where
  -- it is the widget's; a call ends by a value or a throw
  abbrev pub FineTook : Took → Type 0
  FineTook (took.Gives o) = FineEnd w s.cells o
  FineTook (took.Stops c) = Unit {0}
  FineTook (took.Hears h) = FineHearing w s.cells p h.value
  FineTook (took.Runs t) = FineTask fs w s p t.value

-- How a call ended is given to a level. What that and all below it have still to do is what is done next, over what waits then; all that is held then is the widget's; what may be taken up without a charge does not grow; and where it goes on below, less waits.
pub record IsTaken (w : ℕ) (p : Page) (l : Loop) (old new : Cells) (before after : Calls) (level : Level) (how : Completion) (t : Took) : Type 0 where
  pub plan : (fs : List Forest) (x : Outside) → FineLevel fs w old.cells p level → FineLevels fs w old.cells p before.levels.items
      → and_then (level_taken fs w old.cells p level (completion_of w old.cells how) (turn_image fs x w old p l before.dispatches.items)) (levels_rest fs w old.cells p before.levels.items)
      ≡ and_then (took_plan fs w new.cells p t (turn_image fs x w new p l after.dispatches.items)) (levels_rest fs w new.cells p after.levels.items)
  pub fine : (fs : List Forest) → FineLevel fs w old.cells p level → FineLevels fs w old.cells p before.levels.items
      → FineTook fs w new p t × FineLevels fs w new.cells p after.levels.items
  pub near : took_free t + levels_free after.levels.items ≤ level_free level + levels_free before.levels.items
  pub lighter : GivesOn t → weights after.levels.items < level_weight level + weights before.levels.items

-- What is to be done at the widget's state is done next, beside page and loop.
pub record IsNext (w : ℕ) (p : Page) (l : Loop) (old new : Cells) (before : State → Plan) (t : Took) : Type 0 where
  pub plan : (fs : List Forest) (x : Outside) (b : Option Bool) → before (image fs x w (beside old p l b)) ≡ took_plan fs w new.cells p t (image fs x w (beside new p l b))
  pub fine : (fs : List Forest) → FineTook fs w new p t
  pub near : took_free t ≡ 0

-- The same at the store's image, whatever else the widget has.
pub record IsStored (w : ℕ) (old new : Cells) (before : State → Plan) (t : Took) : Type 0 where
  pub plan : (fs : List Forest) (p : Page) (r : Rest) → before (store_image fs r w old) ≡ took_plan fs w new.cells p t (store_image fs r w new)
  pub fine : (fs : List Forest) (p : Page) → FineTook fs w new p t
  pub near : took_free t ≡ 0

-- What is kept of the store: what is sound stays so, beside every loop.
pub record StaysSound (w : ℕ) (p : Page) (old new : Cells) : Type 0 where
  pub sound : (l : Loop) → IsSound w old p l → IsSound w new p l
  pub kept : KeepsStore w old new
