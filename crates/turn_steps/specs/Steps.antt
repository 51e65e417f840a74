-- One step of a turn.
use Rattle.std.specs.Prelude.{◌≡◌, ℕ, ◌+◌, ◌*◌, ◌-◌, ◌<◌, ◌≤◌, Bool, List, true, false}
use Rattle.js_tree.specs.Forest.{Forest}
use Rattle.store_cells.specs.Cells.{Cells}
use Rattle.widget_meaning.specs.Plan.{Do, Hear, Plan, and_then}
use Rattle.widget_meaning.specs.Meaning.{run_plan}
use Rattle.page_tree.specs.declared.page.Page.{Page}
use Rattle.event_loop.specs.declared.around.Loop.{Loop}
use Rattle.js_flow.specs.declared.job.Completion.{Completion}
use Rattle.js_flow.specs.Free.{free}
use Rattle.js_flow.specs.Todo.{Moves, Strides, after_step}
use Rattle.js_flow.specs.Views.{completion_of}
use Rattle.turn_dispatch.specs.Stepped.{Stepped}
use Rattle.turn_dispatch.specs.Stepped.TheVariants as stepped
use Rattle.turn_dispatch.specs.Stop.TheVariants as stop
use Rattle.turn_dispatch.specs.Task.{Task}
use Rattle.turn_dispatch.specs.Answered.{IsFineAfter, machine}
use Rattle.js_values.specs.Answers.{out_of_fuel}
use Rattle.js_values.specs.Fuel.{Fuel}
use Rattle.native_image.specs.Image.{Outside}
use Rattle.turn_dispatch.specs.declared.level.Doing.{Doing}
use Rattle.turn_dispatch.specs.declared.level.Doing.TheVariants as doing
use Rattle.turn_dispatch.specs.declared.level.Hearing.{Hearing}
use Rattle.turn_dispatch.specs.Held.{FineDoing, FineHearing}
use Rattle.turn_dispatch.specs.Levels.{hearing_of, levels_rest, turn_plan}
use Rattle.turn_dispatch.specs.declared.calls.Calls.{Calls}
use Rattle.turn_dispatch.specs.Turns.{turn_image}
use Rattle.turn_dispatch.specs.Waiting.{FineLevels}
use Rattle.turn_dispatch.specs.Weights.{doing_free, levels_free}
use Rattle.native_image.specs.declared.handed.Shared.{Shared}
use Rattle.turn_dispatch.specs.declared.turn.Turn.{Turn}
use Rattle.native_image.specs.declared.handed.Widget.{Widget}
use Rattle.turn_steps.specs.declared.moving.Moved.{Moved}
use Rattle.turn_steps.specs.Turning.{FineTurn, forests, plan_in, state_in}

-- whether what a task is at wants fuel that is not there
abbrev pub is_short : Stepped → Bool
is_short stepped.Went = true
is_short (stepped.Stop stop.Fuel) = true
is_short k = false

-- what a turn has still to do that does this
abbrev pub doing_in : Outside → Shared → Widget → Calls → Doing → Plan
doing_in x h v calls d = turn_plan (forests h) v.id.index h.store.cells h.page d calls.levels.items (state_in x h v calls.dispatches.items)

-- the turn is not over
abbrev pub is_open : Doing → Bool
is_open (doing.Over o) = false
is_open (doing.Stop c) = false
is_open d = true

-- a task takes steps
abbrev pub runs : Doing → Bool
runs (doing.Runs t) = true
runs d = false

-- what a turn may do without fuel is bounded by this
abbrev pub near : ℕ → Doing → Calls → ℕ
near left d calls = 64 * left + (doing_free d + levels_free calls.levels.items)

-- How a call ended is given to what waits, which goes on as the turn does then, with what is the widget's; and less waits without fuel, but for a dispatch that begins.
pub record IsGiven (w : ℕ) (p : Page) (l : Loop) (old new : Cells) (before after : Calls) (how : Completion) (d : Doing) : Type 0 where
  pub plan : (fs : List Forest) (x : Outside) → FineLevels fs w old.cells p before.levels.items
      → levels_rest fs w old.cells p before.levels.items (completion_of w old.cells how) (turn_image fs x w old p l before.dispatches.items)
      ≡ turn_plan fs w new.cells p d after.levels.items (turn_image fs x w new p l after.dispatches.items)
  pub fine : (fs : List Forest) → FineLevels fs w old.cells p before.levels.items → FineDoing fs w new p d × FineLevels fs w new.cells p after.levels.items
  pub near : doing_free d + levels_free after.levels.items ≤ levels_free before.levels.items + 1

-- What a task has still to do after an answer, over what waits, is what the turn does then, over what waits then.
pub record IsFollowed (w : ℕ) (p : Page) (l : Loop) (old new : Cells) (before after : Calls) (t : Task) (k : Stepped) (d : Doing) : Type 0 where
  pub plan : (fs : List Forest) (x : Outside) → FineLevels fs w old.cells p before.levels.items
      → and_then (after_step fs w old.cells (machine k) t.control t.frames.list.items (turn_image fs x w old p l before.dispatches.items)) (levels_rest fs w old.cells p before.levels.items)
      ≡ turn_plan fs w new.cells p d after.levels.items (turn_image fs x w new p l after.dispatches.items)
  pub fine : (fs : List Forest) → t.widget ≡ w → IsFineAfter fs w old t k → FineLevels fs w old.cells p before.levels.items
      → FineDoing fs w new p d × FineLevels fs w new.cells p after.levels.items
  pub near : doing_free d + levels_free after.levels.items ≤ 2 * free t.control t.frames.list.items + levels_free before.levels.items + 1

-- A turn goes on by a step: for every fuel in place of what is left; what is held then is the widget's; where fuel is wanting the plan has too little of it, and else less may be done without fuel.
pub record IsMoved (old new : Shared) (v u : Widget) (before after : Calls) (had has : Fuel) (d : Doing) (m : Moved) : Type 0 where
  pub moves : (x : Outside) → Moves (had.left - has.left) (state_in x old v before.dispatches.items) (doing_in x old v before d) (doing_in x new u after m.doing)
  pub spends : has.left ≤ had.left
  pub fine : FineDoing (forests new) u.id.index new.store new.page m.doing × FineLevels (forests new) u.id.index new.store.cells new.page after.levels.items
  pub short : m.is_short ≡ true → (has.left ≡ had.left) × ((x : Outside) → run_plan had.left (doing_in x new u after m.doing) ≡ out_of_fuel (state_in x new u after.dispatches.items) had.left)
  pub nearer : m.is_short ≡ false → near has.left m.doing after < near had.left d before

-- The first handler of a dispatch is called over the level that waits for it; that costs nothing, and the call takes the unit of the dispatch.
pub record IsBegun (w : ℕ) (before after : Calls) (h : Hearing) (d : Doing) : Type 0 where
  pub moves : (fs : List Forest) (x : Outside) (s : Cells) (p : Page) (l : Loop) → w < 32 → FineHearing w s.cells p h
      → let st = turn_image fs x w s p l before.dispatches.items in
      Moves 0 st (Do (Hear (hearing_of w s.cells p h)) st (levels_rest fs w s.cells p before.levels.items))
      (turn_plan fs w s.cells p d after.levels.items (turn_image fs x w s p l after.dispatches.items))
  pub fine : (fs : List Forest) (s : Cells) (p : Page) → FineHearing w s.cells p h → FineLevels fs w s.cells p before.levels.items
      → FineDoing fs w s p d × FineLevels fs w s.cells p after.levels.items
  pub near : doing_free d + levels_free after.levels.items ≤ levels_free before.levels.items

-- A turn went on, each charge of it begun within so many units: what it holds then is the widget's; where fuel is wanting it has too little, of none where the units are used up and else of what is left, and else less may be done without fuel.
pub record IsStepped (k : ℕ) (old new : Shared) (v u : Widget) (t s : Turn) (is_short : Bool) : Type 0 where
  pub strides : (x : Outside) → Strides k (t.left - s.left) (plan_in x old v t) (plan_in x new u s)
  pub spends : s.left ≤ t.left
  pub fine : FineTurn new u.id.index s
  pub cut : is_short ≡ true → k ≤ t.left - s.left → (x : Outside) → run_plan 0 (plan_in x new u s) ≡ out_of_fuel (state_in x new u s.calls.dispatches.items) 0
  pub stop : is_short ≡ true → t.left - s.left < k → (x : Outside) → run_plan s.left (plan_in x new u s) ≡ out_of_fuel (state_in x new u s.calls.dispatches.items) s.left
  pub nearer : is_short ≡ false → near s.left s.doing s.calls < near t.left t.doing t.calls
