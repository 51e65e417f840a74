-- What a task has still to do, and what a step answers its caller.
use Rattle.std.specs.Prelude.{ℕ, List}
use Rattle.js_tree.specs.Forest.{Forest}
use Rattle.store_cells.specs.Cells.{Cells}
use Rattle.widget_meaning.specs.Plan.{Plan}
use Rattle.js_image.specs.Image.{Rest, image}
use Rattle.js_flow.specs.declared.job.Completion.TheVariants as completion
use Rattle.js_flow.specs.declared.task.Stepped.{Stepped as Moved}
use Rattle.js_flow.specs.declared.task.Stepped.TheVariants as moved
use Rattle.js_steps.specs.declared.task.Task.{Task}
use Rattle.js_flow.specs.Fine.{FineControl, FineFrames, FineStepped}
use Rattle.js_flow.specs.Todo.{after_step, todo}
use Rattle.js_steps.specs.Ending.{EndsCall}
use Rattle.js_steps.specs.declared.answer.Stepped.{Stepped}
use Rattle.js_steps.specs.declared.answer.Stepped.TheVariants as stepped
use Rattle.js_steps.specs.declared.answer.Stop.TheVariants as stop

-- an answer as the machine has it; want of fuel is a stop
abbrev pub machine : Stepped → Moved
machine stepped.Went = moved.Went
machine (stepped.Native n) = moved.Native n
machine (stepped.Done v) = moved.Done (completion.Is v)
machine (stepped.Threw v) = moved.Done (completion.Throw v)
machine (stepped.Stop stop.Fuel) = moved.OutOfFuel
machine (stepped.Stop (stop.Due c)) = moved.Stop c

-- want of fuel
abbrev pub IsFuelStop : Stepped → Type 0
IsFuelStop (stepped.Stop stop.Fuel) = Unit {0}
IsFuelStop k = ⊥

-- the task goes on
abbrev pub IsWent : Stepped → Type 0
IsWent stepped.Went = Unit {0}
IsWent k = ⊥

module _ (fs : List Forest) (w : ℕ) (s : Cells) (t : Task) where
  -- what a task has still to do at the widget's image
  abbrev pub remaining : Rest → Plan
  remaining r = todo fs w s.cells t.control t.frames.list.items (image fs r w s)

  -- and after an answer
  abbrev pub remaining_after : Stepped → Rest → Plan
  remaining_after k r = after_step fs w s.cells (machine k) t.control t.frames.list.items (image fs r w s)

  -- what a task holds is the widget's, and its call ends by a value or a throw
  abbrev pub IsFineTask : Type 0
  IsFineTask = FineControl fs w s.cells t.control × FineFrames fs w s.cells t.frames.list.items × EndsCall fs w s t.control t.frames.list.items

  -- so is what it holds after an answer, and the answer
  abbrev pub IsFineAfter : Stepped → Type 0
  IsFineAfter k = IsFineTask × FineStepped fs w s.cells (machine k)
