-- What a task has still to do, and what a step keeps of it.
use Rattle.std.specs.Prelude.{◌≡◌, ℕ, ◌-◌, ◌<◌, ◌≤◌, List, Bool, true, false}
use Rattle.js_tree.specs.Forest.{Forest}
use Rattle.store_cells.specs.Cells.{PlainCell}
use Rattle.widget_meaning.specs.Values as meaning
use Rattle.widget_meaning.specs.OwnState.{State}
use Rattle.widget_meaning.specs.Plan.{Plan, Ret, Halt, Do, and_then, charge, OutOfFuel as no_fuel}
use Rattle.widget_meaning.specs.Meaning.{body, run_plan}
use Rattle.js_image.specs.Plans.{meant_cause}
use Rattle.js_flow.specs.declared.frame.Frame.{Frame}
use Rattle.js_flow.specs.declared.task.Control.{Control}
use Rattle.js_flow.specs.declared.task.Control.TheVariants as control
use Rattle.js_flow.specs.declared.task.Stepped.{Stepped}
use Rattle.js_flow.specs.declared.task.Stepped.TheVariants as stepped
use Rattle.js_flow.specs.Views.{completion_of, job_of}
use Rattle.js_flow.specs.Frames.{native_plan, rest}

module _ (fs : List Forest) (w : ℕ) (cells : List PlainCell) where
  -- what a task has still to do, where it waits for no native and is not over
  abbrev pub todo : Control → List Frame → State → Plan
  todo (control.Do j) frames s = Do (job_of fs w cells j) s (rest fs w cells frames)
  todo (control.Begin j) frames s = and_then (body (job_of fs w cells j) s) (rest fs w cells frames)
  todo (control.Give o) frames s = rest fs w cells frames (completion_of w cells o) s
  todo (control.Pay n) frames s = charge n s (rest fs w cells frames meaning.Normal s)
  -- a task at rest has nothing to do
  todo c frames s = Ret meaning.Normal s

  -- and after an answer
  abbrev pub after_step : Stepped → Control → List Frame → State → Plan
  after_step stepped.Went c frames s = todo c frames s
  after_step (stepped.Native n) c frames s = and_then (native_plan w cells n.value s) (rest fs w cells frames)
  after_step (stepped.Done o) c frames s = Ret (completion_of w cells o) s
  after_step (stepped.Stop k) c frames s = Halt (meant_cause k) s
  after_step stepped.OutOfFuel c frames s = todo c frames s

-- A step with a charge, from a state: for every fuel in place of what is left.
pub record Moves (c : ℕ) (s : State) (before after : Plan) : Type 0 where
  pub within : (g : ℕ) → c ≤ g → run_plan g before ≡ run_plan (g - c) after
  pub beyond : (g : ℕ) → g < c → run_plan g before ≡ record { how = no_fuel; state = s; left = g }

-- Steps with these charges together, each of which begins below k: for every fuel in place of what is left.
-- With less, but no less than k, some of it is left.
pub record Strides (k c : ℕ) (before after : Plan) : Type 0 where
  pub within : (g : ℕ) → c ≤ g → run_plan g before ≡ run_plan (g - c) after
  pub beyond : (g : ℕ) → k ≤ g → g < c → ((run_plan g before).how ≡ no_fuel) × (0 < (run_plan g before).left)

-- the task can take a step
abbrev pub IsGoing : Control → Type 0
IsGoing (control.Waits d) = ⊥
IsGoing control.Over = ⊥
IsGoing _ = Unit {0}

-- the task waits for a native
abbrev pub IsWaiting : Control → Type 0
IsWaiting (control.Waits d) = Unit {0}
IsWaiting _ = ⊥

-- the next step costs nothing
abbrev pub is_free : Control → Bool
is_free (control.Begin j) = true
is_free (control.Give o) = true
is_free _ = false

-- what an answer says of the task
abbrev pub Follows : Stepped → Control → Type 0
Follows stepped.Went c = IsGoing c
Follows (stepped.Native n) c = c ≡ control.Waits n.value.depth
Follows (stepped.Done o) c = c ≡ control.Over
Follows (stepped.Stop k) c = c ≡ control.Over
Follows stepped.OutOfFuel c = IsGoing c

-- what a want of fuel says
abbrev pub IfOutOfFuel : Stepped → Type 0 → Type 0
IfOutOfFuel stepped.OutOfFuel P = P
IfOutOfFuel _ P = Unit {0}

-- an answer other than want of fuel
abbrev pub IsNotFuel : Stepped → Type 0
IsNotFuel stepped.OutOfFuel = ⊥
IsNotFuel _ = Unit {0}

-- an answer with which steps come to a native or to their end
abbrev pub IsOver : Stepped → Type 0
IsOver stepped.Went = ⊥
IsOver _ = Unit {0}
