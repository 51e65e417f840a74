-- The charge of what is next on a flow, and what came of it.
use Rattle.std.specs.Prelude.{◌≡◌, ℕ, ◌+◌, ◌-◌, ◌<◌, ◌≤◌, List}
use Rattle.js_tree.specs.Forest.{Forest}
use Rattle.store_cells.specs.Cells.{Cells}
use Rattle.plan_ends.specs.Ends.{ByValue, Yields}
use Rattle.js_image.specs.Image.{Rest, image}
use Rattle.js_values.specs.Fuel.{Fuel}
use Rattle.js_flow.specs.declared.job.Completion.TheVariants as completion
use Rattle.js_flow.specs.declared.job.Next.{Next}
use Rattle.js_flow.specs.declared.job.Next.TheVariants as next
use Rattle.js_flow.specs.declared.task.Stepped.{Stepped}
use Rattle.js_flow.specs.declared.task.Stepped.TheVariants as stepped
use Rattle.js_flow.specs.Frames.{flow_plan}
use Rattle.js_flow.specs.Left.{Left, all_frames}
use Rattle.js_flow.specs.Todo.{IsNotFuel, IsOver}
use Rattle.js_steps.specs.Ending.{Awaits, IsNative}
use Rattle.js_steps.specs.declared.strides.Toll.{Toll}
use Rattle.js_steps.specs.declared.strides.Toll.TheVariants as toll

-- a job costs one unit before it begins
abbrev pub next_charge : Next → ℕ
next_charge (next.Go j) = 1
next_charge (next.Pay n) = n
next_charge n = 0

-- what is next once its charge was taken
abbrev pub paid_next : Next → Next
paid_next (next.Go j) = next.Begin j
paid_next (next.Pay n) = next.Give completion.Normal
paid_next n = n

-- a flow whose charge was taken
abbrev pub paid : Left → Left
paid l = record l { next = paid_next l.next }

-- no native, stop or end
abbrev pub IsRunning : Next → Type 0
IsRunning (next.Go j) = Unit {0}
IsRunning (next.Begin j) = Unit {0}
IsRunning (next.Run b p) = Unit {0}
IsRunning (next.Give o) = Unit {0}
IsRunning (next.Pay n) = Unit {0}
IsRunning n = ⊥

-- one where steps end
abbrev pub at_rest : Next → ℕ
at_rest (next.Native c) = 1
at_rest (next.Stop c) = 1
at_rest (next.Done o) = 1
at_rest n = 0

-- why no more steps are taken, where so many units were spent of k and this is left
abbrev pub Halts : ℕ → ℕ → ℕ → Next → Toll → Type 0
Halts k spent left n toll.Paid = ⊥
Halts k spent left n toll.Cut = IsRunning n × (k ≤ spent) × (0 < next_charge n)
Halts k spent left n toll.Short = IsRunning n × (spent < k) × (left < next_charge n)
Halts k spent left n toll.Over = IsRunning n → ⊥

-- what came of a charge, where so much was left at first
abbrev pub IsTolled : ℕ → ℕ → Fuel → Fuel → Next → Toll → Type 0
IsTolled k first old new n toll.Paid = IsRunning n × (new.left + next_charge n ≡ old.left) × (new.spent ≡ old.spent + next_charge n) × (k ≤ first - old.left → next_charge n ≡ 0)
IsTolled k first old new n t = (new ≡ old) × Halts k (first - old.left) old.left n t

-- where no more steps are taken
abbrev pub IsHalted : Next → Toll → Type 0
IsHalted n toll.Paid = ⊥
IsHalted n toll.Over = IsRunning n → ⊥
IsHalted n t = IsRunning n

-- what a task answers then
abbrev pub Answers : Toll → Stepped → Type 0
Answers toll.Paid k = ⊥
Answers toll.Cut k = k ≡ stepped.Went
Answers toll.Short k = k ≡ stepped.OutOfFuel
Answers toll.Over k = IsOver k × IsNotFuel k

module _ (fs : List Forest) (w : ℕ) where
  -- what a flow has still to do comes to a value or a throw, and a native that is next is awaited so
  abbrev pub EndsFlow : Cells → Left → Type 0
  EndsFlow s l = ((r : Rest) → Yields ByValue (flow_plan fs w s.cells l (image fs r w s))) × (IsNative l.next → Awaits fs w s.cells ByValue (all_frames l))
