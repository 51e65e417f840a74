-- What the machine answered is what the caller is answered.
use Rattle.std.proofs.Common.{◌≡◌, ℕ, List, refl, sym, subst, ◌∙◌}
use Rattle.js_tree.specs.Forest.{Forest}
use Rattle.store_cells.specs.Cells.{PlainCell}
use Rattle.js_flow.specs.declared.task.Control.{Control}
use Rattle.js_flow.specs.declared.task.Stepped.{Stepped as Moved}
use Rattle.js_flow.specs.declared.task.Stepped.TheVariants as moved
use Rattle.js_flow.specs.Fine.{FineStepped}
use Rattle.js_flow.specs.Todo.{Follows, IfOutOfFuel, IsNotFuel, IsOver}
use Rattle.js_steps.specs.declared.answer.Stepped.{Stepped}
use Rattle.js_steps.specs.declared.answer.Stepped.TheVariants as stepped
use Rattle.js_steps.specs.declared.answer.Stop.TheVariants as stop
use Rattle.js_steps.specs.Answered.{IsFuelStop, IsWent, machine}

-- want of fuel, and what is none, is the same to both
if_fuel : (k : Stepped) (P : Type 0) → IfOutOfFuel (machine k) P → IsFuelStop k → P
if_fuel stepped.Went P h f = absurd f
if_fuel (stepped.Native n) P h f = absurd f
if_fuel (stepped.Done v) P h f = absurd f
if_fuel (stepped.Threw v) P h f = absurd f
if_fuel (stepped.Stop stop.Fuel) P h f = h
if_fuel (stepped.Stop (stop.Due c)) P h f = absurd f

is_none : (k : Stepped) → (IsFuelStop k → ⊥) → IsNotFuel (machine k)
is_none stepped.Went h = tt
is_none (stepped.Native n) h = tt
is_none (stepped.Done v) h = tt
is_none (stepped.Threw v) h = tt
is_none (stepped.Stop stop.Fuel) h = h tt
is_none (stepped.Stop (stop.Due c)) h = tt

no_stop : (k : Stepped) → IsNotFuel (machine k) → IsFuelStop k → ⊥
no_stop stepped.Went h f = f
no_stop (stepped.Native n) h f = f
no_stop (stepped.Done v) h f = f
no_stop (stepped.Threw v) h f = f
no_stop (stepped.Stop stop.Fuel) h f = h
no_stop (stepped.Stop (stop.Due c)) h f = f

is_went : (k : Stepped) → IsWent k → machine k ≡ moved.Went
is_went stepped.Went h = refl
is_went (stepped.Native n) h = absurd h
is_went (stepped.Done v) h = absurd h
is_went (stepped.Threw v) h = absurd h
is_went (stepped.Stop c) h = absurd h

module _ (k : Stepped) (m : Moved) (e : machine k ≡ m) where
  -- the task does not go on
  pub went_as : (m ≡ moved.Went → ⊥) → IsWent k → ⊥
  went_as h t = h (sym e ∙ is_went k t)

  pub fuel_as : (P : Type 0) → IfOutOfFuel m P → IsFuelStop k → P
  fuel_as P h = if_fuel k P (subst (λ (q : Moved). IfOutOfFuel q P) (sym e) h)

  pub other_as : (P : Type 0) → (IsNotFuel m → P) → (IsFuelStop k → ⊥) → P
  other_as P h f = h (subst (λ (q : Moved). IsNotFuel q) e (is_none k f))

  pub none_as : IsNotFuel m → IsFuelStop k → ⊥
  none_as h = no_stop k (subst (λ (q : Moved). IsNotFuel q) (sym e) h)

  pub follows_as : (c : Control) → Follows m c → Follows (machine k) c
  follows_as c h = subst (λ (q : Moved). Follows q c) (sym e) h

  pub over_as : IsOver m → IsOver (machine k)
  over_as h = subst (λ (q : Moved). IsOver q) (sym e) h

  pub fine_as : (fs : List Forest) (w : ℕ) (cells : List PlainCell) → FineStepped fs w cells m → FineStepped fs w cells (machine k)
  fine_as fs w cells h = subst (λ (q : Moved). FineStepped fs w cells q) (sym e) h
