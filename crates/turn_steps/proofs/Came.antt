-- What came of a turn, by how its last step ended.
use Rattle.std.proofs.Common.{◌≡◌, ℕ, ◌-◌, ◌<◌, ◌≤◌, subst, sym, ◌⊎◌, inl, inr}
use Rattle.std.proofs.lemmas.Bool.{cases_lt}
use Rattle.widget_meaning.specs.Meaning.{run_plan}
use Rattle.turn_dispatch.specs.Stop.TheVariants as stop
use Rattle.js_values.specs.Answers.{out_of_fuel}
use Rattle.native_image.specs.Image.{Outside}
use Rattle.life_laws.specs.Life.{Fixed, Runs}
use Rattle.native_image.specs.declared.handed.Shared.{Shared}
use Rattle.turn_dispatch.specs.declared.turn.Turn.{Turn}
use Rattle.native_image.specs.declared.handed.Widget.{Widget}
use Rattle.turn_steps.specs.declared.turn.Ran.{Ran}
use Rattle.turn_steps.specs.declared.turn.Ran.TheVariants as ran
use Rattle.turn_steps.specs.declared.turn.TurnEnd.{TurnEnd}
use Rattle.turn_steps.specs.declared.turn.TurnEnd.TheVariants as ended
use Rattle.turn_steps.specs.Moving.{FineRan, IsEndedAt, IsOut, RanTo}
use Rattle.turn_steps.specs.Turning.{FineTurn, plan_in, state_in, turn_in}

module _ (k : ℕ) (old new : Shared) (v u : Widget) (t s : Turn) (less : s.left ≤ t.left) where
  -- a step wanted fuel: the turn is cut where the units are used up, and else it stops
  module _ (r : Ran) (cut : k ≤ t.left - s.left → r ≡ ran.Cut) (stops : t.left - s.left < k → r ≡ ran.Ended (ended.Stop stop.Fuel) s.left) where
    pub ran_short : (f : Fixed) (x : Outside) → Runs k (t.left - s.left) (turn_in x old v f t) (turn_in x new u f s)
        → (k ≤ t.left - s.left → run_plan 0 (plan_in x new u s) ≡ out_of_fuel (state_in x new u s.calls.dispatches.items) 0)
        → (t.left - s.left < k → run_plan s.left (plan_in x new u s) ≡ out_of_fuel (state_in x new u s.calls.dispatches.items) s.left)
        → RanTo k old new v u t s f x r
    ran_short f x runs none lacks = by (cases_lt (t.left - s.left) k)
      where
        by : (t.left - s.left < k) ⊎ (k ≤ t.left - s.left) → RanTo k old new v u t s f x r
        by (inl lt) = subst (RanTo k old new v u t s f x) (sym (stops lt)) (record { last = plan_in x new u s; dispatches = s.calls.dispatches.items; less = less; runs = runs; fuel = λ e. lt; out = lacks lt })
        by (inr ge) = subst (RanTo k old new v u t s f x) (sym (cut ge)) (record { less = less; runs = runs; enough = ge; out_of_fuel = none ge })

    pub ran_fine : FineTurn new u.id.index s → FineRan new u.id.index s r
    ran_fine fine = by (cases_lt (t.left - s.left) k)
      where
        by : (t.left - s.left < k) ⊎ (k ≤ t.left - s.left) → FineRan new u.id.index s r
        by (inl lt) = subst (FineRan new u.id.index s) (sym (stops lt)) tt
        by (inr ge) = subst (FineRan new u.id.index s) (sym (cut ge)) fine

  -- the turn is over
  pub ran_ended : (how : TurnEnd) (n : ℕ) → n ≡ s.left → (end : Turn) (f : Fixed) (x : Outside) → Runs k (t.left - s.left) (turn_in x old v f t) (turn_in x new u f s) → IsOut x new u s how → (how ≡ ended.Stop stop.Fuel → ⊥) → IsEndedAt k old new v u t end f x how n
  ran_ended how n is end f x runs out due =
      let P : ℕ → Type 0 = λ m. IsEndedAt k old new v u t end f x how m in
      subst P (sym is) (record { last = plan_in x new u s; dispatches = s.calls.dispatches.items; less = less; runs = runs; fuel = λ e. absurd (due e); out = out })
