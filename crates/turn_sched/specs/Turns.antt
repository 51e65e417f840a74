-- Round robin: who is taken at each ask.
use Rattle.std.specs.Prelude.{◌<◌, ◌≤◌, ℕ, Bool, false, IsTrue, List, [], ◌∷◌, length, nat_lt, Option, Some, None, if◌then◌else◌}
use Rattle.code_units.specs.declared.owner.TheConstants.{WIDGETS}
use Rattle.turn_sched.specs.declared.chooser.Ask.{Ask}
use Rattle.turn_sched.specs.Asks.{is_ready}

-- a number stands above the one taken last, if one was
abbrev pub is_above : Option ℕ → ℕ → Bool
is_above None w = false
is_above (Some last) w = nat_lt last w

-- the ask takes the least ready number above the one taken last, or where none is above it, or none was taken, the least ready number
pub record TakesNext (last : Option ℕ) (ask : Ask) : Type 0 where
  pub taken : IsTrue (is_ready ask ask.taken)
  pub above : (w : ℕ) → w < WIDGETS → IsTrue (is_ready ask w) → IsTrue (is_above last w) → IsTrue (is_above last ask.taken)
  pub least_above : (w : ℕ) → w < WIDGETS → IsTrue (is_ready ask w) → IsTrue (is_above last w) → ask.taken ≤ w
  pub least : (w : ℕ) → w < WIDGETS → IsTrue (is_ready ask w) → ¬ IsTrue (is_above last ask.taken) → ask.taken ≤ w

-- one ask after the other takes the number that is next after the one taken before
pub data TakeTurns : Option ℕ → List Ask → Type 0 where
  no_ask : {last : Option ℕ} → TakeTurns last []
  one_ask : {last : Option ℕ} {ask : Ask} {asks : List Ask} → TakesNext last ask → TakeTurns (Some ask.taken) asks → TakeTurns last (ask ∷ asks)

-- the number taken after some asks
abbrev pub last_taken : Option ℕ → List Ask → Option ℕ
last_taken last [] = last
last_taken last (ask ∷ asks) = last_taken (Some ask.taken) asks

-- a round robin: the number taken last, the asks kept, and how many more it keeps
pub record RoundState : Type 0 where
  pub last : Option ℕ
  pub asks : List Ask
  pub room : ℕ

-- the place in a list that goes round at which a number stands
abbrev pub round_place : List ℕ → ℕ → ℕ
round_place list at = if nat_lt at (length list) then at else 0
