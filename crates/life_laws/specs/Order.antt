-- The order of picks under round robin.
use Rattle.std.specs.Prelude.{◌≡◌, ℕ, ◌<◌, ◌≤◌, Bool, true, false, nat_eq, if◌then◌else◌, List, [], ◌∷◌, Option, Some}
use Rattle.code_units.specs.declared.owner.TheConstants.{WIDGETS}
use Rattle.turn_sched.specs.Turns.{is_above}
use Rattle.life_laws.specs.declared.entry.PickEntry.{PickEntry}

-- the widget has an entry
abbrev pub has_entry : ℕ → List PickEntry → Bool
has_entry w [] = false
has_entry w (e ∷ es) = if nat_eq e.widget w then true else has_entry w es

-- the least of these above the last one, or the least of these where none is above it, or there was none
pub record IsNext (last : Option ℕ) (x : ℕ) (these : ℕ → Bool) : Type 0 where
  pub above : (w : ℕ) → w < WIDGETS → these w ≡ true → is_above last w ≡ true → is_above last x ≡ true
  pub least_above : (w : ℕ) → w < WIDGETS → these w ≡ true → is_above last w ≡ true → x ≤ w
  pub least : (w : ℕ) → w < WIDGETS → these w ≡ true → ¬ (is_above last x ≡ true) → x ≤ w

-- each entry is of the next of the widgets that have it or a later entry
abbrev pub InOrder : Option ℕ → List PickEntry → Type 0
InOrder last [] = Unit {0}
InOrder last (e ∷ es) = IsNext last e.widget (λ w. has_entry w (e ∷ es)) × InOrder (Some e.widget) es
