-- What the parts of the reader do, seen from the machine.
use Rattle.std.specs.Prelude.{◌≡◌, ℕ, ◌<◌, ◌≤◌, Bool, false, List, [], ◌∷◌, ◌++◌, length, drop, slice_range, ◌==◌}
use Rattle.exact_refusals.specs.Judge.Outcome.{Refused}
use Rattle.style_text.specs.Styles.{Pair, is_blank, Blanks}
use Rattle.style_text.specs.Machine.{State, Next, Start, After, goes}
use Rattle.style_text.specs.declared.StyleFault.{StyleFault}
use Rattle.style_text.specs.declared.StyleFault.TheVariants as fault

-- a blank stands first
abbrev pub blank_first : List ℕ → Bool
blank_first [] = false
blank_first (u ∷ us) = is_blank u

-- the unit stands first
abbrev pub is_first : ℕ → List ℕ → Bool
is_first unit [] = false
is_first unit (u ∷ us) = u == unit

-- the blanks at `at` end at `next`
pub record IsBlanksEnd (us : List ℕ) (at next : ℕ) : Type 0 where
  pub order : at ≤ next
  pub inside : next ≤ length us
  pub blanks : Blanks (drop at us) (drop next us)
  pub all : blank_first (drop next us) ≡ false

-- the machine, from a state at `at`, refuses what stands at the place of the fault
abbrev pub Refuses : List ℕ → State → ℕ → StyleFault → Type 0
Refuses us st at (fault.BadStyle place) = (place ≤ length us) × (goes us st at ≡ Refused (length (drop place us)))
Refuses us st at fault.Memory = ⊥

-- a property stands from `at` to `end`, and its value may begin at `start`
pub record IsProperty (us : List ℕ) (pairs : List Pair) (at end start : ℕ) : Type 0 where
  pub order : at ≤ end
  pub later : end < start
  pub inside : start ≤ length us
  pub blanks : blank_first (drop start us) ≡ false
  pub goes_on : goes us (Next pairs) at ≡ goes us (Start pairs (slice_range us at end)) start

-- a value stands from `at` to `end`
pub record IsValueAt (us : List ℕ) (at end : ℕ) : Type 0 where
  pub order : at < end
  pub inside : end ≤ length us
  pub goes_on : (pairs : List Pair) (property : List ℕ) → goes us (Start pairs property) at ≡ goes us (After (pairs ++ (property, slice_range us at end) ∷ [])) end

-- a value stands from `at` to `end`, and behind it and a semicolon the next pair may begin
pub record IsWhole (us : List ℕ) (at end next : ℕ) : Type 0 where
  pub order : at < end
  pub later : end ≤ next
  pub inside : next ≤ length us
  pub blanks : blank_first (drop next us) ≡ false
  pub goes_on : (pairs : List Pair) (property : List ℕ) → goes us (Start pairs property) at ≡ goes us (Next (pairs ++ (property, slice_range us at end) ∷ [])) next
