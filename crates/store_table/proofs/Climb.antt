-- Steps of a climb, for a loop that makes them.
use Rattle.std.proofs.Common.{◌≡◌, ℕ, zero, suc, ◌+◌, ◌-◌, ◌<◌, List, refl, ap, ◌∙◌, Option, Some, None, arith, Bool, if◌then◌else◌, is_some, nat_eq, slice_get}
use Rattle.std.specs.Map.{lookup}
use Rattle.std.specs.Prelude.{IfSome}
use Rattle.std.specs.Option.{option_and_then, option_map, option_map_or}
use Rattle.store_cells.specs.Lists.{climb}
use Rattle.store_cells.specs.Numbered.{NumberedCell, numbered_has, numbered_own}
use Rattle.store_cells.specs.declared.value.Value.{Value}
use Rattle.store_table.specs.declared.table.Spot.{Spot}

module _ {X : Type 0} (has : X → Bool) (up : X → Option ℕ) where
  pub climb_none : (n : ℕ) (xs : List X) → climb has up n xs None ≡ None
  climb_none zero xs = refl
  climb_none (suc n) xs = refl

  climb_suc : (m n : ℕ) (xs : List X) (i : ℕ) → m ≡ suc n → climb has up m xs (Some i) ≡ option_map_or (λ x. if has x then Some i else climb has up n xs (up x)) (slice_get xs i) None
  climb_suc m n xs i e = rw e refl

  pub climb_more : (n k : ℕ) (xs : List X) (i : ℕ) → k < n → climb has up (n - k) xs (Some i) ≡ option_map_or (λ x. if has x then Some i else climb has up (n - (k + 1)) xs (up x)) (slice_get xs i) None
  climb_more n k xs i h = climb_suc (n - k) (n - (k + 1)) xs i (omega arith)

  pub climb_over : (n : ℕ) (xs : List X) (o : Option ℕ) → n ≡ 0 → climb has up n xs o ≡ None
  climb_over n xs o e = rw e refl

-- the same steps for the value that a climb finds
module _ (cs : List NumberedCell) (n : ℕ) where
  abbrev pub along_in : ℕ → Option ℕ → Option Value
  along_in f at = option_and_then (numbered_own cs n) (climb (numbered_has n) (λ c. c.head.up) f cs at)

  pub along_none : (f : ℕ) → along_in f None ≡ None
  along_none f = ap (option_and_then (numbered_own cs n)) (climb_none (numbered_has n) (λ c. c.head.up) f cs)

  -- the climb from a cell that is there
  at_cell : (m k i : ℕ) (c : NumberedCell) → k < m → slice_get cs i ≡ Some c → climb (numbered_has n) (λ c. c.head.up) (m - k) cs (Some i) ≡ (if numbered_has n c then Some i else climb (numbered_has n) (λ c. c.head.up) (m - (k + 1)) cs c.head.up)
  at_cell m k i c h e = climb_more (numbered_has n) (λ c. c.head.up) m k cs i h ∙ ap (λ (o : Option NumberedCell). option_map_or (λ x. if numbered_has n x then Some i else climb (numbered_has n) (λ c. c.head.up) (m - (k + 1)) cs x.head.up) o None) e

  pub along_out : (m k i : ℕ) → k < m → slice_get cs i ≡ None → along_in (m - k) (Some i) ≡ None
  along_out m k i h e = ap (option_and_then (numbered_own cs n)) (climb_more (numbered_has n) (λ c. c.head.up) m k cs i h ∙ ap (λ (o : Option NumberedCell). option_map_or (λ x. if numbered_has n x then Some i else climb (numbered_has n) (λ c. c.head.up) (m - (k + 1)) cs x.head.up) o None) e)

  pub along_own : (m k i : ℕ) (c : NumberedCell) (v : Value) → k < m → slice_get cs i ≡ Some c → lookup (nat_eq n) c.entries ≡ Some v → along_in (m - k) (Some i) ≡ Some v
  along_own m k i c v h e g =
      ap (option_and_then (numbered_own cs n)) (at_cell m k i c h e ∙ ap (λ (o : Option Value). if is_some o then Some i else climb (numbered_has n) (λ c. c.head.up) (m - (k + 1)) cs c.head.up) g)
      ∙ ap (λ (o : Option NumberedCell). option_and_then (λ c. lookup (nat_eq n) c.entries) o) e ∙ g

  pub along_up : (m k i : ℕ) (c : NumberedCell) → k < m → slice_get cs i ≡ Some c → lookup (nat_eq n) c.entries ≡ None → along_in (m - k) (Some i) ≡ along_in (m - (k + 1)) c.head.up
  along_up m k i c h e g = ap (option_and_then (numbered_own cs n)) (at_cell m k i c h e ∙ ap (λ (o : Option Value). if is_some o then Some i else climb (numbered_has n) (λ c. c.head.up) (m - (k + 1)) cs c.head.up) g)

  pub along_over : (f : ℕ) (at : Option ℕ) → f ≡ 0 → along_in f at ≡ None
  along_over f at e = ap (option_and_then (numbered_own cs n)) (climb_over (numbered_has n) (λ c. c.head.up) f cs at e)

-- what is said of the cell of a spot
pub at_spot : (P : ℕ → Type 0) (o : Option Spot) → IfSome (option_map (λ s. s.cell) o) P → IfSome o (λ s. P s.cell)
at_spot P None h = h
at_spot P (Some s) h = h
