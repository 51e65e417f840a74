-- What a widget has paid.
use Rattle.std.proofs.Common.{◌≡◌, ℕ, zero, suc, ◌+◌, ◌≤◌, List, [], ◌∷◌, refl, arith, Some, slice_get, slice_set}
use Rattle.store_cells.specs.declared.counts.Counts.{Counts}
use Rattle.store_cells.specs.declared.counts.TheConstants.{CELL_LIMIT, SLOT_LIMIT, UNIT_LIMIT}
use Rattle.store_cells.specs.Cells.{kept_cells}
use Rattle.store_cells.specs.Lists.{changed}
use Rattle.store_cells.specs.Shape.{AreWithin}
use Rattle.store_cells.specs.Costs.{paid, kept_slots, kept_units}
use Rattle.store_cells.proofs.Lists.{set_is}

pub paid_is : (k : Counts) (c s : ℕ) → (let d : Counts = record { cells = k.cells + c; slots = k.slots + s; units = k.units } in d ≡ paid c s 0 k)
paid_is k c s = let e : k.units ≡ k.units + 0 = omega arith in λ j. record { cells = k.cells + c; slots = k.slots + s; units = e j }

pub paid_set : (ks : List Counts) (w c s : ℕ) (k : Counts) → slice_get ks w ≡ Some k → slice_set ks w (record { cells = k.cells + c; slots = k.slots + s; units = k.units }) ≡ changed ks w (paid c s 0)
paid_set ks w c s k at = set_is ks w k (record { cells = k.cells + c; slots = k.slots + s; units = k.units }) (paid c s 0) at (paid_is k c s)

pub within_paid : (ks : List Counts) (w c s u : ℕ) → AreWithin ks → kept_cells ks w + c ≤ CELL_LIMIT → kept_slots ks w + s ≤ SLOT_LIMIT → kept_units ks w + u ≤ UNIT_LIMIT → AreWithin (changed ks w (paid c s u))
within_paid [] w c s u h lc ls lu = tt
within_paid (k ∷ ks) zero c s u h lc ls lu = ((lc, ls, lu), h.1)
within_paid (k ∷ ks) (suc w) c s u h lc ls lu = (h.0, within_paid ks w c s u h.1 lc ls lu)

pub units_le : (ks : List Counts) (w : ℕ) → AreWithin ks → kept_units ks w + 0 ≤ UNIT_LIMIT
units_le [] w h = omega arith
units_le (k ∷ ks) zero h = omega (arith, h.0.2)
units_le (k ∷ ks) (suc w) h = units_le ks w h.1

-- slots and units paid leave the cells
pub cells_paid : (ks : List Counts) (w s u v : ℕ) → kept_cells (changed ks w (paid 0 s u)) v ≡ kept_cells ks v
cells_paid [] w s u v = refl
cells_paid (k ∷ ks) zero s u zero = omega arith
cells_paid (k ∷ ks) zero s u (suc v) = refl
cells_paid (k ∷ ks) (suc w) s u zero = refl
cells_paid (k ∷ ks) (suc w) s u (suc v) = cells_paid ks w s u v

units_is : (k : Counts) (n : ℕ) → (let d : Counts = record { cells = k.cells; slots = k.slots; units = k.units + n } in d ≡ paid 0 0 n k)
units_is k n =
    let e : k.cells ≡ k.cells + 0 = omega arith in
    let f : k.slots ≡ k.slots + 0 = omega arith in
    λ j. record { cells = e j; slots = f j; units = k.units + n }

pub units_set : (ks : List Counts) (w n : ℕ) (k : Counts) → slice_get ks w ≡ Some k → slice_set ks w (record { cells = k.cells; slots = k.slots; units = k.units + n }) ≡ changed ks w (paid 0 0 n)
units_set ks w n k at = set_is ks w k (record { cells = k.cells; slots = k.slots; units = k.units + n }) (paid 0 0 n) at (units_is k n)

cells_le : (ks : List Counts) (w : ℕ) → AreWithin ks → kept_cells ks w + 0 ≤ CELL_LIMIT
cells_le [] w h = omega arith
cells_le (k ∷ ks) zero h = omega (arith, h.0.0)
cells_le (k ∷ ks) (suc w) h = cells_le ks w h.1

slots_le : (ks : List Counts) (w : ℕ) → AreWithin ks → kept_slots ks w + 0 ≤ SLOT_LIMIT
slots_le [] w h = omega arith
slots_le (k ∷ ks) zero h = omega (arith, h.0.1)
slots_le (k ∷ ks) (suc w) h = slots_le ks w h.1

pub within_units : (ks : List Counts) (w n : ℕ) → AreWithin ks → kept_units ks w + n ≤ UNIT_LIMIT → AreWithin (changed ks w (paid 0 0 n))
within_units ks w n h le = within_paid ks w 0 0 n h (cells_le ks w h) (slots_le ks w h) le

-- no cells cost nothing
pub no_cells : (ks : List Counts) (w : ℕ) → AreWithin ks → kept_cells ks w + 0 ≤ CELL_LIMIT
no_cells ks w h = cells_le ks w h
