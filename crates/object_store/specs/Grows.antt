-- What stays of a store that calls change.
use Rattle.std.specs.Prelude.{◌≡◌, ℕ, ◌<◌, ◌≤◌, List, Some, length}
use Rattle.store_cells.specs.Born.{raw_place}
use Rattle.store_cells.specs.Cells.{PlainCell, is_bunch_at, own_count}
use Rattle.object_store.specs.Owned.{is_own_scope_at, scope_number, visible_at}

-- No cell goes: each that was there stays a widget's or another's, under its numbers, and a Bunch or none; a page node keeps its cell.
pub record Grows (w : ℕ) (old new : List PlainCell) : Type 0 where
  pub size : length old ≤ length new
  pub visible : (k : ℕ) → k < length old → visible_at w new k ≡ visible_at w old k
  pub count : (k : ℕ) → k < length old → own_count w new k ≡ own_count w old k
  pub scope : (k : ℕ) → k < length old → scope_number w new k ≡ scope_number w old k
  pub own_scope : (k : ℕ) → k < length old → is_own_scope_at w new k ≡ is_own_scope_at w old k
  pub bunch : (k : ℕ) → k < length old → is_bunch_at new k ≡ is_bunch_at old k
  pub raws : (n i : ℕ) → raw_place n old ≡ Some i → raw_place n new ≡ Some i
