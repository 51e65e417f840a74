-- What every store keeps, by its laws.
use Rattle.std.specs.Prelude.{◌≡◌, ℕ, ◌<◌, ◌≤◌, true, List, Some, IfSome, length, slice_get}
use Rattle.store_cells.specs.Cells.{PlainCell, is_array, is_visible}
use Rattle.store_cells.specs.Shape.{HasPrototype, IsLinked}
use Rattle.store_cells.specs.Host.{host_cells, host_count, is_permitted_cell, leads_on}
use Rattle.object_store.specs.Calls.{HasLength}

-- The cells of a store: links are older, the host's cells stand first and lead to their like, Arrays have a length, and cells of widgets have prototypes.
pub record AreLawful (cells : List PlainCell) : Type 0 where
  pub linked : (i : ℕ) (c : PlainCell) → slice_get cells i ≡ Some c → IsLinked cells i c
  pub leads : (i : ℕ) → is_permitted_cell i ≡ true → IfSome (slice_get cells i) (λ c. leads_on c ≡ true)
  pub enough : host_count ≤ length cells
  pub same : (i : ℕ) → i < host_count → slice_get cells i ≡ slice_get host_cells i
  pub lengths : (i : ℕ) (c : PlainCell) → slice_get cells i ≡ Some c → is_array c.form ≡ true → HasLength c
  pub based : (w i : ℕ) (c : PlainCell) → slice_get cells i ≡ Some c → is_visible w c ≡ true → HasPrototype cells c
