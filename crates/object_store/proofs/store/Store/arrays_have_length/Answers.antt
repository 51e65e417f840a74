use Rattle.std.proofs.Common.{◌≡◌, ℕ, subst, slice_get, Some, true, is_some}
use Rattle.std.specs.Option.{option_and_then}
use Rattle.store_cells.specs.Arrays.{length_in, length_name}
use Rattle.store_cells.specs.Cells.{Cells, PlainCell, is_array, value_of}
use Rattle.object_store.proofs.Lengths.{lengths}
use Rattle.object_store.proofs.store.Store.arrays_have_length.Goals as goal

pub returns : goal.returns
returns c =
    let s = c.self in
    subst (λ (t : Cells). (i : ℕ) (d : PlainCell) → slice_get t.cells i ≡ Some d → is_array d.form ≡ true → is_some (option_and_then length_in (value_of d.pairs length_name)) ≡ true) s.view_is (lengths s.inside.names s.inside.cells.items s.invariant.base)
