use Rattle.std.proofs.Common.{◌≡◌, ℕ, subst, slice_get, Some, true}
use Rattle.store_cells.specs.Bunches.{IsBunch}
use Rattle.store_cells.specs.Cells.{Cells, PlainCell, is_bunch}
use Rattle.object_store.proofs.store.Store.bunches_have_nodes.Goals as goal

pub returns : goal.returns
returns c =
    let s = c.self in
    subst (λ (t : Cells). (i : ℕ) (d : PlainCell) → slice_get t.cells i ≡ Some d → is_bunch d.form ≡ true → IsBunch t.cells d) s.view_is s.invariant.closed.bunches.each
