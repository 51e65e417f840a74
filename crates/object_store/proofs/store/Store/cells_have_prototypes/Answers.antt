use Rattle.std.proofs.Common.{◌≡◌, ℕ, Some, slice_get, subst, true}
use Rattle.store_cells.specs.Cells.{Cells, PlainCell, is_visible}
use Rattle.store_cells.specs.Shape.{HasPrototype}
use Rattle.object_store.proofs.Links.{prototyped}
use Rattle.object_store.proofs.store.Store.cells_have_prototypes.Goals as goal

pub returns : goal.returns
returns c =
    let s = c.self in
    subst (λ (t : Cells). (w i : ℕ) (d : PlainCell) → slice_get t.cells i ≡ Some d → is_visible w d ≡ true → HasPrototype t.cells d) s.view_is (prototyped s.inside.names s.inside.cells.items s.invariant.base)
