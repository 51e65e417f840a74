use Rattle.std.proofs.Common.{◌≡◌, ℕ, subst, slice_get, Some}
use Rattle.store_cells.specs.Cells.{Cells, PlainCell}
use Rattle.store_cells.specs.Shape.{IsLinked}
use Rattle.object_store.proofs.Links.{linked}
use Rattle.object_store.proofs.store.Store.links_are_older.Goals as goal

pub returns : goal.returns
returns c =
    let s = c.self in
    subst (λ (t : Cells). (i : ℕ) (d : PlainCell) → slice_get t.cells i ≡ Some d → IsLinked t.cells i d) s.view_is (linked s.inside.names s.inside.cells.items s.invariant.base)
