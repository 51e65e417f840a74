use Rattle.std.proofs.Common.{◌≡◌, ℕ, subst, slice_get, Some}
use Rattle.store_cells.specs.Born.{raw_place}
use Rattle.store_cells.specs.Cells.{Cells, PlainCell, node_in}
use Rattle.object_store.proofs.Links.{one_cell}
use Rattle.object_store.proofs.store.Store.nodes_have_one_cell.Goals as goal

pub returns : goal.returns
returns c =
    let s = c.self in
    subst (λ (t : Cells). (i n : ℕ) (d : PlainCell) → slice_get t.cells i ≡ Some d → node_in d.form ≡ Some n → raw_place n t.cells ≡ Some i) s.view_is (one_cell s.inside.names s.inside.cells.items s.invariant.nodes)
