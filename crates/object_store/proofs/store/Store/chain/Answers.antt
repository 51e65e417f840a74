use Rattle.std.proofs.Common.{◌≤◌, ap, sym, ◌∙◌, subst}
use Rattle.store_cells.specs.declared.cell.Head.{Head}
use Rattle.store_cells.specs.Cells.{Cells, prototypes}
use Rattle.store_cells.proofs.Heads.{links_are, links_few}
use Rattle.object_store.proofs.store.Store.chain.Goals as goal

pub returns-clause-count : goal.returns-clause-count
returns-clause-count c =
    let s = c.self in
    ap (λ (h : Head). h.links) c.head.ensures ∙ links_are s.inside.names s.inside.cells.items s.invariant.base.ordered c.args.cell c.cell.result.now c.cell.ensures ∙ ap (λ (t : Cells). prototypes t.cells c.args.cell) s.view_is

pub returns-clause-few : goal.returns-clause-few
returns-clause-few c =
    let s = c.self in
    subst (λ n. n ≤ 100) (sym (ap (λ (h : Head). h.links) c.head.ensures)) (links_few s.inside.names s.inside.cells.items s.invariant.base.ordered c.args.cell c.cell.result.now c.cell.ensures)
