use Rattle.object_store.proofs.Shown.{shown_counted, shown_references}
use Rattle.object_store.proofs.store.Store.has_reference.Goals as goal

pub returns : goal.returns
returns c =
    let s = c.self in
    shown_references c.args.self.now s.inside.names s.inside.cells.items s.inside.kept.items s.view_is s.invariant c.args.cell c.cell.result.now c.cell.ensures c.args.n c.has_reference.result c.has_reference.ensures

pub has_reference-requires : goal.has_reference-requires
has_reference-requires c =
    let s = c.self in
    shown_counted c.args.self.now s.inside.names s.inside.cells.items s.inside.kept.items s.view_is s.invariant c.args.cell c.cell.result.now c.cell.ensures
