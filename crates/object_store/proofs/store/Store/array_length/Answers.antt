use Rattle.object_store.proofs.Shown.{shown_length}
use Rattle.object_store.proofs.store.Store.array_length.Goals as goal

pub returns : goal.returns
returns c =
    let s = c.self in
    shown_length c.args.self.now s.inside.names s.inside.cells.items s.inside.kept.items s.view_is s.invariant c.args.cell c.cell.result.now c.cell.ensures c.array_length.result c.array_length.ensures
