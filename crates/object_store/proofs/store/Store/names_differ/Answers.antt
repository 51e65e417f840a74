use Rattle.object_store.proofs.Shown.{shown_distinct}
use Rattle.object_store.proofs.store.Store.names_differ.Goals as goal

pub returns : goal.returns
returns c =
    let s = c.self in
    shown_distinct c.args.self.now s.inside.names s.inside.cells.items s.inside.kept.items s.view_is s.invariant c.args.cell c.cell.result.now c.cell.ensures c.names_differ.ensures
