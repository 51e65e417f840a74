use Rattle.std.proofs.Common.{◌∙◌}
use Rattle.std.specs.Fmt.{decimal}
use Rattle.store_cells.proofs.Look.{get_found}
use Rattle.object_store.proofs.store.Store.index_along.Goals as goal

pub returns : goal.returns
returns c =
    let s = c.self in
    c.found.ensures ∙ get_found c.args.self.now s.inside.names s.inside.cells.items s.inside.kept.items s.view_is s.invariant (decimal c.args.i) c.args.cell c.of_index.result c.of_index.ensures.number
