use Rattle.std.proofs.Common.{ap, ◌∙◌}
use Rattle.std.specs.Prelude.{option_copied}
use Rattle.store_cells.proofs.Look.{get_found, get_none}
use Rattle.object_store.proofs.store.Store.get_along.Goals as goal

pub returns-in_err-n : goal.returns-in_err-n
returns-in_err-n c =
    let s = c.self in
    ap option_copied c.from_residual.ensures ∙ get_none c.args.self.now s.inside.names s.inside.cells.items s.inside.kept.items s.view_is s.invariant c.args.name.now c.args.cell c.in_err-n.ensures.found

pub returns : goal.returns
returns c =
    let s = c.self in
    c.found.ensures ∙ get_found c.args.self.now s.inside.names s.inside.cells.items s.inside.kept.items s.view_is s.invariant c.args.name.now c.args.cell c.in_ok-n.n c.in_ok-n.ensures.found.0
