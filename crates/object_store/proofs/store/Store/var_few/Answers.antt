use Rattle.std.proofs.Common.{◌∙◌, sym}
use Rattle.std.proofs.lemmas.Option.{IfSome_then}
use Rattle.store_cells.proofs.Look.{get_found}
use Rattle.object_store.proofs.Chains.{along_first}
use Rattle.object_store.proofs.store.Store.var_few.Goals as goal

pub returns : goal.returns
returns c =
    let s = c.self in
    IfSome_then c.own_few.result c.own_few.ensures
    (λ v e. sym (along_first c.args.self.now.cells c.args.scope c.args.name.now)
    ∙ sym (get_found c.args.self.now s.inside.names s.inside.cells.items s.inside.kept.items s.view_is s.invariant c.args.name.now c.args.scope c.in_ok-n.n c.in_ok-n.ensures.0) ∙ e)
