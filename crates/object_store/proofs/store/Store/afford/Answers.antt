use Rattle.store_cells.specs.Costs.{whole_refusal}
use Rattle.object_store.proofs.Charges.{asked_ok, charged_err}
use Rattle.object_store.proofs.store.Store.afford.Goals as goal

pub returns-clause-ok : goal.returns-clause-ok
returns-clause-ok c =
    let s = c.self in
    asked_ok c.args.self.now s.inside.names s.inside.cells.items s.inside.kept.items s.view_is s.invariant s.inside.kept.items c.widget.result _ 0 0 c.widget.ensures (λ ks w. whole_refusal ks w c.args.cost) c.afford_all.result c.afford_all.ensures.ok

pub returns-clause-err : goal.returns-clause-err
returns-clause-err c =
    let s = c.self in
    charged_err c.args.self.now s.inside.names s.inside.cells.items s.inside.kept.items s.view_is s.invariant s.inside.kept.items c.widget.result _ 0 0 c.widget.ensures (λ ks w. whole_refusal ks w c.args.cost) c.afford_all.result c.afford_all.ensures.err
