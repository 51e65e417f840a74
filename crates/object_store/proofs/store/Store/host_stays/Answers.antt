use Rattle.std.proofs.Common.{subst}
use Rattle.store_cells.specs.Cells.{Cells}
use Rattle.store_cells.specs.Host.{AreHost}
use Rattle.object_store.proofs.store.Store.host_stays.Goals as goal

pub returns-clause-enough : goal.returns-clause-enough
returns-clause-enough c =
    let s = c.self in
    let h : AreHost c.args.self.now.cells = subst (λ (t : Cells). AreHost t.cells) s.view_is s.invariant.closed.host in
    h.enough

pub returns-clause-same : goal.returns-clause-same
returns-clause-same c =
    let s = c.self in
    let h : AreHost c.args.self.now.cells = subst (λ (t : Cells). AreHost t.cells) s.view_is s.invariant.closed.host in
    h.same
