use Rattle.std.proofs.Common.{subst}
use Rattle.store_cells.specs.Cells.{Cells}
use Rattle.store_cells.specs.Host.{AreHost}
use Rattle.store_table.proofs.Protos.{permitted_leads}
use Rattle.object_store.proofs.store.Store.permitted_leads_on.Goals as goal

pub returns : goal.returns
returns c =
    let s = c.self in
    permitted_leads c.args.self.now.cells (subst (λ (t : Cells). AreHost t.cells) s.view_is s.invariant.closed.host)
