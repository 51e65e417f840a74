use Rattle.std.proofs.Common.{◌≡◌, sym, subst, arith, Option}
use Rattle.std.specs.Prelude.{IfSome}
use Rattle.store_cells.specs.declared.kind.CellKind.TheVariants as kind
use Rattle.store_cells.specs.Cells.{Cells, PlainCell, kind_of}
use Rattle.store_cells.specs.Host.{AreHost}
use Rattle.store_cells.proofs.Hosts.{global_is, global_form}
use Rattle.object_store.proofs.store.Store.global.Goals as goal

pub returns-clause-cell : goal.returns-clause-cell
returns-clause-cell c =
    let s = c.self in
    let h : AreHost c.args.self.now.cells = subst (λ (t : Cells). AreHost t.cells) s.view_is s.invariant.closed.host in
    subst (λ (o : Option PlainCell). IfSome o (λ x. kind_of x.form ≡ kind.Global)) (sym (global_is c.args.self.now.cells h)) global_form

pub returns-clause-within : goal.returns-clause-within
returns-clause-within c =
    let s = c.self in
    let h : AreHost c.args.self.now.cells = subst (λ (t : Cells). AreHost t.cells) s.view_is s.invariant.closed.host in
    omega (arith, h.enough)

pub returns-clause-same : goal.returns-clause-same
returns-clause-same c =
    let s = c.self in
    let h : AreHost c.args.self.now.cells = subst (λ (t : Cells). AreHost t.cells) s.view_is s.invariant.closed.host in
    global_is c.args.self.now.cells h
