use Rattle.std.proofs.Common.{ap, ◌∙◌, sym}
use Rattle.store_cells.specs.declared.cell.Head.{Head}
use Rattle.store_cells.specs.Cells.{is_bunch}
use Rattle.object_store.proofs.Shown.{own_hidden, own_none, own_some}
use Rattle.object_store.proofs.store.Store.has_own.Goals as goal

pub returns-then-is_bunch : goal.returns-then-is_bunch
returns-then-is_bunch c =
    let s = c.self in
    own_hidden c.args.self.now s.inside.names s.inside.cells.items s.inside.kept.items s.view_is s.invariant c.args.cell c.cell-held.result.now c.cell-held.ensures c.args.name.now (sym (ap (λ (h : Head). is_bunch h.form) c.head.ensures) ∙ sym c.is_bunch.ensures ∙ c.if-is_bunch.true)

pub returns-in-None : goal.returns-in-None
returns-in-None c =
    let s = c.self in
    own_none c.args.self.now s.inside.names s.inside.cells.items s.inside.kept.items s.view_is s.invariant c.args.cell c.cell-held.result.now c.cell-held.ensures c.args.name.now (sym (ap (λ (h : Head). is_bunch h.form) c.head.ensures) ∙ sym c.is_bunch.ensures ∙ c.if-is_bunch.false) c.in-None.ensures.found

pub returns-in-Some : goal.returns-in-Some
returns-in-Some c =
    let s = c.self in
    own_some c.args.self.now s.inside.names s.inside.cells.items s.inside.kept.items s.view_is s.invariant c.args.cell c.cell-held.result.now c.cell-held.ensures c.args.name.now (sym (ap (λ (h : Head). is_bunch h.form) c.head.ensures) ∙ sym c.is_bunch.ensures ∙ c.if-is_bunch.false) c.in-Some.n c.in-Some.ensures.found.0 c.has.result c.has.ensures
