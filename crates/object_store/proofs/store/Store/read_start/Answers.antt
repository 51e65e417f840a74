use Rattle.std.proofs.Common.{◌∙◌, ◌<◌, ap, length, subst, sym}
use Rattle.std.specs.Prelude.{IfSome}
use Rattle.store_cells.specs.Cells.{is_bunch}
use Rattle.store_cells.specs.declared.cell.Head.{Head}
use Rattle.object_store.proofs.Starts.{bunch_start, other_start, up_within}
use Rattle.object_store.proofs.store.Store.read_start.Goals as goal

pub returns-then-is_bunch-clause-start : goal.returns-then-is_bunch-clause-start
returns-then-is_bunch-clause-start c =
    let s = c.self in
    ap (λ (h : Head). h.up) c.head-head.ensures ∙ bunch_start c.args.self.now s.inside.names s.inside.cells.items s.inside.kept.items s.view_is s.invariant c.args.cell c.cell.result.now c.cell.ensures (sym (ap (λ (h : Head). is_bunch h.form) c.head-head.ensures) ∙ sym c.is_bunch.ensures ∙ c.if-is_bunch.true)

pub returns-then-is_bunch-clause-within : goal.returns-then-is_bunch-clause-within
returns-then-is_bunch-clause-within c =
    let s = c.self in
    subst (λ (h : Head). IfSome h.up (λ j. j < length c.args.self.now.cells)) (sym c.head-head.ensures) (up_within c.args.self.now s.inside.names s.inside.cells.items s.inside.kept.items s.view_is s.invariant c.args.cell c.cell.result.now c.cell.ensures)

pub returns-else-is_bunch-clause-start : goal.returns-else-is_bunch-clause-start
returns-else-is_bunch-clause-start c =
    let s = c.self in
    other_start c.args.self.now s.inside.names s.inside.cells.items s.inside.kept.items s.view_is s.invariant c.args.cell c.cell.result.now c.cell.ensures (sym (ap (λ (h : Head). is_bunch h.form) c.head-head.ensures) ∙ sym c.is_bunch.ensures ∙ c.if-is_bunch.false)
