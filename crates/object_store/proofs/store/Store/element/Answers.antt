use Rattle.std.proofs.Common.{ap, ◌≡◌, ◌∙◌, sym, true, false, rules}
use Rattle.std.specs.Prelude.{option_copied}
use Rattle.store_cells.specs.declared.cell.Head.{Head}
use Rattle.store_cells.specs.Cells.{is_array}
use Rattle.object_store.proofs.Shown.{element_none, element_some}
use Rattle.object_store.proofs.store.Store.element.Goals as goal

pub returns-then-not-is_array : goal.returns-then-not-is_array
returns-then-not-is_array c =
    let s = c.self in
    let no : c.is_array.result ≡ false = search (rules, c.if-not-is_array.true) in
    element_none c.args.self.now s.inside.names s.inside.cells.items s.inside.kept.items s.view_is s.invariant c.args.cell c.cell-held.result.now c.cell-held.ensures c.args.at (sym (ap (λ (h : Head). is_array h.form) c.head.ensures) ∙ sym c.is_array.ensures ∙ no)

pub returns : goal.returns
returns c =
    let s = c.self in
    let yes_is : c.is_array.result ≡ true = search (rules, c.if-not-is_array.false) in
    element_some c.args.self.now s.inside.names s.inside.cells.items s.inside.kept.items s.view_is s.invariant c.args.cell c.cell-held.result.now c.cell-held.ensures c.args.at (option_copied c.element.result) c.requires.index (sym (ap (λ (h : Head). is_array h.form) c.head.ensures) ∙ sym c.is_array.ensures ∙ yes_is) c.element.ensures
