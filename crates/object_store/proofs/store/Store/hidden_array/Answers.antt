use Rattle.std.proofs.Common.{◌≡◌, ap, ◌∙◌, sym, true, rules}
use Rattle.std.specs.Prelude.{option_copied}
use Rattle.store_cells.specs.declared.cell.Head.{Head}
use Rattle.store_cells.specs.Cells.{is_bunch}
use Rattle.store_cells.specs.Numbered.{plain}
use Rattle.object_store.proofs.Puts.{seen}
use Rattle.object_store.proofs.BunchNodes.{hidden_is}
use Rattle.object_store.proofs.store.Store.hidden_array.Goals as goal

pub returns : goal.returns
returns c =
    let s = c.self in
    let x = plain s.inside.names c.cell.result.now in
    let at = seen c.args.self.now s.inside.names s.inside.cells.items s.inside.kept.items s.view_is s.invariant c.args.cell c.cell.result.now c.cell.ensures in
    let yes_is : c.is_bunch.result ≡ true = search (rules, c.if-not-is_bunch.false) in
    let bunch : is_bunch x.form ≡ true = sym (ap (λ (h : Head). is_bunch h.form) c.head.ensures) ∙ sym c.is_bunch.ensures ∙ yes_is in
    hidden_is c.args.self.now.cells c.args.cell x at bunch (c.bunches_have_nodes.ensures c.args.cell x at bunch) (option_copied c.var_at.result) c.reference.result c.var_at.ensures c.reference.ensures
