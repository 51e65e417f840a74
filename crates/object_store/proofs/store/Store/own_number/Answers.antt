use Rattle.std.proofs.Common.{◌≡◌, ap, sym, ◌∙◌, subst, Option}
use Rattle.std.specs.Prelude.{IfSome}
use Rattle.store_cells.specs.Cells.{Cells, PlainCell}
use Rattle.store_cells.specs.Numbered.{plain}
use Rattle.store_cells.specs.Cells.{own_number_of}
use Rattle.store_cells.proofs.Heads.{number_is}
use Rattle.object_store.proofs.Puts.{seen}
use Rattle.object_store.proofs.store.Store.own_number.Goals as goal

pub returns : goal.returns
returns c =
    let s = c.self in
    let x = c.cell.result.now in
    let is = c.number.ensures ∙ number_is s.inside.names s.inside.cells.items s.invariant.base.ordered c.args.cell x c.cell.ensures ∙ ap (λ (t : Cells). own_number_of t.cells c.args.cell (plain s.inside.names x)) s.view_is in
    subst (λ (o : Option PlainCell). IfSome o (λ p. c.number.result ≡ own_number_of c.args.self.now.cells c.args.cell p)) (sym (seen c.args.self.now s.inside.names s.inside.cells.items s.inside.kept.items s.view_is s.invariant c.args.cell x c.cell.ensures)) is
