use Rattle.std.proofs.Common.{ap, sym, ◌∙◌, None, slice_get}
use Rattle.std.specs.Option.{option_and_then}
use Rattle.std.proofs.lemmas.Result.{IfOk-weaker}
use Rattle.object_store.proofs.Shown.{shown_name}
use Rattle.object_store.proofs.store.Store.name_at.Goals as goal

pub returns-in-None : goal.returns-in-None
returns-in-None c =
    let s = c.self in
    shown_name c.args.self.now s.inside.names s.inside.cells.items s.inside.kept.items s.view_is s.invariant c.args.cell c.cell.result.now c.cell.ensures c.args.at None (ap (option_and_then (slice_get s.inside.names)) (sym c.in-None.is ∙ c.number_at.ensures))

pub returns-in-Some : goal.returns-in-Some
returns-in-Some c =
    let s = c.self in
    IfOk-weaker c.text.result _ _ (λ o h. shown_name c.args.self.now s.inside.names s.inside.cells.items s.inside.kept.items s.view_is s.invariant c.args.cell c.cell.result.now c.cell.ensures c.args.at o (h ∙ ap (option_and_then (slice_get s.inside.names)) (sym c.in-Some.is ∙ c.number_at.ensures))) c.text.ensures
