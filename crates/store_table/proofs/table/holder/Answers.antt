use Rattle.std.proofs.Common.{ℕ, Some, ap, sym, ◌≡◌, ◌∙◌, ◌<◌, length, List, true}
use Rattle.store_cells.specs.Numbered.{NumberedCell, numbered_has_at, numbered_holder}
use Rattle.store_cells.proofs.Look.{holder_held, holder_within}
use Rattle.store_table.proofs.Climb.{at_spot}
use Rattle.store_table.proofs.table.holder.Goals as goal

pub returns-clause-held : goal.returns-clause-held
returns-clause-held c =
    let cs = c.args.cells.now.items in
    at_spot (λ (i : ℕ). numbered_has_at cs i (Some c.args.n) ≡ true) c.holder_on.result (holder_held cs c.args.from c.args.n _ (c.holder_on.ensures ∙ ap (λ (l : List NumberedCell). numbered_holder l c.args.from c.args.n) c.deref.ensures.value))

pub returns-clause-within : goal.returns-clause-within
returns-clause-within c =
    let cells = c.args.cells.now in
    at_spot (λ (i : ℕ). i < cells.len) c.holder_on.result (holder_within cells.items c.args.from c.args.n _ _ (c.holder_on.ensures ∙ ap (λ (l : List NumberedCell). numbered_holder l c.args.from c.args.n) c.deref.ensures.value) (sym c.deref.ensures.len ∙ ap length c.deref.ensures.value))
