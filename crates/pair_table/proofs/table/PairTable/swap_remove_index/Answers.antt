use Rattle.std.proofs.Common.{◌∙◌, ◌≡◌, ℕ, List, ap, slice_get, subst}
use Rattle.std.specs.List.{swap_remove}
use Rattle.std.specs.Prelude.{IfNone, IfSome}
use Rattle.pair_table.proofs.table.PairTable.swap_remove_index.Goals as goal

pub returns-clause-entry : goal.returns-clause-entry
returns-clause-entry g c = c.swap_out.ensures.entry ∙ ap (λ (es : List (ℕ × g.row.V.Denot)). slice_get es c.args.place) c.settle.ensures

pub returns-clause-entries : goal.returns-clause-entries
returns-clause-entries g c =
    subst (λ (es : List (ℕ × g.row.V.Denot)). IfSome c.swap_out.result (λ p. c.swap_out.new.self.entries ≡ swap_remove es c.args.place p)) c.settle.ensures c.swap_out.ensures.entries

pub returns-clause-unchanged : goal.returns-clause-unchanged
returns-clause-unchanged g c =
    subst (λ (es : List (ℕ × g.row.V.Denot)). IfNone c.swap_out.result (c.swap_out.new.self.entries ≡ es)) c.settle.ensures c.swap_out.ensures.unchanged
