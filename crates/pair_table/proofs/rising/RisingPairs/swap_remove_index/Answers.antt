use Rattle.std.proofs.Common.{◌∙◌, ℕ, List, ap, eqb, slice_get, subst, sym}
use Rattle.std.specs.List.{IsDistinct}
use Rattle.std.specs.Map.{keys_of}
use Rattle.std.proofs.lemmas.Option.{slice_get_read}
use Rattle.pair_table.specs.Pairs.{Pairs}
use Rattle.pair_table.proofs.Places.{distinct_swap}
use Rattle.pair_table.proofs.Rises.{rising_any}
use Rattle.pair_table.proofs.rising.RisingPairs.swap_remove_index.Goals as goal

pub invariant_of-self : goal.invariant_of-self
invariant_of-self g c =
    let es = c.self.inside.list.items in
    let at = slice_get_read es c.len.result c.args.place c.swap_remove-pair.result (c.len.ensures ∙ c.self.inside.list.ok.0) c.if-place-len.true c.swap_remove-pair.ensures.value in
    rising_any (keys_of c.swap_remove-pair.new.self.items) (subst (λ (l : List (ℕ × g.row.V.Denot)). IsDistinct eqb (keys_of l)) (sym c.swap_remove-pair.ensures.items) (distinct_swap es c.args.place c.swap_remove-pair.result c.self.invariant.differ at))

pub returns-then-place-len-clause-entry : goal.returns-then-place-len-clause-entry
returns-then-place-len-clause-entry g c =
    let es = c.self.inside.list.items in
    sym (slice_get_read es c.len.result c.args.place c.swap_remove-pair.result (c.len.ensures ∙ c.self.inside.list.ok.0) c.if-place-len.true c.swap_remove-pair.ensures.value)
    ∙ ap (λ (p : Pairs g.row.V.Denot). slice_get p.entries c.args.place) c.self.view_is
