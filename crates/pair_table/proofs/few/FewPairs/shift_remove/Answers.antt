use Rattle.std.proofs.Common.{◌∙◌, ℕ, List, ap, eqb, position, subst, sym}
use Rattle.std.specs.List.{IsDistinct}
use Rattle.std.specs.Map.{keys_of, remove_entry}
use Rattle.pair_table.specs.Pairs.{Pairs}
use Rattle.pair_table.proofs.Places.{distinct_remove, found_remove, missing_remove}
use Rattle.pair_table.proofs.few.FewPairs.shift_remove.Goals as goal

pub invariant_of-self : goal.invariant_of-self
invariant_of-self g c =
    let found = ap (λ (p : Pairs g.row.V.Denot). position (eqb c.args.n) (keys_of p.entries)) c.self.view_is ∙ sym c.place.ensures ∙ c.in-Some.is in
    subst (λ (l : List (ℕ × g.row.V.Denot)). IsDistinct eqb (keys_of l)) (sym c.remove-pair.ensures.items) (distinct_remove c.args.n c.self.inside.list.items c.in-Some.place c.remove-pair.result c.self.invariant found)

pub returns-in-Some : goal.returns-in-Some
returns-in-Some g c =
    let found = ap (λ (p : Pairs g.row.V.Denot). position (eqb c.args.n) (keys_of p.entries)) c.self.view_is ∙ sym c.place.ensures ∙ c.in-Some.is in
    c.remove-pair.ensures.items
    ∙ found_remove c.args.n c.self.inside.list.items c.in-Some.place found
    ∙ ap (λ (p : Pairs g.row.V.Denot). remove_entry (eqb c.args.n) p.entries) c.self.view_is

pub returns-in_default : goal.returns-in_default
returns-in_default g c = missing_remove c.args.n c.args.self.now.entries (sym c.place.ensures ∙ c.in_default.is)
