use Rattle.std.proofs.Common.{◌∙◌, ℕ, List, ap, eqb, position, subst, sym, arith, min}
use Rattle.std.specs.Map.{keys_of, remove_entry}
use Rattle.std.proofs.lemmas.Map.Entries.{length-keys_of}
use Rattle.pair_table.specs.Pairs.{Pairs}
use Rattle.pair_table.specs.Rising.{IsRising}
use Rattle.pair_table.proofs.Places.{distinct_remove, found_remove, found_within, missing_remove}
use Rattle.pair_table.proofs.Rises.{rising_less}
use Rattle.pair_table.proofs.rising.RisingPairs.shift_remove.Goals as goal

pub invariant_of-self : goal.invariant_of-self
invariant_of-self g c =
    let found = ap (λ (p : Pairs g.row.V.Denot). position (eqb c.args.n) (keys_of p.entries)) c.self.view_is ∙ sym c.place.ensures ∙ c.in-Some.is in
    let es = c.self.inside.list.items in
    let place = c.in-Some.place in
    let lt = found_within c.args.n es place found in
    subst (λ u. IsRising u (keys_of c.remove-pair.new.self.items)) (sym c.least-self-inside.ensures)
    (subst (λ (l : List (ℕ × g.row.V.Denot)). IsRising (min c.self.inside.upto place) (keys_of l)) (sym c.remove-pair.ensures.items)
    (rising_less c.self.inside.upto place es c.self.invariant (distinct_remove c.args.n es place c.remove-pair.result c.self.invariant.differ found) (omega (arith, lt, length-keys_of es))))

pub returns-in-Some : goal.returns-in-Some
returns-in-Some g c =
    let found = ap (λ (p : Pairs g.row.V.Denot). position (eqb c.args.n) (keys_of p.entries)) c.self.view_is ∙ sym c.place.ensures ∙ c.in-Some.is in
    c.remove-pair.ensures.items
    ∙ found_remove c.args.n c.self.inside.list.items c.in-Some.place found
    ∙ ap (λ (p : Pairs g.row.V.Denot). remove_entry (eqb c.args.n) p.entries) c.self.view_is

pub returns-in_default : goal.returns-in_default
returns-in_default g c = missing_remove c.args.n c.args.self.now.entries (sym c.place.ensures ∙ c.in_default.is)
