use Rattle.std.proofs.Common.{◌∙◌, ℕ, ap, eqb, position, set, subst, sym}
use Rattle.std.specs.Map.{keys_of}
use Rattle.indexmap.specs.IndexMap.{insert_entry}
use Rattle.pair_table.specs.Pairs.{Pairs}
use Rattle.pair_table.specs.Rising.{IsRising}
use Rattle.pair_table.proofs.Places.{found_insert, found_within, keys_set}
use Rattle.pair_table.proofs.rising.RisingPairs.set.Goals as goal

pub invariant_of-self : goal.invariant_of-self
invariant_of-self g c =
    let es = c.self.inside.list.items in
    let place = c.args.place in
    let found = ap (λ (p : Pairs g.row.V.Denot). position (eqb c.args.n) (keys_of p.entries)) c.self.view_is ∙ c.requires in
    let keys = ap (λ (e : ℕ × g.row.V.Denot). keys_of (set es place (e.0, c.args.value))) c.index_mut.ensures.value ∙ keys_set c.args.value es place c.index_mut.result.now (found_within c.args.n es place found) in
    subst (IsRising c.self.inside.upto) (sym keys) c.self.invariant

pub returns : goal.returns
returns g c =
    let es = c.self.inside.list.items in
    let place = c.args.place in
    let found = ap (λ (p : Pairs g.row.V.Denot). position (eqb c.args.n) (keys_of p.entries)) c.self.view_is ∙ c.requires in
    ap (λ (e : ℕ × g.row.V.Denot). set es place (e.0, c.args.value)) c.index_mut.ensures.value
    ∙ found_insert c.args.n c.args.value es place c.index_mut.result.now found
    ∙ ap (λ (p : Pairs g.row.V.Denot). insert_entry eqb p.entries c.args.n c.args.value) c.self.view_is
