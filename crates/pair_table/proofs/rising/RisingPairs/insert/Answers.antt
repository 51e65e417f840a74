use Rattle.std.proofs.Common.{◌∙◌, ℕ, ap, eqb, position, set, subst, sym}
use Rattle.std.specs.Map.{keys_of}
use Rattle.indexmap.specs.IndexMap.{insert_entry}
use Rattle.pair_table.specs.Pairs.{Pairs}
use Rattle.pair_table.specs.Rising.{IsRising}
use Rattle.pair_table.proofs.Places.{found_insert, found_within, keys_set, missing_value, on_err}
use Rattle.pair_table.proofs.rising.RisingPairs.insert.Goals as goal

pub invariant_of-self : goal.invariant_of-self
invariant_of-self g c =
    let es = c.self.inside.list.items in
    let place = c.in-Some.place in
    let found = ap (λ (p : Pairs g.row.V.Denot). position (eqb c.args.n) (keys_of p.entries)) c.self.view_is ∙ sym c.place.ensures ∙ c.in-Some.is in
    let keys = ap (λ (e : ℕ × g.row.V.Denot). keys_of (set es place (e.0, c.args.value))) c.index_mut.ensures.value ∙ keys_set c.args.value es place c.index_mut.result.now (found_within c.args.n es place found) in
    subst (IsRising c.self.inside.upto) (sym keys) c.self.invariant

pub push-requires : goal.push-requires
push-requires g c = missing_value c.args.n c.args.self.now.entries (sym c.place.ensures ∙ c.in-None.is)

pub returns-in-Some-clause-entries : goal.returns-in-Some-clause-entries
returns-in-Some-clause-entries g c =
    let es = c.self.inside.list.items in
    let place = c.in-Some.place in
    let found = ap (λ (p : Pairs g.row.V.Denot). position (eqb c.args.n) (keys_of p.entries)) c.self.view_is ∙ sym c.place.ensures ∙ c.in-Some.is in
    ap (λ (e : ℕ × g.row.V.Denot). set es place (e.0, c.args.value)) c.index_mut.ensures.value
    ∙ found_insert c.args.n c.args.value es place c.index_mut.result.now found
    ∙ ap (λ (p : Pairs g.row.V.Denot). insert_entry eqb p.entries c.args.n c.args.value) c.self.view_is

pub returns-in-None-clause-absent : goal.returns-in-None-clause-absent
returns-in-None-clause-absent g c = on_err c.push.result (missing_value c.args.n c.args.self.now.entries (sym c.place.ensures ∙ c.in-None.is))
