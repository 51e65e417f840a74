use Rattle.std.proofs.Common.{◌∙◌, ◌≡◌, ◌<◌, ap, arith, eqb, position, slice_get, subst, sym}
use Rattle.std.specs.Map.{keys_of}
use Rattle.std.proofs.lemmas.Map.Entries.{length-keys_of}
use Rattle.pair_table.specs.Pairs.{Pairs}
use Rattle.pair_table.proofs.Rises.{place_at}
use Rattle.pair_table.proofs.rising.RisingPairs.place.Goals as goal

pub is_before-requires : goal.is_before-requires
is_before-requires g c = omega (arith, c.self.invariant.within, length-keys_of c.self.inside.list.items)

pub returns-then-is_before : goal.returns-then-is_before
returns-then-is_before g c =
    sym (place_at c.self.inside.list.items c.guess-near.result c.args.n c.self.invariant.differ (c.is_before.ensures.yes c.if-is_before.true))
    ∙ ap (λ (p : Pairs g.row.V.Denot). position (eqb c.args.n) (keys_of p.entries)) c.self.view_is

pub place_behind-requires-clause-upto : goal.place_behind-requires-clause-upto
place_behind-requires-clause-upto g c = omega (arith, c.self.invariant.within, length-keys_of c.self.inside.list.items)

pub place_behind-requires-clause-none : goal.place_behind-requires-clause-none
place_behind-requires-clause-none g c = λ p lt at.
    let same : p ≡ c.guess-near.result = sym (c.self.invariant.near p c.args.n lt at) ∙ sym c.guess-near.ensures in
    c.is_before.ensures.no c.if-is_before.false (subst (λ q. q < c.self.inside.upto) same lt) (ap (λ q. slice_get (keys_of c.self.inside.list.items) q) (sym same) ∙ at)

pub returns : goal.returns
returns g c = c.place_behind.ensures ∙ ap (λ (p : Pairs g.row.V.Denot). position (eqb c.args.n) (keys_of p.entries)) c.self.view_is
