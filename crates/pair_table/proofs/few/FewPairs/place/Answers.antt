use Rattle.std.proofs.Common.{eqb, ap, ◌∙◌, ℕ, List, position}
use Rattle.std.specs.Map.{keys_of}
use Rattle.pair_table.specs.Pairs.{Pairs}
use Rattle.pair_table.proofs.Places.{place_by_keys}
use Rattle.pair_table.proofs.few.FewPairs.place.Goals as goal

pub returns : goal.returns
returns g c =
    c.place_in.ensures ∙ ap (λ (l : List (ℕ × g.row.V.Denot)). position (λ e. eqb c.args.n e.0) l) c.deref.ensures.value
    ∙ place_by_keys (eqb c.args.n) c.self.inside.list.items
    ∙ ap (λ (p : Pairs g.row.V.Denot). position (eqb c.args.n) (keys_of p.entries)) c.self.view_is
