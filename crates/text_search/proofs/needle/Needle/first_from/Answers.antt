use Rattle.std.proofs.Common.{◌≡◌, ℕ, List, ◌∙◌, subst}
use Rattle.text_search.specs.Places.{IsFirst}
use Rattle.text_search.proofs.Positions.{first_is}
use Rattle.text_search.proofs.needle.Needle.first_from.Goals as goal

pub returns-clause-value : goal.returns-clause-value
returns-clause-value c =
    let same : c.units.result.now ≡ c.args.self.now = c.units.ensures ∙ c.self.view_is in
    first_is c.args.t.now c.args.self.now c.args.from c.first_from.result
    (subst (λ (x : List ℕ). IsFirst c.args.t.now x c.args.from c.first_from.result) same c.first_from.ensures)
