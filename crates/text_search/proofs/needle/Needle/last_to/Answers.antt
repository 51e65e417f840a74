use Rattle.std.proofs.Common.{◌≡◌, ℕ, List, length, Some, ap, ◌∙◌, subst, sym, arith, vec_len}
use Rattle.std.proofs.lemmas.Bool.{eqb-true}
use Rattle.text_search.specs.Places.{IsLast}
use Rattle.text_search.proofs.Positions.{last_is}
use Rattle.text_search.proofs.Shifts.{empty_last}
use Rattle.text_search.proofs.needle.Needle.last_to.Goals as goal

pub returns-then-is_empty-clause-value : goal.returns-then-is_empty-clause-value
returns-then-is_empty-clause-value c =
    let zeroth : vec_len c.self.inside.borders ≡ 0 = eqb-true (vec_len c.self.inside.borders) 0 (sym c.is_empty.ensures ∙ c.if-is_empty.true) in
    let none : length c.self.inside.borders.items ≡ 0 = omega (arith, zeroth) in
    let empty : length c.args.self.now ≡ 0 = sym (ap (λ (x : List ℕ). length x) c.self.view_is) ∙ sym c.self.invariant.0 ∙ none in
    last_is c.args.t.now c.args.self.now c.args.to (Some c.args.to) (empty_last c.args.t.now c.args.self.now c.args.to empty c.requires)

pub returns-clause-value : goal.returns-clause-value
returns-clause-value c =
    let same : c.units.result.now ≡ c.args.self.now = c.units.ensures ∙ c.self.view_is in
    last_is c.args.t.now c.args.self.now c.args.to c.last_to.result
    (subst (λ (x : List ℕ). IsLast c.args.t.now x c.args.to c.last_to.result) same c.last_to.ensures)
