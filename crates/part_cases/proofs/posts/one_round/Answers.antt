use Rattle.std.proofs.Common.{◌≡◌, ℕ, List, [], ◌∷◌, refl, sym, ◌∙◌, subst}
use Rattle.std.specs.List.{IsDistinct}
use Rattle.std.specs.Str.{bytes_eq}
use Rattle.part_cases.proofs.posts.one_round.Goals as goal

apart : (names : List (List ℕ)) (first second : List ℕ) → names ≡ first ∷ second ∷ [] → first ≡ 83 ∷ 95 ∷ [] → second ≡ 82 ∷ 95 ∷ [] → IsDistinct bytes_eq names
unfolding IsDistinct
apart names first second are one other =
    let all : names ≡ (83 ∷ 95 ∷ []) ∷ (82 ∷ 95 ∷ []) ∷ [] = are ∙ (λ i. one i ∷ other i ∷ []) in
    subst (λ (list : List (List ℕ)). IsDistinct bytes_eq list) (sym all) ((refl, tt), (tt, tt))

pub round-requires-clause-apart : goal.round-requires-clause-apart
round-requires-clause-apart c = apart c.deref.result.now c.in_ok-text_of.field-0 c.in_ok-text_of-2.field-0 (c.deref.ensures.value ∙ c.in_ok-names.ensures.items) c.in_ok-text_of.ensures c.in_ok-text_of-2.ensures
