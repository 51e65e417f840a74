-- Each text has an answer, which is the machine's.
use Rattle.std.proofs.Common.{◌≡◌, ℕ, suc, ◌+◌, ◌-◌, ◌≤◌, ◌⊎◌, inl, inr, List, [], ◌∷◌, Option, Some, None, refl, ap, ◌∙◌, length, arith}
use Rattle.exact_refusals.specs.Judge as judge
use Rattle.exact_refusals.specs.Judge.{Outcome, Read, Refused, Deeper}
use Rattle.exact_refusals.specs.Plain.{at_no_depth, outcome}
use Rattle.query_grammar.specs.Steps.{Step}
use Rattle.query_grammar.specs.Queries.{QuerySpells, BadQueryPlace}
use Rattle.query_grammar.specs.Machine.{State, step, done, judged}
use Rattle.query_grammar.proofs.Exact.{refused_is, one_place, no_query}
use Rattle.query_grammar.proofs.Sound.{sound}

-- no more units are left than there are, and none is too deep
abbrev Left : ℕ → Outcome (List Step) → Type 0
Left m (Read steps) = Unit {0}
Left m (Refused n) = n ≤ m
Left m (Deeper n) = ⊥

left_more : (m : ℕ) (o : Outcome (List Step)) → Left m o → Left (suc m) o
left_more m (Read steps) h = tt
left_more m (Refused n) h = omega (arith, h)
left_more m (Deeper n) h = absurd h

left_end : (r : Option (List Step)) → Left 0 (judge.ended r)
left_end (Some steps) = tt
left_end None = omega arith

left_in : (st : State) (us : List ℕ) → Left (length us) (outcome step done st us)
left_in st [] = left_end (done st)
left_in st (u ∷ us) = by_step (step st u) (λ next. left_in next us)
  where
    by_step : (r : Option State) → ((next : State) → Left (length us) (outcome step done next us)) → Left (suc (length us)) (judge.judge_step 0 (at_no_depth r) (suc (length us)) (λ next. outcome step done next us))
    by_step None more = omega arith
    by_step (Some next) more = left_more (length us) (outcome step done next us) (more next)

answer_of : (us : List ℕ) (o : Outcome (List Step)) → judged us ≡ o → Left (length us) o → ((steps : List Step) × QuerySpells us steps) ⊎ ((at : ℕ) × BadQueryPlace us at)
answer_of us (Read steps) is h = inl (steps, sound us steps is)
answer_of us (Refused n) is h = inr (length us - n, refused_is us n (length us - n) is (omega (arith, h)))
answer_of us (Deeper n) is h = absurd h

pub answer : (us : List ℕ) → ((steps : List Step) × QuerySpells us steps) ⊎ ((at : ℕ) × BadQueryPlace us at)
answer us = answer_of us (judged us) refl (left_in _ us)

-- a text that is refused at a place is refused there by the machine
pub refuses : (us : List ℕ) (left at : ℕ) → at + left ≡ length us → BadQueryPlace us at → judged us ≡ Refused left
refuses us left at place bad = by_outcome (judged us) refl (left_in _ us)
  where
    by_outcome : (o : Outcome (List Step)) → judged us ≡ o → Left (length us) o → judged us ≡ Refused left
    by_outcome (Read steps) is h = absurd (no_query us at steps bad (sound us steps is))
    by_outcome (Refused n) is h =
        let same : at ≡ length us - n = one_place us at (length us - n) bad (refused_is us n (length us - n) is (omega (arith, h))) in
        is ∙ ap Refused (omega (arith, h, place, same))
    by_outcome (Deeper n) is h = absurd h
