-- Words at places of a text.
use Rattle.std.proofs.Common.{◌≡◌, ℕ, zero, suc, ◌<◌, ◌≤◌, ◌-◌, List, [], ◌∷◌, length, drop, false, refl, subst, arith, length-drop}
use Rattle.std.specs.Prelude.{slice_range}
use Rattle.std.proofs.lemmas.List.{take_all}
use Rattle.markup_rules.specs.Words.{begins_with, has_word, is_own_id}
use Rattle.std.proofs.Math.Seq.{drop-nil}

pub range_rest : (us : List ℕ) (i : ℕ) → slice_range us i (length us) ≡ drop i us
range_rest us i = take_all (length us - i) (drop i us) (omega (arith, length-drop i us))

-- the units end before the word
pub begins_far : (word us : List ℕ) (at : ℕ) → at < length word → length us ≤ at → begins_with (drop at word) (drop at us) ≡ false
begins_far [] us at lt le = absurd (omega (arith, lt))
begins_far (c ∷ word) [] zero lt le = refl
begins_far (c ∷ word) [] (suc at) lt le = subst (λ w. begins_with (drop at word) w ≡ false) (drop-nil at) (begins_far word [] at (omega (arith, lt)) (omega arith))
begins_far (c ∷ word) (u ∷ us) zero lt le = absurd (omega (arith, le))
begins_far (c ∷ word) (u ∷ us) (suc at) lt le = begins_far word us at (omega (arith, lt)) (omega (arith, le))

-- no word at a place: it stands behind, if anywhere
pub has_word_later : (word us : List ℕ) (at : ℕ) → at < length us → begins_with word (drop at us) ≡ false → has_word word (drop at us) ≡ has_word word (drop (suc at) us)
has_word_later word [] at lt none = absurd (omega (arith, lt))
has_word_later word (u ∷ us) zero lt none = rw none refl
has_word_later word (u ∷ us) (suc at) lt none = has_word_later word us at (omega (arith, lt)) none

-- the units end before the slot's name
pub own_far : (name us : List ℕ) (at : ℕ) → at < length name → length us ≤ at → is_own_id (drop at name) (drop at us) ≡ false
own_far [] us at lt le = absurd (omega (arith, lt))
own_far (n ∷ name) [] zero lt le = refl
own_far (n ∷ name) [] (suc at) lt le = subst (λ w. is_own_id (drop at name) w ≡ false) (drop-nil at) (own_far name [] at (omega (arith, lt)) (omega arith))
own_far (n ∷ name) (u ∷ us) zero lt le = absurd (omega (arith, le))
own_far (n ∷ name) (u ∷ us) (suc at) lt le = own_far name us at (omega (arith, lt)) (omega (arith, le))
