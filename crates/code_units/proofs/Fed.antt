-- What is still to be fed.
use Rattle.std.proofs.Common.{◌≡◌, ℕ, ◌+◌, ◌<◌, List, [], ◌∷◌, length, drop, get_or, refl, sym, ap, ◌∙◌, arith}
use Rattle.std.proofs.lemmas.List.{drop_more}
use Rattle.std.specs.List.{fold}
use Rattle.std.specs.Hash as fed
use Rattle.code_units.specs.Feeding.{words, word, last, input, writes}

-- up to three units are one word
pub words_last : (us : List ℕ) → length us < 4 → words us ≡ last us ∷ []
unfolding words
words_last [] l = refl
words_last (a ∷ []) l = refl
words_last (a ∷ b ∷ []) l = refl
words_last (a ∷ b ∷ c ∷ []) l = refl
words_last (a ∷ b ∷ c ∷ d ∷ rest) l = absurd (omega (arith, l))

-- one unit is taken
step : (us : List ℕ) (i j : ℕ) → i < length us → j ≡ i + 1 → drop i us ≡ get_or us i 0 ∷ drop j us
step us i j l e = drop_more us i 0 l ∙ ap (λ k. get_or us i 0 ∷ drop k us) (sym e)

-- four units are taken at once
pub drop_four : (us : List ℕ) (i : ℕ) → i + 3 < length us → drop i us ≡ get_or us i 0 ∷ get_or us (i + 1) 0 ∷ get_or us (i + 2) 0 ∷ get_or us (i + 3) 0 ∷ drop (i + 4) us
drop_four us i l =
    step us i (i + 1) (omega (arith, l)) refl
    ∙ ap (λ t. get_or us i 0 ∷ t) (step us (i + 1) (i + 2) (omega (arith, l)) (omega arith)
    ∙ ap (λ t. get_or us (i + 1) 0 ∷ t) (step us (i + 2) (i + 3) (omega (arith, l)) (omega arith)
    ∙ ap (λ t. get_or us (i + 2) 0 ∷ t) (step us (i + 3) (i + 4) l (omega arith))))

module _ {S : Type 0} (write : S → List ℕ → S) where
  -- four units were fed
  pub feed_four : (us : List ℕ) (i w : ℕ) (s t : S) → i + 3 < length us → w ≡ word (get_or us i 0) (get_or us (i + 1) 0) (get_or us (i + 2) 0) (get_or us (i + 3) 0) → t ≡ fold write s (fed.u64 w) → fold write t (input (drop (i + 4) us)) ≡ fold write s (input (drop i us))
  unfolding input words writes
  feed_four us i w s t l e f =
      ap (λ x. fold write x (input (drop (i + 4) us))) (f ∙ ap (λ x. write s (fed.le_bytes 8 x)) e)
      ∙ sym (ap (λ d. fold write s (input d)) (drop_four us i l))

  -- the last word was fed
  pub feed_last : (us : List ℕ) (i w : ℕ) (s t : S) → length (drop i us) < 4 → w ≡ last (drop i us) → t ≡ fold write s (fed.u64 w) → t ≡ fold write s (input (drop i us))
  unfolding input writes
  feed_last us i w s t l e f =
      f ∙ ap (λ x. write s (fed.le_bytes 8 x)) e ∙ sym (ap (λ ws. fold write s (writes ws)) (words_last (drop i us) l))
