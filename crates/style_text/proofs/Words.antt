-- Words among units.
use Rattle.std.proofs.Common.{◌≡◌, ℕ, zero, suc, ◌+◌, ◌-◌, ◌<◌, ◌≤◌, List, [], ◌∷◌, ◌++◌, Bool, true, false, ◌&&◌, ◌||◌, not, refl, ap, sym, ◌∙◌, subst, length, drop, arith, ◌⊎◌, inl, inr}
use Rattle.std.proofs.Math.Seq.{drop-nil}
use Rattle.std.specs.Prelude.{nat_le}
use Rattle.std.specs.List.{list_all}
use Rattle.std.proofs.lemmas.Bool.{cases_lt}
use Rattle.std.proofs.lemmas.Bool.Decides.{nat_tests}
use Rattle.style_text.specs.Styles.{begins_in_any_case, has_word, is_letter}
use Rattle.style_text.specs.Values.{ends_in_word}

-- ## Truth values

pub and_parts : (a b : Bool) → (a && b) ≡ true → (a ≡ true) × (b ≡ true)
and_parts true b e = (refl, e)
and_parts false b e = cc

pub and_made : (a b : Bool) → a ≡ true → b ≡ true → (a && b) ≡ true
and_made a b e f = rw (e, f) refl

pub not_true : (b : Bool) → not b ≡ true → b ≡ false
not_true true e = cc
not_true false e = refl

pub or_split : (a b : Bool) → (a || b) ≡ true → (a ≡ true) ⊎ (b ≡ true)
or_split true b e = inl refl
or_split false b e = inr e

pub or_parts : (a b : Bool) → (a || b) ≡ false → (a ≡ false) × (b ≡ false)
or_parts true b e = cc
or_parts false b e = (refl, e)

pub or_none : (a b : Bool) → a ≡ false → b ≡ false → (a || b) ≡ false
or_none a b e f = rw (e, f) refl

pub or_left : (a b : Bool) → a ≡ true → (a || b) ≡ true
or_left a b e = rw e refl

pub or_right : (a b : Bool) → b ≡ true → (a || b) ≡ true
or_right true b e = refl
or_right false b e = e

and_false : (a : Bool) → (a && false) ≡ false
and_false true = refl
and_false false = refl

or_false : (a : Bool) → (a || false) ≡ a
or_false true = refl
or_false false = refl

or_assoc : (a b c : Bool) → (a || (b || c)) ≡ ((a || b) || c)
or_assoc true b c = refl
or_assoc false b c = refl

-- ## A word among units

pub begins_far : (word us : List ℕ) (at : ℕ) → at < length word → length us ≤ at → begins_in_any_case (drop at word) (drop at us) ≡ false
begins_far [] us at lt le = absurd (omega (arith, lt))
begins_far (c ∷ word) [] zero lt le = refl
begins_far (c ∷ word) [] (suc at) lt le = subst (λ w. begins_in_any_case (drop at word) w ≡ false) (drop-nil at) (begins_far word [] at (omega (arith, lt)) (omega arith))
begins_far (c ∷ word) (u ∷ us) zero lt le = absurd (omega (arith, le))
begins_far (c ∷ word) (u ∷ us) (suc at) lt le = begins_far word us at (omega (arith, lt)) (omega (arith, le))

-- no word at a place: it stands behind, if anywhere
pub has_word_later : (word us : List ℕ) (at : ℕ) → at < length us → begins_in_any_case word (drop at us) ≡ false → has_word word (drop at us) ≡ has_word word (drop (suc at) us)
has_word_later word [] at lt none = absurd (omega (arith, lt))
has_word_later word (u ∷ us) zero lt none = rw none refl
has_word_later word (u ∷ us) (suc at) lt none = has_word_later word us at (omega (arith, lt)) none

-- units that are too few
too_few : (word us : List ℕ) → length us < length word → begins_in_any_case word us ≡ false
too_few [] us lt = absurd (omega (arith, lt))
too_few (c ∷ word) [] lt = refl
too_few (c ∷ word) (u ∷ us) lt = rw (too_few word us (omega (arith, lt))) (and_false (is_letter c u))

has_too_few : (word us : List ℕ) → length us < length word → has_word word us ≡ false
has_too_few word [] lt = refl
has_too_few word (u ∷ us) lt =
    let far : begins_in_any_case word (u ∷ us) ≡ false = too_few word (u ∷ us) lt in
    rw far (has_too_few word us (omega (arith, lt)))

-- enough units do not depend on those behind
enough : (word us vs : List ℕ) → length word ≤ length us → begins_in_any_case word (us ++ vs) ≡ begins_in_any_case word us
enough [] us vs le = refl
enough (c ∷ word) [] vs le = absurd (omega (arith, le))
enough (c ∷ word) (u ∷ us) vs le = ap (λ b. is_letter c u && b) (enough word us vs (omega (arith, le)))

-- ## A word at the end

ends_further : (word : List ℕ) (v : ℕ) (us : List ℕ) → length word ≤ length us → ends_in_word word (v ∷ us) ≡ ends_in_word word us
ends_further word v us le =
    let e : suc (length us) - length word ≡ suc (length us - length word) = omega (arith, le) in
    let fits : nat_le (length word) (length us) ≡ true = grind (arith, nat_tests) in
    let more : nat_le (length word) (suc (length us)) ≡ true = grind (arith, nat_tests) in
    rw (e, fits, more) refl

ends_whole : (word us : List ℕ) → length word ≡ length us → ends_in_word word us ≡ begins_in_any_case word us
ends_whole word us e =
    let none : length us - length word ≡ 0 = omega (arith, e) in
    let fits : nat_le (length word) (length us) ≡ true = grind (arith, nat_tests) in
    rw (none, fits) refl

ends_too_few : (word us : List ℕ) → length us < length word → ends_in_word word us ≡ false
ends_too_few word us lt =
    let none : nat_le (length word) (length us) ≡ false = grind (arith, nat_tests) in
    rw none refl

length_one_more : (us : List ℕ) (u : ℕ) → length (us ++ u ∷ []) ≡ suc (length us)
length_one_more [] u = refl
length_one_more (v ∷ us) u = ap suc (length_one_more us u)

-- one more unit has a word, or ends one
pub has_word_last : (word us : List ℕ) (u : ℕ) → has_word word (us ++ u ∷ []) ≡ (has_word word us || ends_in_word word (us ++ u ∷ []))
has_word_last [] [] u = refl
has_word_last (c ∷ []) [] u = or_false (is_letter c u && true)
has_word_last (c ∷ d ∷ word) [] u = rw (too_few (c ∷ d ∷ word) (u ∷ []) (omega arith), ends_too_few (c ∷ d ∷ word) (u ∷ []) (omega arith)) refl
has_word_last word (v ∷ us) u =
    let n = length_one_more us u in
    elim (cases_lt (length us + 1) (length word)) [
      | inr le ↦
          (let here : begins_in_any_case word (v ∷ us ++ u ∷ []) ≡ begins_in_any_case word (v ∷ us) = enough word (v ∷ us) (u ∷ []) (omega (arith, le)) in
          let far : ends_in_word word (v ∷ us ++ u ∷ []) ≡ ends_in_word word (us ++ u ∷ []) = ends_further word v (us ++ u ∷ []) (omega (arith, le, n)) in
          rw (here, far, has_word_last word us u) (or_assoc (begins_in_any_case word (v ∷ us)) (has_word word us) (ends_in_word word (us ++ u ∷ []))))
      | inl lt ↦
          (let none : begins_in_any_case word (v ∷ us) ≡ false = too_few word (v ∷ us) (omega (arith, lt)) in
          let later : has_word word us ≡ false = has_too_few word us (omega (arith, lt)) in
          let behind : has_word word (us ++ u ∷ []) ≡ false = has_too_few word (us ++ u ∷ []) (omega (arith, lt, n)) in
          let same : begins_in_any_case word (v ∷ us ++ u ∷ []) ≡ ends_in_word word (v ∷ us ++ u ∷ []) =
          elim (cases_lt (length us + 2) (length word)) [
            | inl longer ↦ too_few word (v ∷ us ++ u ∷ []) (omega (arith, longer, n)) ∙ sym (ends_too_few word (v ∷ us ++ u ∷ []) (omega (arith, longer, n)))
            | inr not_longer ↦ sym (ends_whole word (v ∷ us ++ u ∷ []) (omega (arith, not_longer, lt, n)))
          ] in
          rw (none, later, behind, same) (or_false (ends_in_word word (v ∷ us ++ u ∷ []))))
    ]

-- what has a word has it with more units behind
begins_more : (word us vs : List ℕ) → begins_in_any_case word us ≡ true → begins_in_any_case word (us ++ vs) ≡ true
begins_more [] us vs h = refl
begins_more (c ∷ word) [] vs h = cc
begins_more (c ∷ word) (u ∷ us) vs h = let p = and_parts (is_letter c u) _ h in and_made (is_letter c u) _ (p.0) (begins_more word us vs (p.1))

either : (a b c d : Bool) → (a || b) ≡ true → (a ≡ true → c ≡ true) → (b ≡ true → d ≡ true) → (c || d) ≡ true
either true b c d h f g = rw (f refl) refl
either false b c d h f g = or_right c d (g h)

has_word_more : (word us vs : List ℕ) → has_word word us ≡ true → has_word word (us ++ vs) ≡ true
has_word_more word [] vs h = cc
has_word_more word (u ∷ us) vs h = either (begins_in_any_case word (u ∷ us)) (has_word word us) _ _ h (begins_more word (u ∷ us) vs) (has_word_more word us vs)

-- what has no word has none in its first units
pub no_word_before : (word us vs : List ℕ) → has_word word (us ++ vs) ≡ false → has_word word us ≡ false
no_word_before word us vs h = in_front (has_word word us) refl
  where
    in_front : (b : Bool) → has_word word us ≡ b → has_word word us ≡ false
    in_front false e = e
    in_front true e = let more = has_word_more word us vs e in cc

-- ## A space

abbrev no_space : List ℕ → Bool
no_space word = list_all (λ c. not (is_letter c 32)) word

begins_space : (word us : List ℕ) → no_space word ≡ true → begins_in_any_case word (us ++ 32 ∷ []) ≡ begins_in_any_case word us
begins_space [] us h = refl
begins_space (c ∷ word) [] h = let none = not_true (is_letter c 32) (and_parts (not (is_letter c 32)) _ h).0 in rw none refl
begins_space (c ∷ word) (u ∷ us) h = ap (λ b. is_letter c u && b) (begins_space word us (and_parts (not (is_letter c 32)) _ h).1)

-- a space ends no word without spaces
pub word_space : (word us : List ℕ) → no_space word ≡ true → 0 < length word → has_word word us ≡ false → has_word word (us ++ 32 ∷ []) ≡ false
word_space [] us h some none = absurd (omega (arith, some))
word_space (c ∷ word) [] h some none = let alone = not_true (is_letter c 32) (and_parts (not (is_letter c 32)) _ h).0 in rw alone refl
word_space (c ∷ word) (u ∷ us) h some none =
    let p = or_parts (begins_in_any_case (c ∷ word) (u ∷ us)) (has_word (c ∷ word) us) none in
    let first = begins_space (c ∷ word) (u ∷ us) h ∙ p.0 in
    or_none (begins_in_any_case (c ∷ word) (u ∷ us ++ 32 ∷ [])) _ first (word_space (c ∷ word) us h some (p.1))
