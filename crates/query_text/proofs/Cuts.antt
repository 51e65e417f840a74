-- Ranges of units, and words among them.
use Rattle.std.proofs.Common.{◌≡◌, ℕ, zero, suc, ◌+◌, ◌-◌, ◌<◌, ◌≤◌, List, [], ◌∷◌, ◌++◌, Bool, true, false, refl, ap, sym, ◌∙◌, subst, length, take, drop, get_or, arith, length-drop, add-one, append-nil, append_assoc}
use Rattle.std.specs.Prelude.{slice_range}
use Rattle.std.proofs.Math.Seq.{drop-cons}
use Rattle.std.proofs.lemmas.List.{drop_all, length-take-le}
use Rattle.std.proofs.lemmas.List.Folds.{drop_split}
use Rattle.query_grammar.specs.Queries.{goes_on, Run, run_ends, run_more, Word, a_word, Name, a_name, in_word, in_name, is_lower}
use Rattle.query_text.specs.Reads.{IsRunAt, IsWordAt, IsNameAt}

take_one_more : (n : ℕ) (us : List ℕ) → n < length us → take (suc n) us ≡ take n us ++ get_or us n 0 ∷ []
take_one_more n [] lt = absurd (omega (arith, lt))
take_one_more zero (u ∷ us) lt = refl
take_one_more (suc n) (u ∷ us) lt = ap (λ l. u ∷ l) (take_one_more n us (omega (arith, lt)))

get_or_drop : (i n : ℕ) (us : List ℕ) → get_or (drop i us) n 0 ≡ get_or us (i + n) 0
get_or_drop zero n us = let e : 0 + n ≡ n = omega arith in rw e refl
get_or_drop (suc i) n [] = refl
get_or_drop (suc i) n (u ∷ us) = let e : suc i + n ≡ suc (i + n) = omega arith in rw e (get_or_drop i n us)

pub range_more : (us : List ℕ) (i j : ℕ) → i ≤ j → j < length us → slice_range us i (j + 1) ≡ slice_range us i j ++ get_or us j 0 ∷ []
range_more us i j le lt =
    let n : (j + 1) - i ≡ suc (j - i) = omega (arith, le) in
    let there : i + (j - i) ≡ j = omega (arith, le) in
    let grown = take_one_more (j - i) (drop i us) (omega (arith, length-drop i us, le, lt)) in
    rw n (grown ∙ ap (λ x. take (j - i) (drop i us) ++ x ∷ []) (get_or_drop i (j - i) us ∙ ap (λ k. get_or us k 0) there))

pub range_none : (us : List ℕ) (i : ℕ) → slice_range us i i ≡ []
range_none us i = let none : i - i ≡ 0 = omega arith in rw none refl

-- the unit at a place, and those behind it
pub unit_at : (us : List ℕ) (i : ℕ) → i < length us → drop i us ≡ get_or us i 0 ∷ drop (i + 1) us
unit_at us i lt = rw add-one (drop-cons us i 0 lt)

pub no_unit_at : (us : List ℕ) (i : ℕ) → length us ≤ i → drop i us ≡ []
no_unit_at us i le = drop_all i us le

pub left_at : (us : List ℕ) (i : ℕ) → i ≤ length us → i + length (drop i us) ≡ length us
left_at us i le = omega (arith, length-drop i us, le)

-- a range, and what stands behind it
pub range_behind : (us : List ℕ) (i j : ℕ) → i ≤ j → j ≤ length us → drop i us ≡ slice_range us i j ++ drop j us
range_behind us i j le within = drop_split us i j le

pub first_at : (p : ℕ → Bool) (us : List ℕ) (at : ℕ) → at < length us → goes_on p (drop at us) ≡ p (get_or us at 0)
first_at p us at lt = ap (goes_on p) (unit_at us at lt)

pub none_at : (p : ℕ → Bool) (us : List ℕ) (at : ℕ) → length us ≤ at → goes_on p (drop at us) ≡ false
none_at p us at le = ap (goes_on p) (no_unit_at us at le)

-- ## Runs

-- a run that is read up to `end`
pub record RunSoFar (us : List ℕ) (p : ℕ → Bool) (at end : ℕ) : Type 0 where
  pub order : at ≤ end
  pub inside : end ≤ length us
  pub reads : (run rest : List ℕ) → Run p (drop end us) run rest → Run p (drop at us) (slice_range us at end ++ run) rest

module _ (us : List ℕ) (p : ℕ → Bool) where
  pub run_begins : (at : ℕ) → at ≤ length us → RunSoFar us p at at
  run_begins at le =
      record { order = omega arith; inside = le; reads = λ run rest h. subst (λ l. Run p (drop at us) (l ++ run) rest) (sym (range_none us at)) h }

  pub run_further : (at end : ℕ) → RunSoFar us p at end → end < length us → p (get_or us end 0) ≡ true → RunSoFar us p at (end + 1)
  run_further at end so_far lt e =
      record {
        order = omega (arith, so_far.order);
        inside = omega (arith, lt);
        reads = λ run rest h.
            (let u = get_or us end 0 in
            let more = so_far.reads (u ∷ run) rest (subst (λ l. Run p l (u ∷ run) rest) (sym (unit_at us end lt)) (run_more e h)) in
            let grown = ap (λ l. l ++ run) (range_more us at end so_far.order lt) ∙ append_assoc (slice_range us at end) (u ∷ []) run in
            subst (λ l. Run p (drop at us) l rest) (sym grown) more);
      }

  pub run_done : (at end : ℕ) → RunSoFar us p at end → goes_on p (drop end us) ≡ false → IsRunAt us p at end
  run_done at end so_far e =
      record {
        order = so_far.order;
        inside = so_far.inside;
        reads = subst (λ l. Run p (drop at us) l (drop end us)) (append-nil (slice_range us at end)) (so_far.reads [] (drop end us) (run_ends e));
      }

  -- a run of no unit
  pub run_none : (at end : ℕ) → IsRunAt us p at end → end ≡ at → goes_on p (drop at us) ≡ false
  run_none at end h e = subst (λ x. goes_on p (drop x us) ≡ false) e (stops h.reads)
    where
      stops : {vs run rest : List ℕ} → Run p vs run rest → goes_on p rest ≡ false
      stops (run_ends g) = g
      stops (run_more g more) = stops more

-- a run of some units is a word
pub word_is : (us : List ℕ) (at end : ℕ) (w : List ℕ) → IsRunAt us in_word at end → (end ≡ at → ⊥) → w ≡ slice_range us at end → IsWordAt us at w end
word_is us at end w h other e =
    record {
      later = omega (arith, h.order, other);
      inside = h.inside;
      reads = subst (λ l. Word (drop at us) l (drop end us)) (sym e) (of_run h.reads (range_length us at end h.order h.inside (omega (arith, h.order, other))));
    }
  where
    range_length : (us : List ℕ) (at end : ℕ) → at ≤ end → end ≤ length us → at < end → 0 < length (slice_range us at end)
    range_length us at end order within lt = omega (arith, length-take-le (end - at) (drop at us) (omega (arith, length-drop at us, within)), lt)

    of_run : {vs run rest : List ℕ} → Run in_word vs run rest → 0 < length run → Word vs run rest
    of_run (run_ends g) some = absurd (omega (arith, some))
    of_run (run_more g more) some = a_word g more

pub name_is : (us : List ℕ) (at end : ℕ) (w : List ℕ) → at < length us → is_lower (get_or us at 0) ≡ true → IsRunAt us in_name (at + 1) end → w ≡ slice_range us at end → IsNameAt us at w end
name_is us at end w lt e h is =
    let u = get_or us at 0 in
    let n : end - at ≡ suc (end - (at + 1)) = omega (arith, h.order) in
    let whole : slice_range us at end ≡ u ∷ slice_range us (at + 1) end = ap (take (end - at)) (unit_at us at lt) ∙ ap (λ k. take k (u ∷ drop (at + 1) us)) n in
    record {
      later = omega (arith, h.order);
      inside = h.inside;
      reads = subst (λ l. Name (drop at us) l (drop end us)) (sym (is ∙ whole)) (subst (λ l. Name l (u ∷ slice_range us (at + 1) end) (drop end us)) (sym (unit_at us at lt)) (a_name e h.reads));
    }
