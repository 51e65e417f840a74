-- Which of the words that are wanted a text has.
use Rattle.std.proofs.Common.{◌≡◌, ℕ, zero, suc, ◌+◌, ◌<◌, ◌≤◌, List, [], ◌∷◌, ◌++◌, Bool, true, false, not, ◌||◌, refl, sym, ap, ◌∙◌, subst, length, length-append, take, drop, map, get_or, cond, arith}
use Rattle.std.specs.Prelude.{set, replicate, ◌==◌}
use Rattle.std.specs.List.{filter, list_any, position_or_len, IsDistinct, AllByRecursion}
use Rattle.std.specs.Str.{bytes_eq}
use Rattle.std.specs.Cmp.Lexicographic.{bytes_decides}
use Rattle.std.proofs.Math.Seq.{take-append_seam, drop-append_seam}
use Rattle.std.proofs.lemmas.List.{take_all, at_drop_more, length-map, map-append}
use Rattle.std.proofs.lemmas.Map.Keys.{IsDistinct-head, IsDistinct-tail}
use Rattle.query_grammar.specs.declared.query.StepFilter.{StepFilter}
use Rattle.query_grammar.specs.Filters.{words}
use Rattle.query_walks.specs.Classes.{class_word, class_words}
use Rattle.query_walks.proofs.Between.{whole, parts}

-- ## Marks

pub mark_lowers : (bs : List Bool) (i : ℕ) (d : Bool) → i < length bs → get_or bs i d ≡ false → length (filter not bs) ≡ length (filter not (set bs i true)) + 1
mark_lowers [] i d lt h = absurd (omega (arith, lt))
mark_lowers (true ∷ bs) zero d lt h = cc
mark_lowers (false ∷ bs) zero d lt h = omega arith
mark_lowers (true ∷ bs) (suc i) d lt h = mark_lowers bs i d (omega (arith, lt)) h
mark_lowers (false ∷ bs) (suc i) d lt h = let more = mark_lowers bs i d (omega (arith, lt)) h in omega (arith, more)

-- ## Words of a text

same_both : (w k : List ℕ) → bytes_eq w k ≡ false → bytes_eq k w ≡ false
same_both w k h = by_test (bytes_eq k w) refl
  where
    by_test : (b : Bool) → bytes_eq k w ≡ b → b ≡ false
    by_test true e = sym ((bytes_decides w k).1 (sym ((bytes_decides k w).0 e))) ∙ h
    by_test false e = refl

-- for each word its mark, or else what comes, tells whether all has it
abbrev pub Tell : (List ℕ → Bool) → (List ℕ → Bool) → List (List ℕ) → List Bool → Type 0
Tell later all [] [] = Unit {0}
Tell later all (k ∷ ks) (b ∷ bs) = ((b || later k) ≡ all k) × Tell later all ks bs
Tell later all _ _ = ⊥

pub none_marked : (all : List ℕ → Bool) (ks : List (List ℕ)) → Tell all all ks (replicate (length ks) false)
none_marked all [] = tt
none_marked all (k ∷ ks) = (refl, none_marked all ks)

pub none_has : (ks : List (List ℕ)) → replicate (length ks) false ≡ map (λ k. false) ks
none_has [] = refl
none_has (k ∷ ks) = ap (λ l. false ∷ l) (none_has ks)

pub all_left : {A : Type 0} (ks : List A) → length (filter not (replicate (length ks) false)) ≡ length ks
all_left [] = refl
all_left (k ∷ ks) = ap suc (all_left ks)

-- a word of which nothing else is to come is marked
module _ (w : List ℕ) (before later all : List ℕ → Bool) (next : (k : List ℕ) → before k ≡ (bytes_eq k w || later k)) where
  unwanted : (ks : List (List ℕ)) (bs : List Bool) → AllByRecursion (λ k. bytes_eq w k ≡ false) ks → Tell before all ks bs → Tell later all ks bs
  unwanted [] [] none t = tt
  unwanted [] (b ∷ bs) none t = t
  unwanted (k ∷ ks) [] none t = t
  unwanted (k ∷ ks) (b ∷ bs) none t = (
    ap (λ c. b || (c || later k)) (sym (same_both w k (none.0))) ∙ ap (λ c. b || c) (sym (next k)) ∙ t.0,
    unwanted ks bs (none.1) (t.1),
  )

  pub word_marked : (ks : List (List ℕ)) (bs : List Bool) → IsDistinct bytes_eq ks → Tell before all ks bs → Tell later all ks (set bs (position_or_len (bytes_eq w) ks) true)
  word_marked [] [] distinct t = tt
  word_marked [] (b ∷ bs) distinct t = absurd t
  word_marked (k ∷ ks) [] distinct t = absurd t
  word_marked (k ∷ ks) (b ∷ bs) distinct t = by_test (bytes_eq w k) refl (word_marked ks bs (IsDistinct-tail bytes_eq k ks distinct) (t.1))
    where
      or_true : (b : Bool) → true ≡ (b || true)
      or_true true = refl
      or_true false = refl

      behind : (n : ℕ) → set (b ∷ bs) (1 + n) true ≡ b ∷ set bs n true
      behind n = let one : 1 + n ≡ suc n = omega arith in ap (λ m. set (b ∷ bs) m true) one

      by_test : (c : Bool) → bytes_eq w k ≡ c → Tell later all ks (set bs (position_or_len (bytes_eq w) ks) true) → Tell later all (k ∷ ks) (set (b ∷ bs) (cond (not c) (1 + position_or_len (bytes_eq w) ks) 0) true)
      by_test true e more =
          let same = (bytes_decides w k).0 e in (
            or_true b ∙ ap (λ c. b || (c || later k)) (sym ((bytes_decides k w).1 (sym same))) ∙ ap (λ c. b || c) (sym (next k)) ∙ t.0,
            unwanted ks bs (subst (λ v. AllByRecursion (λ y. bytes_eq v y ≡ false) ks) (sym same) (IsDistinct-head bytes_eq k ks distinct)) (t.1),
          )
      by_test false e more = subst (λ l. Tell later all (k ∷ ks) l) (sym (behind (position_or_len (bytes_eq w) ks))) (ap (λ c. b || (c || later k)) (sym (same_both w k e)) ∙ ap (λ c. b || c) (sym (next k)) ∙ t.0, more)

-- ## The last word, and others

or_none : (b : Bool) → b ≡ (b || false)
or_none true = refl
or_none false = refl

pub all_told : (all : List ℕ → Bool) (ks : List (List ℕ)) (bs : List Bool) → Tell (λ k. false) all ks bs → bs ≡ map all ks
all_told all [] [] t = refl
all_told all [] (b ∷ bs) t = absurd t
all_told all (k ∷ ks) [] t = absurd t
all_told all (k ∷ ks) (b ∷ bs) t = λ i. (or_none b ∙ t.0) i ∷ all_told all ks bs (t.1) i

pub all_marked : (later all : List ℕ → Bool) (ks : List (List ℕ)) (bs : List Bool) → length (filter not bs) ≡ 0 → Tell later all ks bs → bs ≡ map all ks
all_marked later all [] [] none t = refl
all_marked later all [] (b ∷ bs) none t = absurd t
all_marked later all (k ∷ ks) [] none t = absurd t
all_marked later all (k ∷ ks) (true ∷ bs) none t = λ i. (t.0) i ∷ all_marked later all ks bs none (t.1) i
all_marked later all (k ∷ ks) (false ∷ bs) none t = absurd (omega (arith, none))

pub same_length : (later all : List ℕ → Bool) (ks : List (List ℕ)) (bs : List Bool) → Tell later all ks bs → length bs ≡ length ks
same_length later all [] [] t = refl
same_length later all [] (b ∷ bs) t = absurd t
same_length later all (k ∷ ks) [] t = absurd t
same_length later all (k ∷ ks) (b ∷ bs) t = ap suc (same_length later all ks bs (t.1))

-- whether a word is among those of a text
abbrev pub among : List ℕ → List ℕ → Bool
among us k = list_any (bytes_eq k) (words us)

module _ (us w : List ℕ) (end : ℕ) (is : w ≡ take end us) (at : end ≡ position_or_len (λ u. u == 32) us) where
  pub last_among : end ≡ length us → (k : List ℕ) → among us k ≡ (bytes_eq k w || false)
  last_among ends k = ap (list_any (bytes_eq k)) (whole us (sym ends ∙ at)) ∙ ap (λ v. bytes_eq k v || false) (sym (is ∙ take_all end us (omega (arith, ends))))

  pub next_among : end < length us → (k : List ℕ) → among us k ≡ (bytes_eq k w || among (drop (end + 1) us) k)
  next_among lt k = ap (list_any (bytes_eq k)) (parts us end at lt) ∙ ap (λ v. bytes_eq k v || among (drop (end + 1) us) k) (sym is)

-- ## The marks of filters

module _ (has : List ℕ → Bool) (fs : List StepFilter) (i : ℕ) (f : StepFilter) (marks : List Bool) (lt : i < length fs) (is : f ≡ get_or fs i f) (told : marks ≡ map has (class_words (drop i fs))) where
  abbrev ones : List Bool
  ones = map has (class_word f)

  abbrev others : List Bool
  others = map has (class_words (drop (i + 1) fs))

  split : marks ≡ ones ++ others
  split = told ∙ at_drop_more (λ l. map has (class_words l)) fs i f lt
      ∙ ap (λ g. map has (class_words (g ∷ drop (i + 1) fs))) (sym is)
      ∙ map-append has (class_word f) (class_words (drop (i + 1) fs))

  many : length ones ≡ length (class_word f)
  many = length-map (class_word f) has

  pub marks_first : take (length (class_word f)) marks ≡ ones
  marks_first = (λ j. take (sym many j) (split j)) ∙ take-append_seam ones others

  pub marks_later : drop (length (class_word f)) marks ≡ others
  marks_later = (λ j. drop (sym many j) (split j)) ∙ drop-append_seam ones others

  pub marks_enough : length (class_word f) ≤ length marks
  marks_enough = omega (arith, many, ap length split, length-append ones others)
