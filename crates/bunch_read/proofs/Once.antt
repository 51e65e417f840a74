-- What a query finds has each node once.
use Rattle.std.proofs.Common.{◌≡◌, ℕ, ◌+◌, ◌≤◌, List, [], ◌∷◌, ◌++◌, Bool, true, false, refl, sym, ap, ◌∙◌, map, take, drop, eqb, eqb-true, eq-eqb, arith, if◌then◌else◌, Option, ◌||◌}
use Rattle.std.specs.Prelude.{◌==◌, ◌%◌}
use Rattle.std.specs.List.{AllByRecursion, IsDistinct, enumerate_from, filter, flat_map}
use Rattle.std.proofs.lemmas.Map.Keys.{IsDistinct-head, IsDistinct-tail}
use Rattle.query_grammar.specs.declared.query.ListFilter.{ListFilter}
use Rattle.query_grammar.specs.declared.query.ListFilter.TheVariants as on_list
use Rattle.query_grammar.specs.declared.query.StepFilter.{StepFilter}
use Rattle.query_grammar.specs.declared.query.StepFilter.TheVariants as kind
use Rattle.query_grammar.specs.Filters.{Look}
use Rattle.query_grammar.specs.Finds.{Sight, all_filtered, filtered, finds, has_number, hunted, in_order, passes, sifted}
use Rattle.query_grammar.specs.Steps.{Step}

no_true : false ≡ true → ⊥
no_true e = cc

-- one where it is so
abbrev pub tally : Bool → ℕ
tally true = 1
tally false = 0

-- how often a number stands in a list
abbrev pub often : ℕ → List ℕ → ℕ
often n [] = 0
often n (x ∷ xs) = tally (eqb n x) + often n xs

pub filter_less : (n : ℕ) (p : ℕ → Bool) (xs : List ℕ) → often n (filter p xs) ≤ often n xs
filter_less n p [] = omega arith
filter_less n p (x ∷ xs) = by (p x) (filter_less n p xs)
  where
    by : (b : Bool) → often n (filter p xs) ≤ often n xs → often n (if b then x ∷ filter p xs else filter p xs) ≤ tally (eqb n x) + often n xs
    by true h = omega (arith, h)
    by false h = omega (arith, h)

take_less : (n : ℕ) (xs : List ℕ) → often n (take 1 xs) ≤ often n xs
take_less n [] = omega arith
take_less n (x ∷ xs) = omega arith

drop_less : (n : ℕ) (xs : List ℕ) → often n (drop 1 xs) ≤ often n xs
drop_less n [] = omega arith
drop_less n (x ∷ xs) = omega arith

places_less : (n r k : ℕ) (xs : List ℕ) → often n (map (λ p. p.1) (filter (λ (p : ℕ × ℕ). p.0 % 2 == r) (enumerate_from k xs))) ≤ often n xs
places_less n r k [] = omega arith
places_less n r k (x ∷ xs) = by (k % 2 == r) (places_less n r (k + 1) xs)
  where
    by : (b : Bool) → often n (map (λ p. p.1) (filter (λ (p : ℕ × ℕ). p.0 % 2 == r) (enumerate_from (k + 1) xs))) ≤ often n xs → often n (map (λ p. p.1) (if b then (k, x) ∷ filter (λ (p : ℕ × ℕ). p.0 % 2 == r) (enumerate_from (k + 1) xs) else filter (λ (p : ℕ × ℕ). p.0 % 2 == r) (enumerate_from (k + 1) xs))) ≤ tally (eqb n x) + often n xs
    by true h = omega (arith, h)
    by false h = omega (arith, h)

sifted_less : (n : ℕ) (f : ListFilter) (xs : List ℕ) → often n (sifted f xs) ≤ often n xs
sifted_less n on_list.First xs = take_less n xs
sifted_less n on_list.Rest xs = drop_less n xs
sifted_less n on_list.Even xs = places_less n 0 0 xs
sifted_less n on_list.Odd xs = places_less n 1 0 xs

filtered_less : (look : ℕ → Look) (focus : Option ℕ) (n : ℕ) (fs : List StepFilter) (xs : List ℕ) → often n (all_filtered look focus fs xs) ≤ often n xs
filtered_less look focus n [] xs = omega arith
filtered_less look focus n (f ∷ fs) xs = omega (arith, filtered_less look focus n fs (filtered look focus f xs), one f)
  where
    one : (f : StepFilter) → often n (filtered look focus f xs) ≤ often n xs
    one (kind.Node g) = filter_less n (passes look focus g) xs
    one (kind.List g) = sifted_less n g xs

-- each number once
abbrev pub Once : List ℕ → Type 0
Once xs = (n : ℕ) → often n xs ≤ 1

pub finds_once : (s : Sight) → Once s.document → (qs : List Step) (ns : List ℕ) → Once ns → Once (finds s ns qs)
finds_once s d [] ns h = h
finds_once s d (q ∷ qs) ns h =
    let found : List ℕ = flat_map (hunted s.links q.hunter) ns in
    finds_once s d qs (all_filtered s.links.look s.focus q.filters (in_order s.document found))
    (λ n. omega (arith, filtered_less s.links.look s.focus n q.filters (in_order s.document found), filter_less n (has_number found) s.document, d n))

-- ## Lists whose elements differ

none_often : (n : ℕ) (xs : List ℕ) → AllByRecursion (λ y. eqb n y ≡ false) xs → often n xs ≡ 0
none_often n [] h = refl
none_often n (x ∷ xs) h = let z : tally (eqb n x) ≡ 0 = ap tally h.0 in omega (arith, z, none_often n xs h.1)

often_none : (n : ℕ) (xs : List ℕ) → often n xs ≡ 0 → AllByRecursion (λ y. eqb n y ≡ false) xs
often_none n [] h = tt
often_none n (x ∷ xs) h = by (eqb n x) refl h (often_none n xs)
  where
    by : (b : Bool) → eqb n x ≡ b → tally b + often n xs ≡ 0 → (often n xs ≡ 0 → AllByRecursion (λ y. eqb n y ≡ false) xs) → (eqb n x ≡ false) × AllByRecursion (λ y. eqb n y ≡ false) xs
    by true e g rest = absurd (omega (arith, g))
    by false e g rest = (e, rest (omega (arith, g)))

pub once_distinct : (xs : List ℕ) → IsDistinct eqb xs → Once xs
once_distinct [] d n = omega arith
once_distinct (x ∷ xs) d n = by (eqb n x) refl (once_distinct xs (IsDistinct-tail eqb x xs d) n)
  where
    by : (b : Bool) → eqb n x ≡ b → often n xs ≤ 1 → tally b + often n xs ≤ 1
    by true e rest =
        let none : often x xs ≡ 0 = none_often x xs (IsDistinct-head eqb x xs d) in
        let same : often n xs ≡ often x xs = ap (λ m. often m xs) (eqb-true n x e) in
        omega (arith, none, same)
    by false e rest = omega (arith, rest)

pub distinct_once : (xs : List ℕ) → Once xs → IsDistinct eqb xs
unfolding IsDistinct
distinct_once [] h = tt
distinct_once (x ∷ xs) h =
    let self : eqb x x ≡ true = eq-eqb x x refl in
    let here : tally (eqb x x) + often x xs ≡ 1 + often x xs = λ j. tally (self j) + often x xs in
    (often_none x xs (omega (arith, h x, here)), distinct_once xs (λ n. omega (arith, h n)))

pub none_has : (n : ℕ) (xs : List ℕ) → has_number xs n ≡ false → often n xs ≡ 0
none_has n [] h = refl
none_has n (x ∷ xs) h = by (eqb n x) h (none_has n xs)
  where
    by : (b : Bool) → (b || has_number xs n) ≡ false → (has_number xs n ≡ false → often n xs ≡ 0) → tally b + often n xs ≡ 0
    by true g rest = absurd (no_true (sym g))
    by false g rest = omega (arith, rest g)

-- one number more
often_push : (n y : ℕ) (xs : List ℕ) → often n (xs ++ y ∷ []) ≡ often n xs + tally (eqb n y)
often_push n y [] = omega arith
often_push n y (x ∷ xs) = omega (arith, often_push n y xs)

pub distinct_push : (xs : List ℕ) (y : ℕ) → IsDistinct eqb xs → has_number xs y ≡ false → IsDistinct eqb (xs ++ y ∷ [])
distinct_push xs y d new = distinct_once (xs ++ y ∷ []) (λ n. by n (eqb n y) refl)
  where
    by : (n : ℕ) (b : Bool) → eqb n y ≡ b → often n (xs ++ y ∷ []) ≤ 1
    by n true e =
        let same : often n xs ≡ often y xs = ap (λ m. often m xs) (eqb-true n y e) in
        let one : tally (eqb n y) ≡ 1 = ap tally e in
        omega (arith, same, one, none_has y xs new, often_push n y xs)
    by n false e =
        let none : tally (eqb n y) ≡ 0 = ap tally e in
        omega (arith, none, once_distinct xs d n, often_push n y xs)

-- a list whose numbers differ differs itself
pub mapped_distinct : (f : ℕ → ℕ) (xs : List ℕ) → IsDistinct eqb (map f xs) → IsDistinct eqb xs
unfolding IsDistinct
mapped_distinct f [] d = tt
mapped_distinct f (x ∷ xs) d = (all xs d.0, mapped_distinct f xs d.1)
  where
    all : (ys : List ℕ) → AllByRecursion (λ y. eqb (f x) y ≡ false) (map f ys) → AllByRecursion (λ y. eqb x y ≡ false) ys
    all [] h = tt
    all (y ∷ ys) h = (by (eqb x y) refl h.0, all ys h.1)
      where
        by : (b : Bool) → eqb x y ≡ b → eqb (f x) (f y) ≡ false → eqb x y ≡ false
        by true e g = absurd (no_true (sym g ∙ eq-eqb (f x) (f y) (ap f (eqb-true x y e))))
        by false e g = e
