-- Laws on lists of which no two are the same.
use Rattle.std.proofs.Common.{◌≡◌, ℕ, ◌<◌, ◌≤◌, Bool, true, false, not, ◌&&◌, ◌||◌, List, [], ◌∷◌, ◌++◌, length, nat_le, bytes_eq, refl, sym, ap, ◌∙◌, arith}
use Rattle.std.proofs.lemmas.Bool.Decides.{nat_tests}
use Rattle.std.proofs.lemmas.List.{length-append}
use Rattle.std.proofs.lemmas.List.Folds.{list_any-append}
use Rattle.std.specs.List.{list_any}
use Rattle.manifest_shape.specs.Distinct.{distinct}
use Rattle.manifest_shape.specs.Slots.{are_slots}
use Rattle.json_shapes.proofs.KeyLemmas.{both_true}

pub and_true : (a b : Bool) → a ≡ true → b ≡ true → (a && b) ≡ true
and_true true b p q = q
and_true false b p q = p

pub and_false : (a b : Bool) → b ≡ false → (a && b) ≡ false
and_false true b q = q
and_false false b q = refl

not_either : (a b : Bool) → not (a || b) ≡ true → not a ≡ true
not_either true b p = p
not_either false b p = refl

mix : (a b c d : Bool) → (not (a || b) && (c && not d)) ≡ ((not a && c) && not (b || d))
mix true b c d = refl
mix false true true d = refl
mix false true false d = refl
mix false false c d = refl

-- the front of such a list is one
pub distinct_front : {X : Type 0} (same : X → X → Bool) (xs ys : List X) → distinct same (xs ++ ys) ≡ true → distinct same xs ≡ true
distinct_front same [] ys all = refl
distinct_front same (x ∷ xs) ys all =
    let parts = both_true (not (list_any (same x) (xs ++ ys))) (distinct same (xs ++ ys)) all in
    let none : not (list_any (same x) xs || list_any (same x) ys) ≡ true = ap not (sym (list_any-append (same x) xs ys)) ∙ parts.0 in
    and_true (not (list_any (same x) xs)) (distinct same xs) (not_either (list_any (same x) xs) (list_any (same x) ys) none) (distinct_front same xs ys parts.1)

last_alone : (b : Bool) → (b || false) ≡ b
last_alone true = refl
last_alone false = refl

-- one more at the end
pub distinct_snoc : {X : Type 0} (same : X → X → Bool) (xs : List X) (y : X) → distinct same (xs ++ y ∷ []) ≡ (distinct same xs && not (list_any (λ x. same x y) xs))
distinct_snoc same [] y = refl
distinct_snoc same (x ∷ xs) y =
    let any : list_any (same x) (xs ++ y ∷ []) ≡ (list_any (same x) xs || same x y) = list_any-append (same x) xs (y ∷ []) ∙ ap (λ b. list_any (same x) xs || b) (last_alone (same x y)) in
    ap (λ b. not b && distinct same (xs ++ y ∷ [])) any
    ∙ ap (λ b. not (list_any (same x) xs || same x y) && b) (distinct_snoc same xs y)
    ∙ mix (list_any (same x) xs) (same x y) (distinct same xs) (list_any (λ z. same z y) xs)

le_true : (a b : ℕ) → a ≤ b → nat_le a b ≡ true
le_true a b le = grind (arith, nat_tests)

le_false : (a b : ℕ) → b < a → nat_le a b ≡ false
le_false a b lt = grind (arith, nat_tests)

true_le : (a b : ℕ) → nat_le a b ≡ true → a ≤ b
true_le a b le = grind (arith, nat_tests)

-- a slot too many
pub too_many_slots : (names : List (List ℕ)) (name : List ℕ) → 16 ≤ length names → are_slots (names ++ name ∷ []) ≡ false
too_many_slots names name many =
    let long = length-append names (name ∷ []) in
    ap (λ b. b && distinct bytes_eq (names ++ name ∷ [])) (le_false (length (names ++ name ∷ [])) 16 (omega arith))

-- a name again
pub named_again : (names : List (List ℕ)) (name : List ℕ) → list_any (λ n. bytes_eq n name) names ≡ true → are_slots (names ++ name ∷ []) ≡ false
named_again names name again =
    and_false (nat_le (length (names ++ name ∷ [])) 16) (distinct bytes_eq (names ++ name ∷ []))
    (distinct_snoc bytes_eq names name ∙ and_false (distinct bytes_eq names) (not (list_any (λ n. bytes_eq n name) names)) (ap not again))

-- one slot more
pub one_slot_more : (names : List (List ℕ)) (name : List ℕ) → are_slots names ≡ true → length names < 16 → list_any (λ n. bytes_eq n name) names ≡ false → are_slots (names ++ name ∷ []) ≡ true
one_slot_more names name so_far few new =
    let parts = both_true (nat_le (length names) 16) (distinct bytes_eq names) so_far in
    let long = length-append names (name ∷ []) in
    and_true (nat_le (length (names ++ name ∷ [])) 16) (distinct bytes_eq (names ++ name ∷ [])) (le_true (length (names ++ name ∷ [])) 16 (omega arith))
    (distinct_snoc bytes_eq names name ∙ and_true (distinct bytes_eq names) (not (list_any (λ n. bytes_eq n name) names)) parts.1 (ap not new))

-- the first of some slots
pub slots_front : (xs ys : List (List ℕ)) → are_slots (xs ++ ys) ≡ true → are_slots xs ≡ true
slots_front xs ys all =
    let parts = both_true (nat_le (length (xs ++ ys)) 16) (distinct bytes_eq (xs ++ ys)) all in
    let few = true_le (length (xs ++ ys)) 16 parts.0 in
    let long = length-append xs ys in
    and_true (nat_le (length xs) 16) (distinct bytes_eq xs) (le_true (length xs) 16 (omega arith)) (distinct_front bytes_eq xs ys parts.1)
