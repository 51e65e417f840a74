-- Numbers in lists.
use Rattle.std.proofs.Common.{◌≡◌, ℕ, zero, suc, ◌+◌, ◌<◌, List, [], ◌∷◌, ◌++◌, Bool, true, false, ◌||◌, refl, sym, ap, ◌∙◌, length, take, drop, map, get_or, cond, arith, eqb, eq-eqb, nat_eq, ⊎_elim}
use Rattle.std.proofs.lemmas.Bool.{or_cases}
use Rattle.std.proofs.lemmas.List.Folds.{list_any-append}
use Rattle.std.specs.Prelude.{◌==◌, ◌%◌}
use Rattle.std.specs.List.{filter, flat_map, enumerate_from}
use Rattle.query_grammar.specs.Finds.{has_number, after_number}
use Rattle.query_grammar.proofs.Truths.{or_left, or_right, no_true}

pub has_both : (n : ℕ) (xs ys : List ℕ) → has_number (xs ++ ys) n ≡ (has_number xs n || has_number ys n)
has_both n xs ys = list_any-append (nat_eq n) xs ys

pub has_first : (n : ℕ) (ns : List ℕ) → has_number (n ∷ ns) n ≡ true
has_first n ns = or_left (eqb n n) (has_number ns n) (eq-eqb n n refl)

pub has_at : (ns : List ℕ) (i d : ℕ) → i < length ns → has_number ns (get_or ns i d) ≡ true
has_at [] i d lt = absurd (omega (arith, lt))
has_at (n ∷ ns) zero d lt = has_first n ns
has_at (n ∷ ns) (suc i) d lt = or_right (eqb (get_or ns i d) n) (has_number ns (get_or ns i d)) (has_at ns i d (omega (arith, lt)))

-- what a test keeps was there
pub kept_is : (t : ℕ → Bool) (ns : List ℕ) (x : ℕ) → has_number (filter t ns) x ≡ true → has_number ns x ≡ true
kept_is t [] x h = h
kept_is t (n ∷ ns) x h = by_test (t n) (λ e. kept_is t ns x e) h
  where
    by_test : (b : Bool) → (has_number (filter t ns) x ≡ true → has_number ns x ≡ true) → has_number (cond b (n ∷ filter t ns) (filter t ns)) x ≡ true → has_number (n ∷ ns) x ≡ true
    by_test true more h = ⊎_elim (λ e. or_left (eqb x n) (has_number ns x) e) (λ e. or_right (eqb x n) (has_number ns x) (more e)) (or_cases (eqb x n) (has_number (filter t ns) x) h)
    by_test false more h = or_right (eqb x n) (has_number ns x) (more h)

-- where the piece of a number comes from
pub from_piece : (f : ℕ → List ℕ) (ns : List ℕ) (x : ℕ) → has_number (flat_map f ns) x ≡ true → (n : ℕ) × (has_number ns n ≡ true) × (has_number (f n) x ≡ true)
from_piece f [] x h = cc
from_piece f (n ∷ ns) x h = ⊎_elim
    (λ e. (n, has_first n ns, e))
    (λ e. let q = from_piece f ns x e in (q.0, or_right (eqb (q.0) n) (has_number ns (q.0)) (q.1), q.2))
    (or_cases (has_number (f n) x) (has_number (flat_map f ns) x) (sym (has_both x (f n) (flat_map f ns)) ∙ h))

-- nothing passes
pub none_pass : (t : ℕ → Bool) (ns : List ℕ) → ((x : ℕ) → has_number ns x ≡ true → t x ≡ false) → filter t ns ≡ []
none_pass t [] h = refl
none_pass t (n ∷ ns) h =
    ap (λ b. cond b (n ∷ filter t ns) (filter t ns)) (h n (has_first n ns))
    ∙ none_pass t ns (λ x e. h x (or_right (eqb x n) (has_number ns x) e))

pub taken_is : (i : ℕ) (ns : List ℕ) (x : ℕ) → has_number (take i ns) x ≡ true → has_number ns x ≡ true
taken_is zero ns x h = absurd (no_true h)
taken_is (suc i) [] x h = h
taken_is (suc i) (n ∷ ns) x h = ⊎_elim (λ e. or_left (eqb x n) (has_number ns x) e) (λ e. or_right (eqb x n) (has_number ns x) (taken_is i ns x e)) (or_cases (eqb x n) (has_number (take i ns) x) h)

pub left_is : (i : ℕ) (ns : List ℕ) (x : ℕ) → has_number (drop i ns) x ≡ true → has_number ns x ≡ true
left_is zero ns x h = h
left_is (suc i) [] x h = h
left_is (suc i) (n ∷ ns) x h = or_right (eqb x n) (has_number ns x) (left_is i ns x h)

pub behind_is : (n : ℕ) (ns : List ℕ) (x : ℕ) → has_number (after_number n ns) x ≡ true → has_number ns x ≡ true
behind_is n [] x h = h
behind_is n (m ∷ ns) x h = by_test (eqb m n) (λ e. behind_is n ns x e) h
  where
    by_test : (b : Bool) → (has_number (after_number n ns) x ≡ true → has_number ns x ≡ true) → has_number (cond b ns (after_number n ns)) x ≡ true → has_number (m ∷ ns) x ≡ true
    by_test true more h = or_right (eqb x m) (has_number ns x) h
    by_test false more h = or_right (eqb x m) (has_number ns x) (more h)

pub placed_is : (r i : ℕ) (ns : List ℕ) (x : ℕ) → has_number (map (λ q. q.1) (filter (λ q. q.0 % 2 == r) (enumerate_from i ns))) x ≡ true → has_number ns x ≡ true
placed_is r i [] x h = h
placed_is r i (n ∷ ns) x h = by_test (i % 2 == r) (λ e. placed_is r (i + 1) ns x e) h
  where
    by_test : (b : Bool) → (has_number (map (λ q. q.1) (filter (λ q. q.0 % 2 == r) (enumerate_from (i + 1) ns))) x ≡ true → has_number ns x ≡ true) → has_number (map (λ q. q.1) (cond b ((i, n) ∷ filter (λ q. q.0 % 2 == r) (enumerate_from (i + 1) ns)) (filter (λ q. q.0 % 2 == r) (enumerate_from (i + 1) ns)))) x ≡ true → has_number (n ∷ ns) x ≡ true
    by_test true more h = ⊎_elim (λ e. or_left (eqb x n) (has_number ns x) e) (λ e. or_right (eqb x n) (has_number ns x) (more e)) (or_cases (eqb x n) _ h)
    by_test false more h = or_right (eqb x n) (has_number ns x) (more h)
