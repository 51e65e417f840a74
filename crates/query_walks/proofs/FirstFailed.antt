-- Filters that nodes fail first.
use Rattle.std.proofs.Common.{◌≡◌, ℕ, zero, suc, ◌+◌, ◌<◌, ◌≤◌, List, [], ◌∷◌, ◌++◌, Bool, true, false, not, ◌||◌, refl, sym, ap, ◌∙◌, length, take, drop, get_or, cond, arith, eqb, eqb-true, Option, ⊎_elim}
use Rattle.std.specs.Prelude.{set, replicate}
use Rattle.std.specs.List.{filter, position_or_len}
use Rattle.std.proofs.lemmas.Bool.{or_cases, cases_eq}
use Rattle.std.proofs.lemmas.List.{at_drop_more, at_drop_all, take_more, get_or-set_same, get_or-set_other, get_or-replicate}
use Rattle.page_tree.specs.Entries.{Entry}
use Rattle.query_grammar.specs.declared.query.StepFilter.{StepFilter}
use Rattle.query_grammar.specs.declared.query.StepFilter.TheVariants as kind
use Rattle.query_grammar.specs.Finds.{has_number}
use Rattle.query_grammar.proofs.Numbers.{has_both, has_first}
use Rattle.query_grammar.proofs.Kept.{filtered_is}
use Rattle.query_grammar.proofs.Truths.{or_right, no_true, not_false, both_ways}
use Rattle.query_walks.specs.Finds.{filtered}
use Rattle.query_walks.specs.FirstFailed.{fails, failed_at, is_on_list}
use Rattle.query_walks.specs.Nodes.{look, passes}

-- ## The first place at which a test passes

module _ {A : Type 0} (p : A → Bool) where
  pub none_yet : (xs : List A) (i : ℕ) (x : A) → i < length xs → p (get_or xs i x) ≡ false → position_or_len p xs ≡ i + position_or_len p (drop i xs) → position_or_len p xs ≡ (i + 1) + position_or_len p (drop (i + 1) xs)
  none_yet xs i x lt e h =
      let here = at_drop_more (position_or_len p) xs i x lt in
      let one : position_or_len p (get_or xs i x ∷ drop (i + 1) xs) ≡ 1 + position_or_len p (drop (i + 1) xs) = rw e refl in
      omega (arith, h, here, one)

  pub found_there : (xs : List A) (i : ℕ) (x : A) → i < length xs → p (get_or xs i x) ≡ true → position_or_len p xs ≡ i + position_or_len p (drop i xs) → i ≡ position_or_len p xs
  found_there xs i x lt e h =
      let here = at_drop_more (position_or_len p) xs i x lt in
      let one : position_or_len p (get_or xs i x ∷ drop (i + 1) xs) ≡ 0 = rw e refl in
      omega (arith, h, here, one)

  pub found_nowhere : (xs : List A) (i : ℕ) → length xs ≤ i → i ≤ length xs → position_or_len p xs ≡ i + position_or_len p (drop i xs) → length xs ≡ position_or_len p xs
  found_nowhere xs i ge le h =
      let none = at_drop_all (position_or_len p) xs i ge in
      omega (arith, h, none)

  -- a place before the first one
  pub before_first : (xs : List A) (i : ℕ) (x : A) → i < length xs → i ≤ position_or_len p xs → (i ≡ position_or_len p xs → ⊥) → p (get_or xs i x) ≡ false
  before_first [] i x lt le ne = absurd (omega (arith, lt))
  before_first (y ∷ ys) zero x lt le ne = by_test (p y) ne
    where
      by_test : (b : Bool) → (0 ≡ cond (not b) (1 + position_or_len p ys) 0 → ⊥) → b ≡ false
      by_test true ne = absurd (ne refl)
      by_test false ne = refl
  before_first (y ∷ ys) (suc i) x lt le ne = by_test (p y) le ne (λ l n. before_first ys i x (omega (arith, lt)) l n)
    where
      by_test : (b : Bool) → suc i ≤ cond (not b) (1 + position_or_len p ys) 0 → (suc i ≡ cond (not b) (1 + position_or_len p ys) 0 → ⊥)
          → (i ≤ position_or_len p ys → (i ≡ position_or_len p ys → ⊥) → p (get_or ys i x) ≡ false) → p (get_or ys i x) ≡ false
      by_test true le ne more = absurd (omega (arith, le))
      by_test false le ne more = more (omega (arith, le)) (λ e. ne (omega (arith, e)))

  pub goes_farther : (xs : List A) (i : ℕ) (x : A) → i < length xs → i ≤ position_or_len p xs → p (get_or xs i x) ≡ false → i + 1 ≤ position_or_len p xs
  goes_farther [] i x lt le e = absurd (omega (arith, lt))
  goes_farther (y ∷ ys) zero x lt le e = by_test (p y) e
    where
      by_test : (b : Bool) → b ≡ false → 1 ≤ cond (not b) (1 + position_or_len p ys) 0
      by_test true e = cc
      by_test false e = omega arith
  goes_farther (y ∷ ys) (suc i) x lt le e = by_test (p y) le (λ l. goes_farther ys i x (omega (arith, lt)) l e)
    where
      by_test : (b : Bool) → suc i ≤ cond (not b) (1 + position_or_len p ys) 0 → (i ≤ position_or_len p ys → i + 1 ≤ position_or_len p ys) → suc i + 1 ≤ cond (not b) (1 + position_or_len p ys) 0
      by_test true le more = absurd (omega (arith, le))
      by_test false le more = let m = more (omega (arith, le)) in omega (arith, m)

  pub position_within : (xs : List A) → position_or_len p xs ≤ length xs
  position_within [] = omega arith
  position_within (y ∷ ys) = by_test (p y) (position_within ys)
    where
      by_test : (b : Bool) → position_or_len p ys ≤ length ys → cond (not b) (1 + position_or_len p ys) 0 ≤ length (y ∷ ys)
      by_test true more = omega arith
      by_test false more = omega (arith, more)

  -- where all places are marked, that of the first one is
  pub marked_all : (xs : List A) (marks : List Bool) → marks ≡ replicate (length xs + 1) true → get_or marks (position_or_len p xs) false ≡ true
  marked_all xs marks all = ap (λ l. get_or l (position_or_len p xs) false) all ∙ get_or-replicate (length xs + 1) (position_or_len p xs) true false (let inside = position_within xs in omega (arith, inside))

-- ## Marked places

pub marks_more : (f : ℕ → ℕ) (list : List ℕ) (i x : ℕ) (old new : List Bool) → i < length list → x ≡ get_or list i x → f x < length old → new ≡ set old (f x) true
    → ((n : ℕ) → has_number (take i list) n ≡ true → get_or old (f n) false ≡ true) → (n : ℕ) → has_number (take (i + 1) list) n ≡ true → get_or new (f n) false ≡ true
marks_more f list i x old new lt is inside e h n there =
    ap (λ l. get_or l (f n) false) e
    ∙ ⊎_elim
    (λ before. ⊎_elim
    (λ same. ap (λ m. get_or (set old (f x) true) m false) same ∙ get_or-set_same old (f x) true false inside)
    (λ apart. get_or-set_other old (f x) (f n) true false apart ∙ h n before)
    (cases_eq (f n) (f x)))
    (λ now. ap (λ m. get_or (set old (f x) true) (f m) false) (only now) ∙ get_or-set_same old (f x) true false inside)
    (or_cases (has_number (take i list) n) (has_number (x ∷ []) n) (sym (has_both n (take i list) (x ∷ [])) ∙ ap (λ l. has_number l n) (ap (λ y. take i list ++ y ∷ []) is ∙ sym (take_more list i x lt)) ∙ there))
  where
    only : (eqb n x || false) ≡ true → n ≡ x
    only t = ⊎_elim (λ a. eqb-true n x a) (λ b. absurd (no_true b)) (or_cases (eqb n x) false t)

-- ## Numbers that pass

pub all_pass : (t : ℕ → Bool) (ns : List ℕ) → ((x : ℕ) → has_number ns x ≡ true → t x ≡ true) → filter t ns ≡ ns
all_pass t [] h = refl
all_pass t (n ∷ ns) h =
    ap (λ b. cond b (n ∷ filter t ns) (filter t ns)) (h n (has_first n ns))
    ∙ ap (λ l. n ∷ l) (all_pass t ns (λ x e. h x (or_right (eqb x n) (has_number ns x) e)))

pub kept_passes : (t : ℕ → Bool) (ns : List ℕ) (x : ℕ) → has_number (filter t ns) x ≡ true → t x ≡ true
kept_passes t [] x h = absurd (no_true h)
kept_passes t (n ∷ ns) x h = by_test (t n) refl h (λ e. kept_passes t ns x e)
  where
    by_test : (b : Bool) → t n ≡ b → has_number (cond b (n ∷ filter t ns) (filter t ns)) x ≡ true → (has_number (filter t ns) x ≡ true → t x ≡ true) → t x ≡ true
    by_test true here h more = ⊎_elim (λ e. ap t (eqb-true x n e) ∙ here) (λ e. more e) (or_cases (eqb x n) (has_number (filter t ns) x) h)
    by_test false here h more = more h

-- ## A filter's turn

module _ (k : List Entry) (focus : Option ℕ) (fs : List StepFilter) (marks : List Bool) (i : ℕ) (lt : i < length fs) (kept : List ℕ)
    (marked : (n : ℕ) → has_number kept n ≡ true → get_or marks (failed_at k focus fs n) false ≡ true)
    (passed : (n : ℕ) → has_number kept n ≡ true → i ≤ failed_at k focus fs n) where
  -- one on nodes whose place is not marked keeps all that are left
  pub not_needed : (f : StepFilter) → f ≡ get_or fs i f → (is_on_list f || get_or marks i false) ≡ false → filtered k focus f kept ≡ kept
  not_needed (kind.Node by) is h = all_pass (passes k focus by) kept (λ n there. not_false (passes k focus by n) (ap (fails k focus n) is
      ∙ before_first (fails k focus n) fs i (kind.Node by) lt (passed n there) (λ e. both_ways (get_or marks i false) (ap (λ j. get_or marks j false) e ∙ marked n there) h)))
  not_needed (kind.List l) is h = cc

  not_failed : (f : StepFilter) (n : ℕ) → has_number (filtered k focus f kept) n ≡ true → fails k focus n f ≡ false
  not_failed (kind.Node by) n h = ap not (kept_passes (passes k focus by) kept n h)
  not_failed (kind.List l) n h = refl

  module _ (f : StepFilter) (list : List ℕ) (e : list ≡ filtered k focus f kept) where
    was_kept : (n : ℕ) → has_number list n ≡ true → has_number kept n ≡ true
    was_kept n h = filtered_is (look k) focus f kept n (sym (ap (λ l. has_number l n) e) ∙ h)

    pub still_marked : (n : ℕ) → has_number list n ≡ true → get_or marks (failed_at k focus fs n) false ≡ true
    still_marked n h = marked n (was_kept n h)

    pub passed_one : f ≡ get_or fs i f → (n : ℕ) → has_number list n ≡ true → i + 1 ≤ failed_at k focus fs n
    passed_one is n h = goes_farther (fails k focus n) fs i f lt (passed n (was_kept n h))
        (ap (fails k focus n) (sym is) ∙ not_failed f n (sym (ap (λ l. has_number l n) e) ∙ h))
