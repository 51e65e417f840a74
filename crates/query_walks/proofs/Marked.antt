-- A set on the way up from a node.
use Rattle.std.proofs.Common.{◌≡◌, ℕ, ◌+◌, ◌<◌, ◌≤◌, List, [], ◌∷◌, ◌++◌, Bool, true, false, not, ◌&&◌, ◌||◌, refl, sym, ap, ◌∙◌, subst, length, get_or, take, cond, eqb, eqb-true, eq-eqb, Some, None, ◌⊎◌, inl, inr, ⊎_elim}
use Rattle.std.proofs.lemmas.Bool.{or_cases, cases_Bool}
use Rattle.std.proofs.lemmas.List.{take_more, take_all}
use Rattle.std.specs.Prelude.{is_some}
use Rattle.page_tree.specs.declared.page.Page.{Page}
use Rattle.page_tree.specs.Entries.{at}
use Rattle.page_tree.specs.Pages.{nodes}
use Rattle.page_nodes.proofs.Walk.{some_is_same}
use Rattle.page_nodes.proofs.Upward.{none_some}
use Rattle.query_grammar.specs.Finds.{has_number}
use Rattle.query_walks.specs.Walks.{AreNodes, IsClosed, AreTops}
use Rattle.query_walks.proofs.Ordered.{IsClosedBut, has_added}
use Rattle.query_grammar.proofs.Numbers.{has_both}

no_true : false ≡ true → ⊥
no_true e = cc

or_left : (a b : Bool) → a ≡ true → (a || b) ≡ true
or_left true b h = refl
or_left false b h = cc

or_right : (a b : Bool) → b ≡ true → (a || b) ≡ true
or_right true b h = refl
or_right false b h = h

or_none : (a : Bool) → (a || false) ≡ a
or_none true = refl
or_none false = refl

and_none : (a : Bool) → (a && false) ≡ false
and_none true = refl
and_none false = refl

or_all : (a : Bool) → (a || true) ≡ true
or_all true = refl
or_all false = refl

-- what a call of `add` says
abbrev pub Adds : List ℕ → List ℕ → ℕ → Bool → Type 0
Adds old new n b = (b ≡ not (has_number old n)) × (new ≡ cond (has_number old n) old (old ++ n ∷ []))

module _ (old new : List ℕ) (n : ℕ) (b : Bool) (adds : Adds old new n b) where
  pub still_there : (x : ℕ) → has_number old x ≡ true → has_number new x ≡ true
  still_there x h = has_added old new n b adds x ∙ or_left (has_number old x) (eqb x n) h

  pub now_there : has_number new n ≡ true
  now_there = has_added old new n b adds n ∙ or_right (has_number old n) (eqb n n) (eq-eqb n n refl)

  pub was_there : (x : ℕ) → has_number new x ≡ true → (has_number old x ≡ true) ⊎ (x ≡ n)
  was_there x h = ⊎_elim (λ e. inl e) (λ e. inr (eqb-true x n e)) (or_cases (has_number old x) (eqb x n) (sym (has_added old new n b adds x) ∙ h))

  pub either_there : (x : ℕ) → (has_number old x ≡ true) ⊎ (x ≡ n) → has_number new x ≡ true
  either_there x h = ⊎_elim (λ e. still_there x e) (λ e. subst (λ y. has_number new y ≡ true) (sym e) now_there) h

  module _ (p : Page) where
    closed_same : IsClosedBut p old n → (x m : ℕ) → has_number old x ≡ true → (at (nodes p) x).parent ≡ Some m → has_number new m ≡ true
    closed_same closed x m h u = either_there m (⊎_elim (λ e. inr e) (λ e. inl e) (closed x m h u))

    pub closed_on : (q : ℕ) → (at (nodes p) n).parent ≡ Some q → IsClosedBut p old n → IsClosedBut p new q
    closed_on q up closed x m h u = ⊎_elim
        (λ e. inr (closed_same closed x m e u))
        (λ e. inl (some_is_same m q (sym u ∙ ap (λ y. (at (nodes p) y).parent) e ∙ up)))
        (was_there x h)

    pub closed_top : (at (nodes p) n).parent ≡ None → IsClosedBut p old n → IsClosed p new
    closed_top up closed x m h u = ⊎_elim
        (λ e. closed_same closed x m e u)
        (λ e. absurd (none_some m (sym up ∙ ap (λ y. (at (nodes p) y).parent) (sym e) ∙ u)))
        (was_there x h)

    pub nodes_on : n < length (nodes p) → AreNodes p old → AreNodes p new
    nodes_on lt inside x h = ⊎_elim (λ e. inside x e) (λ e. subst (λ y. y < length (nodes p)) (sym e) lt) (was_there x h)

    pub tops_on : (ts : List ℕ) (q : ℕ) → (at (nodes p) n).parent ≡ Some q → AreTops p old ts → AreTops p new ts
    tops_on ts q up tops x = tops x ∙ ⊎_elim
        (λ e. let none : not (is_some (at (nodes p) x).parent) ≡ false = ap (λ y. not (is_some (at (nodes p) y).parent)) (eqb-true x n e) ∙ ap (λ u. not (is_some u)) up in
        ap (λ c. has_number old x && c) none ∙ and_none (has_number old x) ∙ sym (ap (λ c. has_number new x && c) none ∙ and_none (has_number new x)))
        (λ e. ap (λ c. c && not (is_some (at (nodes p) x).parent)) (sym (has_added old new n b adds x ∙ ap (λ c. has_number old x || c) e ∙ or_none (has_number old x))))
        (cases_Bool (eqb x n))

    pub tops_top : (ts us : List ℕ) → (at (nodes p) n).parent ≡ None → ((x : ℕ) → has_number us x ≡ (eqb x n || has_number ts x)) → AreTops p old ts → AreTops p new us
    tops_top ts us up more tops x = more x ∙ ⊎_elim
        (λ e. let here : not (is_some (at (nodes p) x).parent) ≡ true = ap (λ y. not (is_some (at (nodes p) y).parent)) (eqb-true x n e) ∙ ap (λ u. not (is_some u)) up in
        or_left (eqb x n) (has_number ts x) e ∙ sym (ap (λ c. has_number new x && c) here ∙ ap (λ c. c && true) (either_there x (inr (eqb-true x n e)))))
        (λ e. ap (λ c. c || has_number ts x) e ∙ tops x
        ∙ ap (λ c. c && not (is_some (at (nodes p) x).parent)) (sym (has_added old new n b adds x ∙ ap (λ c. has_number old x || c) e ∙ or_none (has_number old x))))
        (cases_Bool (eqb x n))

-- ## The nodes that were found

pub marks_more : (xs : List ℕ) (i x : ℕ) → i < length xs → x ≡ get_or xs i x → (n : ℕ) → (has_number (take i xs) n || eqb n x) ≡ has_number (take (i + 1) xs) n
marks_more xs i x lt e n =
    ap (λ c. has_number (take i xs) n || c) (sym (or_none (eqb n x)))
    ∙ sym (has_both n (take i xs) (x ∷ []))
    ∙ ap (λ y. has_number (take i xs ++ y ∷ []) n) e
    ∙ sym (ap (λ l. has_number l n) (take_more xs i x lt))

pub marks_all : (xs marks : List ℕ) (i : ℕ) → length xs ≤ i → ((n : ℕ) → has_number marks n ≡ has_number (take i xs) n) → (n : ℕ) → has_number marks n ≡ has_number xs n
marks_all xs marks i le h n = h n ∙ ap (λ l. has_number l n) (take_all i xs le)

and_first : (a b : Bool) → (a && b) ≡ true → a ≡ true
and_first true b h = refl
and_first false b h = h

pub tops_nodes : (p : Page) (above ts us : List ℕ) → us ≡ ts → AreNodes p above → AreTops p above ts → AreNodes p us
tops_nodes p above ts us e inside tops x h = inside x (and_first (has_number above x) (not (is_some (at (nodes p) x).parent)) (sym (tops x) ∙ ap (λ l. has_number l x) (sym e) ∙ h))
