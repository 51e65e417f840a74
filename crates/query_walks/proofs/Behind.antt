-- The next elements of nodes, by one pass over the children of each of their parents.
use Rattle.std.proofs.Common.{◌≡◌, ℕ, ◌+◌, ◌<◌, ◌≤◌, List, [], ◌∷◌, ◌++◌, Bool, true, false, not, ◌&&◌, ◌||◌, refl, sym, ap, ◌∙◌, subst, length, take, drop, get_or, cond, append_assoc, eqb, eqb-true, eq-eqb, Option, Some, None, ◌⊎◌, inl, inr, ⊎_elim}
use Rattle.std.proofs.lemmas.Bool.{or_cases, cases_Bool}
use Rattle.std.proofs.lemmas.List.{at_drop_more, at_drop_all}
use Rattle.std.specs.List.{filter, flat_map, list_any}
use Rattle.std.specs.Prelude.{IfOk, Result, Ok, Err}
use Rattle.page_tree.specs.declared.page.Page.{Page}
use Rattle.page_tree.specs.Entries.{Entry, at, listed, distinct}
use Rattle.page_tree.specs.Pages.{nodes}
use Rattle.tree_ops.specs.Trees.{is_number}
use Rattle.page_nodes.proofs.Upward.{parent_in}
use Rattle.query_grammar.specs.declared.query.Hunter.TheVariants as hunter
use Rattle.query_walks.specs.Nodes.{is_element}
use Rattle.page_tree.specs.Documents.{parent_within}
use Rattle.query_walks.specs.Finds.{links, is_tagged, hunted}
use Rattle.query_grammar.specs.Finds.{has_number, after_number, element_behind, next_element}
use Rattle.query_walks.specs.Walks.{AreNodes, is_start, next_ones}
use Rattle.query_walks.proofs.Downward.{sound, filter-append}
use Rattle.query_grammar.proofs.Numbers.{has_both, has_first, kept_is, from_piece}
use Rattle.query_grammar.proofs.Truths.{no_true, same_truth, and_parts, and_made, not_true, or_left, or_right, none_some}

or_all : (a : Bool) → (a || true) ≡ true
or_all true = refl
or_all false = refl

-- ## Lists

-- what passes a test is kept, and what is kept passes
pub keeps : (t : ℕ → Bool) (ns : List ℕ) (x : ℕ) → has_number ns x ≡ true → t x ≡ true → has_number (filter t ns) x ≡ true
keeps t [] x h e = h
keeps t (n ∷ ns) x h e = ⊎_elim
    (λ g. by_test (t n) (ap t (sym (eqb-true x n g)) ∙ e) g)
    (λ g. later (t n) (keeps t ns x g e))
    (or_cases (eqb x n) (has_number ns x) h)
  where
    by_test : (b : Bool) → b ≡ true → eqb x n ≡ true → has_number (cond b (n ∷ filter t ns) (filter t ns)) x ≡ true
    by_test true e g = or_left (eqb x n) (has_number (filter t ns) x) g
    by_test false e g = absurd (no_true e)

    later : (b : Bool) → has_number (filter t ns) x ≡ true → has_number (cond b (n ∷ filter t ns) (filter t ns)) x ≡ true
    later true h = or_right (eqb x n) (has_number (filter t ns) x) h
    later false h = h

pub kept_passes : (t : ℕ → Bool) (ns : List ℕ) (x : ℕ) → has_number (filter t ns) x ≡ true → t x ≡ true
kept_passes t [] x h = absurd (no_true h)
kept_passes t (n ∷ ns) x h = by_test (t n) refl (λ g. kept_passes t ns x g) h
  where
    by_test : (b : Bool) → t n ≡ b → (has_number (filter t ns) x ≡ true → t x ≡ true) → has_number (cond b (n ∷ filter t ns) (filter t ns)) x ≡ true → t x ≡ true
    by_test true e more h = ⊎_elim (λ g. ap t (eqb-true x n g) ∙ e) (λ g. more g) (or_cases (eqb x n) (has_number (filter t ns) x) h)
    by_test false e more h = more h

-- what is in the piece of a number
pub to_piece : (f : ℕ → List ℕ) (ns : List ℕ) (n x : ℕ) → has_number ns n ≡ true → has_number (f n) x ≡ true → has_number (flat_map f ns) x ≡ true
to_piece f [] n x h g = absurd (no_true h)
to_piece f (m ∷ ns) n x h g = has_both x (f m) (flat_map f ns) ∙ ⊎_elim
    (λ e. or_left (has_number (f m) x) (has_number (flat_map f ns) x) (subst (λ y. has_number (f y) x ≡ true) (eqb-true n m e) g))
    (λ e. or_right (has_number (f m) x) (has_number (flat_map f ns) x) (to_piece f ns n x e g))
    (or_cases (eqb n m) (has_number ns n) h)

-- some number of a list passes a test
pub some_has : (f : ℕ → Bool) (ns : List ℕ) (n : ℕ) → has_number ns n ≡ true → f n ≡ true → list_any f ns ≡ true
some_has f [] n h e = absurd (no_true h)
some_has f (m ∷ ns) n h e = ⊎_elim
    (λ g. or_left (f m) (list_any f ns) (ap f (sym (eqb-true n m g)) ∙ e))
    (λ g. or_right (f m) (list_any f ns) (some_has f ns n g e))
    (or_cases (eqb n m) (has_number ns n) h)

pub from_some : (f : ℕ → Bool) (ns : List ℕ) → list_any f ns ≡ true → (n : ℕ) × (has_number ns n ≡ true) × (f n ≡ true)
from_some f [] h = absurd (no_true h)
from_some f (m ∷ ns) h = ⊎_elim
    (λ e. (m, has_first m ns, e))
    (λ e. let q = from_some f ns e in (q.0, or_right (eqb (q.0) m) (has_number ns (q.0)) (q.1), q.2))
    (or_cases (f m) (list_any f ns) h)

-- one more number, and all of them
pub some_more : (f : ℕ → Bool) (xs : List ℕ) (i x : ℕ) (old new all : Bool) → i < length xs → x ≡ get_or xs i x → new ≡ (f x || old) → (old || list_any f (drop i xs)) ≡ all → (new || list_any f (drop (i + 1) xs)) ≡ all
some_more f xs i x old new all lt e en inv =
    ap (λ b. b || list_any f (drop (i + 1) xs)) en ∙ swapped (f x) old (list_any f (drop (i + 1) xs))
    ∙ ap (λ b. old || b) (ap (λ y. f y || list_any f (drop (i + 1) xs)) e ∙ sym (at_drop_more (list_any f) xs i x lt)) ∙ inv
  where
    swapped : (a b c : Bool) → ((a || b) || c) ≡ (b || (a || c))
    swapped true true c = refl
    swapped true false c = refl
    swapped false b c = refl

pub some_done : (f : ℕ → Bool) (xs : List ℕ) (i : ℕ) (old all : Bool) → length xs ≤ i → (old || list_any f (drop i xs)) ≡ all → old ≡ all
some_done f xs i old all le inv = sym (or_none old) ∙ ap (λ b. old || b) (sym (at_drop_all (list_any f) xs i le)) ∙ inv
  where
    or_none : (a : Bool) → (a || false) ≡ a
    or_none true = refl
    or_none false = refl

-- ## One pass over siblings

module _ (k : List Entry) (t : ℕ → Bool) where
  -- what the pass takes of a node
  abbrev one : Bool → ℕ → List ℕ
  one met n = cond (met && is_element k n) (n ∷ []) []

  -- whether a start was met, behind a node
  abbrev still : Bool → ℕ → Bool
  still met n = t n || (met && not (is_element k n))

  pub next_more : (g : ℕ → Bool) (xs : List ℕ) (i x : ℕ) (met met2 : Bool) (old new all : List ℕ) → i < length xs → x ≡ get_or xs i x → new ≡ old ++ filter g (one met x) → met2 ≡ still met x → old ++ filter g (next_ones k t met (drop i xs)) ≡ all → new ++ filter g (next_ones k t met2 (drop (i + 1) xs)) ≡ all
  next_more g xs i x met met2 old new all lt e en em inv =
      ap (λ l. l ++ filter g (next_ones k t met2 (drop (i + 1) xs))) en
      ∙ append_assoc old (filter g (one met x)) (filter g (next_ones k t met2 (drop (i + 1) xs)))
      ∙ ap (λ l. old ++ l) (sym (filter-append g (one met x) (next_ones k t met2 (drop (i + 1) xs)))
      ∙ ap (λ b. filter g (one met x ++ next_ones k t b (drop (i + 1) xs))) em
      ∙ ap (λ y. filter g (next_ones k t met (y ∷ drop (i + 1) xs))) e
      ∙ sym (at_drop_more (λ ns. filter g (next_ones k t met ns)) xs i x lt))
      ∙ inv

  -- where a start was met, the next element is taken
  first_next : (x : ℕ) (ns : List ℕ) → has_number (take 1 (filter (is_element k) ns)) x ≡ true → has_number (next_ones k t true ns) x ≡ true
  first_next x [] h = h
  first_next x (n ∷ ns) h = by_test (is_element k n) (λ g. first_next x ns g) h
    where
      by_test : (b : Bool) → (has_number (take 1 (filter (is_element k) ns)) x ≡ true → has_number (next_ones k t true ns) x ≡ true) → has_number (take 1 (cond b (n ∷ filter (is_element k) ns) (filter (is_element k) ns))) x ≡ true → has_number (cond (true && b) (n ∷ []) [] ++ next_ones k t (t n || (true && not b)) ns) x ≡ true
      by_test true more h = ⊎_elim (λ e. or_left (eqb x n) _ e) (λ e. absurd (no_true e)) (or_cases (eqb x n) false h)
      by_test false more h = ap (λ b. has_number (next_ones k t b ns) x) (or_all (t n)) ∙ more h

  -- the next element behind a start is taken
  pub next_has : (s x : ℕ) (ns : List ℕ) (met : Bool) → t s ≡ true → has_number (take 1 (filter (is_element k) (after_number s ns))) x ≡ true → has_number (next_ones k t met ns) x ≡ true
  next_has s x [] met ts h = h
  next_has s x (n ∷ ns) met ts h =
      has_both x (one met n) (next_ones k t (still met n) ns)
      ∙ or_right (has_number (one met n) x) (has_number (next_ones k t (still met n) ns) x) (by_test (eqb n s) refl (λ g. next_has s x ns (still met n) ts g) h)
    where
      by_test : (b : Bool) → eqb n s ≡ b → (has_number (take 1 (filter (is_element k) (after_number s ns))) x ≡ true → has_number (next_ones k t (still met n) ns) x ≡ true) → has_number (take 1 (filter (is_element k) (cond b ns (after_number s ns)))) x ≡ true → has_number (next_ones k t (still met n) ns) x ≡ true
      by_test true e more h = ap (λ b. has_number (next_ones k t b ns) x) (or_left (t n) (met && not (is_element k n)) (ap t (eqb-true n s e) ∙ ts)) ∙ first_next x ns h
      by_test false e more h = more h

  -- what is taken comes next behind a start, or is the first element where one was met before
  abbrev Taken : ℕ → Bool → List ℕ → Type 0
  Taken x met ns = ((met ≡ true) × (has_number (take 1 (filter (is_element k) ns)) x ≡ true)) ⊎ ((s : ℕ) × (t s ≡ true) × (listed s ns ≡ true) × (has_number (take 1 (filter (is_element k) (after_number s ns))) x ≡ true))

  pub next_from : (x : ℕ) (ns : List ℕ) (met : Bool) → distinct ns ≡ true → has_number (next_ones k t met ns) x ≡ true → Taken x met ns
  next_from x [] met d h = absurd (no_true h)
  next_from x (n ∷ ns) met d h =
      let parts = and_parts (not (listed n ns)) (distinct ns) d in
      ⊎_elim
      (λ g. inl (here met (is_element k n) g))
      (λ g. ⊎_elim
      (λ q. ⊎_elim (λ e. inr (n, e, or_left (eqb n n) (listed n ns) (eq-eqb n n refl), itself (q.1))) (λ e. inl (there (q.1) (and_parts met (not (is_element k n)) e))) (or_cases (t n) (met && not (is_element k n)) (q.0)))
      (λ q. inr (q.0, q.1, or_right (eqb n (q.0)) (listed (q.0) ns) (q.2), later (q.0) (not_true (listed n ns) (parts.0)) (q.2) (q.3)))
      (next_from x ns (still met n) (parts.1) g))
      (or_cases (has_number (one met n) x) (has_number (next_ones k t (still met n) ns) x) (sym (has_both x (one met n) (next_ones k t (still met n) ns)) ∙ h))
    where
      here : (m b : Bool) → has_number (cond (m && b) (n ∷ []) []) x ≡ true → (m ≡ true) × (has_number (take 1 (cond b (n ∷ filter (is_element k) ns) (filter (is_element k) ns))) x ≡ true)
      here true true g = (refl, g)
      here true false g = absurd (no_true g)
      here false b g = absurd (no_true g)

      itself : has_number (take 1 (filter (is_element k) ns)) x ≡ true → has_number (take 1 (filter (is_element k) (after_number n (n ∷ ns)))) x ≡ true
      itself g = ap (λ b. has_number (take 1 (filter (is_element k) (cond b ns (after_number n ns)))) x) (eq-eqb n n refl) ∙ g

      there : has_number (take 1 (filter (is_element k) ns)) x ≡ true → (met ≡ true) × (not (is_element k n) ≡ true) → (met ≡ true) × (has_number (take 1 (filter (is_element k) (n ∷ ns))) x ≡ true)
      there g e = (e.0, ap (λ b. has_number (take 1 (cond b (n ∷ filter (is_element k) ns) (filter (is_element k) ns))) x) (not_true (is_element k n) (e.1)) ∙ g)

      later : (s : ℕ) → listed n ns ≡ false → listed s ns ≡ true → has_number (take 1 (filter (is_element k) (after_number s ns))) x ≡ true → has_number (take 1 (filter (is_element k) (after_number s (n ∷ ns)))) x ≡ true
      later s none l g = ⊎_elim
          (λ e. absurd (no_true (sym none ∙ subst (λ y. listed y ns ≡ true) (sym (eqb-true n s e)) l)))
          (λ e. ap (λ b. has_number (take 1 (filter (is_element k) (cond b ns (after_number s ns)))) x) e ∙ g)
          (cases_Bool (eqb n s))

-- ## The pages

no_root : (k : List Entry) (r : Option ℕ) (n m : ℕ) → parent_within k r n ≡ Some m → (is_number n r ≡ false) × ((at k n).parent ≡ Some m)
no_root k r n m h = by_test (is_number n r) h
  where
    by_test : (b : Bool) → cond b None (at k n).parent ≡ Some m → (b ≡ false) × ((at k n).parent ≡ Some m)
    by_test true h = absurd (none_some m h)
    by_test false h = (refl, h)

not_made : (b : Bool) → b ≡ false → not b ≡ true
not_made b e = ap (λ c. not c) e

-- whether a list has the parents under which the starts have siblings
abbrev pub HasParents : Page → Option ℕ → List ℕ → List ℕ → Type 0
HasParents p r starts parents = (n : ℕ) → has_number parents n ≡ list_any (λ s. is_number n (parent_within (nodes p) r s)) starts

-- what a pass over the children of a node takes
abbrev pub taken : Page → Option ℕ → List ℕ → List ℕ → ℕ → List ℕ
taken p r marks tag n = filter (is_tagged (nodes p) tag) (next_ones (nodes p) (is_start r marks) false (at (nodes p) n).children)

module _ (p : Page) (r : Option ℕ) (starts parents : List ℕ) (ups : HasParents p r starts parents) where
  number_is : (n : ℕ) (u : Option ℕ) → is_number n u ≡ true → u ≡ Some n
  number_is n None h = absurd (no_true h)
  number_is n (Some m) h = ap (λ y. Some y) (sym (eqb-true n m h))

  pub parents_nodes : AreNodes p parents
  parents_nodes n h =
      let q = from_some (λ s. is_number n (parent_within (nodes p) r s)) starts (sym (ups n) ∙ h) in
      parent_in (nodes p) (sound p) (q.0) n ((no_root (nodes p) r (q.0) n (number_is n (parent_within (nodes p) r (q.0)) (q.2))).1)

  module _ (marks : List ℕ) (same : (n : ℕ) → has_number marks n ≡ has_number starts n) (tag : List ℕ) where
    forth : (x : ℕ) → has_number (flat_map (taken p r marks tag) parents) x ≡ true → has_number (flat_map (hunted (nodes p) r (hunter.Next tag)) starts) x ≡ true
    forth x h =
        let k = nodes p in
        let q = from_piece (taken p r marks tag) parents x h in
        let ones = next_ones k (is_start r marks) false (at k (q.0)).children in
        ⊎_elim
        (λ w. absurd (no_true (w.0)))
        (λ w. found (q.0) (w.0) x (w.1) (w.2) (w.3) (kept_passes (is_tagged k tag) ones x (q.2)))
        (next_from k (is_start r marks) x (at k (q.0)).children false ((sound p).once (q.0)) (kept_is (is_tagged k tag) ones x (q.2)))
      where
        found : (m s x : ℕ) → is_start r marks s ≡ true → listed s (at (nodes p) m).children ≡ true → has_number (element_behind (links (nodes p) r) (Some m) s) x ≡ true → is_tagged (nodes p) tag x ≡ true → has_number (flat_map (hunted (nodes p) r (hunter.Next tag)) starts) x ≡ true
        found m s x st l b tagged =
            let k = nodes p in
            let both = and_parts (has_number marks s) (not (is_number s r)) st in
            let up : parent_within k r s ≡ Some m = ap (λ b. cond b None (at k s).parent) (not_true (is_number s r) (both.1)) ∙ (sound p).down m s l in
            to_piece (hunted k r (hunter.Next tag)) starts s x (sym (same s) ∙ both.0)
            (keeps (is_tagged k tag) (next_element (links k r) s) x (ap (λ u. has_number (element_behind (links k r) u s) x) up ∙ b) tagged)

    back : (x : ℕ) → has_number (flat_map (hunted (nodes p) r (hunter.Next tag)) starts) x ≡ true → has_number (flat_map (taken p r marks tag) parents) x ≡ true
    back x h =
        let k = nodes p in
        let q = from_piece (hunted k r (hunter.Next tag)) starts x h in
        found (q.0) (parent_within k r (q.0)) refl (q.1)
        (kept_is (is_tagged k tag) (next_element (links k r) (q.0)) x (q.2))
        (kept_passes (is_tagged k tag) (next_element (links k r) (q.0)) x (q.2))
      where
        found : (s : ℕ) (u : Option ℕ) → parent_within (nodes p) r s ≡ u → has_number starts s ≡ true → has_number (element_behind (links (nodes p) r) u s) x ≡ true → is_tagged (nodes p) tag x ≡ true → has_number (flat_map (taken p r marks tag) parents) x ≡ true
        found s None e st b tagged = absurd (no_true b)
        found s (Some m) e st b tagged =
            let k = nodes p in
            let start = and_made (has_number marks s) (not (is_number s r)) (same s ∙ st) (not_made (is_number s r) ((no_root k r s m e).0)) in
            to_piece (taken p r marks tag) parents m x
            (ups m ∙ some_has (λ n. is_number m (parent_within k r n)) starts s st (ap (λ u. is_number m u) e ∙ eq-eqb m m refl))
            (keeps (is_tagged k tag) (next_ones k (is_start r marks) false (at k m).children) x (next_has k (is_start r marks) s x (at k m).children false start b) tagged)

    pub same_next : (found : List ℕ) → found ≡ flat_map (taken p r marks tag) parents → (x : ℕ) → has_number found x ≡ has_number (flat_map (hunted (nodes p) r (hunter.Next tag)) starts) x
    same_next found e x = ap (λ l. has_number l x) e ∙ same_truth _ _ (forth x) (back x)

-- ## Results

pub ok_more : {T E : Type 0} (r : Result T E) (P Q : T → Type 0) → ((t : T) → P t → Q t) → IfOk r P → IfOk r Q
ok_more (Ok t) P Q f h = f t h
ok_more (Err e) P Q f h = tt
