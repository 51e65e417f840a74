-- Walks down the trees of a page.
use Rattle.std.proofs.Common.{◌≡◌, ℕ, zero, suc, ◌+◌, ◌<◌, ◌≤◌, List, [], ◌∷◌, ◌++◌, Bool, true, false, refl, sym, ap, ◌∙◌, length, get_or, drop, cond, append_assoc, arith, Some, None}
use Rattle.std.proofs.lemmas.List.{at_drop_more, at_drop_all, append-nil, get_or_default}
use Rattle.std.proofs.lemmas.Grind.{flat_map-append}
use Rattle.std.specs.Prelude.{slice_get}
use Rattle.std.specs.List.{filter, flat_map}
use Rattle.plain_tree.specs.Trees.{Trees, End, Node, height}
use Rattle.page_tree.specs.declared.page.Page.{Page}
use Rattle.page_tree.specs.Entries.{Entry, at, tree, IsSound}
use Rattle.page_tree.specs.Pages.{nodes}
use Rattle.page_tree.specs.Roots.{IsRooted}
use Rattle.page_nodes.proofs.Shows.{Shows, none, one_more, shows_one, shows_tree}
use Rattle.page_nodes.proofs.Walk.{listed_at, child_in, child_lower}
use Rattle.page_tree.specs.Documents.{within, below}
use Rattle.tree_ops.specs.Trees.{numbers}

-- ## Pages

pub sound : (p : Page) → IsSound (nodes p)
sound p = p.arena.sound

pub rooted : (p : Page) → IsRooted (nodes p) p.roots
rooted p = p.rooted

-- ## Trees by their tops

module _ (k : List Entry) (s : IsSound k) where
  pub numbers_shown : (ns : List ℕ) (ts : Trees ℕ) → Shows k ns ts → numbers ts ≡ flat_map (within k) ns
  numbers_shown [] _ none = refl
  numbers_shown (n ∷ ns) _ (one_more {ks = ks} {ts = ts} hk hs) =
      let here : within k n ≡ n ∷ (numbers ks ++ []) = ap numbers (shows_one k (n ∷ []) _ (Node n (at k n).label ks End) (shows_tree k s n) (one_more hk none)) in
      sym (ap (λ l. l ++ flat_map (within k) ns) (here ∙ ap (λ l. n ∷ l) (append-nil (numbers ks))) ∙ ap (λ l. n ∷ (numbers ks ++ l)) (sym (numbers_shown ns ts hs)))

  -- a node, and what is below it
  pub within_is : (n : ℕ) → within k n ≡ n ∷ below k n
  within_is n = of (tree k n) (shows_tree k s n)
    where
      of : (ts : Trees ℕ) → Shows k (n ∷ []) ts → numbers ts ≡ n ∷ below k n
      of _ (one_more {ks = ks} hk none) = ap (λ l. n ∷ l) (append-nil (numbers ks) ∙ numbers_shown (at k n).children ks hk)

-- ## Lists, piece by piece

pub filter-append : {A : Type 0} (p : A → Bool) (xs ys : List A) → filter p (xs ++ ys) ≡ filter p xs ++ filter p ys
filter-append p [] ys = refl
filter-append p (x ∷ xs) ys = elim (p x) as (λ b. cond b (x ∷ filter p (xs ++ ys)) (filter p (xs ++ ys)) ≡ cond b (x ∷ filter p xs) (filter p xs) ++ filter p ys) [
  | true ↦ ap (λ l. x ∷ l) (filter-append p xs ys)
  | false ↦ filter-append p xs ys
]

pub filter_first : {A : Type 0} (p : A → Bool) (x : A) (xs : List A) → filter p (x ∷ xs) ≡ filter p (x ∷ []) ++ filter p xs
filter_first p x xs = filter-append p (x ∷ []) xs

-- one more piece
pub piece_more : {A B : Type 0} (f : List A → List B) (g : A → List B) (xs : List A) (i : ℕ) (x : A) (old new all : List B) → ((y : A) (ys : List A) → f (y ∷ ys) ≡ g y ++ f ys) → i < length xs → x ≡ get_or xs i x → new ≡ old ++ g x → old ++ f (drop i xs) ≡ all → new ++ f (drop (i + 1) xs) ≡ all
piece_more f g xs i x old new all cons lt ex en inv =
    ap (λ l. l ++ f (drop (i + 1) xs)) (en ∙ ap (λ y. old ++ g y) ex) ∙ append_assoc old (g (get_or xs i x)) (f (drop (i + 1) xs))
    ∙ ap (λ l. old ++ l) (sym (cons (get_or xs i x) (drop (i + 1) xs)) ∙ sym (at_drop_more f xs i x lt)) ∙ inv

pub piece_done : {A B : Type 0} (f : List A → List B) (xs : List A) (i : ℕ) (old all : List B) → f [] ≡ [] → length xs ≤ i → old ++ f (drop i xs) ≡ all → old ≡ all
piece_done f xs i old all e le inv = sym (append-nil old) ∙ ap (λ l. old ++ l) (sym e) ∙ ap (λ l. old ++ l) (sym (at_drop_all f xs i le)) ∙ inv

pub taken_first : (k : List Entry) (t : ℕ → Bool) (n : ℕ) (ns : List ℕ) → filter t (flat_map (within k) (n ∷ ns)) ≡ filter t (within k n) ++ filter t (flat_map (within k) ns)
taken_first k t n ns = filter-append t (within k n) (flat_map (within k) ns)

pub trees_more : (k : List Entry) (t : ℕ → Bool) (xs : List ℕ) (i x : ℕ) (old new all : List ℕ) → i < length xs → x ≡ get_or xs i x → new ≡ old ++ filter t (within k x) → old ++ filter t (flat_map (within k) (drop i xs)) ≡ all → new ++ filter t (flat_map (within k) (drop (i + 1) xs)) ≡ all
trees_more k t xs i x old new all = piece_more (λ ns. filter t (flat_map (within k) ns)) (λ n. filter t (within k n)) xs i x old new all (taken_first k t)

pub trees_done : (k : List Entry) (t : ℕ → Bool) (xs : List ℕ) (i : ℕ) (old all : List ℕ) → length xs ≤ i → old ++ filter t (flat_map (within k) (drop i xs)) ≡ all → old ≡ all
trees_done k t xs i old all = piece_done (λ ns. filter t (flat_map (within k) ns)) xs i old all refl

pub ones_more : (t : ℕ → Bool) (xs : List ℕ) (i x : ℕ) (old new all : List ℕ) → i < length xs → x ≡ get_or xs i x → new ≡ old ++ filter t (x ∷ []) → old ++ filter t (drop i xs) ≡ all → new ++ filter t (drop (i + 1) xs) ≡ all
ones_more t xs i x old new all = piece_more (filter t) (λ n. filter t (n ∷ [])) xs i x old new all (filter_first t)

pub ones_done : (t : ℕ → Bool) (xs : List ℕ) (i : ℕ) (old all : List ℕ) → length xs ≤ i → old ++ filter t (drop i xs) ≡ all → old ≡ all
ones_done t xs i old all = piece_done (filter t) xs i old all refl

-- the same of the tops that pass another test
loose_first : (k : List Entry) (t l : ℕ → Bool) (n : ℕ) (ns : List ℕ) → filter t (flat_map (within k) (filter l (n ∷ ns))) ≡ filter t (flat_map (within k) (filter l (n ∷ []))) ++ filter t (flat_map (within k) (filter l ns))
loose_first k t l n ns =
    ap (λ ms. filter t (flat_map (within k) ms)) (filter_first l n ns)
    ∙ ap (filter t) (flat_map-append (within k) (filter l (n ∷ [])) (filter l ns))
    ∙ filter-append t (flat_map (within k) (filter l (n ∷ []))) (flat_map (within k) (filter l ns))

pub loose_more : (k : List Entry) (t l : ℕ → Bool) (xs : List ℕ) (i x : ℕ) (old new all : List ℕ) → i < length xs → x ≡ get_or xs i x → new ≡ old ++ filter t (flat_map (within k) (filter l (x ∷ []))) → old ++ filter t (flat_map (within k) (filter l (drop i xs))) ≡ all → new ++ filter t (flat_map (within k) (filter l (drop (i + 1) xs))) ≡ all
loose_more k t l xs i x old new all = piece_more (λ ns. filter t (flat_map (within k) (filter l ns))) (λ n. filter t (flat_map (within k) (filter l (n ∷ [])))) xs i x old new all (loose_first k t l)

-- the element at a place
pub itself : (xs : List ℕ) (i : ℕ) → i < length xs → get_or xs i 0 ≡ get_or xs i (get_or xs i 0)
itself xs i lt = get_or_default xs i 0 (get_or xs i 0) lt

-- a node, and then what is below it
pub collected : (k : List Entry) → IsSound k → (t : ℕ → Bool) (n : ℕ) (old one all : List ℕ) → one ≡ old ++ filter t (n ∷ []) → all ≡ one ++ filter t (below k n) → all ≡ old ++ filter t (within k n)
collected k s t n old one all e1 e2 =
    e2 ∙ ap (λ l. l ++ filter t (below k n)) e1 ∙ append_assoc old (filter t (n ∷ [])) (filter t (below k n))
    ∙ ap (λ l. old ++ l) (sym (ap (filter t) (within_is k s n) ∙ filter_first t n (below k n)))

-- nothing is taken
pub none_taken : (old piece : List ℕ) → piece ≡ [] → old ≡ old ++ piece
none_taken old piece e = sym (ap (λ l. old ++ l) e ∙ append-nil old)

-- ## Children

pub get_is : (xs : List ℕ) (i x : ℕ) → slice_get xs i ≡ Some x → x ≡ get_or xs i x
get_is [] i x h = cc
get_is (y ∷ xs) zero x h = cc
get_is (y ∷ xs) (suc i) x h = get_is xs i x h

pub get_none : (xs : List ℕ) (i : ℕ) → i < length xs → slice_get xs i ≡ None → ⊥
get_none [] i lt h = omega (arith, lt)
get_none (y ∷ xs) zero lt h = cc
get_none (y ∷ xs) (suc i) lt h = get_none xs i (omega (arith, lt)) h

pub child_node : (p : Page) (n i x : ℕ) → i < length (at (nodes p) n).children → x ≡ get_or (at (nodes p) n).children i x → x < length (nodes p)
child_node p n i x lt e = child_in (nodes p) (sound p) n x (listed_at (at (nodes p) n).children i x lt e)

pub child_smaller : (p : Page) (n i x : ℕ) → i < length (at (nodes p) n).children → x ≡ get_or (at (nodes p) n).children i x → height (tree (nodes p) x) < height (tree (nodes p) n)
child_smaller p n i x lt e = child_lower (nodes p) (sound p) n x (listed_at (at (nodes p) n).children i x lt e)
