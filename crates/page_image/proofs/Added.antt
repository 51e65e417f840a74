-- A tree is added, at the image.
use Rattle.std.proofs.Common.{◌≡◌, ◌≢◌, ℕ, zero, suc, ◌+◌, ◌<◌, ◌≤◌, List, [], ◌∷◌, ◌++◌, Bool, true, false, refl, sym, ap, ◌∙◌, length, cond, eqb, eqb-true, eq-eqb, ne_eqb, ◌||◌, ◌&&◌, not, arith, Option, Some, None, ⊎_elim}
use Rattle.std.specs.Prelude.{is_some, option_to_list}
use Rattle.std.specs.List.{filter, range_with_len}
use Rattle.std.proofs.lemmas.Bool.{or_cases}
use Rattle.code_units.specs.declared.owner.Owner.TheVariants as owner
use Rattle.plain_tree.specs.Trees.{Trees, PlainTrees, End, Node, beside, marked, size}
use Rattle.tree_ops.specs.Trees.{has, is_number, numbered}
use Rattle.tree_ops.proofs.Numbers.{numbered_order}
use Rattle.tree_ops.proofs.Tests.{cases, or_left, or_right}
use Rattle.page_nodes.specs.Adds.{IsAdded}
use Rattle.page_tree.specs.Counts.{count_of}
use Rattle.page_nodes.specs.Entries.{Entry, at, listed, tree, IsSound}
use Rattle.page_nodes.specs.Owners.{is_owner, same_owner, root_in}
use Rattle.page_tree.specs.Roots.{IsRooted}
use Rattle.page_nodes.proofs.Shows.{shows_tree}
use Rattle.page_nodes.proofs.Upward.{has_parent}
use Rattle.page_nodes.proofs.Owners.{is_same}
use Rattle.query_grammar.specs.Finds.{has_number}
use Rattle.page_tree.specs.Documents as page
use Rattle.page_tree.specs.Documents.{is_loose}
use Rattle.page_image.proofs.Lists.{has_numbers}
use Rattle.page_image.specs.Own.{is_own, own_number, own_nodes_from, trees_of, page_forest, own_forest}
use Rattle.page_image.proofs.Kept.{nodes_count}
use Rattle.page_image.proofs.Marked.{AllIn, beside_marked}
use Rattle.page_image.proofs.Numbers.{number_older}
use Rattle.page_image.proofs.Shown.{top_own, forest_own, own_is_node}

no_true : false ≡ true → ⊥
no_true e = cc

pub range_split : (a b n : ℕ) → range_with_len n (a + b) ≡ range_with_len n a ++ range_with_len (n + a) b
range_split zero b n = ap (λ x. range_with_len n x) (omega arith) ∙ ap (λ x. range_with_len x b) (omega arith)
range_split (suc a) b n =
    let e : suc a + b ≡ suc (a + b) = omega arith in
    ap (range_with_len n) e ∙ ap (λ l. n ∷ l) (range_split a b (n + 1)) ∙ ap (λ x. n ∷ (range_with_len (n + 1) a ++ range_with_len x b)) (omega arith)

in_range : (n a x : ℕ) → a ≤ x → x < a + n → has_number (range_with_len a n) x ≡ true
in_range zero a x le lt = absurd (omega (arith, le, lt))
in_range (suc n) a x le lt = cases (λ b. eqb x a ≡ b → (b || has_number (range_with_len (a + 1) n) x) ≡ true) (eqb x a) (λ e _. refl) (λ e _. in_range n (a + 1) x (omega (arith, le, other e)) (omega (arith, lt))) refl
  where
    other : eqb x a ≡ false → x ≢ a
    other e s = no_true (sym e ∙ eq-eqb x a s)

pub filter_both : (p : ℕ → Bool) (xs ys : List ℕ) → filter p (xs ++ ys) ≡ filter p xs ++ filter p ys
filter_both p [] ys = refl
filter_both p (x ∷ xs) ys = cases (λ b. cond b (x ∷ filter p (xs ++ ys)) (filter p (xs ++ ys)) ≡ cond b (x ∷ filter p xs) (filter p xs) ++ filter p ys) (p x) (λ _. ap (λ l. x ∷ l) (filter_both p xs ys)) (λ _. filter_both p xs ys)

-- tests that agree on a range
pub range_same : (p q : ℕ → Bool) (n a : ℕ) → ((x : ℕ) → a ≤ x → x < a + n → q x ≡ p x) → filter q (range_with_len a n) ≡ filter p (range_with_len a n)
range_same p q zero a h = refl
range_same p q (suc n) a h = ap (λ b. cond b (a ∷ filter q (range_with_len (a + 1) n)) (filter q (range_with_len (a + 1) n))) (h a (omega arith) (omega arith)) ∙ ap (λ l. cond (p a) (a ∷ l) l) (range_same p q n (a + 1) (λ x le lt. h x (omega (arith, le)) (omega (arith, lt))))

pub range_none : (q : ℕ → Bool) (n a : ℕ) → ((x : ℕ) → a ≤ x → x < a + n → q x ≡ false) → filter q (range_with_len a n) ≡ []
range_none q zero a h = refl
range_none q (suc n) a h = ap (λ b. cond b (a ∷ filter q (range_with_len (a + 1) n)) (filter q (range_with_len (a + 1) n))) (h a (omega arith) (omega arith)) ∙ range_none q n (a + 1) (λ x le lt. h x (omega (arith, le)) (omega (arith, lt)))

trees_both : (k : List Entry) (xs ys : List ℕ) → trees_of k (xs ++ ys) ≡ beside (trees_of k xs) (trees_of k ys)
trees_both k [] ys = refl
trees_both k (x ∷ xs) ys = ap (beside (tree k x)) (trees_both k xs ys)

-- behind a root and others
front : (u : Option ℕ) (xs ys : List ℕ) → option_to_list u ++ (xs ++ ys) ≡ (option_to_list u ++ xs) ++ ys
front None xs ys = refl
front (Some x) xs ys = refl

-- ## Own numbers

number_step : (k : List Entry) (w n : ℕ) → own_number k w (suc n) ≡ own_number k w n + cond (is_own k w n) 1 0
number_step [] w n = refl
number_step (e ∷ k) w zero = omega (arith, first k)
  where
    first : (k : List Entry) → own_number k w 0 ≡ 0
    first [] = refl
    first (d ∷ k) = refl
number_step (e ∷ k) w (suc n) = omega (arith, number_step k w n)

number_on : (k : List Entry) (w a i : ℕ) → ((x : ℕ) → a ≤ x → x < a + i → is_own k w x ≡ true) → own_number k w (a + i) ≡ own_number k w a + i
number_on k w a zero h = let e : a + zero ≡ a = omega arith in let g : own_number k w a ≡ own_number k w a + zero = omega arith in ap (own_number k w) e ∙ g
number_on k w a (suc i) h =
    let e : a + suc i ≡ suc (a + i) = omega arith in
    let one : cond {A = ℕ} (is_own k w (a + i)) 1 0 ≡ 1 = ap (λ b. cond {A = ℕ} b 1 0) (h (a + i) (omega arith) (omega arith)) in
    ap (own_number k w) e ∙ number_step k w (a + i) ∙ omega (arith, one, number_on k w a i (λ x le lt. h x le (omega (arith, lt))))

pub number_all : (k : List Entry) (w : ℕ) → own_number k w (length k) ≡ count_of (owner.Widget w) k
number_all [] w = refl
number_all (e ∷ k) w = ap (λ n. cond (same_owner e.owner (owner.Widget w)) 1 0 + n) (number_all k w)

marked_numbered : (f : ℕ → ℕ) (a c : ℕ) (p : PlainTrees) → ((i : ℕ) → i < size p → f (a + i) ≡ c + i) → marked f (numbered a p) ≡ numbered c p
marked_numbered f a c End h = refl
marked_numbered f a c (Node m l ks ts) h =
    ap (λ n. Node n l (marked f (numbered (a + 1) ks)) (marked f (numbered (a + 1 + size ks) ts))) (ap f (omega arith) ∙ h 0 (omega arith) ∙ omega arith)
    ∙ ap (λ t. Node c l t (marked f (numbered (a + 1 + size ks) ts))) (marked_numbered f (a + 1) (c + 1) ks (λ i lt. ap f (omega arith) ∙ h (i + 1) (omega (arith, lt)) ∙ omega arith))
    ∙ ap (Node c l (numbered (c + 1) ks)) (marked_numbered f (a + 1 + size ks) (c + 1 + size ks) ts (λ i lt. ap f (omega arith) ∙ h (i + 1 + size ks) (omega (arith, lt)) ∙ omega arith))

pub marked_in : (f g : ℕ → ℕ) (p : ℕ → Bool) → ((n : ℕ) → p n ≡ true → f n ≡ g n) → (ts : Trees ℕ) → AllIn p ts → marked f ts ≡ marked g ts
marked_in f g p h End q = refl
marked_in f g p h (Node m l ks ts) q = ap (λ n. Node n l (marked f ks) (marked f ts)) (h m (q.0)) ∙ ap (λ t. Node (g m) l t (marked f ts)) (marked_in f g p h ks (q.1)) ∙ ap (Node (g m) l (marked g ks)) (marked_in f g p h ts (q.2))

-- ## The call

module _ (k : List Entry) (s : IsSound k) (roots : List (Option ℕ)) (rooted : IsRooted k roots) (w : ℕ) (r : Option ℕ) (is : is_owner (owner.Widget w) ≡ true) (root : root_in roots (owner.Widget w) ≡ r) (m : List Entry) (sm : IsSound m) (id : ℕ) (p : PlainTrees) (c : IsAdded k m id (owner.Widget w) p) where
  new_own : (x : ℕ) → length k ≤ x → x < length k + size p → is_own m w x ≡ true
  new_own x le lt = is_same (at m x).owner (owner.Widget w) (c.own x le (omega (arith, lt, c.made)))

  -- all new nodes but the top have a parent
  new_parent : (x : ℕ) → id + 1 ≤ x → x < length k + size p → is_some (at m x).parent ≡ true
  new_parent x le lt = ⊎_elim
      (λ l. ⊎_elim (λ e. absurd (omega (arith, eqb-true id x e, le))) (λ e. absurd (no_true e)) (or_cases (eqb id x) false l))
      (λ q. ap is_some (q.1))
      (has_parent m sm x (id ∷ []) (tree m id) (shows_tree m sm id) there)
    where
      there : has x (tree m id) ≡ true
      there = ap (has x) c.here ∙ sym (has_numbers (numbered id p) x) ∙ ap (λ l. has_number l x) (numbered_order id p) ∙ in_range (size p) id x (omega (arith, le)) (omega (arith, lt, c.number))

  loose_old : (x : ℕ) → 0 ≤ x → x < 0 + length k → is_loose m r (owner.Widget w) x ≡ is_loose k r (owner.Widget w) x
  loose_old x le lt = ap (λ (e : Entry). same_owner e.owner (owner.Widget w) && not (is_some e.parent) && not (is_number x r)) (c.older.same x (omega (arith, lt)))

  -- a new node is no root
  no_root : is_number id r ≡ false
  no_root = by_root r root
    where
      by_root : (u : Option ℕ) → root_in roots (owner.Widget w) ≡ u → is_number id u ≡ false
      by_root None e = refl
      by_root (Some x) e = ne_eqb id x (λ g. omega (arith, g, c.number, rooted.is_in (owner.Widget w) x is e))

  loose_new : (q : ℕ) → size p ≡ suc q → filter (is_loose m r (owner.Widget w)) (range_with_len (0 + length k) (size p)) ≡ id ∷ []
  loose_new q e =
      (let start : 0 + length k ≡ id = omega (arith, c.number) in ap (λ n. filter (is_loose m r (owner.Widget w)) (range_with_len n (size p))) start)
      ∙ ap (λ n. filter (is_loose m r (owner.Widget w)) (range_with_len id n)) e
      ∙ ap (λ b. cond b (id ∷ filter (is_loose m r (owner.Widget w)) (range_with_len (id + 1) q)) (filter (is_loose m r (owner.Widget w)) (range_with_len (id + 1) q))) top_loose
      ∙ ap (λ l. id ∷ l) (range_none (is_loose m r (owner.Widget w)) q (id + 1) others)
    where
      top_loose : is_loose m r (owner.Widget w) id ≡ true
      top_loose = ap (λ b. b && not (is_some (at m id).parent) && not (is_number id r)) (new_own id (omega (arith, c.number)) (omega (arith, e, c.number))) ∙ ap (λ u. not (is_some u) && not (is_number id r)) c.top ∙ ap not no_root

      no_and : (b : Bool) → (b && false) ≡ false
      no_and true = refl
      no_and false = refl

      others : (x : ℕ) → id + 1 ≤ x → x < id + 1 + q → is_loose m r (owner.Widget w) x ≡ false
      others x le lt = ap (λ b. same_owner (at m x).owner (owner.Widget w) && not b && not (is_number x r)) (new_parent x le (omega (arith, lt, e, c.number))) ∙ ap (λ b. b && not (is_number x r)) (no_and (same_owner (at m x).owner (owner.Widget w)))

  old_trees : (ns : List ℕ) → ((x : ℕ) → listed x ns ≡ true → is_own k w x ≡ true) → trees_of m ns ≡ trees_of k ns
  old_trees [] h = refl
  old_trees (x ∷ ns) h = ap (λ t. beside t (trees_of m ns)) (c.older.trees x (own_is_node k w x (h x (or_left (eqb x x) (listed x ns) (eq-eqb x x refl))))) ∙ ap (beside (tree k x)) (old_trees ns (λ y l. h y (or_right (eqb x y) (listed y ns) l)))

  page_added : (q : ℕ) → size p ≡ suc q → page_forest m r w ≡ beside (page_forest k r w) (numbered id p)
  page_added q e =
      ap (λ ns. trees_of m (option_to_list r ++ ns)) (ap (λ n. filter (is_loose m r (owner.Widget w)) (range_with_len 0 n)) c.made
      ∙ ap (filter (is_loose m r (owner.Widget w))) (range_split (length k) (size p) 0)
      ∙ filter_both (is_loose m r (owner.Widget w)) (range_with_len 0 (length k)) (range_with_len (0 + length k) (size p))
      ∙ ap (λ l. l ++ filter (is_loose m r (owner.Widget w)) (range_with_len (0 + length k) (size p))) (range_same (is_loose k r (owner.Widget w)) (is_loose m r (owner.Widget w)) (length k) 0 loose_old)
      ∙ ap (λ l. filter (is_loose k r (owner.Widget w)) (range_with_len 0 (length k)) ++ l) (loose_new q e))
      ∙ ap (trees_of m) (front r (filter (is_loose k r (owner.Widget w)) (range_with_len 0 (length k))) (id ∷ []))
      ∙ trees_both m (page.tops k r (owner.Widget w)) (id ∷ [])
      ∙ ap (λ t. beside t (trees_of m (id ∷ []))) (old_trees (page.tops k r (owner.Widget w)) (top_own k s roots rooted w r is root))
      ∙ ap (λ t. beside (page_forest k r w) (beside t End)) c.here
      ∙ ap (beside (page_forest k r w)) (beside_end (numbered id p))
    where
      beside_end : (ts : Trees ℕ) → beside ts End ≡ ts
      beside_end End = refl
      beside_end (Node n l ks ts) = ap (Node n l ks) (beside_end ts)

  -- the new tree stands behind all others, with the next own numbers
  pub forest_added : (q : ℕ) → size p ≡ suc q → own_forest m r w ≡ beside (own_forest k r w) (numbered (count_of (owner.Widget w) k) p)
  forest_added q e =
      ap (marked (own_number m w)) (page_added q e)
      ∙ beside_marked (own_number m w) (page_forest k r w) (numbered id p)
      ∙ ap (λ t. beside t (marked (own_number m w) (numbered id p))) (marked_in (own_number m w) (own_number k w) (is_own k w) old_number (page_forest k r w) (forest_own k s roots rooted w r is root))
      ∙ ap (beside (own_forest k r w)) (marked_numbered (own_number m w) id (count_of (owner.Widget w) k) p new_number)
    where
      old_number : (n : ℕ) → is_own k w n ≡ true → own_number m w n ≡ own_number k w n
      old_number n h = number_older k m w c.older.long c.older.same n (omega (arith, own_is_node k w n h))

      base : own_number m w id ≡ count_of (owner.Widget w) k
      base = number_older k m w c.older.long c.older.same id (omega (arith, c.number)) ∙ ap (own_number k w) c.number ∙ number_all k w

      new_number : (i : ℕ) → i < size p → own_number m w (id + i) ≡ count_of (owner.Widget w) k + i
      new_number i lt = number_on m w id i (λ x le l. new_own x (omega (arith, le, c.number)) (omega (arith, l, lt, c.number))) ∙ ap (λ n. n + i) base

-- ## The widget's nodes

owned_all : (m : List Entry) (w a : ℕ) → ((x : ℕ) → x < length m → is_own m w x ≡ true) → own_nodes_from a m w ≡ range_with_len a (length m)
owned_all [] w a h = refl
owned_all (e ∷ m) w a h =
    ap (λ b. cond b (a ∷ own_nodes_from (a + 1) m w) (own_nodes_from (a + 1) m w)) (h 0 (omega arith))
    ∙ ap (λ l. a ∷ l) (owned_all m w (a + 1) (λ x lt. h (suc x) (omega (arith, lt))))

pub own_nodes_grown : (k m : List Entry) (w a n : ℕ) → length m ≡ length k + n → ((x : ℕ) → x < length k → (at m x).owner ≡ (at k x).owner) → ((x : ℕ) → length k ≤ x → x < length m → is_own m w x ≡ true) → own_nodes_from a m w ≡ own_nodes_from a k w ++ range_with_len (a + length k) n
own_nodes_grown [] m w a n e same new = owned_all m w a (λ x lt. new x (omega arith) lt) ∙ ap (range_with_len a) (omega (arith, e)) ∙ ap (λ x. range_with_len x n) (omega arith)
own_nodes_grown (d ∷ k) [] w a n e same new = absurd (omega (arith, e))
own_nodes_grown (d ∷ k) (c ∷ m) w a n e same new =
    let rest = own_nodes_grown k m w (a + 1) n (omega (arith, e)) (λ x lt. same (suc x) (omega (arith, lt))) (λ x le lt. new (suc x) (omega (arith, le)) (omega (arith, lt))) in
    let far : a + 1 + length k ≡ a + suc (length k) = omega arith in
    ap (λ o. cond (same_owner o (owner.Widget w)) (a ∷ own_nodes_from (a + 1) m w) (own_nodes_from (a + 1) m w)) (same 0 (omega arith))
    ∙ by_test (same_owner d.owner (owner.Widget w)) (rest ∙ ap (λ x. own_nodes_from (a + 1) k w ++ range_with_len x n) far)
  where
    by_test : (b : Bool) → own_nodes_from (a + 1) m w ≡ own_nodes_from (a + 1) k w ++ range_with_len (a + suc (length k)) n → cond b (a ∷ own_nodes_from (a + 1) m w) (own_nodes_from (a + 1) m w) ≡ cond b (a ∷ own_nodes_from (a + 1) k w) (own_nodes_from (a + 1) k w) ++ range_with_len (a + suc (length k)) n
    by_test true q = ap (λ l. a ∷ l) q
    by_test false q = q

pub count_grown : (k m : List Entry) (w n : ℕ) → length m ≡ length k + n → ((x : ℕ) → x < length k → (at m x).owner ≡ (at k x).owner) → ((x : ℕ) → length k ≤ x → x < length m → is_own m w x ≡ true) → count_of (owner.Widget w) m ≡ count_of (owner.Widget w) k + n
count_grown k m w n e same new =
    sym (nodes_count m w 0) ∙ ap length (own_nodes_grown k m w 0 n e same new) ∙ both_long (own_nodes_from 0 k w) (0 + length k) n
    ∙ ap (λ x. x + n) (nodes_count k w 0)
  where
    range_long : (a n : ℕ) → length (range_with_len a n) ≡ n
    range_long a zero = refl
    range_long a (suc n) = ap suc (range_long (a + 1) n)

    both_long : (xs : List ℕ) (a n : ℕ) → length (xs ++ range_with_len a n) ≡ length xs + n
    both_long [] a n = range_long a n ∙ omega arith
    both_long (x ∷ xs) a n = ap suc (both_long xs a n) ∙ omega arith
