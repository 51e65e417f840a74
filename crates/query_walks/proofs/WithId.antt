-- The nodes with an `id` below nodes: those of the owner's that have it, and up from each.
use Rattle.std.proofs.Common.{◌≡◌, ℕ, zero, suc, ◌+◌, ◌-◌, ◌<◌, ◌≤◌, List, [], ◌∷◌, Bool, true, false, ◌&&◌, ◌||◌, refl, sym, ap, ◌∙◌, subst, length, arith, eqb, eqb-true, eq-eqb, codes, Option, Some, None, ◌⊎◌, ⊎_elim}
use Rattle.std.proofs.lemmas.Bool.{or_cases, cases_Bool, cases_lt}
use Rattle.std.specs.Prelude.{option_to_list, is_some}
use Rattle.std.specs.List.{filter, flat_map, range_with_len}
use Rattle.std.specs.Option.{option_eq}
use Rattle.std.specs.Str.{bytes_eq}
use Rattle.code_units.specs.declared.owner.Owner.{Owner}
use Rattle.code_units.specs.declared.owner.Owner.TheVariants as owner
use Rattle.plain_tree.specs.Trees.{Label, TextOf, ElementOf, Trees, End, Node, height}
use Rattle.page_tree.specs.declared.page.Page.{Page}
use Rattle.tree_ops.specs.Trees.{has}
use Rattle.tree_ops.specs.Labels.{tag_of, attribute_of}
use Rattle.page_tree.specs.Owners.{is_owner, same_owner}
use Rattle.page_tree.specs.Entries.{Entry, at, body, tree, limit, IsSound}
use Rattle.page_tree.specs.Pages.{nodes, root}
use Rattle.page_tree.specs.Ids.{with_id}
use Rattle.page_tree.specs.Ids.{has_id as bears_id}
use Rattle.page_nodes.proofs.Owners.{same_is, is_same}
use Rattle.page_nodes.proofs.Shows.{Shows, none, one_more, shows_tree, shows_one}
use Rattle.page_nodes.proofs.Upward.{has_itself, none_some}
use Rattle.page_nodes.proofs.Walk.{nearer, some_is_same, without_body}
use Rattle.query_grammar.specs.declared.query.Hunter.TheVariants as hunter
use Rattle.query_grammar.specs.Filters.{is_equal}
use Rattle.page_tree.specs.Documents.{within, below, is_loose, tops, document}
use Rattle.query_walks.specs.Finds.{has_id, hunted}
use Rattle.query_grammar.specs.Finds.{has_number}
use Rattle.query_walks.specs.Walks.{AreNodes, HaveSame, below_any}
use Rattle.query_walks.proofs.Downward.{sound, rooted, within_is}
use Rattle.query_walks.proofs.Ordered.{has_listed, has_numbers, up_one, in_tree_node}
use Rattle.query_grammar.proofs.Numbers.{has_both, from_piece, kept_is}
use Rattle.query_walks.proofs.Behind.{keeps, kept_passes, to_piece, some_has, from_some}
use Rattle.query_walks.proofs.Members.{top_node, in_range}
use Rattle.query_grammar.proofs.Truths.{no_true, same_truth, and_parts, or_left, or_right}

-- ## Below, by the parents

module _ (k : List Entry) (s : IsSound k) where
  -- what is in the tree of a node of trees is in the trees
  through : (x q : ℕ) (ns : List ℕ) (ts : Trees ℕ) → Shows k ns ts → has q ts ≡ true → has x (tree k q) ≡ true → has x ts ≡ true
  through x q [] _ none h g = absurd (no_true h)
  through x q (n ∷ ns) _ (one_more {ks = ks} {ts = ts} hk hs) h g = ⊎_elim
      (λ e. top (eqb-true n q e))
      (λ h2. or_right (eqb n x) (has x ks || has x ts) (⊎_elim
      (λ h3. or_left (has x ks) (has x ts) (through x q (at k n).children ks hk h3 g))
      (λ h3. or_right (has x ks) (has x ts) (through x q ns ts hs h3 g))
      (or_cases (has q ks) (has q ts) h2)))
      (or_cases (eqb n q) (has q ks || has q ts) h)
    where
      top : n ≡ q → has x (Node n (at k n).label ks ts) ≡ true
      top e =
          let whole : tree k n ≡ Node n (at k n).label ks End = shows_one k (n ∷ []) (tree k n) (Node n (at k n).label ks End) (shows_tree k s n) (one_more hk none) in
          let g2 : has x (Node n (at k n).label ks End) ≡ true = sym (ap (has x) whole) ∙ subst (λ y. has x (tree k y) ≡ true) (sym e) g in
          ⊎_elim
          (λ a. or_left (eqb n x) (has x ks || has x ts) a)
          (λ a. or_right (eqb n x) (has x ks || has x ts) (⊎_elim (λ b. or_left (has x ks) (has x ts) b) (λ b. absurd (no_true b)) (or_cases (has x ks) false a)))
          (or_cases (eqb n x) (has x ks || false) g2)

  pub within_through : (x q n : ℕ) → has_number (within k n) q ≡ true → has_number (within k q) x ≡ true → has_number (within k n) x ≡ true
  within_through x q n h g = has_numbers (tree k n) x ∙ through x q (n ∷ []) (tree k n) (shows_tree k s n) (sym (has_numbers (tree k n) q) ∙ h) (sym (has_numbers (tree k q) x) ∙ g)

  pub in_itself : (n : ℕ) → has_number (within k n) n ≡ true
  in_itself n = has_numbers (tree k n) n ∙ has_itself k s n

  pub child_within : (x q : ℕ) → (at k x).parent ≡ Some q → has_number (below k q) x ≡ true
  child_within x q u = to_piece (within k) (at k q).children x x (has_listed x (at k q).children ∙ s.upward x q u) (in_itself x)

  pub split : (n q : ℕ) → has_number (within k n) q ≡ true → (eqb q n ≡ true) ⊎ (has_number (below k n) q ≡ true)
  split n q h = or_cases (eqb q n) (has_number (below k n) q) (sym (ap (λ l. has_number l q) (within_is k s n)) ∙ h)

  pub join : (n q : ℕ) → has_number (below k n) q ≡ true → has_number (within k n) q ≡ true
  join n q h = ap (λ l. has_number l q) (within_is k s n) ∙ or_right (eqb q n) (has_number (below k n) q) h

  -- a node is below another if its parent is that one or below it
  below_up : (x q n : ℕ) → (at k x).parent ≡ Some q → has_number (below k n) x ≡ (eqb q n || has_number (below k n) q)
  below_up x q n u = same_truth _ _ up down
    where
      up : has_number (below k n) x ≡ true → (eqb q n || has_number (below k n) q) ≡ true
      up h =
          let c = from_piece (within k) (at k n).children x h in
          ⊎_elim
          (λ e. or_left (eqb q n) (has_number (below k n) q) (eq-eqb q n (some_is_same q n (sym u ∙ ap (λ y. (at k y).parent) e ∙ s.down n (c.0) (sym (has_listed (c.0) (at k n).children) ∙ c.1)))))
          (λ w. or_right (eqb q n) (has_number (below k n) q) (to_piece (within k) (at k n).children (c.0) q (c.1)
          (subst (λ y. has_number (within k (c.0)) y ≡ true) (some_is_same (w.0) q (sym (w.1) ∙ u)) (has_numbers (tree k (c.0)) (w.0) ∙ w.2))))
          (up_one k s x (c.0) (sym (has_numbers (tree k (c.0)) x) ∙ c.2))

      down : (eqb q n || has_number (below k n) q) ≡ true → has_number (below k n) x ≡ true
      down h = ⊎_elim
          (λ e. subst (λ y. has_number (below k y) x ≡ true) (eqb-true q n e) (child_within x q u))
          (λ g. let c = from_piece (within k) (at k n).children q g in
          to_piece (within k) (at k n).children (c.0) x (c.1) (within_through x q (c.0) (c.2) (join q x (child_within x q u))))
          (or_cases (eqb q n) (has_number (below k n) q) h)

  -- a top is below none
  below_none : (x n : ℕ) → (at k x).parent ≡ None → has_number (below k n) x ≡ false
  below_none x n u = ⊎_elim
      (λ h. let c = from_piece (within k) (at k n).children x h in
      ⊎_elim
      (λ e. absurd (none_some n (sym u ∙ ap (λ y. (at k y).parent) e ∙ s.down n (c.0) (sym (has_listed (c.0) (at k n).children) ∙ c.1))))
      (λ w. absurd (none_some (w.0) (sym u ∙ w.1)))
      (up_one k s x (c.0) (sym (has_numbers (tree k (c.0)) x) ∙ c.2)))
      (λ h. h)
      (cases_Bool (has_number (below k n) x))

  pub any_up : (ns : List ℕ) (x q : ℕ) → (at k x).parent ≡ Some q → below_any k ns x ≡ (has_number ns q || below_any k ns q)
  any_up [] x q u = refl
  any_up (n ∷ ns) x q u = ap (λ b. b || below_any k ns x) (below_up x q n u) ∙ ap (λ b. (eqb q n || has_number (below k n) q) || b) (any_up ns x q u) ∙ mixed (eqb q n) (has_number (below k n) q) (has_number ns q) (below_any k ns q)
    where
      mixed : (a b c d : Bool) → ((a || b) || (c || d)) ≡ ((a || c) || (b || d))
      mixed true b c d = refl
      mixed false true true d = refl
      mixed false true false d = refl
      mixed false false c d = refl

  pub any_none : (ns : List ℕ) (x : ℕ) → (at k x).parent ≡ None → below_any k ns x ≡ false
  any_none [] x u = refl
  any_none (n ∷ ns) x u = ap (λ b. b || below_any k ns x) (below_none x n u) ∙ any_none ns x u

  -- what is below a node of a widget is its owner's
  owned : (fuel x n : ℕ) → suc limit - height (tree k x) < fuel → (n ≡ body → ⊥) → has x (tree k n) ≡ true → (at k x).owner ≡ (at k n).owner
  owned zero x n lt away h = absurd (omega (arith, lt))
  owned (suc fuel) x n lt away h = ⊎_elim
      (λ e. ap (λ y. (at k y).owner) e)
      (λ q. ⊎_elim
      (λ e. same_is (at k x).owner (at k (q.0)).owner e ∙ owned fuel (q.0) n (omega (arith, lt, nearer k s x (q.0) (q.1))) away (q.2))
      (λ e. absurd (no_true (sym (without_body k s n away) ∙ subst (λ y. has y (tree k n) ≡ true) (eqb-true (q.0) body e) (q.2))))
      (or_cases (same_owner (at k x).owner (at k (q.0)).owner) (eqb (q.0) body) (s.owned x (q.0) (q.1))))
      (up_one k s x n h)

-- ## The owner's nodes

range_has : (n a x : ℕ) → a ≤ x → x < a + n → has_number (range_with_len a n) x ≡ true
range_has zero a x le lt = absurd (omega (arith, le, lt))
range_has (suc n) a x le lt = ⊎_elim
    (λ e. or_left (eqb x a) (has_number (range_with_len (a + 1) n) x) e)
    (λ e. or_right (eqb x a) (has_number (range_with_len (a + 1) n) x) (range_has n (a + 1) x (above e) (omega (arith, lt))))
    (cases_Bool (eqb x a))
  where
    above : eqb x a ≡ false → a + 1 ≤ x
    above e = ⊎_elim
        (λ l. omega (arith, l))
        (λ g. let same : x ≡ a = omega (arith, le, g) in absurd (no_true (sym e ∙ eq-eqb x a same)))
        (cases_lt a x)

bears : (k : List Entry) (o : Owner) (w : List ℕ) (x : ℕ) → (at k x).owner ≡ o → bears_id o w (at k x) ≡ has_id k w x
bears k o w x e = ap (λ b. b && option_eq bytes_eq (attribute_of (codes "id") (at k x).label) (Some w)) (is_same (at k x).owner o e) ∙ of (at k x).label
  where
    equal : (a : Option (List ℕ)) → option_eq bytes_eq a (Some w) ≡ is_equal a w
    equal None = refl
    equal (Some v) = refl

    of : (l : Label) → option_eq bytes_eq (attribute_of (codes "id") l) (Some w) ≡ (is_some (tag_of l) && is_equal (attribute_of (codes "id") l) w)
    of (TextOf t) = refl
    of (ElementOf t a) = equal (attribute_of (codes "id") (ElementOf t a))

module _ (p : Page) (o : Owner) (own : is_owner o ≡ true) where
  root_owner : (r : Option ℕ) → root p o ≡ r → (x : ℕ) → has_number (option_to_list r) x ≡ true → (at (nodes p) x).owner ≡ o
  root_owner None e x h = absurd (no_true h)
  root_owner (Some r) e x h = ⊎_elim
      (λ same. subst (λ y. (at (nodes p) y).owner ≡ o) (sym (eqb-true x r same)) (same_is (at (nodes p) r).owner o ((rooted p).own o r own e)))
      (λ none. absurd (no_true none))
      (or_cases (eqb x r) false h)

  top_owner : (x : ℕ) → has_number (tops (nodes p) (root p o) o) x ≡ true → (at (nodes p) x).owner ≡ o
  top_owner x h = ⊎_elim
      (λ e. root_owner (root p o) refl x e)
      (λ e. same_is (at (nodes p) x).owner o ((and_parts _ _ ((and_parts _ _ (kept_passes (is_loose (nodes p) (root p o) o) (range_with_len 0 (length (nodes p))) x e)).0)).0))
      (or_cases _ _ (sym (has_both x (option_to_list (root p o)) (filter (is_loose (nodes p) (root p o) o) (range_with_len 0 (length (nodes p))))) ∙ h))

  document_node : (x : ℕ) → has_number (document (nodes p) (root p o) o) x ≡ true → x < length (nodes p)
  document_node x h =
      let q = from_piece (within (nodes p)) (tops (nodes p) (root p o) o) x h in
      in_tree_node (nodes p) (sound p) x (q.0) (top_node p o own (q.0) (q.1)) (q.2)

  module _ (away : same_owner o owner.Host ≡ false) where
    not_body : (x : ℕ) → (at (nodes p) x).owner ≡ o → x ≡ body → ⊥
    not_body x e same = no_true (sym away ∙ subst (λ q. same_owner q owner.Host ≡ true) (sym (ap (λ y. (at (nodes p) y).owner) same) ∙ e) ((sound p).host))

    document_owner : (x : ℕ) → has_number (document (nodes p) (root p o) o) x ≡ true → (at (nodes p) x).owner ≡ o
    document_owner x h =
        let q = from_piece (within (nodes p)) (tops (nodes p) (root p o) o) x h in
        let top = top_owner (q.0) (q.1) in
        owned (nodes p) (sound p) (suc (suc limit - height (tree (nodes p) x))) x (q.0) (omega arith) (not_body (q.0) top) (sym (has_numbers (tree (nodes p) (q.0)) x) ∙ q.2) ∙ top

    module _ (w starts marks : List ℕ) (same : (n : ℕ) → has_number marks n ≡ has_number starts n) where
      forth : (x : ℕ) → (at (nodes p) x).owner ≡ o → has_number (filter (below_any (nodes p) marks) (with_id (nodes p) o w)) x ≡ true → has_number (flat_map (hunted (nodes p) (root p o) (hunter.Id w)) starts) x ≡ true
      forth x e h =
          let k = nodes p in
          let q = from_some (λ n. has_number (below k n) x) marks (kept_passes (below_any k marks) (with_id k o w) x h) in
          let b = kept_passes (λ n. bears_id o w (at k n)) (range_with_len 0 (length k)) x (kept_is (below_any k marks) (with_id k o w) x h) in
          to_piece (hunted k (root p o) (hunter.Id w)) starts (q.0) x (sym (same (q.0)) ∙ q.1) (keeps (has_id k w) (below k (q.0)) x (q.2) (sym (bears k o w x e) ∙ b))

      back : (x : ℕ) → x < length (nodes p) → (at (nodes p) x).owner ≡ o → has_number (flat_map (hunted (nodes p) (root p o) (hunter.Id w)) starts) x ≡ true → has_number (filter (below_any (nodes p) marks) (with_id (nodes p) o w)) x ≡ true
      back x lt e h =
          let k = nodes p in
          let q = from_piece (hunted k (root p o) (hunter.Id w)) starts x h in
          keeps (below_any k marks) (with_id k o w) x
          (keeps (λ n. bears_id o w (at k n)) (range_with_len 0 (length k)) x (range_has (length k) 0 x (omega arith) (omega (arith, lt))) (bears k o w x e ∙ kept_passes (has_id k w) (below k (q.0)) x (q.2)))
          (some_has (λ n. has_number (below k n) x) marks (q.0) (same (q.0) ∙ q.1) (kept_is (has_id k w) (below k (q.0)) x (q.2)))

      pub same_named : (found : List ℕ) → found ≡ filter (below_any (nodes p) marks) (with_id (nodes p) o w) → HaveSame p o found (flat_map (hunted (nodes p) (root p o) (hunter.Id w)) starts)
      same_named found e x there = ap (λ l. has_number l x) e ∙ same_truth _ _ (forth x (document_owner x there)) (back x (document_node x there) (document_owner x there))

pub with_id_node : (p : Page) (o : Owner) (w : List ℕ) → AreNodes p (with_id (nodes p) o w)
with_id_node p o w x h = omega (arith, in_range (length (nodes p)) 0 x (kept_is (λ n. bears_id o w (at (nodes p) n)) (range_with_len 0 (length (nodes p))) x h))

pub named_nodes : (p : Page) (o : Owner) (w marks found : List ℕ) → found ≡ filter (below_any (nodes p) marks) (with_id (nodes p) o w) → AreNodes p found
named_nodes p o w marks found e x h = with_id_node p o w x (kept_is (below_any (nodes p) marks) (with_id (nodes p) o w) x (sym (ap (λ l. has_number l x) e) ∙ h))

pub no_host : (o : Owner) (w : ℕ) → o ≡ owner.Widget w → same_owner o owner.Host ≡ false
no_host o w e = ap (λ q. same_owner q owner.Host) e

-- ## Up from a node

pub up_on : (p : Page) (ns : List ℕ) (x q : ℕ) (all : Bool) → (at (nodes p) x).parent ≡ Some q → has_number ns q ≡ false → below_any (nodes p) ns x ≡ all → below_any (nodes p) ns q ≡ all
up_on p ns x q all u h inv = sym (any_up (nodes p) (sound p) ns x q u ∙ ap (λ b. b || below_any (nodes p) ns q) h) ∙ inv

pub up_found : (p : Page) (ns : List ℕ) (x q : ℕ) (all : Bool) → (at (nodes p) x).parent ≡ Some q → has_number ns q ≡ true → below_any (nodes p) ns x ≡ all → true ≡ all
up_found p ns x q all u h inv = sym (any_up (nodes p) (sound p) ns x q u ∙ ap (λ b. b || below_any (nodes p) ns q) h) ∙ inv

pub up_none : (p : Page) (ns : List ℕ) (x : ℕ) (all : Bool) → (at (nodes p) x).parent ≡ None → below_any (nodes p) ns x ≡ all → false ≡ all
up_none p ns x all u inv = sym (any_none (nodes p) (sound p) ns x u) ∙ inv
