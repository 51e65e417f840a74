-- A copy is appended, at the image.
use Rattle.std.proofs.Common.{◌≡◌, ℕ, suc, ◌+◌, List, Bool, true, false, refl, ap, ◌∙◌, length, cond, eqb, eq-eqb, ne_eqb, ◌||◌, arith, Option, Some, None, unwrap_or}
use Rattle.std.specs.Option.{option_or}
use Rattle.code_units.specs.declared.owner.Owner.TheVariants as owner
use Rattle.plain_tree.specs.Trees.{Label, Trees, PlainTrees, End, Node, beside, marked, unmarked, size}
use Rattle.tree_ops.specs.Labels.{copied_label}
use Rattle.tree_ops.specs.Trees.{has, tree_of, subtree, without, grafted, numbered, copied}
use Rattle.tree_ops.proofs.Absent.{without_off}
use Rattle.tree_ops.proofs.Tests.{or_none}
use Rattle.page_nodes.specs.Adds.{IsAdded}
use Rattle.page_tree.specs.Counts.{count_of}
use Rattle.page_nodes.specs.Entries.{Entry, at, tree, IsSound}
use Rattle.page_nodes.specs.Moves.{IsPut}
use Rattle.page_nodes.specs.Owners.{is_owner, same_owner, root_in}
use Rattle.page_tree.specs.Roots.{IsRooted}
use Rattle.page_tree.proofs.RootsKept.{rooted_added}
use Rattle.page_nodes.proofs.Owners.{is_same}
use Rattle.widget_meaning.specs.Trees.{moved}
use Rattle.page_image.specs.Own.{is_own, own_number, page_forest, own_forest}
use Rattle.page_image.proofs.Marked.{AllIn, subtree_marked}
use Rattle.page_image.proofs.Numbers.{lesser, tell, number_older}
use Rattle.page_image.proofs.Shown.{own_is_node, forest_own, own_tree}
use Rattle.page_image.proofs.Steps.{forest_put}
use Rattle.page_image.proofs.Added.{forest_added, number_all}

pub none_there : (n : ℕ) (ts : Trees ℕ) → has n ts ≡ false → tree_of n ts ≡ None
none_there n End h = refl
none_there n (Node m l ks ts) h =
    let p = or_none (eqb m n) (has n ks || has n ts) h in
    let q = or_none (has n ks) (has n ts) (p.1) in
    ap (λ b. cond b (Some (Node m l ks End)) (option_or (tree_of n ks) (tree_of n ts))) (p.0)
    ∙ ap (λ o. option_or o (tree_of n ts)) (none_there n ks (q.0))
    ∙ none_there n ts (q.1)

pub without_beside : (n : ℕ) (a b : Trees ℕ) → without n (beside a b) ≡ beside (without n a) (without n b)
without_beside n End b = refl
without_beside n (Node m l ks a) b = by_test (eqb m n) (without_beside n a b)
  where
    by_test : (c : Bool) → without n (beside a b) ≡ beside (without n a) (without n b) → cond c (without n (beside a b)) (Node m l (without n ks) (without n (beside a b))) ≡ beside (cond c (without n a) (Node m l (without n ks) (without n a))) (without n b)
    by_test true e = e
    by_test false e = ap (Node m l (without n ks)) e

either_then : (u v w : Option (Trees ℕ)) → option_or u (option_or v w) ≡ option_or (option_or u v) w
either_then None v w = refl
either_then (Some t) v w = refl

pub tree_of_beside : (n : ℕ) (a b : Trees ℕ) → tree_of n (beside a b) ≡ option_or (tree_of n a) (tree_of n b)
tree_of_beside n End b = refl
tree_of_beside n (Node m l ks a) b = by_test (eqb m n) (tree_of_beside n a b)
  where
    by_test : (c : Bool) → tree_of n (beside a b) ≡ option_or (tree_of n a) (tree_of n b) → cond c (Some (Node m l ks End)) (option_or (tree_of n ks) (tree_of n (beside a b))) ≡ option_or (cond c (Some (Node m l ks End)) (option_or (tree_of n ks) (tree_of n a))) (tree_of n b)
    by_test true e = refl
    by_test false e = ap (option_or (tree_of n ks)) e ∙ either_then (tree_of n ks) (tree_of n a) (tree_of n b)

-- a new tree behind the others that is put under a node was grafted there
new_moved : (t c : ℕ) (l : Label) (ks ts : Trees ℕ) → has c ts ≡ false → moved t None (beside ts (Node c l ks End)) c ≡ grafted t None (Node c l ks End) ts
new_moved t c l ks ts h =
    ap (λ u. grafted t None u (without c (beside ts (Node c l ks End)))) (ap (λ o. unwrap_or o End) (tree_of_beside c ts (Node c l ks End) ∙ ap (λ o. option_or o (tree_of c (Node c l ks End))) (none_there c ts h) ∙ ap (λ b. cond b (Some (Node c l ks End)) (option_or (tree_of c ks) None)) (eq-eqb c c refl)))
    ∙ ap (grafted t None (Node c l ks End)) (without_beside c ts (Node c l ks End) ∙ ap (λ u. beside u (without c (Node c l ks End))) (without_off c ts h) ∙ ap (λ b. beside ts (cond b End (Node c l (without c ks) End))) (eq-eqb c c refl) ∙ beside_end ts)
  where
    beside_end : (ts : Trees ℕ) → beside ts End ≡ ts
    beside_end End = refl
    beside_end (Node n l ks ts) = ap (Node n l ks) (beside_end ts)

-- no own number is the next one
none_new : (k : List Entry) (w : ℕ) (ts : Trees ℕ) → AllIn (is_own k w) ts → has (count_of (owner.Widget w) k) (marked (own_number k w) ts) ≡ false
none_new k w End h = refl
none_new k w (Node m l ks ts) h =
    ap (λ b. b || (has (count_of (owner.Widget w) k) (marked (own_number k w) ks) || has (count_of (owner.Widget w) k) (marked (own_number k w) ts))) (ne_eqb (own_number k w m) (count_of (owner.Widget w) k) (λ e. omega (arith, e, lesser k w m (length k) (h.0) (own_is_node k w m (h.0)), number_all k w)))
    ∙ ap (λ b. b || has (count_of (owner.Widget w) k) (marked (own_number k w) ts)) (none_new k w ks (h.1))
    ∙ none_new k w ts (h.2)

-- new numbers do not look at the old ones
numbered_of : (f : ℕ → ℕ) (c : ℕ) (ts : Trees ℕ) → numbered c (copied (marked f ts)) ≡ numbered c (unmarked (copied ts))
numbered_of f c End = refl
numbered_of f c (Node m l ks ts) =
    ap (λ t. Node c (copied_label l) t (numbered (c + 1 + size (copied (marked f ks))) (copied (marked f ts)))) (numbered_of f (c + 1) ks)
    ∙ ap (λ n. Node c (copied_label l) (numbered (c + 1) (unmarked (copied ks))) (numbered (c + 1 + n) (copied (marked f ts)))) (size_of ks)
    ∙ ap (Node c (copied_label l) (numbered (c + 1) (unmarked (copied ks)))) (numbered_of f (c + 1 + size (unmarked (copied ks))) ts)
  where
    size_of : (ts : Trees ℕ) → size (copied (marked f ts)) ≡ size (unmarked (copied ts))
    size_of End = refl
    size_of (Node m l ks ts) = ap (λ n. n + size (copied (marked f ts)) + 1) (size_of ks) ∙ ap (λ n. size (unmarked (copied ks)) + n + 1) (size_of ts)

module _ (k : List Entry) (s : IsSound k) (roots : List (Option ℕ)) (rooted : IsRooted k roots) (w r : ℕ) (is : is_owner (owner.Widget w) ≡ true) (root : root_in roots (owner.Widget w) ≡ Some r) where
  -- one tree is added, and put under a node as its last child
  pub forest_new_put : (m m2 : List Entry) (sm : IsSound m) (t id : ℕ) (l : Label) (p : PlainTrees) → IsAdded k m id (owner.Widget w) (Node tt l p End) → IsPut m m2 t None id → is_own k w t ≡ true →
      own_forest m2 (Some r) w ≡ grafted (own_number k w t) None (numbered (count_of (owner.Widget w) k) (Node tt l p End)) (own_forest k (Some r) w)
  forest_new_put m m2 sm t id l p c put ht =
      let one : size (Node tt l p End) ≡ suc (size p) = omega arith in
      let mine : is_own m w id ≡ true = is_same (at m id).owner (owner.Widget w) (c.own id (omega (arith, c.number)) (omega (arith, c.is_in))) in
      let lt = own_is_node k w t ht in
      let target : is_own m w t ≡ true = ap (λ (e : Entry). same_owner e.owner (owner.Widget w)) (c.older.same t lt) ∙ ht in
      let own_id : own_number m w id ≡ count_of (owner.Widget w) k = number_older k m w c.older.long c.older.same id (omega (arith, c.number)) ∙ ap (own_number k w) c.number ∙ number_all k w in
      let own_t : own_number m w t ≡ own_number k w t = number_older k m w c.older.long c.older.same t (omega (arith, lt)) in
      forest_put m sm roots (rooted_added k m roots id (owner.Widget w) (Node tt l p End) s sm rooted is c) w r is root m2 t None id put target tt mine (λ e. omega (arith, e, c.number, rooted.is_in (owner.Widget w) r is root))
      ∙ ap (λ x. moved x None (own_forest m (Some r) w) (own_number m w id)) own_t
      ∙ ap (λ x. moved (own_number k w t) None (own_forest m (Some r) w) x) own_id
      ∙ ap (λ ts. moved (own_number k w t) None ts (count_of (owner.Widget w) k)) (forest_added k s roots rooted w (Some r) is root m sm id (Node tt l p End) c (size p) one)
      ∙ new_moved (own_number k w t) (count_of (owner.Widget w) k) l (numbered (count_of (owner.Widget w) k + 1) p) (own_forest k (Some r) w) (none_new k w (page_forest k (Some r) w) (forest_own k s roots rooted w (Some r) is root))

-- a copy is what the meaning makes of the node
pub copy_is : (k : List Entry) (s : IsSound k) (roots : List (Option ℕ)) (rooted : IsRooted k roots) (w : ℕ) (r : Option ℕ) (is : is_owner (owner.Widget w) ≡ true) (root : root_in roots (owner.Widget w) ≡ r) (c n : ℕ) → is_own k w n ≡ true → numbered c (copied (subtree (own_number k w n) (own_forest k r w))) ≡ numbered c (unmarked (copied (tree k n)))
copy_is k s roots rooted w r is root c n h =
    ap (λ ts. numbered c (copied ts)) (subtree_marked (own_number k w) (is_own k w) (λ a b ha hb. tell k w a b ha hb) n h (page_forest k r w) (forest_own k s roots rooted w r is root))
    ∙ numbered_of (own_number k w) c (subtree n (page_forest k r w))
    ∙ ap (λ ts. numbered c (unmarked (copied ts))) (own_tree k s roots rooted w r is root n h)
