-- A tree of a widget is added: what grows, and what the others keep.
use Rattle.std.proofs.Common.{◌≡◌, ◌≢◌, ℕ, zero, suc, ◌+◌, ◌<◌, ◌≤◌, List, [], ◌∷◌, ◌++◌, true, false, refl, sym, ap, ◌∙◌, subst, length, cond, eqb, ne_eqb, eq-eqb, eqb-true, ◌&&◌, not, arith, Option, ⊎_elim}
use Rattle.std.specs.Prelude.{is_some, option_to_list}
use Rattle.std.specs.List.{filter, range_with_len}
use Rattle.std.proofs.lemmas.Bool.{cases_Bool, or_cases}
use Rattle.std.proofs.lemmas.List.{append-nil}
use Rattle.code_units.specs.declared.owner.Owner.TheVariants as owner
use Rattle.plain_tree.specs.Trees.{Trees, PlainTrees, End, Node, beside, marked, unmarked, size}
use Rattle.tree_ops.specs.Trees.{has, is_number, subtree, numbered, copied}
use Rattle.tree_ops.proofs.Tests.{or_left, or_right}
use Rattle.page_nodes.specs.Adds.{IsAdded}
use Rattle.page_nodes.specs.Entries.{Entry, at, listed, tree, IsSound}
use Rattle.page_nodes.specs.Owners.{is_owner, same_owner, root_in}
use Rattle.page_nodes.proofs.Owners.{same_is, is_same}
use Rattle.page_nodes.proofs.Upward.{has_itself}
use Rattle.page_nodes.proofs.Walk.{limit_is}
use Rattle.page_tree.specs.declared.page.Page.{Page}
use Rattle.page_tree.specs.declared.fault.PageFault.{PageFault}
use Rattle.page_tree.specs.declared.fault.PageFault.TheVariants as fault
use Rattle.page_tree.specs.Counts.{count_of, most_of}
use Rattle.page_tree.specs.Documents as docs
use Rattle.page_tree.specs.Documents.{is_loose}
use Rattle.page_tree.specs.Pages as page
use Rattle.page_tree.specs.Pages.{nodes, root, SameRoots, RefusesAdd, copy_of}
use Rattle.page_tree.specs.Roots.{IsRooted}
use Rattle.query_grammar.specs.Finds.{has_number}
use Rattle.page_image.specs.Image.{owns, number, own, root_of, forest}
use Rattle.page_image.specs.Own.{is_own, own_number, own_nodes, own_nodes_from, trees_of, page_forest, own_forest}
use Rattle.page_image.specs.Refusals.{RefusesTree, RefusesCopy}
use Rattle.page_image.specs.Stays.{Grows, OthersStay}
use Rattle.page_image.proofs.Added.{range_split, filter_both, range_same, range_none, marked_in, forest_added, own_nodes_grown, number_all}
use Rattle.page_image.proofs.Copying.{copy_is}
use Rattle.page_image.proofs.Kept.{nodes_count}
use Rattle.page_image.proofs.Looking.{subtree_own}
use Rattle.page_image.proofs.Marked.{size_marked}
use Rattle.page_image.proofs.Numbers.{number_older}
use Rattle.page_image.proofs.Pages.{is_widget, owner_is}
use Rattle.page_image.proofs.Shown.{own_is_node, top_own, forest_own}

no_true : false ≡ true → ⊥
no_true e = cc

-- ## Own nodes of the others

own_none : (m : List Entry) (v a : ℕ) → ((x : ℕ) → x < length m → is_own m v x ≡ false) → own_nodes_from a m v ≡ []
own_none [] v a h = refl
own_none (e ∷ m) v a h = ap (λ b. cond b (a ∷ own_nodes_from (a + 1) m v) (own_nodes_from (a + 1) m v)) (h 0 (omega arith)) ∙ own_none m v (a + 1) (λ x lt. h (suc x) (omega (arith, lt)))

own_nodes_kept : (k m : List Entry) (v a : ℕ) → length k ≤ length m → ((x : ℕ) → x < length k → (at m x).owner ≡ (at k x).owner) → ((x : ℕ) → length k ≤ x → x < length m → is_own m v x ≡ false) → own_nodes_from a m v ≡ own_nodes_from a k v
own_nodes_kept [] m v a le same new = own_none m v a (λ x lt. new x (omega arith) lt)
own_nodes_kept (d ∷ k) [] v a le same new = absurd (omega (arith, le))
own_nodes_kept (d ∷ k) (c ∷ m) v a le same new =
    ap (λ o. cond (same_owner o (owner.Widget v)) (a ∷ own_nodes_from (a + 1) m v) (own_nodes_from (a + 1) m v)) (same 0 (omega arith))
    ∙ ap (λ l. cond (same_owner d.owner (owner.Widget v)) (a ∷ l) l) (own_nodes_kept k m v (a + 1) (omega (arith, le)) (λ x lt. same (suc x) (omega (arith, lt))) (λ x le lt. new (suc x) (omega (arith, le)) (omega (arith, lt))))

range_low : (n a x : ℕ) → has_number (range_with_len a n) x ≡ true → a ≤ x
range_low zero a x h = absurd (no_true h)
range_low (suc n) a x h = ⊎_elim (λ e. let g : x ≡ a = eqb-true x a e in omega (arith, g)) (λ e. omega (arith, range_low n (a + 1) x e)) (or_cases (eqb x a) (has_number (range_with_len (a + 1) n) x) h)

pub range_long : (n a : ℕ) → length (range_with_len a n) ≡ n
range_long zero a = refl
range_long (suc n) a = ap suc (range_long n (a + 1))

-- ## Another widget

module _ (k : List Entry) (s : IsSound k) (roots : List (Option ℕ)) (rooted : IsRooted k roots) (v : ℕ) (r : Option ℕ) (is : is_owner (owner.Widget v) ≡ true) (root : root_in roots (owner.Widget v) ≡ r) (m : List Entry) (id w : ℕ) (p : PlainTrees) (c : IsAdded k m id (owner.Widget w) p) (other : v ≢ w) where
  new_other : (x : ℕ) → length k ≤ x → x < length m → is_own m v x ≡ false
  new_other x le lt = ap (λ o. same_owner o (owner.Widget v)) (c.own x le lt) ∙ ne_eqb w v (λ e. other (sym e))

  pub nodes_elsewhere : own_nodes m v ≡ own_nodes k v
  nodes_elsewhere = own_nodes_kept k m v 0 c.older.long (λ x lt. ap (λ (e : Entry). e.owner) (c.older.same x lt)) new_other

  loose_old : (x : ℕ) → 0 ≤ x → x < 0 + length k → is_loose m r (owner.Widget v) x ≡ is_loose k r (owner.Widget v) x
  loose_old x le lt = ap (λ (e : Entry). same_owner e.owner (owner.Widget v) && not (is_some e.parent) && not (is_number x r)) (c.older.same x (omega (arith, lt)))

  loose_new : (x : ℕ) → 0 + length k ≤ x → x < 0 + length k + size p → is_loose m r (owner.Widget v) x ≡ false
  loose_new x le lt = ap (λ b. b && not (is_some (at m x).parent) && not (is_number x r)) (new_other x (omega (arith, le)) (omega (arith, lt, c.made)))

  old_trees : (ns : List ℕ) → ((x : ℕ) → listed x ns ≡ true → is_own k v x ≡ true) → trees_of m ns ≡ trees_of k ns
  old_trees [] h = refl
  old_trees (x ∷ ns) h = ap (λ t. beside t (trees_of m ns)) (c.older.trees x (own_is_node k v x (h x (or_left (eqb x x) (listed x ns) (eq-eqb x x refl))))) ∙ ap (beside (tree k x)) (old_trees ns (λ y l. h y (or_right (eqb x y) (listed y ns) l)))

  pub added_elsewhere : own_forest m r v ≡ own_forest k r v
  added_elsewhere =
      ap (λ ns. marked (own_number m v) (trees_of m (option_to_list r ++ ns)))
      (ap (λ n. filter (is_loose m r (owner.Widget v)) (range_with_len 0 n)) c.made
      ∙ ap (filter (is_loose m r (owner.Widget v))) (range_split (length k) (size p) 0)
      ∙ filter_both (is_loose m r (owner.Widget v)) (range_with_len 0 (length k)) (range_with_len (0 + length k) (size p))
      ∙ ap (λ l. l ++ filter (is_loose m r (owner.Widget v)) (range_with_len (0 + length k) (size p))) (range_same (is_loose k r (owner.Widget v)) (is_loose m r (owner.Widget v)) (length k) 0 loose_old)
      ∙ ap (λ l. filter (is_loose k r (owner.Widget v)) (range_with_len 0 (length k)) ++ l) (range_none (is_loose m r (owner.Widget v)) (size p) (0 + length k) loose_new)
      ∙ append-nil (filter (is_loose k r (owner.Widget v)) (range_with_len 0 (length k))))
      ∙ ap (marked (own_number m v)) (old_trees (docs.tops k r (owner.Widget v)) (top_own k s roots rooted v r is root))
      ∙ marked_in (own_number m v) (own_number k v) (is_own k v) (λ n h. number_older k m v c.older.long c.older.same n (omega (arith, own_is_node k v n h))) (page_forest k r v) (forest_own k s roots rooted v r is root)

-- ## The page

-- a tree that is there has nodes
size_more : (p : PlainTrees) → (p ≡ End → ⊥) → (q : ℕ) × (size p ≡ suc q)
size_more End h = absurd (h refl)
size_more (Node m l ks ts) h = (size ks + size ts, omega arith)

module _ (old new : Page) (same : SameRoots old new) (w : ℕ) (lt : w < 32) (id : ℕ) (p : PlainTrees) (c : IsAdded (nodes old) (nodes new) id (owner.Widget w) p) where
  some_nodes : p ≡ End → ⊥
  some_nodes e = no_true (sym (ap (has id) (c.here ∙ ap (numbered id) e)) ∙ has_itself (nodes new) new.arena.sound id)

  pub added_image : forest new w ≡ beside (forest old w) (numbered (length (own old w)) p)
  unfolding forest own
  added_image =
      let more = size_more p some_nodes in
      ap (λ u. own_forest (nodes new) u w) (same (owner.Widget w) (is_widget w lt))
      ∙ forest_added (nodes old) old.arena.sound old.roots old.rooted w (root old (owner.Widget w)) (is_widget w lt) refl (nodes new) new.arena.sound id p c (more.0) (more.1)
      ∙ ap (λ n. beside (own_forest (nodes old) (root old (owner.Widget w)) w) (numbered n p)) (sym (nodes_count (nodes old) w 0))

  pub added_number : number new w id ≡ length (own old w)
  unfolding number own
  added_number = number_older (nodes old) (nodes new) w c.older.long c.older.same id (omega (arith, c.number)) ∙ ap (own_number (nodes old) w) c.number ∙ number_all (nodes old) w ∙ sym (nodes_count (nodes old) w 0)

  pub added_owned : owns new w id ≡ true
  unfolding owns
  added_owned = is_same (at (nodes new) id).owner (owner.Widget w) (c.own id (omega (arith, c.number)) c.is_in)

  pub added_grows : Grows old new w (range_with_len (0 + length (nodes old)) (size p))
  unfolding owns number own root_of
  added_grows = record {
    owners = λ v n h. ap (λ (e : Entry). same_owner e.owner (owner.Widget v)) (c.older.same n (own_is_node (nodes old) v n h)) ∙ h;
    numbers = λ v n h. number_older (nodes old) (nodes new) v c.older.long c.older.same n (omega (arith, own_is_node (nodes old) v n h));
    nodes = own_nodes_grown (nodes old) (nodes new) w 0 (size p) c.made (λ x l. ap (λ (e : Entry). e.owner) (c.older.same x l)) (λ x le l. is_same (at (nodes new) x).owner (owner.Widget w) (c.own x le l));
    others = λ v ne. own_nodes_kept (nodes old) (nodes new) v 0 c.older.long (λ x l. ap (λ (e : Entry). e.owner) (c.older.same x l)) (λ x le l. ap (λ o. same_owner o (owner.Widget v)) (c.own x le l) ∙ ne_eqb w v (λ e. ne (sym e)));
    fresh = λ v n h. ⊎_elim (λ e. absurd (omega (arith, own_is_node (nodes old) v n e, range_low (size p) (0 + length (nodes old)) n h))) (λ e. e) (cases_Bool (is_own (nodes old) v n));
    roots = λ v l. same (owner.Widget v) (is_widget v l);
  }

  pub added_others : OthersStay old new w
  unfolding forest
  added_others v l ne =
      ap (λ u. own_forest (nodes new) u v) (same (owner.Widget v) (is_widget v l))
      ∙ added_elsewhere (nodes old) old.arena.sound old.roots old.rooted v (root old (owner.Widget v)) (is_widget v l) refl (nodes new) id w p c ne

-- a copy of a node, as the meaning makes it
pub copied_image : (p : Page) (w n c : ℕ) → owns p w n ≡ true → numbered c (unmarked (copied (tree (nodes p) n))) ≡ numbered c (copied (subtree (number p w n) (forest p w)))
unfolding owns number forest
copied_image p w n c h = sym (copy_is (nodes p) p.arena.sound p.roots p.rooted w (root p (owner.Widget w)) (owner_is p w n h) refl c n h)

-- of as many nodes
pub copy_size : (p : Page) (w n : ℕ) → owns p w n ≡ true → size (copy_of (nodes p) n) ≡ size (subtree (number p w n) (forest p w))
unfolding owns number forest
copy_size p w n h = size_unmarked (copied (tree (nodes p) n)) ∙ size_copied (tree (nodes p) n) ∙ sym (size_marked (own_number (nodes p) w) (tree (nodes p) n)) ∙ sym (ap size (subtree_own (nodes p) p.arena.sound p.roots p.rooted w (root p (owner.Widget w)) (owner_is p w n h) refl n h))
  where
    size_copied : (ts : Trees ℕ) → size (copied ts) ≡ size ts
    size_copied End = refl
    size_copied (Node m l ks ts) = ap (λ a. a + size (copied ts) + 1) (size_copied ks) ∙ ap (λ b. size ks + b + 1) (size_copied ts)

    size_unmarked : (ts : Trees ℕ) → size (unmarked ts) ≡ size ts
    size_unmarked End = refl
    size_unmarked (Node m l ks ts) = ap (λ a. a + size (unmarked ts) + 1) (size_unmarked ks) ∙ ap (λ b. size ks + b + 1) (size_unmarked ts)

-- the copy is the owner's
pub copy_added : (old new : Page) (w n id : ℕ) → owns old w n ≡ true → IsAdded (nodes old) (nodes new) id (at (nodes old) n).owner (copy_of (nodes old) n) → IsAdded (nodes old) (nodes new) id (owner.Widget w) (copy_of (nodes old) n)
unfolding owns
copy_added old new w n id h c = subst (λ o. IsAdded (nodes old) (nodes new) id o (copy_of (nodes old) n)) (same_is (at (nodes old) n).owner (owner.Widget w) h) c

pub no_host : (p : Page) (w n : ℕ) → owns p w n ≡ true → same_owner (at (nodes p) n).owner owner.Host ≡ false
unfolding owns
no_host p w n h = ap (λ o. same_owner o owner.Host) (same_is (at (nodes p) n).owner (owner.Widget w) h)

-- ## Answers

pub added_refused : (p : Page) (w : ℕ) (t : PlainTrees) (e : PageFault) → RefusesAdd (nodes p) (owner.Widget w) t e → RefusesTree (length (own p w)) t e
unfolding own
added_refused p w t fault.TooDeep c = omega (arith, c, limit_is)
added_refused p w t (fault.Nodes kept) c = (omega (arith, c.0, limit_is), c.1.0 ∙ sym (nodes_count (nodes p) w 0), omega (arith, c.1.0, c.1.1, nodes_count (nodes p) w 0))
added_refused p w t fault.Memory c = tt
added_refused p w t fault.NotInside c = absurd c

pub copy_refused : (p : Page) (w n : ℕ) → owns p w n ≡ true → (e : PageFault) → page.RefusesCopy (nodes p) (at (nodes p) n).owner (copy_of (nodes p) n) e → RefusesCopy (length (own p w)) (size (subtree (number p w n) (forest p w))) e
unfolding owns own
copy_refused p w n h fault.TooDeep c = absurd c
copy_refused p w n h fault.NotInside c = absurd c
copy_refused p w n h fault.Memory c = tt
copy_refused p w n h (fault.Nodes kept) c =
    let same : (at (nodes p) n).owner ≡ owner.Widget w = same_is (at (nodes p) n).owner (owner.Widget w) h in
    let count : count_of (at (nodes p) n).owner (nodes p) ≡ length (own_nodes (nodes p) w) = ap (λ o. count_of o (nodes p)) same ∙ sym (nodes_count (nodes p) w 0) in
    let most : most_of (at (nodes p) n).owner ≡ 16384 = ap most_of same in
    (c.0 ∙ count, omega (arith, c.1, c.0, count, most, copy_size p w n h))
