-- The roots stay as they are to be while nodes move.
use Rattle.std.proofs.Common.{◌≤◌, ◌≡◌, ℕ, ◌<◌, List, [], ◌∷◌, Bool, true, false, refl, sym, ap, ◌∙◌, subst, arith, cond, eqb, eqb-true, eq-eqb, Some, None, Option, inl, inr, ◌⊎◌, ⊎_elim, length, ◌||◌, ◌&&◌, not}
use Rattle.std.proofs.lemmas.Bool.{cases_Bool, cases_lt, eqb-false, and_parts}
use Rattle.code_units.specs.declared.owner.Owner.{Owner}
use Rattle.code_units.specs.declared.owner.Owner.TheVariants as owner
use Rattle.plain_tree.specs.Trees.{Label, PlainTrees}
use Rattle.page_nodes.specs.Adds.{IsAdded}
use Rattle.page_nodes.proofs.Walk.{child_in, without_body}
use Rattle.std.proofs.lemmas.List.{get_or_past}
use Rattle.page_nodes.specs.Owners.{is_owner, same_owner, root_in}
use Rattle.page_tree.specs.Roots.{IsRooted}
use Rattle.page_nodes.specs.Entries.{Entry, at, body, listed, tree, IsSound, no_entry}
use Rattle.page_nodes.specs.Moves.{parents_after, ArePut, Detached, AreDetached, KeepsNodes, OthersStay, IsLinked, IsSwapped, IsRelabelled}
use Rattle.page_tree.specs.Pages.{MayPutAll, MayReplace, root_after, HasNone}
use Rattle.page_nodes.proofs.Owners.{same_is, is_same}
use Rattle.page_nodes.specs.Trees.{pruned}
use Rattle.page_nodes.proofs.Put.{owner_below, others_detached, other_not_in, pruned_off}
use Rattle.tree_ops.proofs.Absent.{grafted_off, relabelled_off}
use Rattle.page_nodes.proofs.Lists.{cases, listed_place}

some_is : (a b : ℕ) → Some a ≡ Some b → a ≡ b
some_is a b h = cc

true_false : true ≡ false → ⊥
true_false h = cc

-- a parent after several were put under one is that one or the one before
pub parent_cases : (t : ℕ) (ns : List ℕ) (u : ℕ → Option ℕ) (x p : ℕ) → parents_after t ns u x ≡ Some p → ((listed x ns ≡ true) × (t ≡ p)) ⊎ (u x ≡ Some p)
parent_cases t [] u x p h = inr h
parent_cases t (n ∷ ns) u x p h = ⊎_elim
    (λ l. inl (ap (λ b. b) (or_right_of (eqb n x) (listed x ns) (l.0)), l.1))
    (λ e. cases (λ b. eqb x n ≡ b → cond b (Some t) (u x) ≡ Some p → ((listed x (n ∷ ns) ≡ true) × (t ≡ p)) ⊎ (u x ≡ Some p)) (eqb x n)
    (λ same _ g. inl (or_left_of (eqb n x) (listed x ns) (eq-eqb n x (sym (eqb-true x n same))), some_is t p g))
    (λ _ _ g. inr g) refl e)
    (parent_cases t ns (λ y. cond (eqb y n) (Some t) (u y)) x p h)
  where
    or_right_of : (a b : Bool) → b ≡ true → (a || b) ≡ true
    or_right_of true b g = refl
    or_right_of false b g = g

    or_left_of : (a b : Bool) → a ≡ true → (a || b) ≡ true
    or_left_of true b g = refl
    or_left_of false b g = cc

-- a node of the list is no root and has the target's owner
listed_inside : (k : List Entry) (root : Owner → Option ℕ) (t : ℕ) (ns : List ℕ) → MayPutAll k root t ns → (x : ℕ) → listed x ns ≡ true → ((at k x).owner ≡ (at k t).owner) × (root (at k x).owner ≡ Some x → ⊥)
listed_inside k root t ns may x l =
    let p = listed_place x ns l in
    let a = may.inside (p.0) (p.1) in
    (subst (λ y. (at k y).owner ≡ (at k t).owner) (p.2) a.owner, subst (λ y. root (at k y).owner ≡ Some y → ⊥) (p.2) a.no_root)

pub rooted_put : (k m : List Entry) (roots : List (Option ℕ)) (t : ℕ) (s : Option ℕ) (ns : List ℕ) → IsSound k → IsRooted k roots → MayPutAll k (root_in roots) t ns → ArePut k m t s ns → IsRooted m roots
rooted_put k m roots t s ns sound r may put = record {
  host = r.host;
  owners = λ n. ap is_owner (put.kept.owners n) ∙ r.owners n;
  is_in = λ o n i e. omega (arith, put.kept.made, r.is_in o n i e);
  own = λ o n i e. ap (λ p. same_owner p o) (put.kept.owners n) ∙ r.own o n i e;
  high = λ o n p i e u. ⊎_elim
      (λ l. absurd ((listed_inside k (root_in roots) t ns may n (l.0)).1 (ap (root_in roots) (same_is (at k n).owner o (r.own o n i e)) ∙ e)))
      (λ v. r.high o n p i e v)
      (parent_cases t ns (λ y. (at k y).parent) n p (sym (put.parents n) ∙ u));
  under = λ n u w.
      let v : same_owner (at k n).owner owner.Host ≡ false = ap (λ p. same_owner p owner.Host) (sym (put.kept.owners n)) ∙ w in
      ap (root_in roots) (put.kept.owners n) ∙ ⊎_elim
      (λ l. absurd (true_false (sym (ap (λ p. same_owner p owner.Host) ((listed_inside k (root_in roots) t ns may n (l.0)).0 ∙ ap (λ y. (at k y).owner) (l.1)) ∙ sound.host) ∙ v)))
      (λ g. r.under n g v)
      (parent_cases t ns (λ y. (at k y).parent) n body (sym (put.parents n) ∙ u));
}

pub rooted_put_same : (k a m : List Entry) (roots : List (Option ℕ)) (t : ℕ) (s : Option ℕ) (ns : List ℕ) → a ≡ k → IsSound k → IsRooted k roots → MayPutAll k (root_in roots) t ns → ArePut a m t s ns → IsRooted m roots
rooted_put_same k a m roots t s ns e sound r may put = rooted_put k m roots t s ns sound r may (subst (λ y. ArePut y m t s ns) e put)

not_none : (p : ℕ) (b : Bool) (u : Option ℕ) → cond b None u ≡ Some p → u ≡ Some p
not_none p true u h = cc
not_none p false u h = h

-- where nodes lose their parents at most
rooted_fewer : (k m : List Entry) (roots : List (Option ℕ)) → IsRooted k roots → KeepsNodes k m → ((x p : ℕ) → (at m x).parent ≡ Some p → (at k x).parent ≡ Some p) → IsRooted m roots
rooted_fewer k m roots r kept parents = record {
  host = r.host;
  owners = λ x. ap is_owner (kept.owners x) ∙ r.owners x;
  is_in = λ o x i e. omega (arith, kept.made, r.is_in o x i e);
  own = λ o x i e. ap (λ p. same_owner p o) (kept.owners x) ∙ r.own o x i e;
  high = λ o x p i e u. r.high o x p i e (parents x p u);
  under = λ x u w. ap (root_in roots) (kept.owners x) ∙ r.under x (parents x body u) (ap (λ p. same_owner p owner.Host) (sym (kept.owners x)) ∙ w);
}

pub rooted_cut : (k m : List Entry) (roots : List (Option ℕ)) (n : ℕ) → IsRooted k roots → Detached k m n → IsRooted m roots
rooted_cut k m roots n r cut = rooted_fewer k m roots r cut.kept (λ x p u. not_none p (eqb x n) (at k x).parent (sym (cut.parents x) ∙ u))

pub rooted_cut_all : (k m : List Entry) (roots : List (Option ℕ)) (ns : List ℕ) → IsRooted k roots → AreDetached k m ns → IsRooted m roots
rooted_cut_all k m roots ns r cut = rooted_fewer k m roots r cut.kept (λ x p u. not_none p (listed x ns) (at k x).parent (sym (cut.parents x) ∙ u))

pub rooted_replaced : (k b a m : List Entry) (roots : List (Option ℕ)) (t n : ℕ) (ns : List ℕ) → b ≡ k → IsSound k → IsRooted k roots → MayReplace k (root_in roots) t n ns → ArePut b a t (Some n) ns → Detached a m n → IsRooted m roots
rooted_replaced k b a m roots t n ns e sound r may put cut = rooted_cut a m roots n (rooted_put_same k b a roots t (Some n) ns e sound r may.may put) cut

-- a node that is no root has its parent's owner
pub owner_of_parent : (k : List Entry) (roots : List (Option ℕ)) → IsSound k → IsRooted k roots → (n t : ℕ) → (at k n).parent ≡ Some t → (root_in roots (at k n).owner ≡ Some n → ⊥) → (at k n).owner ≡ (at k t).owner
owner_of_parent k roots s r n t u free = cases (λ b. eqb t body ≡ b → (at k n).owner ≡ (at k t).owner) (eqb t body)
    (λ e _. let b : t ≡ body = eqb-true t body e in ⊎_elim
    (λ h. same_is (at k n).owner owner.Host h ∙ sym (ap (λ y. (at k y).owner) b ∙ same_is (at k body).owner owner.Host s.host))
    (λ h. absurd (free (r.under n (u ∙ ap (λ y. Some y) b) h)))
    (cases_Bool (same_owner (at k n).owner owner.Host)))
    (λ e _. owner_below k s n t u (eqb-false t body e)) refl

pub others_replaced : (k b a m : List Entry) (roots : List (Option ℕ)) (t n : ℕ) (ns : List ℕ) → b ≡ k → IsSound k → IsSound a → IsRooted k roots → MayReplace k (root_in roots) t n ns → ArePut b a t (Some n) ns → OthersStay b a t → Detached a m n → OthersStay k m n
others_replaced k b a m roots t n ns e sound asound r may put stay cut x away ne =
    let kept : KeepsNodes k a = subst (λ y. KeepsNodes y a) e put.kept in
    let same = owner_of_parent k roots sound r n t may.parent may.no_root in
    let first : tree a x ≡ tree k x = subst (λ y. OthersStay y a t) e stay x away (λ g. ne (g ∙ sym same)) in
    others_detached a m n asound cut x away (λ g. ne (sym (kept.owners x) ∙ g ∙ kept.owners n)) ∙ first

-- a widget's node becomes its owner's root
root_cases : (n r : ℕ) (o p : Owner) (root : Owner → Option ℕ) → root_after n o root p ≡ Some r → ((p ≡ o) × (n ≡ r)) ⊎ (root p ≡ Some r)
root_cases n r o p root h = cases (λ b. (same_owner p o && not (same_owner o owner.Host)) ≡ b → cond b (Some n) (root p) ≡ Some r → ((p ≡ o) × (n ≡ r)) ⊎ (root p ≡ Some r)) (same_owner p o && not (same_owner o owner.Host))
    (λ e _ g. inl (same_is p o ((and_parts (same_owner p o) (not (same_owner o owner.Host)) e).0), some_is n r g))
    (λ _ _ g. inr g) refl h

root_of_host : (n : ℕ) (o : Owner) (root : Owner → Option ℕ) → root_after n o root owner.Host ≡ root owner.Host
root_of_host n owner.Host root = refl
root_of_host n (owner.Widget w) root = refl

-- the root of a widget's node that becomes one
root_new : (n : ℕ) (o : Owner) (root : Owner → Option ℕ) → same_owner o owner.Host ≡ false → root_after n o root o ≡ Some n
root_new n o root h = ap (λ b. cond (b && not (same_owner o owner.Host)) (Some n) (root o)) (is_same o o refl) ∙ ap (λ b. cond (not b) (Some n) (root o)) h

root_other : (n : ℕ) (o p : Owner) (root : Owner → Option ℕ) → (p ≡ o → ⊥) → root_after n o root p ≡ root p
root_other n o p root ne = cases (λ b. same_owner p o ≡ b → cond (b && not (same_owner o owner.Host)) (Some n) (root p) ≡ root p) (same_owner p o)
    (λ e _. absurd (ne (same_is p o e))) (λ _ _. refl) refl

-- what a new root changes
pub record NewRoot (k m : List Entry) (roots : List (Option ℕ)) (n : ℕ) : Type 0 where
  pub made : length m ≡ length k
  pub owners : (x : ℕ) → (at m x).owner ≡ (at k x).owner
  pub parents : (x p : ℕ) → (at m x).parent ≡ Some p → ((n ≡ x) × (body ≡ p)) ⊎ ((at k x).parent ≡ Some p)
  pub is_in : n < length k
  pub top : (at k n).parent ≡ None
  pub free : (r : ℕ) → same_owner (at k n).owner owner.Host ≡ false → root_in roots (at k n).owner ≡ Some r → r ≡ n

none_some : (p : ℕ) → ◌≡◌ {A = Option ℕ} None (Some p) → ⊥
none_some p h = cc

pub rooted_new : (k m : List Entry) (roots after : List (Option ℕ)) (n : ℕ) → IsRooted k roots → NewRoot k m roots n → ((o : Owner) → is_owner o ≡ true → root_in after o ≡ root_after n (at m n).owner (root_in roots) o) → IsRooted m after
rooted_new k m roots after n r g set =
    let own : (at m n).owner ≡ (at k n).owner = g.owners n in
    record {
      host = set owner.Host refl ∙ root_of_host n (at m n).owner (root_in roots) ∙ r.host;
      owners = λ x. ap is_owner (g.owners x) ∙ r.owners x;
      is_in = λ o x i e. ⊎_elim (λ h. omega (arith, h.1, g.is_in, g.made)) (λ h. omega (arith, g.made, r.is_in o x i h)) (root_cases n x (at m n).owner o (root_in roots) (sym (set o i) ∙ e));
      own = λ o x i e. ⊎_elim
          (λ h. is_same (at m x).owner o (ap (λ y. (at m y).owner) (sym (h.1)) ∙ sym (h.0)))
          (λ h. ap (λ p. same_owner p o) (g.owners x) ∙ r.own o x i h)
          (root_cases n x (at m n).owner o (root_in roots) (sym (set o i) ∙ e));
      high = λ o x p i e u. ⊎_elim
          (λ h. sym (h.1))
          (λ h. ⊎_elim
          (λ c. absurd (none_some p (sym g.top ∙ ap (λ y. (at k y).parent) (c.1) ∙ h)))
          (λ c. r.high o x p i c h)
          (root_cases n x (at m n).owner o (root_in roots) (sym (set o i) ∙ e)))
          (g.parents x p u);
      under = λ x u w. set (at m x).owner (ap is_owner (g.owners x) ∙ r.owners x) ∙ ⊎_elim
          (λ h. subst (λ y. same_owner (at m y).owner owner.Host ≡ false → root_after n (at m n).owner (root_in roots) (at m y).owner ≡ Some y) (h.0) (root_new n (at m n).owner (root_in roots)) w)
          (λ h.
          let v : same_owner (at k x).owner owner.Host ≡ false = ap (λ p. same_owner p owner.Host) (sym (g.owners x)) ∙ w in
          let old : root_in roots (at k x).owner ≡ Some x = r.under x h v in
          root_other n (at m n).owner (at m x).owner (root_in roots) (λ same.
          let e : (at k x).owner ≡ (at k n).owner = sym (g.owners x) ∙ same ∙ own in
          none_some body (sym g.top ∙ ap (λ y. (at k y).parent) (sym (g.free x (ap (λ p. same_owner p owner.Host) (sym e) ∙ v) (ap (root_in roots) (sym e) ∙ old))) ∙ h))
          ∙ ap (root_in roots) (g.owners x) ∙ old)
          (g.parents x body u);
    }

linked_parent : (x n p : ℕ) (b : Bool) (u : Option ℕ) → eqb x n ≡ b → cond b (Some body) u ≡ Some p → ((n ≡ x) × (body ≡ p)) ⊎ (u ≡ Some p)
linked_parent x n p true u e h = inl (sym (eqb-true x n e), some_is body p h)
linked_parent x n p false u e h = inr h

free_of : (roots : List (Option ℕ)) (o : Owner) → HasNone roots o → (r : ℕ) → same_owner o owner.Host ≡ false → root_in roots o ≡ Some r → ⊥
free_of roots owner.Host f r h e = cc
free_of roots (owner.Widget w) f r h e = none_some r (sym f ∙ e)

pub new_linked : (k b m : List Entry) (roots : List (Option ℕ)) (n : ℕ) → b ≡ k → n < length k → (at k n).parent ≡ None → HasNone roots (at k n).owner → IsLinked b m body None n → NewRoot k m roots n
new_linked k b m roots n e lt top free l =
    let linked : IsLinked k m body None n = subst (λ y. IsLinked y m body None n) e l in
    record {
      made = linked.kept.made;
      owners = linked.kept.owners;
      parents = λ x p u. linked_parent x n p (eqb x n) (at k x).parent refl (sym (linked.parents x) ∙ u);
      is_in = lt;
      top = top;
      free = λ r h e. absurd (free_of roots (at k n).owner free r h e);
    }

-- a root that stands under nothing
pub new_apart : (k : List Entry) (roots : List (Option ℕ)) (n : ℕ) → n < length k → (at k n).parent ≡ None
    → ((r : ℕ) → same_owner (at k n).owner owner.Host ≡ false → root_in roots (at k n).owner ≡ Some r → r ≡ n) → NewRoot k k roots n
new_apart k roots n lt top free = record {
  made = refl;
  owners = λ x. refl;
  parents = λ x p u. inr u;
  is_in = lt;
  top = top;
  free = free;
}

pub new_swapped : (k m : List Entry) (roots : List (Option ℕ)) (old n : ℕ) → n < length k → (at k n).parent ≡ None
    → ((r : ℕ) → same_owner (at k n).owner owner.Host ≡ false → root_in roots (at k n).owner ≡ Some r → r ≡ n) → IsSwapped k m old n → NewRoot k m roots n
new_swapped k m roots old n lt top free c = record {
  made = c.kept.made;
  owners = c.kept.owners;
  parents = λ x p u. linked_parent x n p (eqb x n) (at k x).parent refl (not_none p (eqb x old) (cond (eqb x n) (Some body) (at k x).parent) (sym (c.parents x) ∙ u));
  is_in = lt;
  top = top;
  free = free;
}

pub rooted_relabelled : (k m : List Entry) (roots : List (Option ℕ)) (n : ℕ) (l : Label) → IsRooted k roots → IsRelabelled k m n l → IsRooted m roots
rooted_relabelled k m roots n l r c = record {
  host = r.host;
  owners = λ x. ap is_owner (c.owners x) ∙ r.owners x;
  is_in = λ o x i e. omega (arith, c.made, r.is_in o x i e);
  own = λ o x i e. ap (λ p. same_owner p o) (c.owners x) ∙ r.own o x i e;
  high = λ o x p i e u. r.high o x p i e (sym (c.parents x) ∙ u);
  under = λ x u w. ap (root_in roots) (c.owners x) ∙ r.under x (sym (c.parents x) ∙ u) (ap (λ p. same_owner p owner.Host) (sym (c.owners x)) ∙ w);
}

pub others_relabelled : (k m : List Entry) (n : ℕ) (l : Label) → IsSound k → IsRelabelled k m n l → OthersStay k m n
others_relabelled k m n l s c = λ x away ne. c.trees x ∙ relabelled_off n l (tree k x) (other_not_in k s n x away ne)

pub others_same : (k m : List Entry) (n : ℕ) → m ≡ k → OthersStay k m n
others_same k m n e = λ x _ _. ap (λ y. tree y x) e

-- A new tree has no part in the older nodes.
added_parent : (k m : List Entry) (id : ℕ) (o : Owner) (p : PlainTrees) → IsSound k → IsSound m → IsAdded k m id o p → (x q : ℕ) → length k ≤ x → (at m x).parent ≡ Some q → length k ≤ q
added_parent k m id o p sk sm g x q le u = ⊎_elim
    (λ lt.
    let l : listed x (at m q).children ≡ true = sm.upward x q u in
    absurd (omega (arith, le, child_in k sk q x (ap (λ (y : Entry). listed x y.children) (sym (g.older.same q lt)) ∙ l))))
    (λ h. h)
    (cases_lt q (length k))

pub rooted_added : (k m : List Entry) (roots : List (Option ℕ)) (id : ℕ) (o : Owner) (p : PlainTrees) → IsSound k → IsSound m → IsRooted k roots → is_owner o ≡ true → IsAdded k m id o p → IsRooted m roots
rooted_added k m roots id o p sk sm r io g = record {
  host = r.host;
  owners = λ x. ⊎_elim
      (λ lt. ap (λ (y : Entry). is_owner y.owner) (g.older.same x lt) ∙ r.owners x)
      (λ le. ⊎_elim
      (λ lt. ap is_owner (g.own x le lt) ∙ io)
      (λ past. ap (λ (y : Entry). is_owner y.owner) (get_or_past m x no_entry past))
      (cases_lt x (length m)))
      (cases_lt x (length k));
  is_in = λ q x i e. omega (arith, g.older.long, r.is_in q x i e);
  own = λ q x i e. ap (λ (y : Entry). same_owner y.owner q) (g.older.same x (r.is_in q x i e)) ∙ r.own q x i e;
  high = λ q x c i e u. r.high q x c i e (sym (ap (λ (y : Entry). y.parent) (g.older.same x (r.is_in q x i e))) ∙ u);
  under = λ x u w. ⊎_elim
      (λ lt. let same = g.older.same x lt in ap (λ (y : Entry). root_in roots y.owner) same ∙ r.under x (sym (ap (λ (y : Entry). y.parent) same) ∙ u) (sym (ap (λ (y : Entry). same_owner y.owner owner.Host) same) ∙ w))
      (λ le. absurd (omega (arith, added_parent k m id o p sk sm g x body le u, sk.some)))
      (cases_lt x (length k));
}

-- what is put under `body` changes its tree alone
pub others_adopted : (k b m : List Entry) (n : ℕ) → b ≡ k → IsSound b → IsLinked b m body None n → OthersStay k m n
others_adopted k b m n e s h = λ x away ne. h.trees x ∙ grafted_off body None (tree b n) (tree b x) (without_body b s x away) ∙ ap (λ y. tree y x) e

pub others_swapped : (k m : List Entry) (n new : ℕ) → IsSound k → IsSwapped k m n new → OthersStay k m n
others_swapped k m n new s h = λ x away ne. h.trees x ∙ ap (pruned n) (grafted_off body (Some n) (tree k new) (tree k x) (without_body k s x away)) ∙ pruned_off n (tree k x) (other_not_in k s n x away ne)
