-- A tree is added to a page, or refused.
use Rattle.std.proofs.Common.{◌≡◌, ℕ, ◌+◌, ◌-◌, ◌<◌, ◌≤◌, List, true, false, refl, sym, ap, ◌∙◌, subst, arith, get_or, set, Result, Ok, Err}
use Rattle.std.specs.Prelude.{IfOk, IfErr, OnOk}
use Rattle.std.specs.Result.{IsErrAnd}
use Rattle.code_units.specs.declared.owner.Owner.{Owner}
use Rattle.code_units.specs.declared.owner.Owner.TheVariants as owner
use Rattle.plain_tree.specs.Trees.{Trees, End, Node, PlainTrees, unmarked, size, height}
use Rattle.page_tree.specs.declared.fault.PageFault.{PageFault}
use Rattle.page_tree.specs.declared.fault.PageFault.TheVariants as fault
use Rattle.page_nodes.specs.Owners.{is_owner, same_owner, slot}
use Rattle.page_nodes.specs.Entries.{Entry, at, body, tree, limit, IsSound}
use Rattle.page_nodes.proofs.Shows.{tree_lower}
use Rattle.tree_ops.specs.Trees.{copied}
use Rattle.page_tree.specs.Counts.{count_of, most_of, IsCounted}
use Rattle.page_nodes.specs.Adds.{IsAdded}
use Rattle.page_tree.specs.Pages.{MayAdd, IsTooMany, RefusesAdd, RefusesCopy}
use Rattle.page_tree.proofs.Counts.{counted_added}
use Rattle.page_nodes.proofs.Walk.{limit_is}

pub kept_is : (k : List Entry) (made : List ℕ) (o : Owner) (i : ℕ) → IsCounted k made → is_owner o ≡ true → i ≡ slot o → get_or made i 0 ≡ count_of o k
kept_is k made o i c io e = ap (λ q. get_or made q 0) e ∙ c.counts o io

-- what is left of the room for an owner's nodes
pub may_add : (k : List Entry) (made : List ℕ) (o : Owner) (p : PlainTrees) (i most left : ℕ) → IsCounted k made → is_owner o ≡ true → i ≡ slot o → most ≡ most_of o → height p ≤ 201 → left + size p ≡ most - get_or made i 0 → MayAdd k o p
may_add k made o p i most left c io ei em low room = record {
  low = omega (arith, low, limit_is);
  room = omega (arith, room, em, kept_is k made o i c io ei, c.most o io);
}

pub too_many : (k : List Entry) (made : List ℕ) (o : Owner) (p : PlainTrees) (i most : ℕ) → IsCounted k made → is_owner o ≡ true → i ≡ slot o → most ≡ most_of o → height p ≤ 201 → most - get_or made i 0 < size p → (height p ≤ limit) × IsTooMany k o p (get_or made i 0)
too_many k made o p i most c io ei em low room = (omega (arith, low, limit_is), (kept_is k made o i c io ei, omega (arith, room, em, kept_is k made o i c io ei, c.most o io)))

pub counted_now : (k m : List Entry) (made : List ℕ) (id : ℕ) (o : Owner) (p : PlainTrees) (i j most most2 left : ℕ) → IsCounted k made → IsAdded k m id o p → is_owner o ≡ true → i ≡ slot o → j ≡ slot o → most ≡ most_of o → most2 ≡ most_of o → left + size p ≡ most - get_or made i 0 → IsCounted m (set made j (most2 - left))
counted_now k m made id o p i j most most2 left c g io ei ej em em2 room =
    let kept = kept_is k made o i c io ei in
    subst (λ q. IsCounted m (set made q (most2 - left))) (sym ej) (counted_added k m made id (most2 - left) o p c g io (omega (arith, room, em, em2, kept, c.most o io)) (omega (arith, em2)))

-- a copy is as high as its tree
height_copied : (ts : Trees ℕ) → height (unmarked (copied ts)) ≡ height ts
height_copied End = refl
height_copied (Node m l ks ts) = omega (arith, height_copied ks, height_copied ts)

pub copy_refused : {T : Type 0} (r : Result T PageFault) (k : List Entry) (o o2 : Owner) (p q : PlainTrees) → o ≡ o2 → p ≡ q → height p ≤ limit → IfErr r (RefusesAdd k o p) → IfErr r (RefusesCopy k o2 q)
copy_refused (Ok x) k o o2 p q eo ep low h = tt
copy_refused (Err f) k o o2 p q eo ep low h = subst (λ y. RefusesCopy k y q f) eo (subst (λ y. RefusesCopy k o y f) ep (weaker f h))
  where
    weaker : (g : PageFault) → RefusesAdd k o p g → RefusesCopy k o p g
    weaker fault.NotInside d = d
    weaker fault.TooDeep d = absurd (omega (arith, d, low))
    weaker (fault.Nodes kept) d = d.1
    weaker fault.Memory d = tt

pub copy_added : (r : Result ℕ PageFault) (k m : List Entry) (o o2 : Owner) (p q : PlainTrees) → o ≡ o2 → p ≡ q → IfOk r (λ id. IsAdded k m id o p) → IfOk r (λ id. IsAdded k m id o2 q)
copy_added (Ok id) k m o o2 p q eo ep h = subst (λ y. IsAdded k m id y q) eo (subst (λ y. IsAdded k m id o y) ep h)
copy_added (Err f) k m o o2 p q eo ep h = tt

pub copy_allowed : {T : Type 0} (r : Result T PageFault) (k : List Entry) (o o2 : Owner) (p q : PlainTrees) → o ≡ o2 → p ≡ q → OnOk r (MayAdd k o p) → OnOk r (MayAdd k o2 q)
copy_allowed (Ok x) k o o2 p q eo ep h = subst (λ y. MayAdd k y q) eo (subst (λ y. MayAdd k o y) ep h)
copy_allowed (Err f) k o o2 p q eo ep h = tt

pub no_host : (k : List Entry) (n : ℕ) (o : Owner) (P : Type 0) → same_owner (at k n).owner owner.Host ≡ false → o ≡ (at k n).owner → same_owner o owner.Host ≡ true → P
no_host k n o P h e t = absurd (true_false (sym t ∙ ap (λ q. same_owner q owner.Host) e ∙ h))
  where
    true_false : true ≡ false → ⊥
    true_false x = cc

-- a widget's tree is no higher than may be
pub copy_low : (k : List Entry) (n : ℕ) → IsSound k → same_owner (at k n).owner owner.Host ≡ false → (p : PlainTrees) → p ≡ unmarked (copied (tree k n)) → height p ≤ limit
copy_low k n s w p e =
    let ne : n ≡ body → ⊥ = λ h. true_false (sym s.host ∙ ap (λ x. same_owner (at k x).owner owner.Host) (sym h) ∙ w) in
    omega (arith, ap height e, height_copied (tree k n), tree_lower k s n ne)
  where
    true_false : true ≡ false → ⊥
    true_false x = cc

-- there was no memory for a tree that may be added
pub add_wants_memory : (r : Result ℕ PageFault) (k : List Entry) (o : Owner) (p : PlainTrees) → IsErrAnd r (λ e. e ≡ fault.Memory) → MayAdd k o p → IfErr r (RefusesAdd k o p)
add_wants_memory (Ok x) k o p h m = tt
add_wants_memory (Err e) k o p h m = subst (RefusesAdd k o p) (sym h) m
