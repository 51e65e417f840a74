-- A node is put under another.
use Rattle.std.proofs.Common.{◌≡◌, ℕ, ◌<◌, max, List, [], ◌∷◌, Bool, true, false, refl, sym, ap, ◌∙◌, subst, eqb, arith, cond, eqb-true, eq-eqb, Some, None, Option, length, set, ◌||◌, ⊎_elim}
use Rattle.std.proofs.lemmas.Bool.{or_cases, eqb-false}
use Rattle.std.proofs.lemmas.List.{length-set, get_or-set_other}
use Rattle.plain_tree.specs.Trees.{Trees, End, Node, beside, height}
use Rattle.code_units.specs.declared.owner.Owner.{Owner}
use Rattle.tree_ops.specs.Labels.{is_text}
use Rattle.tree_ops.specs.Trees.{has, is_number, put_before, without, grafted}
use Rattle.page_nodes.specs.Trees.{deeper, level, pruned}
use Rattle.page_nodes.specs.Entries.{Entry, at, body, listed, before, tree, IsSound, no_entry}
use Rattle.page_nodes.specs.Moves.{Detached, KeepsNodes, MayLink, IsLinked, MayMove, IsPut, OthersStay}
use Rattle.page_nodes.proofs.Shows.{Shows, none, one_more, shows_tree}
use Rattle.tree_ops.proofs.Absent.{without_off, grafted_off}
use Rattle.page_nodes.proofs.Lists.{cases, or_right, or_none}
use Rattle.page_nodes.proofs.Cut.{height_pruned, level_pruned}
use Rattle.page_nodes.proofs.Detach.{keeps_field, sets_field}
use Rattle.page_nodes.proofs.Insert.{IsInsert, insert_sound, insert_tree}
use Rattle.page_nodes.proofs.Upward.{level_none}
use Rattle.page_nodes.proofs.Walk.{without_body}
use Rattle.page_nodes.proofs.Owners.{same_is, same_or}

none_of : (a b : Bool) → a ≡ false → b ≡ false → (a || b) ≡ false
none_of true b h g = cc
none_of false b h g = g

has_without : (t n : ℕ) (ts : Trees ℕ) → has t ts ≡ false → has t (without n ts) ≡ false
has_without t n End h = refl
has_without t n (Node m l ks ts) h =
    let p = or_none (eqb m t) (has t ks || has t ts) h in
    let q = or_none (has t ks) (has t ts) (p.1) in
    cases (λ b. has t (cond b (without n ts) (Node m l (without n ks) (without n ts))) ≡ false) (eqb m n) (λ _. has_without t n ts (q.1)) (λ _. none_of (eqb m t) _ (p.0) (none_of _ _ (has_without t n ks (q.0)) (has_without t n ts (q.1))))

pub has_pruned : (t n : ℕ) (ts : Trees ℕ) → has t ts ≡ false → has t (pruned n ts) ≡ false
has_pruned t n End h = refl
has_pruned t n (Node m l ks ts) h =
    let p = or_none (eqb m t) (has t ks || has t ts) h in
    let q = or_none (has t ks) (has t ts) (p.1) in
    none_of (eqb m t) _ (p.0) (none_of _ _ (has_without t n ks (q.0)) (has_pruned t n ts (q.1)))

level_beside : (t : ℕ) (ts us : Trees ℕ) → level t (beside ts us) ≡ max (level t ts) (level t us)
level_beside t End us = omega arith
level_beside t (Node m l ks ts) us = omega (arith, level_beside t ts us)

level_before : (t : ℕ) (s : Option ℕ) (us ts : Trees ℕ) → level t (put_before s us ts) ≡ max (level t ts) (level t us)
level_before t s us End = omega arith
level_before t s us (Node m l ks ts) =
    cases (λ b. level t (cond b (beside us (Node m l ks ts)) (Node m l ks (put_before s us ts))) ≡ max (max (max (cond (eqb m t) 1 0) (deeper (level t ks))) (level t ts)) (level t us)) (is_number m s)
    (λ _. omega (arith, level_beside t us (Node m l ks ts)))
    (λ _. omega (arith, level_before t s us ts))

-- a graft without the target doesn't move it
pub level_grafted : (t : ℕ) (s : Option ℕ) (us ts : Trees ℕ) → level t us ≡ 0 → level t (grafted t s us ts) ≡ level t ts
level_grafted t s us End h = refl
level_grafted t s us (Node m l ks ts) h =
    let a = level_grafted t s us ks h in
    let b = level_grafted t s us ts h in
    let e : level t (cond (eqb m t) (put_before s us (grafted t s us ks)) (grafted t s us ks)) ≡ level t ks = cases (λ c. level t (cond c (put_before s us (grafted t s us ks)) (grafted t s us ks)) ≡ level t ks) (eqb m t) (λ _. omega (arith, level_before t s us (grafted t s us ks), a, h)) (λ _. a) in
    ap (λ y. max (max (cond (eqb m t) 1 0) (deeper y)) (level t (grafted t s us ts))) e ∙ ap (λ y. max (max (cond (eqb m t) 1 0) (deeper (level t ks))) y) b

-- the two nodes as written
abbrev pub given : List Entry → ℕ → Option ℕ → ℕ → List Entry
given k t s n = set k t (record (at k t) { children = before s n (at k t).children })

abbrev pub hung : List Entry → ℕ → ℕ → List Entry
hung k t n = set k n (record (at k n) { parent = Some t })

pub insert_written : (k : List Entry) (t : ℕ) (s : Option ℕ) (n : ℕ) → t < length k → n < length k → IsInsert k (hung (given k t s n) t n) t s n
insert_written k t s n tin nin =
    let nin2 : n < length (given k t s n) = omega (arith, length-set k t (record (at k t) { children = before s n (at k t).children })) in
    record {
      length = length-set (given k t s n) n _ ∙ length-set k t _;
      labels = λ x. keeps_field (λ (y : Entry). y.label) (given k t s n) n _ nin2 refl x ∙ keeps_field (λ (y : Entry). y.label) k t _ tin refl x;
      owners = λ x. keeps_field (λ (y : Entry). y.owner) (given k t s n) n _ nin2 refl x ∙ keeps_field (λ (y : Entry). y.owner) k t _ tin refl x;
      children = λ x. keeps_field (λ (y : Entry). y.children) (given k t s n) n _ nin2 refl x ∙ sets_field (λ (y : Entry). y.children) k t _ tin x
          ∙ cases (λ b. cond b (before s n (at k t).children) (at k x).children ≡ cond b (before s n (at k x).children) (at k x).children) (eqb x t) (λ h. ap (λ y. before s n (at k y).children) (sym (eqb-true x t h))) (λ _. refl);
      parents = λ x. sets_field (λ (y : Entry). y.parent) (given k t s n) n _ nin2 x ∙ ap (λ o. cond (eqb x n) (Some t) o) (keeps_field (λ (y : Entry). y.parent) k t _ tin refl x);
    }

-- the whole call of `link`
pub link_written : (k a m : List Entry) (t : ℕ) (s : Option ℕ) (n : ℕ) → IsSound k → MayLink k t n → t < length k → n < length k → a ≡ given k t s n → m ≡ hung a t n → IsSound m × IsLinked k m t s n
link_written k a m t s n sound may tin nin ea em =
    let l = insert_written k t s n tin nin in
    let e : hung (given k t s n) t n ≡ m = sym (em ∙ ap (λ y. hung y t n) ea) in
    subst (λ y. IsSound y × IsLinked k y t s n) e (
      insert_sound k _ t s n sound l may,
      record {
        trees = insert_tree k _ t s n sound l may;
        parents = l.parents;
        kept = record { made = l.length; labels = l.labels; owners = l.owners };
        others = λ x nt nn. get_or-set_other (given k t s n) n x _ no_entry nn ∙ get_or-set_other k t x _ no_entry nt;
      },
    )

pub may_link : (k d : List Entry) (t n : ℕ) → Detached k d n → MayMove k t n → MayLink d t n
may_link k d t n c may = record {
  other = may.other;
  top = c.parents n ∙ ap (λ b. cond b None (at k n).parent) (eq-eqb n n refl);
  apart = ap (has t) (c.trees n) ∙ has_pruned t n (tree k n) may.apart;
  low = λ x ne. omega (arith, ap (level t) (c.trees x), ap height (c.trees n), level_pruned t n (tree k x), height_pruned n (tree k n), may.low x ne);
  owner = same_or (at d n).owner (at d t).owner (eqb t body) (c.kept.owners n ∙ may.owner ∙ sym (c.kept.owners t));
  takes = ap is_text (c.kept.labels t) ∙ may.takes;
}

-- taken from its parent and then put
pub put_after : (k d m : List Entry) (t : ℕ) (s : Option ℕ) (n : ℕ) → Detached k d n → IsLinked d m t s n → IsPut k m t s n
put_after k d m t s n c l = record {
  trees = λ x. l.trees x ∙ ap (λ y. grafted t s y (tree d x)) (c.trees n) ∙ ap (grafted t s (pruned n (tree k n))) (c.trees x);
  parents = λ x. l.parents x ∙ cases (λ b. cond b (Some t) (at d x).parent ≡ cond b (Some t) (at k x).parent) (eqb x n) (λ _. refl) (λ e2. c.parents x ∙ ap (λ b. cond b None (at k x).parent) e2);
  kept = record {
    made = l.kept.made ∙ c.kept.made;
    labels = λ x. l.kept.labels x ∙ c.kept.labels x;
    owners = λ x. l.kept.owners x ∙ c.kept.owners x;
  };
}

-- what may be put stays so while others are put
pub may_still : (k m : List Entry) (t : ℕ) (s : Option ℕ) (n x : ℕ) → IsPut k m t s n → MayMove k t n → MayMove k t x → MayMove m t x
may_still k m t s n x p here may =
    let off : tree m x ≡ pruned n (tree k x) = p.trees x ∙ grafted_off t s (pruned n (tree k n)) (pruned n (tree k x)) (has_pruned t n (tree k x) may.apart) in
    record {
      other = may.other;
      apart = ap (has t) off ∙ has_pruned t n (tree k x) may.apart;
      owner = p.kept.owners x ∙ may.owner ∙ sym (p.kept.owners t);
      low = λ y ne. omega (arith, ap height off, height_pruned n (tree k x), ap (level t) (p.trees y), level_grafted t s (pruned n (tree k n)) (pruned n (tree k y)) (level_none t (pruned n (tree k n)) (has_pruned t n (tree k n) here.apart)), level_pruned t n (tree k y), may.low y ne);
      takes = ap is_text (p.kept.labels t) ∙ may.takes;
    }

pub kept_then : (a b c : List Entry) → KeepsNodes a b → KeepsNodes b c → KeepsNodes a c
kept_then a b c h g = record { made = g.made ∙ h.made; labels = λ x. g.labels x ∙ h.labels x; owners = λ x. g.owners x ∙ h.owners x }

-- other owners' trees
pub owner_below : (k : List Entry) → IsSound k → (c x : ℕ) → (at k c).parent ≡ Some x → (x ≡ body → ⊥) → (at k c).owner ≡ (at k x).owner
owner_below k s c x u ne = same_is _ _ (⊎_elim (λ h. h) (λ h. absurd (ne (eqb-true x body h))) (or_cases _ (eqb x body) (s.owned c x u)))

pub own_shown : (k : List Entry) → IsSound k → (o : Owner) (n : ℕ) (ns : List ℕ) (ts : Trees ℕ) → Shows k ns ts → has body ts ≡ false → ((c : ℕ) → listed c ns ≡ true → (at k c).owner ≡ o) → has n ts ≡ true → (at k n).owner ≡ o
own_shown k s o n [] _ none away same h = cc
own_shown k s o n (x ∷ ns) _ (one_more {ks = ks} {ts = ts} hk hs) away same h =
    let here : (at k x).owner ≡ o = same x (ap (λ b. b || listed x ns) (eq-eqb x x refl)) in
    let p = or_none (eqb x body) (has body ks || has body ts) away in
    let q = or_none (has body ks) (has body ts) (p.1) in
    ⊎_elim (λ e. ap (λ y. (at k y).owner) (sym (eqb-true x n e)) ∙ here)
    (λ h2. ⊎_elim
    (λ a. own_shown k s o n (at k x).children ks hk (q.0) (λ c l. owner_below k s c x (s.down x c l) (eqb-false x body (p.0)) ∙ here) a)
    (λ a. own_shown k s o n ns ts hs (q.1) (λ c l. same c (or_right (eqb x c) (listed c ns) l)) a)
    (or_cases (has n ks) (has n ts) h2))
    (or_cases (eqb x n) (has n ks || has n ts) h)

-- a node of another owner is not in a tree
pub other_not_in : (k : List Entry) → IsSound k → (n x : ℕ) → (x ≡ body → ⊥) → ((at k x).owner ≡ (at k n).owner → ⊥) → has n (tree k x) ≡ false
other_not_in k s n x away ne = cases (λ b. has n (tree k x) ≡ b → b ≡ false) (has n (tree k x))
    (λ h _. absurd (ne (sym (own_shown k s (at k x).owner n (x ∷ []) (tree k x) (shows_tree k s x) (without_body k s x away) (λ c l. top_is c l) h)))) (λ _ _. refl) refl
  where
    top_is : (c : ℕ) → (eqb x c || false) ≡ true → (at k c).owner ≡ (at k x).owner
    top_is c l = ⊎_elim (λ e. ap (λ y. (at k y).owner) (sym (eqb-true x c e))) (λ e. cc) (or_cases (eqb x c) false l)

pub pruned_off : (n : ℕ) (ts : Trees ℕ) → has n ts ≡ false → pruned n ts ≡ ts
pruned_off n End h = refl
pruned_off n (Node m l ks ts) h =
    let p = or_none (eqb m n) (has n ks || has n ts) h in
    let q = or_none (has n ks) (has n ts) (p.1) in
    ap (λ y. Node m l y (pruned n ts)) (without_off n ks (q.0)) ∙ ap (Node m l ks) (pruned_off n ts (q.1))

pub others_step : (a k m : List Entry) (t : ℕ) (s : Option ℕ) (n : ℕ) → IsSound k → MayMove k t n → IsPut k m t s n → KeepsNodes a k → OthersStay a k t → OthersStay a m t
others_step a k m t s n sound may p kept stay = λ x away ne.
    let other : (at k x).owner ≡ (at k t).owner → ⊥ = λ e. ne (sym (kept.owners x) ∙ e ∙ kept.owners t) in
    let no_n : has n (tree k x) ≡ false = other_not_in k sound n x away (λ e. other (e ∙ may.owner)) in
    let no_t : has t (tree k x) ≡ false = other_not_in k sound t x away other in
    p.trees x ∙ ap (grafted t s (pruned n (tree k n))) (pruned_off n (tree k x) no_n) ∙ grafted_off t s (pruned n (tree k n)) (tree k x) no_t ∙ stay x away ne

pub others_detached : (k m : List Entry) (n : ℕ) → IsSound k → Detached k m n → OthersStay k m n
others_detached k m n sound c = λ x away ne. c.trees x ∙ pruned_off n (tree k x) (other_not_in k sound n x away ne)
