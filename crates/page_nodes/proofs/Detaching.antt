-- Nodes are taken from their parents, one after the other and at once.
use Rattle.std.proofs.Common.{◌≡◌, ℕ, ◌<◌, zero, suc, ◌+◌, List, [], ◌∷◌, ◌++◌, take, Bool, true, false, refl, sym, ap, ◌∙◌, subst, eqb, not, cond, length, arith, eq-eqb, ◌||◌, ◌&&◌, get_or, append_assoc, Some, None, Option, set}
use Rattle.std.proofs.lemmas.List.{append-nil}
use Rattle.std.proofs.lemmas.Bool.{eqb-false}
use Rattle.plain_tree.specs.Trees.{Trees}
use Rattle.page_nodes.specs.Trees.{pruned, all_pruned}
use Rattle.page_nodes.specs.Entries.{Entry, at, body, listed, tree, IsSound}
use Rattle.page_nodes.specs.Many.{outside, AreCleared, IsSwept, AreCut}
use Rattle.page_nodes.specs.Moves.{KeepsNodes, AreNodes, Detached, AreDetached, Detaches, none_detached, detach_last, OthersStay, OthersOfAllStay}
use Rattle.page_nodes.proofs.AtOnce.{cut_of, freed_is, entry_same, all_same, outside_none, outside_more, outside_off, listed-last, listed_at_place, cleared_more, cleared_one, swept_both, turned, none_either}
use Rattle.page_nodes.proofs.Cut.{IsCut, cut_sound}
use Rattle.page_nodes.proofs.Detach.{detached, raised}
use Rattle.page_nodes.proofs.Lists.{cases, or_right, listed_place}
use Rattle.page_nodes.proofs.Put.{kept_then, others_detached, owner_below}
use Rattle.page_nodes.proofs.Walk.{child_in}

-- ## One after the other

-- a node is taken
pub record HasGone (k m : List Entry) (n : ℕ) : Type 0 where
  pub sound : IsSound m
  pub gone : Detached k m n
  pub cut : IsCut k m n

one_gone : (k : List Entry) → IsSound k → (n : ℕ) → n < length k → (m : List Entry) × HasGone k m n
one_gone k s n lt = let f = freed_is k s n lt (at k n).parent refl in (f.0, record { sound = cut_sound k (f.0) n s (f.1); gone = detached k (f.0) n s (f.1); cut = f.1 })

-- nodes are taken, with the pages on the way
pub record HaveGone (a k : List Entry) (done ns : List ℕ) : Type 0 where
  pub page : List Entry
  pub steps : Detaches a (done ++ ns) page
  pub sound : IsSound page
  pub cut : AreCut k page ns

same_nodes : (k : List Entry) → KeepsNodes k k
same_nodes k = record { made = refl; labels = λ x. refl; owners = λ x. refl }

none_twice : (b c : Bool) (u : Option ℕ) → cond b None (cond c None u) ≡ cond (c || b) None u
none_twice true true u = refl
none_twice true false u = refl
none_twice false true u = refl
none_twice false false u = refl

abbrev all_gone : (a k : List Entry) (done ns : List ℕ) → Detaches a done k → IsSound k → ((n : ℕ) → listed n ns ≡ true → n < length k) → HaveGone a k done ns
all_gone a k done [] steps sound inside = record {
  page = k;
  steps = subst (λ l. Detaches a l k) (sym (append-nil done)) steps;
  sound = sound;
  cut = record { kept = same_nodes k; children = λ x. sym (outside_none (at k x).children); parents = λ x. refl };
}
all_gone a k done (n ∷ ns) steps sound inside =
    let one = one_gone k sound n (inside n (ap (λ b. b || listed n ns) (eq-eqb n n refl))) in
    let m = one.0 in
    let here = one.1 in
    let rest = all_gone a m (done ++ n ∷ []) ns (detach_last steps sound here.gone) here.sound (λ x l. omega (arith, inside x (or_right (eqb n x) (listed x ns) l), here.cut.length)) in
    record {
      page = rest.page;
      steps = subst (λ l. Detaches a l rest.page) (append_assoc done (n ∷ []) ns) rest.steps;
      sound = rest.sound;
      cut = record {
        kept = kept_then k m rest.page here.gone.kept rest.cut.kept;
        children = λ x. rest.cut.children x ∙ ap (outside ns) (here.cut.children x) ∙ outside_more n ns (at k x).children;
        parents = λ x. rest.cut.parents x ∙ ap (λ u. cond (listed x ns) None u) (here.cut.parents x ∙ ap (λ b. cond b None (at k x).parent) (turned x n)) ∙ none_twice (listed x ns) (eqb n x) (at k x).parent;
      };
    }

-- ## The pages on the way say all

all_pruned_last : (ns : List ℕ) (n : ℕ) (ts : Trees ℕ) → all_pruned (ns ++ n ∷ []) ts ≡ pruned n (all_pruned ns ts)
all_pruned_last [] n ts = refl
all_pruned_last (m ∷ ns) n ts = all_pruned_last ns n (pruned m ts)

pub detaches_are : (k : List Entry) (ns : List ℕ) (m : List Entry) → Detaches k ns m → AreDetached k m ns
detaches_are k _ _ none_detached = record { trees = λ x. refl; parents = λ x. refl; kept = same_nodes k }
detaches_are k _ new (detach_last {ns = ns} {m = m} {n = n} steps sound gone) =
    let earlier = detaches_are k ns m steps in
    record {
      trees = λ x. gone.trees x ∙ ap (pruned n) (earlier.trees x) ∙ sym (all_pruned_last ns n (tree k x));
      parents = λ x. gone.parents x ∙ ap (λ u. cond (eqb x n) None u) (earlier.parents x) ∙ none_either (listed x ns) (eqb x n) (at k x).parent
          ∙ ap (λ b. cond b None (at k x).parent) (ap (λ b. listed x ns || b) (turned x n) ∙ sym (listed-last x n ns));
      kept = kept_then k m new earlier.kept gone.kept;
    }

or_left : (a b : Bool) → a ≡ true → (a || b) ≡ true
or_left true b h = refl
or_left false b h = cc

pub detaches_stay : (k : List Entry) (ns : List ℕ) (m : List Entry) → Detaches k ns m → OthersOfAllStay k m ns
detaches_stay k _ _ none_detached = λ x away others. refl
detaches_stay k _ new (detach_last {ns = ns} {m = m} {n = n} steps sound gone) = λ x away others.
    let kept = (detaches_are k ns m steps).kept in
    others_detached m new n sound gone x away (λ e. others n (listed-last n n ns ∙ or_right (listed n ns) (eqb n n) (eq-eqb n n refl)) (sym (kept.owners x) ∙ e ∙ kept.owners n))
    ∙ detaches_stay k ns m steps x away (λ y l. others y (listed-last y n ns ∙ or_left (listed y ns) (eqb n y) l))

-- ## The same at once

pub record WereDetached (k m : List Entry) (ns : List ℕ) : Type 0 where
  pub sound : IsSound m
  pub steps : Detaches k ns m

gone_at_once : (k m : List Entry) (ns : List ℕ) → IsSound k → ((n : ℕ) → listed n ns ≡ true → n < length k) → AreCut k m ns → WereDetached k m ns
gone_at_once k m ns sound inside cut =
    let all = all_gone k k [] ns none_detached sound inside in
    let same : m ≡ all.page = all_same all.page m (omega (arith, cut.kept.made, all.cut.kept.made)) (λ x. entry_same (at m x) (at all.page x)
    (cut.kept.owners x ∙ sym (all.cut.kept.owners x))
    (cut.parents x ∙ sym (all.cut.parents x))
    (cut.children x ∙ sym (all.cut.children x))
    (cut.kept.labels x ∙ sym (all.cut.kept.labels x))) in
    subst (λ y. WereDetached k y ns) (sym same) (record { sound = all.sound; steps = all.steps })

listed_in : (k : List Entry) (ns : List ℕ) → AreNodes k ns → (n : ℕ) → listed n ns ≡ true → n < length k
listed_in k ns inside n l = let p = listed_place n ns l in subst (λ y. y < length k) (p.2) (inside (p.0) (p.1))

-- they are nodes in any order
pub nodes_same : (k : List Entry) (ns ms : List ℕ) → ((x : ℕ) → listed x ms ≡ listed x ns) → AreNodes k ns → AreNodes k ms
nodes_same k ns ms h inside i lt = listed_in k ns inside (get_or ms i 0) (sym (h (get_or ms i 0)) ∙ listed_at_place ms i lt)

-- the same list
pub nodes_are : (k : List Entry) (ns ms : List ℕ) → ms ≡ ns → AreNodes k ns → AreNodes k ms
nodes_are k ns ms e inside = subst (AreNodes k) (sym e) inside

pub list_detached : (k m : List Entry) (ns ms : List ℕ) → ms ≡ ns → IsSound k → AreNodes k ns → AreCut k m ms → WereDetached k m ns
list_detached k m ns ms e sound inside cut = gone_at_once k m ns sound (listed_in k ns inside) (cut_of k m ns ms e cut)

-- ## All children of a node

-- none is left of a list that is in another
outside_all : (ns xs : List ℕ) → ((x : ℕ) → listed x xs ≡ true → listed x ns ≡ true) → outside ns xs ≡ []
outside_all ns [] h = refl
outside_all ns (x ∷ xs) h =
    ap (λ b. cond (not b) (x ∷ outside ns xs) (outside ns xs)) (h x (or_left (eqb x x) (listed x xs) (eq-eqb x x refl)))
    ∙ outside_all ns xs (λ y l. h y (or_right (eqb x y) (listed y xs) l))

pub outside_self : (ns : List ℕ) → outside ns ns ≡ []
outside_self ns = outside_all ns ns (λ x l. l)

-- each link is cleared, and then the list
pub swept_whole : (k d m : List Entry) (p : ℕ) → p < length k → AreCleared k d (at k p).children (at k p).children → m ≡ set d p (record (at d p) { children = [] }) → IsSwept k m (at k p).children p
swept_whole k d m p lt cleared write =
    swept_both k d m (at k p).children p lt cleared
    (write ∙ ap (λ l. set d p (record (at d p) { children = l })) (sym (ap (outside (at k p).children) (cleared.children p) ∙ outside_self (at k p).children)))

both_is : (b : Bool) → (b && b) ≡ b
both_is true = refl
both_is false = refl

some_same : (a b : ℕ) → Some a ≡ Some b → a ≡ b
some_same a b h = cc

-- no other node has one of them
swept_cut : (k m : List Entry) (p : ℕ) → IsSound k → IsSwept k m (at k p).children p → AreCut k m (at k p).children
swept_cut k m p s w = record {
  kept = w.kept;
  children = λ x. w.children x ∙ cases (λ b. eqb x p ≡ b → cond b (outside (at k p).children (at k x).children) (at k x).children ≡ outside (at k p).children (at k x).children) (eqb x p)
      (λ _ _. refl)
      (λ e _. sym (outside_off (at k p).children (at k x).children (λ c l. cases (λ b. listed c (at k p).children ≡ b → b ≡ false) (listed c (at k p).children) (λ h _. absurd (eqb-false x p e (some_same x p (sym (s.down x c l) ∙ s.down p c h)))) (λ _ _. refl) refl)))
      refl;
  parents = λ x. w.parents x ∙ ap (λ b. cond b None (at k x).parent) (both_is (listed x (at k p).children));
}

-- by a default that is the element itself
element_is : (xs : List ℕ) (i n : ℕ) → i < length xs → n ≡ get_or xs i n → n ≡ get_or xs i 0
element_is [] i n lt e = absurd (omega (arith, lt))
element_is (x ∷ xs) zero n lt e = e
element_is (x ∷ xs) (suc i) n lt e = element_is xs i n (omega (arith, lt)) e

pub element_in : (k : List Entry) (xs : List ℕ) (i n : ℕ) → AreNodes k xs → i < length xs → n ≡ get_or xs i n → n < length k
element_in k xs i n inside lt e = subst (λ y. y < length k) (sym (element_is xs i n lt e)) (inside i lt)

-- one link more is cleared
pub cleared_next : (k m m2 : List Entry) (xs : List ℕ) (i n : ℕ) → AreNodes k xs → i < length xs → n ≡ get_or xs i n → AreCleared k m xs (take i xs) → m2 ≡ raised m n → AreCleared k m2 xs (take (i + 1) xs)
cleared_next k m m2 xs i n inside lt e a write =
    cleared_more k m m2 xs xs i n lt e a
    (cleared_one m m2 xs n (omega (arith, element_in k xs i n inside lt e, a.kept.made)) (ap (λ y. listed y xs) (element_is xs i n lt e) ∙ listed_at_place xs i lt) write)

pub children_in_page : (k : List Entry) → IsSound k → (p : ℕ) → AreNodes k (at k p).children
children_in_page k s p i lt = child_in k s p (get_or (at k p).children i 0) (listed_at_place (at k p).children i lt)

pub children_detached : (k m : List Entry) (p : ℕ) → IsSound k → IsSwept k m (at k p).children p → WereDetached k m (at k p).children
children_detached k m p s w = gone_at_once k m (at k p).children s (listed_in k (at k p).children (children_in_page k s p)) (swept_cut k m p s w)

-- the children of a node other than `body` have its owner
pub children_stay : (k m : List Entry) (p : ℕ) → IsSound k → (p ≡ body → ⊥) → Detaches k (at k p).children m → OthersStay k m p
children_stay k m p s below steps x away other = detaches_stay k (at k p).children m steps x away (λ n l e. other (e ∙ owner_below k s n p (s.down p n l) below))
