-- A node is taken from its parent.
use Rattle.std.proofs.Common.{◌≡◌, ℕ, zero, suc, ◌+◌, ◌≤◌, max, List, [], ◌∷◌, Bool, true, false, refl, sym, ap, ◌∙◌, subst, eqb, arith, cond, ne_eqb, Some, None, Option, length, ◌||◌, not}
use Rattle.std.proofs.lemmas.Bool.{eqb-false}
use Rattle.plain_tree.specs.Trees.{Trees, End, Node, height}
use Rattle.tree_ops.specs.Labels.{is_text}
use Rattle.tree_ops.specs.Trees.{without}
use Rattle.page_nodes.specs.Trees.{deeper, level, pruned}
use Rattle.code_units.specs.declared.owner.Owner.TheVariants as owner
use Rattle.page_nodes.specs.Owners.{same_owner}
use Rattle.page_nodes.specs.Entries.{Entry, at, body, listed, distinct, minus, tree, IsSound}
use Rattle.page_nodes.proofs.Lists.{cases, listed_minus, minus_listed, distinct_minus}
use Rattle.page_nodes.proofs.Shows.{Shows, none, one_more, shows_node, shows_tree, tree_low, tree_lower, Renewed, renewed}

pub record IsCut (k m : List Entry) (n : ℕ) : Type 0 where
  pub length : length m ≡ length k
  pub labels : (x : ℕ) → (at m x).label ≡ (at k x).label
  pub owners : (x : ℕ) → (at m x).owner ≡ (at k x).owner
  pub children : (x : ℕ) → (at m x).children ≡ minus n (at k x).children
  pub parents : (x : ℕ) → (at m x).parent ≡ cond (eqb x n) None (at k x).parent

shows_without : (k m : List Entry) (n : ℕ) → IsCut k m n → (ns : List ℕ) (ts : Trees ℕ) → Shows k ns ts → Shows m (minus n ns) (without n ts)
shows_without k m n c [] _ none = none
shows_without k m n c (x ∷ ns) _ (one_more {ks = ks} {ts = ts} hk hs) =
    cases (λ b. Shows m (cond (not b) (x ∷ minus n ns) (minus n ns)) (cond b (without n ts) (Node x (at k x).label (without n ks) (without n ts)))) (eqb x n)
    (λ _. shows_without k m n c ns ts hs)
    (λ _. shows_node m x (at k x).label (minus n (at k x).children) (minus n ns) _ _ (c.labels x) (c.children x) (shows_without k m n c (at k x).children ks hk) (shows_without k m n c ns ts hs))

pub shows_pruned : (k m : List Entry) (n : ℕ) → IsCut k m n → (ns : List ℕ) (ts : Trees ℕ) → Shows k ns ts → Shows m ns (pruned n ts)
shows_pruned k m n c [] _ none = none
shows_pruned k m n c (x ∷ ns) _ (one_more {ks = ks} {ts = ts} hk hs) = shows_node m x (at k x).label (minus n (at k x).children) ns _ _ (c.labels x) (c.children x) (shows_without k m n c (at k x).children ks hk) (shows_pruned k m n c ns ts hs)

-- no tree grows
pub height_without : (n : ℕ) (ts : Trees ℕ) → height (without n ts) ≤ height ts
height_without n End = omega arith
height_without n (Node m l ks ts) = cases (λ b. height (cond b (without n ts) (Node m l (without n ks) (without n ts))) ≤ max (height ks + 1) (height ts)) (eqb m n) (λ _. omega (arith, height_without n ts)) (λ _. omega (arith, height_without n ks, height_without n ts))

pub height_pruned : (n : ℕ) (ts : Trees ℕ) → height (pruned n ts) ≤ height ts
height_pruned n End = omega arith
height_pruned n (Node m l ks ts) = omega (arith, height_without n ks, height_pruned n ts)

pub deeper_le : (a b : ℕ) → a ≤ b → deeper a ≤ deeper b
deeper_le zero b h = omega arith
deeper_le (suc a) zero h = absurd (omega arith)
deeper_le (suc a) (suc b) h = omega arith

pub level_without : (t n : ℕ) (ts : Trees ℕ) → level t (without n ts) ≤ level t ts
level_without t n End = omega arith
level_without t n (Node m l ks ts) = cases (λ b. level t (cond b (without n ts) (Node m l (without n ks) (without n ts))) ≤ max (max (cond (eqb m t) 1 0) (deeper (level t ks))) (level t ts)) (eqb m n)
    (λ _. omega (arith, level_without t n ts))
    (λ _. omega (arith, deeper_le _ _ (level_without t n ks), level_without t n ts))

pub level_pruned : (t n : ℕ) (ts : Trees ℕ) → level t (pruned n ts) ≤ level t ts
level_pruned t n End = omega arith
level_pruned t n (Node m l ks ts) = omega (arith, deeper_le _ _ (level_without t n ks), level_pruned t n ts)

cut_renewed : (k m : List Entry) (n : ℕ) → IsSound k → IsCut k m n → Renewed m (λ x. pruned n (tree k x))
cut_renewed k m n s c = renewed m (λ x. pruned n (tree k x)) (λ x. shows_pruned k m n c (x ∷ []) (tree k x) (shows_tree k s x)) (λ x. omega (arith, height_pruned n (tree k x), tree_low k x)) (λ x ne. omega (arith, height_pruned n (tree k x), tree_lower k s x ne))

-- the arena after the cut
pub cut_tree : (k m : List Entry) (n : ℕ) → IsSound k → IsCut k m n → (x : ℕ) → tree m x ≡ pruned n (tree k x)
cut_tree k m n s c = (cut_renewed k m n s c).trees

not_none : (p : ℕ) (b : Bool) (u : Option ℕ) → cond b None u ≡ Some p → (b ≡ false) × (u ≡ Some p)
not_none p true u h = cc
not_none p false u h = (refl, h)

cond_none : (b : Bool) (u : Option ℕ) → u ≡ None → cond b None u ≡ None
cond_none true u h = refl
cond_none false u h = h

minus_short : (n : ℕ) (xs : List ℕ) → length xs ≡ 0 → length (minus n xs) ≡ 0
minus_short n [] h = refl
minus_short n (x ∷ xs) h = absurd (omega (arith, h))

pub cut_sound : (k m : List Entry) (n : ℕ) → IsSound k → IsCut k m n → IsSound m
cut_sound k m n s c = record {
  some = omega (arith, s.some, c.length);
  few = omega (arith, s.few, c.length);
  top = c.parents body ∙ cond_none (eqb body n) (at k body).parent s.top;
  host = ap (λ o. same_owner o owner.Host) (c.owners body) ∙ s.host;
  element = ap is_text (c.labels body) ∙ s.element;
  fit = (cut_renewed k m n s c).fit;
  down = λ p x h.
      let q = listed_minus n x (at k p).children (subst (λ l. listed x l ≡ true) (c.children p) h) in
      c.parents x ∙ ap (λ b. cond b None (at k x).parent) (ne_eqb x n (q.1)) ∙ s.down p x (q.0);
  upward = λ x p h.
      let q = not_none p (eqb x n) (at k x).parent (sym (c.parents x) ∙ h) in
      subst (λ l. listed x l ≡ true) (sym (c.children p)) (minus_listed n x (at k p).children (s.upward x p (q.1)) (eqb-false x n (q.0)));
  owned = λ x p h.
      let q = not_none p (eqb x n) (at k x).parent (sym (c.parents x) ∙ h) in
      ap (λ o. same_owner o (at m p).owner || eqb p body) (c.owners x) ∙ ap (λ o. same_owner (at k x).owner o || eqb p body) (c.owners p) ∙ s.owned x p (q.1);
  once = λ x. ap distinct (c.children x) ∙ distinct_minus n (at k x).children (s.once x);
  texts = λ x h. ap length (c.children x) ∙ minus_short n (at k x).children (s.texts x (ap is_text (sym (c.labels x)) ∙ h));
}
