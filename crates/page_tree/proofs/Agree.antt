-- What the links of a page agree in.
use Rattle.std.proofs.Common.{◌≡◌, ◌≢◌, ℕ, ◌≤◌, List, [], ◌∷◌, true, false, sym, ap, eqb, eqb-true, ◌||◌, arith, Some, Option, ⊎_elim}
use Rattle.std.proofs.lemmas.Bool.{or_cases}
use Rattle.code_units.specs.declared.owner.Owner.{Owner}
use Rattle.code_units.specs.declared.owner.Owner.TheVariants as owner
use Rattle.plain_tree.specs.Trees.{Trees, Node, End, height}
use Rattle.tree_ops.specs.Trees.{has}
use Rattle.page_nodes.specs.Entries.{Entry, at, body, tree, IsSound}
use Rattle.page_nodes.specs.Owners.{is_owner, root_in}
use Rattle.page_tree.specs.Pages.{IsRoot}
use Rattle.page_tree.specs.Roots.{IsRooted}
use Rattle.page_nodes.proofs.Owners.{same_is}
use Rattle.page_nodes.proofs.Shows.{Shows, none, one_more, shows_one, shows_tree}
use Rattle.page_nodes.proofs.Upward.{below_parent}
use Rattle.page_nodes.proofs.Walk.{not_has}

-- what stands in a tree is no higher
low_in : (k : List Entry) → IsSound k → (x : ℕ) (ns : List ℕ) (ts : Trees ℕ) → Shows k ns ts → has x ts ≡ true → height (tree k x) ≤ height ts
low_in k s x [] _ none h = cc
low_in k s x (n ∷ ns) _ (one_more {ks = ks} {ts = ts} hk hs) h =
    let one : tree k n ≡ Node n (at k n).label ks End = shows_one k (n ∷ []) _ _ (shows_tree k s n) (one_more hk none) in
    ⊎_elim
    (λ e. omega (arith, ap height one, ap (λ y. height (tree k y)) (eqb-true n x e)))
    (λ h2. ⊎_elim
    (λ a. omega (arith, low_in k s x (at k n).children ks hk a))
    (λ a. omega (arith, low_in k s x ns ts hs a))
    (or_cases (has x ks) (has x ts) h2))
    (or_cases (eqb n x) (has x ks || has x ts) h)

-- no node is below itself
pub apart : (k : List Entry) → IsSound k → (n p : ℕ) → (at k n).parent ≡ Some p → has p (tree k n) ≡ false
apart k s n p u = sym (not_has _ (λ h. absurd (omega (arith, (below_parent k s n p u).lower, low_in k s p (n ∷ []) (tree k n) (shows_tree k s n) h))))

pub is_root : (k : List Entry) (roots : List (Option ℕ)) → IsRooted k roots → (o : Owner) (r : ℕ) → is_owner o ≡ true → root_in roots o ≡ Some r → IsRoot k o r
is_root k roots r o n i e = record {
  is_in = r.is_in o n i e;
  own = same_is (at k n).owner o (r.own o n i e);
  high = λ p u. r.high o n p i e u;
}

pub under_body : (k : List Entry) (roots : List (Option ℕ)) → IsRooted k roots → (n : ℕ) → (at k n).parent ≡ Some body → (at k n).owner ≢ owner.Host → root_in roots (at k n).owner ≡ Some n
under_body k roots r n u other = r.under n u (sym (not_has _ (λ h. other (same_is (at k n).owner owner.Host h))))
