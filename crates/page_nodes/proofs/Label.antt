-- A node gets another label, or is new.
use Rattle.std.proofs.Common.{◌≡◌, ℕ, ◌<◌, List, [], ◌∷◌, true, false, refl, sym, ap, ◌∙◌, subst, eqb, arith, cond, Some, None, length, set, ◌||◌, Option}
use Rattle.std.proofs.lemmas.List.{length-set}
use Rattle.code_units.specs.declared.owner.Owner.TheVariants as owner
use Rattle.plain_tree.specs.Trees.{Label, TextOf, ElementOf, Trees, End, Node, height}
use Rattle.tree_ops.specs.Labels.{is_text, with_attribute}
use Rattle.tree_ops.specs.Trees.{relabelled}
use Rattle.page_nodes.specs.Owners.{same_owner}
use Rattle.page_nodes.specs.Entries.{Entry, at, body, listed, distinct, tree, IsSound}
use Rattle.page_nodes.specs.Moves.{IsRelabelled}
use Rattle.page_nodes.proofs.Shows.{Shows, none, one_more, shows_node, shows_tree, tree_low, tree_lower, Renewed, renewed}
use Rattle.page_nodes.proofs.Detach.{keeps_field, sets_field}

-- what a new label changes
pub record IsLabelled (k m : List Entry) (n : ℕ) (l : Label) : Type 0 where
  pub labels : (x : ℕ) → (at m x).label ≡ cond (eqb x n) l (at k x).label
  pub children : (x : ℕ) → (at m x).children ≡ (at k x).children
  pub parents : (x : ℕ) → (at m x).parent ≡ (at k x).parent

shows_labelled : (k m : List Entry) (n : ℕ) (l : Label) → IsLabelled k m n l → (ns : List ℕ) (ts : Trees ℕ) → Shows k ns ts → Shows m ns (relabelled n l ts)
shows_labelled k m n l c [] _ none = none
shows_labelled k m n l c (x ∷ ns) _ (one_more {ks = ks} {ts = ts} hk hs) = shows_node m x _ (at k x).children ns _ _ (c.labels x) (c.children x) (shows_labelled k m n l c (at k x).children ks hk) (shows_labelled k m n l c ns ts hs)

height_relabelled : (n : ℕ) (l : Label) (ts : Trees ℕ) → height (relabelled n l ts) ≡ height ts
height_relabelled n l End = refl
height_relabelled n l (Node m v ks ts) = omega (arith, height_relabelled n l ks, height_relabelled n l ts)

pub labelled_renewed : (k m : List Entry) (n : ℕ) (l : Label) → IsSound k → IsLabelled k m n l → Renewed m (λ x. relabelled n l (tree k x))
labelled_renewed k m n l s c = renewed m (λ x. relabelled n l (tree k x)) (λ x. shows_labelled k m n l c (x ∷ []) (tree k x) (shows_tree k s x)) (λ x. omega (arith, height_relabelled n l (tree k x), tree_low k x)) (λ x ne. omega (arith, height_relabelled n l (tree k x), tree_lower k s x ne))

-- the same kind of node keeps all that holds of the links
pub label_written : (k m : List Entry) (n : ℕ) (l : Label) → IsSound k → n < length k → is_text l ≡ is_text (at k n).label → m ≡ set k n (record (at k n) { label = l }) → IsSound m × IsRelabelled k m n l
label_written k m n l s nin kind em =
    let c : IsLabelled k (set k n (record (at k n) { label = l })) n l = record {
      labels = λ x. sets_field (λ (y : Entry). y.label) k n _ nin x;
      children = λ x. keeps_field (λ (y : Entry). y.children) k n _ nin refl x;
      parents = λ x. keeps_field (λ (y : Entry). y.parent) k n _ nin refl x;
    } in
    let own : (x : ℕ) → (at (set k n (record (at k n) { label = l })) x).owner ≡ (at k x).owner = λ x. keeps_field (λ (y : Entry). y.owner) k n _ nin refl x in
    let kinds : (x : ℕ) → is_text (at (set k n (record (at k n) { label = l })) x).label ≡ is_text (at k x).label = λ x. keeps_field (λ (y : Entry). is_text y.label) k n _ nin kind x in
    subst (λ y. IsSound y × IsRelabelled k y n l) (sym em) (
      record {
        some = omega (arith, s.some, length-set k n (record (at k n) { label = l }));
        few = omega (arith, s.few, length-set k n (record (at k n) { label = l }));
        top = c.parents body ∙ s.top;
        host = ap (λ o. same_owner o owner.Host) (own body) ∙ s.host;
        element = kinds body ∙ s.element;
        fit = (labelled_renewed k _ n l s c).fit;
        down = λ p x h. c.parents x ∙ s.down p x (subst (λ y. listed x y ≡ true) (c.children p) h);
        upward = λ x p h. subst (λ y. listed x y ≡ true) (sym (c.children p)) (s.upward x p (sym (c.parents x) ∙ h));
        owned = λ x p h. ap (λ o. same_owner o (at (set k n (record (at k n) { label = l })) p).owner || eqb p body) (own x) ∙ ap (λ o. same_owner (at k x).owner o || eqb p body) (own p) ∙ s.owned x p (sym (c.parents x) ∙ h);
        once = λ x. ap distinct (c.children x) ∙ s.once x;
        texts = λ x h. ap length (c.children x) ∙ s.texts x (sym (kinds x) ∙ h);
      },
      record { trees = (labelled_renewed k _ n l s c).trees; labels = c.labels; parents = c.parents; children = c.children; owners = own; made = length-set k n _ },
    )

-- an element stays one
pub attribute_kind : (name : List ℕ) (value : Option (List ℕ)) (l : Label) → is_text l ≡ false → is_text (with_attribute name value l) ≡ is_text l
attribute_kind name value (TextOf text) h = cc
attribute_kind name None (ElementOf tag attributes) h = refl
attribute_kind name (Some v) (ElementOf tag attributes) h = refl
