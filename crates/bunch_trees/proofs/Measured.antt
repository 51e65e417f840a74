-- Measures of trees: how many nodes, and the units of copies.
use Rattle.std.proofs.Common.{◌≡◌, ℕ, ◌+◌, List, [], ◌∷◌, refl, sym, ap, ◌∙◌, map, Some, arith}
use Rattle.std.specs.Prelude.{sum_by}
use Rattle.std.proofs.lemmas.List.Sums.{sum_by-cons}
use Rattle.plain_tree.specs.Trees.{ElementOf, End, Label, Node, TextOf, Trees, beside, size}
use Rattle.widget_meaning.specs.PageForms.{tree_units}
use Rattle.widget_meaning.specs.Trees.{children, subtrees}
use Rattle.page_tree.specs.declared.page.Page.{Page}
use Rattle.page_image.specs.Image.{forest, label_at, number}
use Rattle.page_image.proofs.Copies.{size_beside}
use Rattle.bunch_read.proofs.Content.{form_is, own_tree}
use Rattle.bunch_trees.specs.Appends.{label_units}

units_beside : (a b : Trees ℕ) → tree_units (beside a b) ≡ tree_units a + tree_units b
units_beside End b = omega arith
units_beside (Node n (TextOf t) ks ts) b = let e : tree_units (beside ts b) ≡ tree_units ts + tree_units b = units_beside ts b in omega (arith, e)
units_beside (Node n (ElementOf tag attrs) ks ts) b = let e : tree_units (beside ts b) ≡ tree_units ts + tree_units b = units_beside ts b in omega (arith, e)

units_one : (m : ℕ) (l : Label) (ks : Trees ℕ) → tree_units (Node m l ks End) ≡ label_units l + tree_units ks
units_one m (TextOf t) ks = omega arith
units_one m (ElementOf tag attrs) ks = omega arith

size_one : (m : ℕ) (l : Label) (ks : Trees ℕ) → size (Node m l ks End) ≡ 1 + size ks
size_one m l ks = omega arith

-- the sum over nodes of what is measured of their trees
abbrev pub over : (Trees ℕ → ℕ) → Page → ℕ → List ℕ → ℕ
over g p w ns = sum_by (λ n. g (own_tree p w n)) ns

-- a measure that adds up
module _ (g : Trees ℕ → ℕ) (none : g End ≡ 0) (two : (a b : Trees ℕ) → g (beside a b) ≡ g a + g b) (p : Page) (w : ℕ) where
  over_is : (ns : List ℕ) → g (subtrees (map (number p w) ns) (forest p w)) ≡ over g p w ns
  over_is [] = none
  over_is (n ∷ ns) =
      two (own_tree p w n) (subtrees (map (number p w) ns) (forest p w))
      ∙ ap (λ k. g (own_tree p w n) + k) (over_is ns)
      ∙ sym (sum_by-cons (λ m. g (own_tree p w m)) n ns)

  -- a node by its children
  whole : (own : Label → ℕ) → ((m : ℕ) (l : Label) (ks : Trees ℕ) → g (Node m l ks End) ≡ own l + g ks) → (n : ℕ) (l : Label) (items : List ℕ) → label_at p w n ≡ Some l → children (number p w n) (forest p w) ≡ subtrees (map (number p w) items) (forest p w) → own l + over g p w items ≡ g (own_tree p w n)
  whole own one n l items e kids =
      let f = form_is (number p w n) (forest p w) l e in
      sym (ap g f.1 ∙ one f.0 l (children (number p w n) (forest p w)) ∙ ap (λ k. own l + k) (ap g kids ∙ over_is items))

pub sizes_are : (p : Page) (w : ℕ) (ns : List ℕ) → size (subtrees (map (number p w) ns) (forest p w)) ≡ over size p w ns
sizes_are p w ns = over_is size refl size_beside p w ns

pub units_are : (p : Page) (w : ℕ) (ns : List ℕ) → tree_units (subtrees (map (number p w) ns) (forest p w)) ≡ over tree_units p w ns
units_are p w ns = over_is tree_units refl units_beside p w ns

pub size_whole : (p : Page) (w n : ℕ) (l : Label) (items : List ℕ) → label_at p w n ≡ Some l → children (number p w n) (forest p w) ≡ subtrees (map (number p w) items) (forest p w) → 1 + over size p w items ≡ size (own_tree p w n)
size_whole p w n l items e kids = whole size refl size_beside p w (λ k. 1) size_one n l items e kids

pub units_whole : (p : Page) (w n : ℕ) (l : Label) (items : List ℕ) → label_at p w n ≡ Some l → children (number p w n) (forest p w) ≡ subtrees (map (number p w) items) (forest p w) → label_units l + over tree_units p w items ≡ tree_units (own_tree p w n)
units_whole p w n l items e kids = whole tree_units refl units_beside p w label_units units_one n l items e kids
