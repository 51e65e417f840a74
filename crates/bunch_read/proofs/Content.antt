-- The text content of nodes.
use Rattle.std.proofs.Common.{◌≡◌, ℕ, zero, suc, ◌+◌, ◌<◌, ◌≤◌, List, [], ◌∷◌, ◌++◌, Bool, true, false, refl, sym, ap, ◌∙◌, map, length, append_assoc, take, get_or, Option, None, Some, arith, eqb, if◌then◌else◌}
use Rattle.std.specs.Prelude.{max}
use Rattle.std.specs.Option.{option_or, unwrap_or}
use Rattle.std.proofs.lemmas.List.{append-nil}
use Rattle.plain_tree.specs.Trees.{End, Label, ElementOf, Node, TextOf, Trees, beside, height}
use Rattle.tree_ops.specs.Trees.{subtree, tree_of}
use Rattle.widget_meaning.specs.PageForms.{texts_of}
use Rattle.widget_meaning.specs.Trees.{children, first_children, first_label, label_of, subtrees}
use Rattle.page_tree.specs.declared.page.Page.{Page}
use Rattle.page_nodes.specs.Entries.{at}
use Rattle.page_tree.specs.Pages.{nodes}
use Rattle.tree_ops.specs.Labels.{is_text}
use Rattle.page_image.specs.Image.{forest, label_at, number, owns}
use Rattle.page_image.proofs.Looks as looks
use Rattle.bunch_read.specs.Values.{own_text}
use Rattle.bunch_read.proofs.Lists.{take_whole}

none_some : {A : Type 0} {a : A} → None ≡ Some a → ⊥
none_some e = cc

some_of : {A : Type 0} (a b : A) → Some a ≡ Some b → a ≡ b
some_of a b e = cc

-- ## Trees

pub texts_beside : (a b : Trees ℕ) → texts_of (beside a b) ≡ texts_of a ++ texts_of b
texts_beside End b = refl
texts_beside (Node n (TextOf t) ks ts) b =
    ap (λ x. t ++ (texts_of ks ++ x)) (texts_beside ts b)
    ∙ ap (λ x. t ++ x) (sym (append_assoc (texts_of ks) (texts_of ts) (texts_of b)))
    ∙ sym (append_assoc t (texts_of ks ++ texts_of ts) (texts_of b))
texts_beside (Node n (ElementOf tag attrs) ks ts) b =
    ap (λ x. texts_of ks ++ x) (texts_beside ts b) ∙ sym (append_assoc (texts_of ks) (texts_of ts) (texts_of b))

height_beside : (a b : Trees ℕ) → height (beside a b) ≡ max (height a) (height b)
height_beside End b = omega arith
height_beside (Node n l ks ts) b = omega (arith, height_beside ts b)

-- the tree of a node has it at its top, and nothing beside it
has_form : (n : ℕ) (ts t : Trees ℕ) → tree_of n ts ≡ Some t → (m : ℕ) × (l : Label) × (ks : Trees ℕ) × (t ≡ Node m l ks End)
has_form n End t e = absurd (none_some e)
has_form n (Node m l ks ts) t e = by (eqb m n) (tree_of n ks) (λ h. has_form n ks t h) (λ h. has_form n ts t h) e
  where
    by : (b : Bool) (o : Option (Trees ℕ)) → (o ≡ Some t → (m : ℕ) × (l : Label) × (ks : Trees ℕ) × (t ≡ Node m l ks End)) → (tree_of n ts ≡ Some t → (m : ℕ) × (l : Label) × (ks : Trees ℕ) × (t ≡ Node m l ks End)) → (if b then Some (Node m l ks End) else option_or o (tree_of n ts)) ≡ Some t → (m : ℕ) × (l : Label) × (ks : Trees ℕ) × (t ≡ Node m l ks End)
    by true o h more g = (m, l, ks, sym (some_of (Node m l ks End) t g))
    by false None h more g = more g
    by false (Some u) h more g = h g

pub form_is : (n : ℕ) (ts : Trees ℕ) (l : Label) → label_of n ts ≡ Some l → (m : ℕ) × (subtree n ts ≡ Node m l (children n ts) End)
form_is n ts l e = by (tree_of n ts) refl e
  where
    by : (o : Option (Trees ℕ)) → tree_of n ts ≡ o → first_label (unwrap_or o End) ≡ Some l → (m : ℕ) × (unwrap_or o End ≡ Node m l (first_children (unwrap_or o End)) End)
    by None h g = absurd (none_some g)
    by (Some t) h g =
        let f = has_form n ts t h in
        let same : f.1 ≡ l = some_of f.1 l (sym (ap first_label f.3) ∙ g) in
        (f.0, f.3 ∙ (λ j. Node f.0 (same j) f.2 End) ∙ sym (ap (λ u. Node f.0 l (first_children u) End) f.3))

-- ## Nodes

module _ (p : Page) (w : ℕ) where
  -- the tree of a node
  abbrev pub own_tree : ℕ → Trees ℕ
  own_tree n = subtree (number p w n) (forest p w)

  -- the texts of nodes, one after the other
  abbrev pub texts : List ℕ → List ℕ
  texts [] = []
  texts (n ∷ ns) = texts_of (own_tree n) ++ texts ns

  pub texts_are : (ns : List ℕ) → texts_of (subtrees (map (number p w) ns) (forest p w)) ≡ texts ns
  texts_are [] = refl
  texts_are (n ∷ ns) = texts_beside (own_tree n) (subtrees (map (number p w) ns) (forest p w)) ∙ ap (λ x. texts_of (own_tree n) ++ x) (texts_are ns)

  texts_next : (ns : List ℕ) (i : ℕ) → i < length ns → texts (take (suc i) ns) ≡ texts (take i ns) ++ texts_of (own_tree (get_or ns i 0))
  texts_next [] i lt = absurd (omega (arith, lt))
  texts_next (n ∷ ns) zero lt = append-nil (texts_of (own_tree n))
  texts_next (n ∷ ns) (suc i) lt = ap (λ x. texts_of (own_tree n) ++ x) (texts_next ns i (omega (arith, lt))) ∙ sym (append_assoc (texts_of (own_tree n)) (texts (take i ns)) (texts_of (own_tree (get_or ns i 0))))

  pub texts_more : (ns : List ℕ) (i : ℕ) → i < length ns → texts (take (i + 1) ns) ≡ texts (take i ns) ++ texts_of (own_tree (get_or ns i 0))
  texts_more ns i lt = let e : i + 1 ≡ suc i = omega arith in ap (λ k. texts (take k ns)) e ∙ texts_next ns i lt

  -- the text content of a node by that of its children
  pub content_is : (n : ℕ) (l : Label) (items : List ℕ) → label_at p w n ≡ Some l → children (number p w n) (forest p w) ≡ subtrees (map (number p w) items) (forest p w) → texts_of (own_tree n) ≡ own_text l ++ texts items
  content_is n l items e kids =
      let f = form_is (number p w n) (forest p w) l e in
      ap texts_of f.1 ∙ by l ∙ ap (λ x. own_text l ++ x) (ap texts_of kids ∙ texts_are items)
    where
      by : (l : Label) → texts_of (Node 0 l (children (number p w n) (forest p w)) End) ≡ own_text l ++ texts_of (children (number p w n) (forest p w))
      by (TextOf t) = ap (λ x. t ++ x) (append-nil (texts_of (children (number p w n) (forest p w))))
      by (ElementOf tag attrs) = append-nil (texts_of (children (number p w n) (forest p w)))

  height_of : (ns : List ℕ) (i : ℕ) → i < length ns → height (own_tree (get_or ns i 0)) ≤ height (subtrees (map (number p w) ns) (forest p w))
  height_of [] i lt = absurd (omega (arith, lt))
  height_of (n ∷ ns) zero lt = omega (arith, height_beside (own_tree n) (subtrees (map (number p w) ns) (forest p w)))
  height_of (n ∷ ns) (suc i) lt = omega (arith, height_beside (own_tree n) (subtrees (map (number p w) ns) (forest p w)), height_of ns i (omega (arith, lt)))

  -- a child's tree is lower
  pub child_lower : (n : ℕ) (l : Label) (items : List ℕ) (i : ℕ) → label_at p w n ≡ Some l → children (number p w n) (forest p w) ≡ subtrees (map (number p w) items) (forest p w) → i < length items → height (own_tree (get_or items i 0)) < height (own_tree n)
  child_lower n l items i e kids lt =
      let f = form_is (number p w n) (forest p w) l e in
      omega (arith, height_of items i lt, ap height f.1, ap height kids)

  -- a text node has its text alone
  pub text_alone : (n : ℕ) (t : List ℕ) → owns p w n ≡ true → label_at p w n ≡ Some (TextOf t) → texts_of (own_tree n) ≡ t
  text_alone n t h e =
      let l : (at (nodes p) n).label ≡ TextOf t = some_of (at (nodes p) n).label (TextOf t) (sym (looks.label_at p w n h) ∙ e) in
      let none : (at (nodes p) n).children ≡ [] = empty (at (nodes p) n).children (p.arena.sound.texts n (ap is_text l)) in
      content_is n (TextOf t) [] e (looks.children_at p w n h ∙ ap (λ c. subtrees (map (number p w) c) (forest p w)) none) ∙ append-nil t
    where
      empty : (xs : List ℕ) → length xs ≡ 0 → xs ≡ []
      empty [] q = refl
      empty (x ∷ xs) q = absurd (omega (arith, q))

-- what a node has by itself, by what it is
pub own_is : (o : Option Label) (t : List ℕ) (l : Label) → o ≡ Some (TextOf t) → o ≡ Some l → t ≡ own_text l
own_is o t l e f = ap own_text (some_of (TextOf t) l (sym e ∙ f))

pub none_own : (o : Option Label) (tag : List ℕ) (attributes : List (List ℕ × List ℕ)) (l : Label) → o ≡ Some (ElementOf tag attributes) → o ≡ Some l → [] ≡ own_text l
none_own o tag attributes l e f = ap own_text (some_of (ElementOf tag attributes) l (sym e ∙ f))

pub own_same : (o : Option Label) (l k : Label) → o ≡ Some l → o ≡ Some k → own_text l ≡ own_text k
own_same o l k e f = ap own_text (some_of l k (sym e ∙ f))

-- ## Counting, and joining

module _ (p : Page) (w : ℕ) (n : ℕ) (h : owns p w n ≡ true) (items : List ℕ) (kids : children (number p w n) (forest p w) ≡ subtrees (map (number p w) items) (forest p w)) where
  abbrev label : Label
  label = (at (nodes p) n).label

  pub lower : (i : ℕ) → i < length items → height (own_tree p w (get_or items i 0)) < height (own_tree p w n)
  lower i lt = child_lower p w n label items i (looks.label_at p w n h) kids lt

  pub content_whole : (own : List ℕ) (i : ℕ) → ((l : Label) → label_at p w n ≡ Some l → own ≡ own_text l) → length items ≤ i → own ++ texts p w (take i items) ≡ texts_of (own_tree p w n)
  content_whole own i is le =
      (λ j. is label (looks.label_at p w n h) j ++ texts p w (take_whole items i le j)) ∙ sym (content_is p w n label items (looks.label_at p w n h) kids)
