-- The nodes of a page are printed.
use Rattle.std.proofs.Common.{◌≡◌, ℕ, ◌+◌, ◌<◌, ◌≤◌, List, [], ◌∷◌, ◌++◌, cond, true, false, refl, sym, ap, ◌∙◌, length, get_or, Result, Ok, Err}
use Rattle.std.proofs.lemmas.List.{append-nil, get_or_default}
use Rattle.std.specs.Prelude.{OnErr, OnOk}
use Rattle.code_units.specs.declared.memory.Memory.{Memory}
use Rattle.plain_tree.specs.Names.{is_void}
use Rattle.plain_tree.specs.Trees.{ElementOf, TextOf, Trees, End, Node, PlainTrees, beside, unmarked}
use Rattle.plain_tree.specs.Print.{printed, printed_text, opening, closing}
use Rattle.page_nodes.specs.Entries.{Entry, at, tree, IsSound}
use Rattle.page_nodes.proofs.Shows.{Shows, none, one_more, shows_beside, shows_one, shows_tree}
use Rattle.page_output.specs.Printing.{IsStyleForm, Prints, PrintsPart}
use Rattle.page_output.proofs.Texts.{PrintsItems, printed_beside, items_start, items_step, items_cut, items_done, items_unclosed, on_err, on_trees, on_part}

unmarked_beside : (a b : Trees ℕ) → unmarked (beside a b) ≡ beside (unmarked a) (unmarked b)
unmarked_beside End b = refl
unmarked_beside (Node m l ks ts) b = ap (Node tt l (unmarked ks)) (unmarked_beside ts b)

module _ (k : List Entry) where
  -- the trees of nodes, one after the other
  abbrev pub trees_of : List ℕ → Trees ℕ
  trees_of [] = End
  trees_of (n ∷ ns) = beside (tree k n) (trees_of ns)

  abbrev pub one : ℕ → PlainTrees
  one n = unmarked (tree k n)

  abbrev pub all : List ℕ → PlainTrees
  all ns = unmarked (trees_of ns)

  pub first : (style : List ℕ → List ℕ) (n : ℕ) (ns : List ℕ) → printed style (all (n ∷ ns)) ≡ printed style (one n) ++ printed style (all ns)
  first style n ns = ap (printed style) (unmarked_beside (tree k n) (trees_of ns)) ∙ printed_beside style (one n) (all ns)

  -- what is printed of the children
  abbrev pub PrintsNodes : List ℕ → ℕ → List ℕ → List ℕ → Type 0
  PrintsNodes = PrintsItems one all refl first

  shows_all : IsSound k → (ns : List ℕ) → Shows k ns (trees_of ns)
  shows_all s [] = none
  shows_all s (n ∷ ns) = shows_beside k (n ∷ []) ns (tree k n) (trees_of ns) (shows_tree k s n) (shows_all s ns)

  -- the tree of a node by those of its children
  tree_is : IsSound k → (n : ℕ) → tree k n ≡ Node n (at k n).label (trees_of (at k n).children) End
  tree_is s n = shows_one k (n ∷ []) (tree k n) (Node n (at k n).label (trees_of (at k n).children) End) (shows_tree k s n) (one_more (shows_all s (at k n).children) none)

  -- the same without numbers, by what was read of the node
  element_is : IsSound k → (n : ℕ) (tag : List ℕ) (attributes : List (List ℕ × List ℕ)) (items : List ℕ) → (at k n).label ≡ ElementOf tag attributes → items ≡ (at k n).children → Node tt (ElementOf tag attributes) (all items) End ≡ one n
  element_is s n tag attributes items el ei = ap (λ l. Node tt l (all items) End) (sym el) ∙ ap (λ l. Node tt (at k n).label (all l) End) ei ∙ sym (ap unmarked (tree_is s n))

  pub nodes_start : (items old new : List ℕ) → new ≡ old → PrintsNodes items 0 old new
  nodes_start = items_start one all refl first

  pub nodes_step : (items : List ℕ) (i : ℕ) (old mid new : List ℕ) → i < length items → PrintsNodes items i old mid → Prints (one (get_or items i 0)) mid new → PrintsNodes items (i + 1) old new
  nodes_step items i old mid new lt h p = items_step one all refl first items i (get_or items i 0) old mid new lt (get_or_default items i 0 (get_or items i 0) lt) h p

  pub node_cut : {T : Type 0} (r : Result T Memory) → IsSound k → (n : ℕ) (tag : List ℕ) (attributes : List (List ℕ × List ℕ)) (old o1 mid new items : List ℕ) (i : ℕ) → (at k n).label ≡ ElementOf tag attributes → items ≡ (at k n).children → is_void tag ≡ false → ((style : List ℕ → List ℕ) → IsStyleForm style → o1 ≡ old ++ opening style tag attributes) → i < length items → PrintsNodes items i o1 mid → PrintsPart (one (get_or items i 0)) mid new → OnErr r (PrintsPart (one n) old new)
  node_cut r s n tag attributes old o1 mid new items i el ei void front lt h g =
      on_part r _ _ old new (element_is s n tag attributes items el ei) (on_err r _ (items_cut one all refl first tag attributes old o1 mid new items i (get_or items i 0) void front lt (get_or_default items i 0 (get_or items i 0) lt) h g))

  pub node_done : (r : Result (Unit {0}) Memory) → IsSound k → (n : ℕ) (tag : List ℕ) (attributes : List (List ℕ × List ℕ)) (old o1 o2 new items : List ℕ) (i : ℕ) → (at k n).label ≡ ElementOf tag attributes → items ≡ (at k n).children → is_void tag ≡ false → ((style : List ℕ → List ℕ) → IsStyleForm style → o1 ≡ old ++ opening style tag attributes) → length items ≤ i → PrintsNodes items i o1 o2 → OnOk r (new ≡ o2 ++ closing tag) → OnOk r (Prints (one n) old new)
  node_done r s n tag attributes old o1 o2 new items i el ei void front le inv h =
      on_trees r _ _ old new (element_is s n tag attributes items el ei) (items_done one all refl first r tag attributes old o1 o2 new items i void front le inv h)

  pub node_unclosed : (r : Result (Unit {0}) Memory) → IsSound k → (n : ℕ) (tag : List ℕ) (attributes : List (List ℕ × List ℕ)) (old o1 o2 new items : List ℕ) (i : ℕ) → (at k n).label ≡ ElementOf tag attributes → items ≡ (at k n).children → is_void tag ≡ false → ((style : List ℕ → List ℕ) → IsStyleForm style → o1 ≡ old ++ opening style tag attributes) → length items ≤ i → PrintsNodes items i o1 o2 → OnErr r (new ≡ o2) → OnErr r (PrintsPart (one n) old new)
  node_unclosed r s n tag attributes old o1 o2 new items i el ei void front le inv h =
      on_part r _ _ old new (element_is s n tag attributes items el ei) (items_unclosed one all refl first r tag attributes old o1 o2 new items i void front le inv h)

  -- a void element is its start tag
  pub node_void : IsSound k → (n : ℕ) (tag : List ℕ) (attributes : List (List ℕ × List ℕ)) (old new : List ℕ) → (at k n).label ≡ ElementOf tag attributes → is_void tag ≡ true → ((style : List ℕ → List ℕ) → IsStyleForm style → new ≡ old ++ opening style tag attributes) → Prints (one n) old new
  node_void s n tag attributes old new el void front = λ style f. front style f
      ∙ ap (λ l. old ++ l) (sym (append-nil (opening style tag attributes)) ∙ ap (λ b. opening style tag attributes ++ cond b [] (printed style (all (at k n).children) ++ closing tag)) (sym void) ∙ sym (append-nil _))
      ∙ ap (λ t. old ++ printed style t) (element_is s n tag attributes (at k n).children el refl)

  -- a text node is its text
  text_is : IsSound k → (n : ℕ) (us : List ℕ) → (at k n).label ≡ TextOf us → (style : List ℕ → List ℕ) → printed style (one n) ≡ printed_text us
  text_is s n us el style = ap (λ t. printed style (unmarked t)) (tree_is s n) ∙ ap (λ l. printed style (Node tt l (all (at k n).children) End)) el ∙ append-nil (printed_text us)

  pub node_text : (r : Result (Unit {0}) Memory) → IsSound k → (n : ℕ) (us old new : List ℕ) → (at k n).label ≡ TextOf us → OnOk r (new ≡ old ++ printed_text us) → OnOk r (Prints (one n) old new)
  node_text (Err e) s n us old new el h = tt
  node_text (Ok x) s n us old new el h = λ style f. h ∙ ap (λ l. old ++ l) (sym (text_is s n us el style))
