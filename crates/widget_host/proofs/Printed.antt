-- What `body` shows, by what stands under it, and what a slot shows.
use Rattle.std.proofs.Common.{◌≡◌, ℕ, zero, suc, List, [], ◌∷◌, ◌++◌, map, Option, Some, None, refl, sym, ap, ◌∙◌}
use Rattle.std.specs.Prelude.{option_to_list, slice_get, slice_index_or}
use Rattle.std.specs.List.{flat_map}
use Rattle.plain_tree.specs.Trees.{End, Node, PlainTrees, Trees, beside, joined, marked, unmarked}
use Rattle.plain_tree.proofs.Lists.{beside_assoc, beside_end}
use Rattle.widget_meaning.specs.OwnState.{OwnState}
use Rattle.widget_meaning.specs.Trees.{child_at}
use Rattle.page_nodes.specs.Entries.{Entry, IsSound, at, body, limit, read, tree}
use Rattle.page_nodes.proofs.Plains.{unmarked_beside}
use Rattle.page_nodes.proofs.Shows.{Shows, none, one_more, shows_one, shows_tree}
use Rattle.page_tree.specs.declared.page.Page.{Page}
use Rattle.page_tree.specs.Pages.{nodes}
use Rattle.page_image.specs.Image.{forest, root_of}
use Rattle.page_image.specs.Own.{own_forest, own_number}
use Rattle.page_plan.specs.Pages as pages
use Rattle.page_plan.specs.Pages.{PagePiece, page_of, roots, shown}
use Rattle.page_build.specs.Layout.{AreLots, IsLaid, IsLot, Lot, Own, Root, Spot, each_tree, lot_of, lots_of, piece_lots}

-- ## The widgets whose roots slots show

-- the own state of a widget, none where a slot was refused, has the trees that the page has of it
abbrev pub IsEnd : Page → Option ℕ → Option OwnState → Type 0
IsEnd p None None = Unit {0}
IsEnd p (Some w) (Some own) = own.forest ≡ forest p w
IsEnd p _ _ = ⊥

-- so it is with the own states of these widgets, in order
abbrev pub AreEnds : Page → List (Option ℕ) → List (Option OwnState) → Type 0
AreEnds p [] [] = Unit {0}
AreEnds p (home ∷ homes) (end ∷ ends) = IsEnd p home end × AreEnds p homes ends
AreEnds p _ _ = ⊥

-- ## Trees without marks

unmarked_marked : (f : ℕ → ℕ) (ts : Trees ℕ) → unmarked (marked f ts) ≡ unmarked ts
unmarked_marked f End = refl
unmarked_marked f (Node m l ks ts) = λ j. Node tt l (unmarked_marked f ks j) (unmarked_marked f ts j)

-- ## Trees of nodes

module _ (k : List Entry) (s : IsSound k) where
  abbrev trees_of : List ℕ → Trees ℕ
  trees_of ns = joined (map (tree k) ns)

  all_shown : (ns : List ℕ) (ts : Trees ℕ) → Shows k ns ts → ts ≡ trees_of ns
  all_shown [] _ none = refl
  all_shown (n ∷ ns) _ (one_more {ks = ks} {ts = ts} hk hs) =
      ap (Node n (at k n).label ks) (all_shown ns ts hs)
      ∙ ap (λ t. beside t (trees_of ns)) (shows_one k (n ∷ []) (Node n (at k n).label ks End) (tree k n) (one_more hk none) (shows_tree k s n))

  -- the tree of a node by those of its children
  tree_is : (n : ℕ) → tree k n ≡ Node n (at k n).label (trees_of (at k n).children) End
  tree_is n = of (tree k n) (shows_tree k s n)
    where
      of : (ts : Trees ℕ) → Shows k (n ∷ []) ts → ts ≡ Node n (at k n).label (trees_of (at k n).children) End
      of _ (one_more {ks = ks} hk none) = ap (λ t. Node n (at k n).label t End) (all_shown (at k n).children ks hk)

module _ (p : Page) where
  -- what a lot shows
  abbrev lot_shows : Lot → PlainTrees
  lot_shows (Own own) = own
  lot_shows (Root w) = unmarked (child_at 0 (forest p w))
  lot_shows (Spot n) = unmarked (tree (nodes p) n)

  abbrev all_show : List Lot → PlainTrees
  all_show lots = joined (map lot_shows lots)

  root_shown : (w n : ℕ) → root_of p w ≡ Some n → unmarked (tree (nodes p) n) ≡ unmarked (child_at 0 (forest p w))
  unfolding root_of forest
  root_shown w n is =
      let k = nodes p in
      sym (ap (λ r. unmarked (child_at 0 (own_forest k r w))) is ∙ ap (λ t. Node tt (at k n).label t End) (unmarked_marked (own_number k w) (read k limit (at k n).children)))

  one_shown : (lot : Lot) (n : ℕ) → IsLot p lot n → unmarked (tree (nodes p) n) ≡ lot_shows lot
  one_shown (Own own) n h = h.shows
  one_shown (Root w) n h = root_shown w n h.1
  one_shown (Spot m) n h = ap (λ x. unmarked (tree (nodes p) x)) h

  lots_shown : (lots : List Lot) (ns : List ℕ) → AreLots p lots ns → unmarked (joined (map (tree (nodes p)) ns)) ≡ all_show lots
  lots_shown [] [] h = refl
  lots_shown [] (n ∷ ns) h = absurd h
  lots_shown (lot ∷ lots) [] h = absurd h
  lots_shown (lot ∷ lots) (n ∷ ns) h =
      unmarked_beside (tree (nodes p) n) (joined (map (tree (nodes p)) ns)) ∙ (λ j. beside (one_shown lot n h.0 j) (lots_shown lots ns h.1 j))

  -- ## Pieces

  both_show : (lots more : List Lot) → all_show (lots ++ more) ≡ beside (all_show lots) (all_show more)
  both_show [] more = refl
  both_show (lot ∷ lots) more = ap (beside (lot_shows lot)) (both_show lots more) ∙ sym (beside_assoc (lot_shows lot) (all_show lots) (all_show more))

  each_shows : (ts : PlainTrees) → all_show (each_tree ts) ≡ ts
  each_shows End = refl
  each_shows (Node m l ks ts) = ap (Node m l ks) (each_shows ts)

  end_shows : (name : List ℕ) (home : Option ℕ) (end : Option OwnState) → IsEnd p home end → lot_shows (lot_of name home) ≡ pages.root_of name end
  end_shows name None None h = refl
  end_shows name None (Some own) h = absurd h
  end_shows name (Some w) None h = absurd h
  end_shows name (Some w) (Some own) h = ap (λ ts. unmarked (child_at 0 ts)) (sym h)

  slots_show : (names : List (List ℕ)) (homes : List (Option ℕ)) (ends : List (Option OwnState)) → AreEnds p homes ends → map lot_shows (lots_of names homes) ≡ roots names ends
  slots_show [] homes ends h = refl
  slots_show (name ∷ names) [] [] h = refl
  slots_show (name ∷ names) [] (end ∷ ends) h = absurd h
  slots_show (name ∷ names) (home ∷ homes) [] h = absurd h
  slots_show (name ∷ names) (home ∷ homes) (end ∷ ends) h = λ j. end_shows name home end h.0 j ∷ slots_show names homes ends h.1 j

  place_shows : (lots : List Lot) (n : ℕ) → all_show (option_to_list (slice_get lots n)) ≡ slice_index_or (map lot_shows lots) n End
  place_shows [] n = refl
  place_shows (lot ∷ lots) zero = beside_end (lot_shows lot)
  place_shows (lot ∷ lots) (suc n) = place_shows lots n

  pieces_show : (lots : List Lot) (trees : List PlainTrees) → map lot_shows lots ≡ trees → (pieces : List PagePiece) → all_show (flat_map (piece_lots lots) pieces) ≡ shown pieces trees
  pieces_show lots trees e [] = refl
  pieces_show lots trees e (pages.Trees own ∷ pieces) =
      both_show (each_tree own) (flat_map (piece_lots lots) pieces) ∙ (λ j. beside (each_shows own j) (pieces_show lots trees e pieces j))
  pieces_show lots trees e (pages.Place n ∷ pieces) =
      both_show (option_to_list (slice_get lots n)) (flat_map (piece_lots lots) pieces)
      ∙ (λ j. beside ((place_shows lots n ∙ ap (λ ts. slice_index_or ts n End) e) j) (pieces_show lots trees e pieces j))

  pub laid_shows : (names : List (List ℕ)) (homes : List (Option ℕ)) (pieces : List PagePiece) (ends : List (Option OwnState)) → IsLaid p names homes pieces → AreEnds p homes ends
      → unmarked (tree (nodes p) body) ≡ page_of pieces (roots names ends)
  laid_shows names homes pieces ends laid h =
      ap unmarked (tree_is (nodes p) p.arena.sound body)
      ∙ (λ j. Node tt (laid.top j) ((lots_shown (flat_map (piece_lots (lots_of names homes)) pieces) (at (nodes p) body).children laid.laid ∙ pieces_show (lots_of names homes) (roots names ends) (slots_show names homes ends h) pieces) j) End)

  -- what stands in one slot
  pub spot_shows : (n : ℕ) (name : List ℕ) (home : Option ℕ) (end : Option OwnState) → IsLot p (lot_of name home) n → IsEnd p home end → unmarked (tree (nodes p) n) ≡ pages.root_of name end
  spot_shows n name home end lot h = one_shown (lot_of name home) n lot ∙ end_shows name home end h
