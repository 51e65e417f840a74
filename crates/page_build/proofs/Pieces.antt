-- A page of pieces, by the nodes that stand in its slots.
use Rattle.std.proofs.Common.{◌≡◌, ℕ, zero, suc, ◌<◌, List, [], ◌∷◌, ◌++◌, true, false, refl, sym, ap, ◌∙◌, subst, map, length, get_or, cond, eqb, eqb-true, arith, Option, Some, None}
use Rattle.std.specs.Prelude.{option_to_list, slice_get}
use Rattle.std.specs.List.{flat_map}
use Rattle.std.specs.Option.{option_map}
use Rattle.std.proofs.lemmas.Option.{get_or_from_slice_get, slice_get-get_or, slice_get_within}
use Rattle.tree_ops.proofs.Tests.{cases}
use Rattle.plain_tree.specs.Trees.{End, Node, PlainTrees, unmarked}
use Rattle.page_nodes.specs.Entries.{at, body}
use Rattle.page_tree.specs.declared.page.Page.{Page}
use Rattle.page_tree.specs.Pages.{nodes}
use Rattle.page_plan.specs.Pages.{PagePiece, Place, Trees}
use Rattle.page_build.specs.Layout.{AreLots, IsLaid, IsLot, IsMarkup, Lot, Spot, each_tree, lots_of, piece_lots}
use Rattle.page_build.specs.Standing.{AreLotsOf, AreSpots, Child, Fixed, HasSlots, HavePlaces, HostPasses, InSlot, IsLaidBy, filled, has_place, has_slot, piece_spots}
use Rattle.page_build.proofs.Lots.{lots_apart, lots_both}

no_true : false ≡ true → ⊥
no_true e = cc

-- ## Children of some pieces

front_filled : (ns : List ℕ) (cs : List Child) (spots : List ℕ) → filled (map Fixed ns ++ cs) spots ≡ ns ++ filled cs spots
front_filled [] cs spots = refl
front_filled (n ∷ ns) cs spots = ap (λ l. n ∷ l) (front_filled ns cs spots)

front_slots : (w : ℕ) (ns : List ℕ) (cs : List Child) → has_slot w (map Fixed ns ++ cs) ≡ has_slot w cs
front_slots w [] cs = refl
front_slots w (n ∷ ns) cs = front_slots w ns cs

-- the host's own trees stay
abbrev OwnStay : Page → Page → Type 0
OwnStay p q = (own : PlainTrees) (n : ℕ) → IsMarkup p n own → IsMarkup q n own

trees_stay : (p q : Page) → OwnStay p q → (own : PlainTrees) (ns : List ℕ) → AreLots p (each_tree own) ns → AreLots q (each_tree own) ns
trees_stay p q f End [] h = tt
trees_stay p q f End (n ∷ ns) h = absurd h
trees_stay p q f (Node m l ks ts) [] h = absurd h
trees_stay p q f (Node m l ks ts) (n ∷ ns) h = (f (Node m l ks End) n h.0, trees_stay p q f ts ns h.1)

-- These nodes are the children that pieces give, and they are it with other nodes in the slots too.
record Given (p : Page) (spots : List ℕ) (pieces : List PagePiece) (ns : List ℕ) : Type 0 where
  children : List Child
  are : ns ≡ filled children spots
  slots : (w : ℕ) → w < length spots → has_place w pieces ≡ true → has_slot w children ≡ true
  again : (q : Page) (new : List ℕ) → length new ≡ length spots → OwnStay p q → AreLots q (flat_map (piece_spots new) pieces) (filled children new)

given : (p : Page) (spots : List ℕ) (pieces : List PagePiece) (ns : List ℕ) → AreLots p (flat_map (piece_spots spots) pieces) ns → Given p spots pieces ns
given p spots [] [] h = record { children = []; are = refl; slots = λ w lt e. absurd (no_true e); again = λ q new long f. tt }
given p spots [] (n ∷ ns) h = absurd h
given p spots (Trees own ∷ pieces) ns h =
    let a = lots_apart p (each_tree own) (flat_map (piece_spots spots) pieces) ns h in
    let g = given p spots pieces a.back a.rest in
    record {
      children = map Fixed a.front ++ g.children;
      are = a.both ∙ ap (λ l. a.front ++ l) g.are ∙ sym (front_filled a.front g.children spots);
      slots = λ w lt e. front_slots w a.front g.children ∙ g.slots w lt e;
      again = λ q new long f. subst (AreLots q (flat_map (piece_spots new) (Trees own ∷ pieces))) (sym (front_filled a.front g.children new))
          (lots_both q (each_tree own) (flat_map (piece_spots new) pieces) a.front (filled g.children new) (trees_stay p q f own a.front a.here) (g.again q new long f));
    }
given p spots (Place u ∷ pieces) ns h = by (slice_get spots u) refl ns (given p spots pieces) h
  where
    none_past : slice_get spots u ≡ None → (new : List ℕ) → length new ≡ length spots → slice_get new u ≡ None
    none_past e new long = past (slice_get new u) refl
      where
        past : (o : Option ℕ) → slice_get new u ≡ o → o ≡ None
        past None i = refl
        past (Some x) i = absurd (some_none (get_or spots u 0) (sym (slice_get-get_or spots u 0 (omega (arith, slice_get_within new u x i, long))) ∙ e))
          where
            some_none : (y : ℕ) → ◌≡◌ {A = Option ℕ} (Some y) None → ⊥
            some_none y i = cc

    by : (o : Option ℕ) → slice_get spots u ≡ o → (ns : List ℕ) → ((ms : List ℕ) → AreLots p (flat_map (piece_spots spots) pieces) ms → Given p spots pieces ms) → AreLots p (option_to_list (option_map Spot o) ++ flat_map (piece_spots spots) pieces) ns → Given p spots (Place u ∷ pieces) ns
    by None e ns rest h =
        let g = rest ns h in
        record {
          children = g.children;
          are = g.are;
          slots = λ w lt t. g.slots w lt (other w lt t);
          again = λ q new long f. subst (λ o. AreLots q (option_to_list (option_map Spot o) ++ flat_map (piece_spots new) pieces) (filled g.children new)) (sym (none_past e new long)) (g.again q new long f);
        }
      where
        other : (w : ℕ) → w < length spots → has_place w (Place u ∷ pieces) ≡ true → has_place w pieces ≡ true
        other w lt t0 = cases (λ b. cond b true (has_place w pieces) ≡ true → has_place w pieces ≡ true) (eqb u w)
            (λ i t. absurd (some_none (get_or spots w 0) (sym (slice_get-get_or spots w 0 lt) ∙ ap (slice_get spots) (sym (eqb-true u w i)) ∙ e)))
            (λ i t. t)
            t0
          where
            some_none : (y : ℕ) → ◌≡◌ {A = Option ℕ} (Some y) None → ⊥
            some_none y i = cc
    by (Some x) e [] rest h = absurd h
    by (Some x) e (n ∷ ns) rest h =
        let g = rest ns h.1 in
        record {
          children = InSlot u ∷ g.children;
          are = (λ j. (h.0 ∙ sym (get_or_from_slice_get spots u x body e)) j ∷ g.are j);
          slots = λ w lt t0. cases (λ b. cond b true (has_place w pieces) ≡ true → cond b true (has_slot w g.children) ≡ true) (eqb u w) (λ i t. refl) (λ i t. g.slots w lt t) t0;
          again = λ q new long f. subst (λ o. AreLots q (option_to_list (option_map Spot o) ++ flat_map (piece_spots new) pieces) (filled (InSlot u ∷ g.children) new))
              (sym (slice_get-get_or new u body (omega (arith, slice_get_within spots u x e, long)))) (refl, g.again q new long f);
        }

-- ## Pages

module _ (p : Page) (spots : List ℕ) (pieces : List PagePiece) (h : IsLaidBy p spots pieces) (places : HavePlaces (length spots) pieces) where
  all : Given p spots pieces (at (nodes p) body).children
  all = given p spots pieces (at (nodes p) body).children h.laid

  have : HasSlots (length spots) all.children
  have w lt = all.slots w lt (places w lt)

  pub spots_of_laid : AreSpots p spots
  spots_of_laid = record { children = all.children; slots = have; are = all.are }

  module _ (q : Page) (new : List ℕ) (long : length new ≡ length spots) (host : HostPasses p q spots new) where
    own_stay : OwnStay p q
    own_stay own n m = record {
      is_in = omega (arith, m.is_in, host.made);
      below = m.below;
      hosts = host.owners n m.is_in ∙ m.hosts;
      shows = ap unmarked (host.trees n m.is_in m.below m.hosts) ∙ m.shows;
    }

    laid_again : IsLaidBy q new pieces
    laid_again = record {
      top = host.label ∙ h.top;
      laid = subst (AreLots q (flat_map (piece_spots new) pieces)) (sym (host.order all.children have all.are)) (all.again q new long own_stay);
    }

pub laid_passes : (p q : Page) (old new : List ℕ) → HostPasses p q old new → length new ≡ length old → (pieces : List PagePiece) → HavePlaces (length old) pieces → IsLaidBy p old pieces → IsLaidBy q new pieces
laid_passes p q old new host long pieces places h = laid_again p old pieces h places q new long host

-- ## By names

lots_are : (p : Page) (names : List (List ℕ)) (homes : List (Option ℕ)) (spots : List ℕ) → AreLotsOf p names homes spots → AreLots p (lots_of names homes) spots
lots_are p [] [] [] h = tt
lots_are p [] [] (n ∷ ns) h = absurd h
lots_are p [] (home ∷ homes) ns h = absurd h
lots_are p (name ∷ names) [] ns h = absurd h
lots_are p (name ∷ names) (home ∷ homes) [] h = absurd h
lots_are p (name ∷ names) (home ∷ homes) (n ∷ ns) h = (h.0, lots_are p names homes ns h.1)

lot_at : (p : Page) (lots : List Lot) (spots : List ℕ) (w : ℕ) (ns : List ℕ) → AreLots p lots spots → AreLots p (option_to_list (option_map Spot (slice_get spots w))) ns → AreLots p (option_to_list (slice_get lots w)) ns
lot_at p [] [] w ns h g = g
lot_at p [] (n ∷ spots) w ns h g = absurd h
lot_at p (lot ∷ lots) [] w ns h g = absurd h
lot_at p (lot ∷ lots) (n ∷ spots) zero [] h g = absurd g
lot_at p (lot ∷ lots) (n ∷ spots) zero (m ∷ []) h g = (subst (IsLot p lot) (sym g.0) h.0, tt)
lot_at p (lot ∷ lots) (n ∷ spots) zero (m ∷ x ∷ ns) h g = absurd g.1
lot_at p (lot ∷ lots) (n ∷ spots) (suc w) ns h g = lot_at p lots spots w ns h.1 g

pieces_named : (p : Page) (lots : List Lot) (spots : List ℕ) → AreLots p lots spots → (pieces : List PagePiece) (ns : List ℕ) → AreLots p (flat_map (piece_spots spots) pieces) ns → AreLots p (flat_map (piece_lots lots) pieces) ns
pieces_named p lots spots are [] ns h = h
pieces_named p lots spots are (Trees own ∷ pieces) ns h =
    let a = lots_apart p (each_tree own) (flat_map (piece_spots spots) pieces) ns h in
    subst (AreLots p (each_tree own ++ flat_map (piece_lots lots) pieces)) (sym a.both)
    (lots_both p (each_tree own) (flat_map (piece_lots lots) pieces) a.front a.back a.here (pieces_named p lots spots are pieces a.back a.rest))
pieces_named p lots spots are (Place w ∷ pieces) ns h =
    let a = lots_apart p (option_to_list (option_map Spot (slice_get spots w))) (flat_map (piece_spots spots) pieces) ns h in
    subst (AreLots p (option_to_list (slice_get lots w) ++ flat_map (piece_lots lots) pieces)) (sym a.both)
    (lots_both p (option_to_list (slice_get lots w)) (flat_map (piece_lots lots) pieces) a.front a.back (lot_at p lots spots w a.front are a.here) (pieces_named p lots spots are pieces a.back a.rest))

pub laid_by : (p : Page) (names : List (List ℕ)) (homes : List (Option ℕ)) (pieces : List PagePiece) (spots : List ℕ) → IsLaidBy p spots pieces → AreLotsOf p names homes spots → IsLaid p names homes pieces
laid_by p names homes pieces spots h are = record {
  top = h.top;
  laid = pieces_named p (lots_of names homes) spots (lots_are p names homes spots are) pieces (at (nodes p) body).children h.laid;
}
