-- `body` gets a child behind those it has.
use Rattle.std.proofs.Common.{◌≡◌, ◌≢◌, ℕ, ◌<◌, List, [], ◌∷◌, ◌++◌, Some, None, refl, sym, ap, ◌∙◌, subst, arith}
use Rattle.code_units.specs.declared.owner.Owner.{Owner}
use Rattle.plain_tree.specs.Trees.{End, Node, PlainTrees, beside, unmarked}
use Rattle.tree_ops.specs.Trees.{grafted}
use Rattle.tree_ops.proofs.Absent.{grafted_off}
use Rattle.page_nodes.specs.Adds.{IsAdded}
use Rattle.page_nodes.specs.Entries.{at, body, body_entry, limit, read, tree}
use Rattle.page_nodes.specs.Moves.{IsLinked}
use Rattle.page_nodes.proofs.Walk.{without_body}
use Rattle.page_tree.specs.declared.page.Page.{Page}
use Rattle.page_tree.specs.Pages.{nodes}
use Rattle.page_image.specs.Image.{root_of}
use Rattle.page_image.specs.Stays.{HostStays}
use Rattle.page_build.specs.Homes.{IsOneTree}
use Rattle.page_build.specs.Layout.{AreLots, IsLaidOut, IsLot, Lot, Own, Root, Spot, each_tree}
use Rattle.page_build.specs.Standing.{IsStanding}
use Rattle.page_build.proofs.Children.{children_are, kids, tops_grafted, tops_put}
use Rattle.page_build.proofs.Lots.{laid_kept, lots_both, lots_kept}
use Rattle.page_build.proofs.Stands.{linked_stands, laid_older, lot_older, lot_stays, standing_linked, standing_older}

-- ## What stands under `body`

-- `body` has no child yet
pub laid_none : (p : Page) → nodes p ≡ body_entry ∷ [] → IsLaidOut p []
laid_none p e = record {
  top = ap (λ k. (at k body).label) e;
  laid = subst (AreLots p []) (sym (ap (λ k. (at k body).children) e)) tt;
}

-- what the host has of the page stays, and the roots
pub laid_stays : (p q : Page) → HostStays p q → ((v : ℕ) → v < 32 → root_of q v ≡ root_of p v) → (lots : List Lot) → IsLaidOut p lots → IsLaidOut q lots
laid_stays p q host roots lots h = laid_kept p q (lot_stays p q host roots) host.top lots h

-- ## One child more

module _ (p q : Page) (id : ℕ) (c : IsLinked (nodes p) (nodes q) body None id) where
  -- the trees below `body`
  pub trees_linked : (x : ℕ) → x ≢ body → tree (nodes q) x ≡ tree (nodes p) x
  trees_linked x ne = c.trees x ∙ grafted_off body None (tree (nodes p) id) (tree (nodes p) x) (without_body (nodes p) p.arena.sound x ne)

  children_linked : (at (nodes q) body).children ≡ (at (nodes p) body).children ++ id ∷ []
  children_linked =
      let us = tree (nodes p) id in
      let ks = read (nodes p) limit (at (nodes p) body).children in
      sym (children_are (nodes q) q.arena.sound body)
      ∙ ap kids (c.trees body)
      ∙ tops_put us (grafted body None us ks)
      ∙ ap (λ ns. ns ++ id ∷ []) (tops_grafted body None us ks ∙ children_are (nodes p) p.arena.sound body)

  module _ (roots : (v n : ℕ) → v < 32 → root_of p v ≡ Some n → root_of q v ≡ Some n) where
    lot_linked : (lot : Lot) (n : ℕ) → IsLot p lot n → IsLot q lot n
    lot_linked (Own own) n m = record {
      is_in = omega (arith, m.is_in, c.kept.made);
      below = m.below;
      hosts = c.kept.owners n ∙ m.hosts;
      shows = ap unmarked (trees_linked n m.below) ∙ m.shows;
    }
    lot_linked (Root v) n r = (r.0, roots v n r.0 r.1)
    lot_linked (Spot m) n e = e

    laid_linked : (lot : Lot) → IsLot q lot id → (lots : List Lot) → IsLaidOut p lots → IsLaidOut q (lots ++ lot ∷ [])
    laid_linked lot l lots h = record {
      top = c.kept.labels body ∙ h.top;
      laid = subst (AreLots q (lots ++ lot ∷ [])) (sym children_linked) (lots_both q lots (lot ∷ []) (at (nodes p) body).children (id ∷ []) (lots_kept p q lot_linked lots (at (nodes p) body).children h.laid) (l, tt));
    }

-- a tree is added, and comes under `body`
module _ (p r q : Page) (id : ℕ) (o : Owner) (t : PlainTrees) (c : IsAdded (nodes p) (nodes r) id o t) (d : IsLinked (nodes r) (nodes q) body None id)
    (first : (v n : ℕ) → v < 32 → root_of p v ≡ Some n → root_of r v ≡ Some n) (then : (v n : ℕ) → v < 32 → root_of r v ≡ Some n → root_of q v ≡ Some n) where
  pub lots_stay : (lot : Lot) (n : ℕ) → IsLot p lot n → IsLot q lot n
  lots_stay lot n h = lot_linked r q id d then lot n (lot_older p r c.older first lot n h)

  pub standing_stay : (n : ℕ) → IsStanding p n → IsStanding q n
  standing_stay n h = standing_linked r q id d n (standing_older p r c.older first n h)

  pub it_stands : IsStanding q id
  it_stands = linked_stands r q id c.is_in d

  pub laid_behind : (lot : Lot) → IsLot q lot id → (lots : List Lot) → IsLaidOut p lots → IsLaidOut q (lots ++ lot ∷ [])
  laid_behind lot l lots h = laid_linked r q id d then lot l lots (laid_older p r c.older first lots h)

-- ## Trees one by one

pub same_plain : (ts : PlainTrees) → unmarked ts ≡ ts
same_plain End = refl
same_plain (Node m l ks ts) = λ j. Node tt l (same_plain ks j) (same_plain ts j)

pub each_one : (ts : PlainTrees) → IsOneTree ts → each_tree ts ≡ Own ts ∷ []
each_one ts one = ap each_tree one.2 ∙ sym (ap (λ t. Own t ∷ []) one.2)

pub each_beside : (ts us : PlainTrees) → each_tree (beside ts us) ≡ each_tree ts ++ each_tree us
each_beside End us = refl
each_beside (Node m l ks ts) us = ap (λ lots. Own (Node m l ks End) ∷ lots) (each_beside ts us)
