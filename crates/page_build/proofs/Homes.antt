-- A widget gets its root.
use Rattle.std.proofs.Common.{◌≡◌, subst, ◌≢◌, ℕ, zero, suc, ◌+◌, ◌<◌, List, [], ◌∷◌, ◌++◌, true, false, cond, eqb, eq-eqb, refl, sym, ap, ◌∙◌, length, length-append, None, Some, arith}
use Rattle.std.specs.Prelude.{Err, IfOk, Ok, Result}
use Rattle.code_units.specs.declared.owner.Owner.TheVariants as owner
use Rattle.plain_tree.specs.Trees.{PlainTrees, beside, marked, size}
use Rattle.tree_ops.specs.Trees.{numbered, subtree, tops, without}
use Rattle.tree_ops.proofs.Tests.{cases, or_left}
use Rattle.query_grammar.specs.Finds.{has_number}
use Rattle.store_cells.specs.Cells.{Cells}
use Rattle.page_nodes.specs.Adds.{IsAdded}
use Rattle.page_nodes.specs.Entries.{Entry, body, body_entry, listed}
use Rattle.page_nodes.specs.Moves.{IsLinked}
use Rattle.page_nodes.specs.Owners.{same_owner}
use Rattle.page_tree.specs.declared.page.Page.{Page}
use Rattle.page_tree.specs.Documents as docs
use Rattle.page_tree.specs.Pages.{SameRoots, nodes, root}
use Rattle.page_image.specs.Image.{forest, number, own, owns, root_of}
use Rattle.page_image.specs.Own.{is_own, own_forest, own_nodes, own_nodes_from, own_number, trees_of}
use Rattle.page_image.specs.Stays.{GetsRoot, OthersStay}
use Rattle.page_image.proofs.Looks.{root_owned}
use Rattle.page_image.proofs.Pages.{is_widget}
use Rattle.page_image.proofs.Shown.{top_own}
use Rattle.native_image.specs.Grown.{IsGrown}
use Rattle.native_image.specs.Sound.{HasRaw}
use Rattle.native_image.proofs.Added.{grown_of}
use Rattle.page_build.specs.Homes.{HaveRaws, IsAway, IsHome, IsOneTree}
use Rattle.page_build.specs.Layout.{IsLaidOut, IsLot, Lot, Spot}
use Rattle.page_build.specs.Standing.{IsStanding}
use Rattle.page_build.proofs.Laid.{it_stands, laid_behind, lots_stay, standing_stay}
use Rattle.page_build.proofs.Stands.{none_some}

no_true : false ≡ true → ⊥
no_true e = cc

-- ## One tree becomes the root's

module _ (tree : PlainTrees) (one : IsOneTree tree) where
  top_there : has_number (tops (numbered 0 tree)) 0 ≡ true
  top_there = ap (λ t. has_number (tops (numbered 0 t)) 0) one.2

  alone : beside (subtree 0 (numbered 0 tree)) (without 0 (numbered 0 tree)) ≡ numbered 0 tree
  alone = ap (λ t. beside (subtree 0 (numbered 0 t)) (without 0 (numbered 0 t))) one.2 ∙ sym (ap (numbered 0) one.2)

  module _ (w : ℕ) (lt : w < 32) (p0 p1 : Page) (away : IsAway p0 w) (id : ℕ) (roots : SameRoots p0 p1) (added : IsAdded (nodes p0) (nodes p1) id (owner.Widget w) tree) where
    pub grown : IsGrown w p0 p1 id (size tree) (numbered (length (own p0 w)) tree)
    grown = grown_of p0 p1 roots w lt id tree added

    pub is_mine : owns p1 w id ≡ true
    is_mine = grown.mine

    none_before : length (own p0 w) ≡ 0
    none_before = ap length away.nodes

    pub number_first : number p1 w id ≡ 0
    number_first = grown.first ∙ none_before

    trees_first : forest p1 w ≡ numbered 0 tree
    trees_first = grown.trees ∙ (λ j. beside (away.trees j) (numbered (none_before j) tree))

    pub is_top : has_number (tops (forest p1 w)) (number p1 w id) ≡ true
    is_top = (λ j. has_number (tops (trees_first j)) (number_first j)) ∙ top_there

    pub is_free : root_of p1 w ≡ None
    is_free = grown.grows.2.roots w lt ∙ away.free

    module _ (p2 : Page) (becomes : GetsRoot p1 p2 w id) where
      pub home_is : forest p2 w ≡ beside (subtree (number p1 w id) (forest p1 w)) (without (number p1 w id) (forest p1 w)) → IsHome p2 w tree
      home_is image = record {
        home = record { root = id; is = becomes.root; first = becomes.numbers w id ∙ number_first };
        trees = image ∙ (λ j. beside (subtree (number_first j) (trees_first j)) (without (number_first j) (trees_first j))) ∙ alone;
        nodes = ap length (becomes.nodes w) ∙ ap length grown.grows.2.nodes ∙ length-append (own p0 w) grown.grows.0 ∙ (λ j. none_before j + grown.grows.1 j) ∙ (let e : 0 + size tree ≡ size tree = omega arith in e);
      }

      pub others_home : OthersStay p1 p2 w → (v : ℕ) (t : PlainTrees) → v < 32 → v ≢ w → IsHome p0 v t → IsHome p2 v t
      others_home others v t low ne h =
          let mine = root_owned p0 v h.home (is_widget v low) in
          record {
            home = record {
              root = h.home.root;
              is = becomes.others v low ne ∙ grown.grows.2.roots v low ∙ h.home.is;
              first = becomes.numbers v h.home.root ∙ grown.grows.2.numbers v h.home.root mine ∙ h.home.first;
            };
            trees = others v low ne ∙ grown.others v low ne ∙ h.trees;
            nodes = ap length (becomes.nodes v ∙ grown.grows.2.others v ne) ∙ h.nodes;
          }

      pub others_away : OthersStay p1 p2 w → (v : ℕ) → v < 32 → v ≢ w → IsAway p0 v → IsAway p2 v
      others_away others v low ne h = record {
        free = becomes.others v low ne ∙ grown.grows.2.roots v low ∙ h.free;
        nodes = becomes.nodes v ∙ grown.grows.2.others v ne ∙ h.nodes;
        trees = others v low ne ∙ grown.others v low ne ∙ h.trees;
      }

      first_roots : (v n : ℕ) → v < 32 → root_of p0 v ≡ Some n → root_of p1 v ≡ Some n
      first_roots v n low e = grown.grows.2.roots v low ∙ e

      then_roots : (v n : ℕ) → v < 32 → root_of p1 v ≡ Some n → root_of p2 v ≡ Some n
      then_roots v n low e = becomes.others v low (λ g. none_some n (sym is_free ∙ ap (root_of p1) (sym g) ∙ e)) ∙ e

      -- it stands behind the children that `body` had
      module _ (d : IsLinked (nodes p1) (nodes p2) body None id) where
        pub root_behind : (lots : List Lot) → IsLaidOut p0 lots → IsLaidOut p2 (lots ++ Spot id ∷ [])
        root_behind lots h = laid_behind p0 p1 p2 id (owner.Widget w) tree added d first_roots then_roots (Spot id) refl lots h

        pub root_lots : (lot : Lot) (n : ℕ) → IsLot p0 lot n → IsLot p2 lot n
        root_lots lot n h = lots_stay p0 p1 p2 id (owner.Widget w) tree added d first_roots then_roots lot n h

        pub root_standing : (n : ℕ) → IsStanding p0 n → IsStanding p2 n
        root_standing n h = standing_stay p0 p1 p2 id (owner.Widget w) tree added d first_roots then_roots n h

        pub root_stands : IsStanding p2 id
        root_stands = it_stands p0 p1 p2 id (owner.Widget w) tree added d first_roots then_roots

-- ## A new page

pub all_away : (p : Page) → nodes p ≡ body_entry ∷ [] → (w : ℕ) → root p (owner.Widget w) ≡ None → IsAway p w
unfolding root_of own forest
all_away p is w free = record {
  free = free;
  nodes = ap (λ k. own_nodes k w) is;
  trees = (λ j. own_forest (is j) (free j) w);
}

pub first_raws : (p : Page) → nodes p ≡ body_entry ∷ [] → (s : Cells) → HasRaw s.cells body → HaveRaws s p
first_raws p is s top = λ n lt. (let first : body ≡ n = omega (arith, lt, ap length is) in subst (HasRaw s.cells) first top)

-- ## A widget without nodes

none_own : (k : List Entry) (v a : ℕ) → own_nodes_from a k v ≡ [] → (n : ℕ) → is_own k v n ≡ false
none_own [] v a h n = refl
none_own (e ∷ k) v a h0 n =
    cases (λ b. same_owner e.owner (owner.Widget v) ≡ b → cond b (a ∷ own_nodes_from (a + 1) k v) (own_nodes_from (a + 1) k v) ≡ [] → is_own (e ∷ k) v n ≡ false) (same_owner e.owner (owner.Widget v))
    (λ t _ h. absurd (some_none h))
    (λ f _ h. by n f (none_own k v (a + 1) h))
    refl h0
  where
    some_none : {x : ℕ} {xs : List ℕ} → ◌≡◌ {A = List ℕ} (x ∷ xs) [] → ⊥
    some_none h = cc

    by : (n : ℕ) → same_owner e.owner (owner.Widget v) ≡ false → ((m : ℕ) → is_own k v m ≡ false) → is_own (e ∷ k) v n ≡ false
    by zero f rest = f
    by (suc m) f rest = rest m

no_tops : (k : List Entry) (v : ℕ) (ns : List ℕ) → ((n : ℕ) → is_own k v n ≡ false) → ((c : ℕ) → listed c ns ≡ true → is_own k v c ≡ true) → ns ≡ []
no_tops k v [] off on = refl
no_tops k v (n ∷ ns) off on = absurd (no_true (sym (off n) ∙ on n (or_left (eqb n n) (listed n ns) (eq-eqb n n refl))))

-- and without a root has no trees
pub away_by : (p : Page) (v : ℕ) → v < 32 → root_of p v ≡ None → own p v ≡ [] → IsAway p v
unfolding root_of own forest
away_by p v lt free none = record {
  free = free;
  nodes = none;
  trees = ap (λ u. own_forest (nodes p) u v) free
      ∙ ap (λ ns. marked (own_number (nodes p) v) (trees_of (nodes p) ns))
      (no_tops (nodes p) v (docs.tops (nodes p) None (owner.Widget v)) (none_own (nodes p) v 0 none) (top_own (nodes p) p.arena.sound p.roots p.rooted v None (is_widget v lt) free));
}

-- two clauses of an answer together
pub both_ok : {T E : Type 0} (r : Result T E) {P Q R : T → Type 0} → ((x : T) → P x → Q x → R x) → IfOk r P → IfOk r Q → IfOk r R
both_ok (Ok x) f p q = f x p q
both_ok (Err e) f p q = tt
