-- A tree of the host is added and put under `body`: what widgets have of the page stays.
use Rattle.std.proofs.Common.{◌≡◌, ◌≢◌, ℕ, zero, suc, subst, ◌+◌, ◌<◌, ◌≤◌, List, [], ◌∷◌, ◌++◌, Bool, true, false, refl, sym, ap, ◌∙◌, length, cond, eqb, eq-eqb, ne_eqb, ◌&&◌, not, Option, None, Some, arith}
use Rattle.std.specs.Prelude.{is_some, nat_lt, option_to_list}
use Rattle.std.specs.List.{filter, range_with_len}
use Rattle.std.proofs.lemmas.List.{append-nil, get_or_past}
use Rattle.std.proofs.lemmas.Bool.Decides.{nat_tests}
use Rattle.code_units.specs.declared.owner.Owner.TheVariants as owner
use Rattle.plain_tree.specs.Trees.{PlainTrees, beside, marked, size, unmarked}
use Rattle.tree_ops.specs.Trees.{is_number}
use Rattle.tree_ops.proofs.Absent.{grafted_off}
use Rattle.tree_ops.proofs.Numbers.{numbered_shape}
use Rattle.tree_ops.proofs.Tests.{or_left, or_right}
use Rattle.page_nodes.specs.Adds.{IsAdded}
use Rattle.page_nodes.specs.Entries.{Entry, IsSound, at, body, listed, no_entry, tree}
use Rattle.page_nodes.specs.Moves.{IsLinked}
use Rattle.page_nodes.specs.Owners.{is_owner, root_in, same_owner}
use Rattle.page_nodes.proofs.Walk.{without_body}
use Rattle.page_tree.specs.declared.page.Page.{Page}
use Rattle.page_tree.specs.Documents as docs
use Rattle.page_tree.specs.Documents.{is_loose}
use Rattle.page_tree.specs.Pages.{BecomesRoot, SameRoots, nodes, root, root_after}
use Rattle.page_tree.specs.Roots.{IsRooted}
use Rattle.page_image.specs.Image.{forest, number, own, owns, root_of}
use Rattle.page_image.specs.Own.{is_own, own_forest, own_nodes_from, own_number, page_forest, trees_of}
use Rattle.page_image.proofs.Added.{filter_both, marked_in, range_none, range_same, range_split}
use Rattle.page_image.proofs.Looks.{root_owned}
use Rattle.page_image.proofs.Numbers.{number_kept, number_older}
use Rattle.page_image.proofs.Owners.{own_nodes_same}
use Rattle.page_image.proofs.Pages.{is_widget}
use Rattle.page_image.proofs.Shown.{forest_own, own_is_node, own_not_body, top_own}
use Rattle.page_image.proofs.Staying.{forest_stays}
use Rattle.page_build.specs.Homes.{IsAway, IsHome, IsOneTree}
use Rattle.page_build.specs.Layout.{IsLaidOut, IsLot, IsMarkup, Lot, Own, Spot, each_tree}
use Rattle.page_build.specs.Standing.{HostJoins, IsStanding}
use Rattle.page_build.proofs.Laid.{each_one, it_stands, laid_behind, lots_stay, same_plain, standing_stay, trees_linked}

no_true : false ≡ true → ⊥
no_true e = cc

-- ## What stays

-- what a widget has of the page stays
record Stays (p q : Page) (v : ℕ) : Type 0 where
  root : root_of q v ≡ root_of p v
  mine : own q v ≡ own p v
  trees : forest q v ≡ forest p v
  numbers : (n : ℕ) → owns p v n ≡ true → number q v n ≡ number p v n

away_stays : (p q : Page) (v : ℕ) → Stays p q v → IsAway p v → IsAway q v
away_stays p q v s h = record { free = s.root ∙ h.free; nodes = s.mine ∙ h.nodes; trees = s.trees ∙ h.trees }

home_stays : (p q : Page) (v : ℕ) → v < 32 → Stays p q v → (t : PlainTrees) → IsHome p v t → IsHome q v t
home_stays p q v lt s t h = record {
  home = record { root = h.home.root; is = s.root ∙ h.home.is; first = s.numbers h.home.root (root_owned p v h.home (is_widget v lt)) ∙ h.home.first };
  trees = s.trees ∙ h.trees;
  nodes = ap length s.mine ∙ h.nodes;
}

-- ## Nodes of the host come

own_none : (m : List Entry) (v a : ℕ) → ((x : ℕ) → x < length m → is_own m v x ≡ false) → own_nodes_from a m v ≡ []
own_none [] v a h = refl
own_none (e ∷ m) v a h = ap (λ b. cond b (a ∷ own_nodes_from (a + 1) m v) (own_nodes_from (a + 1) m v)) (h 0 (omega arith)) ∙ own_none m v (a + 1) (λ x lt. h (suc x) (omega (arith, lt)))

own_kept : (k m : List Entry) (v a : ℕ) → length k ≤ length m → ((x : ℕ) → x < length k → (at m x).owner ≡ (at k x).owner) → ((x : ℕ) → length k ≤ x → x < length m → is_own m v x ≡ false) → own_nodes_from a m v ≡ own_nodes_from a k v
own_kept [] m v a le same new = own_none m v a (λ x lt. new x (omega arith) lt)
own_kept (d ∷ k) [] v a le same new = absurd (omega (arith, le))
own_kept (d ∷ k) (c ∷ m) v a le same new =
    ap (λ o. cond (same_owner o (owner.Widget v)) (a ∷ own_nodes_from (a + 1) m v) (own_nodes_from (a + 1) m v)) (same 0 (omega arith))
    ∙ ap (λ l. cond (same_owner d.owner (owner.Widget v)) (a ∷ l) l) (own_kept k m v (a + 1) (omega (arith, le)) (λ x lt. same (suc x) (omega (arith, lt))) (λ x le lt. new (suc x) (omega (arith, le)) (omega (arith, lt))))

number_none : (m : List Entry) (v : ℕ) → ((x : ℕ) → x < length m → is_own m v x ≡ false) → (n : ℕ) → own_number m v n ≡ 0
number_none [] v h n = refl
number_none (e ∷ m) v h zero = refl
number_none (e ∷ m) v h (suc n) =
    let rest = number_none m v (λ x lt. h (suc x) (omega (arith, lt))) n in
    ap (λ b. cond b 1 0 + own_number m v n) (h 0 (omega arith)) ∙ (let none : 0 + own_number m v n ≡ 0 = omega (arith, rest) in none)

number_all_kept : (k m : List Entry) (v : ℕ) → length k ≤ length m → ((x : ℕ) → x < length k → (at m x).owner ≡ (at k x).owner) → ((x : ℕ) → length k ≤ x → x < length m → is_own m v x ≡ false) → (n : ℕ) → own_number m v n ≡ own_number k v n
number_all_kept [] m v le same new n = number_none m v (λ x lt. new x (omega arith) lt) n
number_all_kept (d ∷ k) [] v le same new n = absurd (omega (arith, le))
number_all_kept (d ∷ k) (c ∷ m) v le same new zero = refl
number_all_kept (d ∷ k) (c ∷ m) v le same new (suc n) =
    ap (λ o. cond (same_owner o (owner.Widget v)) 1 0 + own_number m v n) (same 0 (omega arith))
    ∙ ap (λ i. cond (same_owner d.owner (owner.Widget v)) 1 0 + i) (number_all_kept k m v (omega (arith, le)) (λ x lt. same (suc x) (omega (arith, lt))) (λ x le lt. new (suc x) (omega (arith, le)) (omega (arith, lt))) n)

module _ (k : List Entry) (s : IsSound k) (roots : List (Option ℕ)) (rooted : IsRooted k roots) (v : ℕ) (r : Option ℕ) (is : is_owner (owner.Widget v) ≡ true) (root : root_in roots (owner.Widget v) ≡ r) (m : List Entry) (id : ℕ) (p : PlainTrees) (c : IsAdded k m id owner.Host p) where
  new_other : (x : ℕ) → length k ≤ x → x < length m → is_own m v x ≡ false
  new_other x le lt = ap (λ o. same_owner o (owner.Widget v)) (c.own x le lt)

  loose_old : (x : ℕ) → 0 ≤ x → x < 0 + length k → is_loose m r (owner.Widget v) x ≡ is_loose k r (owner.Widget v) x
  loose_old x le lt = ap (λ (e : Entry). same_owner e.owner (owner.Widget v) && not (is_some e.parent) && not (is_number x r)) (c.older.same x (omega (arith, lt)))

  loose_new : (x : ℕ) → 0 + length k ≤ x → x < 0 + length k + size p → is_loose m r (owner.Widget v) x ≡ false
  loose_new x le lt = ap (λ b. b && not (is_some (at m x).parent) && not (is_number x r)) (new_other x (omega (arith, le)) (omega (arith, lt, c.made)))

  old_trees : (ns : List ℕ) → ((x : ℕ) → listed x ns ≡ true → is_own k v x ≡ true) → trees_of m ns ≡ trees_of k ns
  old_trees [] h = refl
  old_trees (x ∷ ns) h = ap (λ t. beside t (trees_of m ns)) (c.older.trees x (own_is_node k v x (h x (or_left (eqb x x) (listed x ns) (eq-eqb x x refl))))) ∙ ap (beside (tree k x)) (old_trees ns (λ y l. h y (or_right (eqb x y) (listed y ns) l)))

  host_elsewhere : own_forest m r v ≡ own_forest k r v
  host_elsewhere =
      ap (λ ns. marked (own_number m v) (trees_of m (option_to_list r ++ ns)))
      (ap (λ n. filter (is_loose m r (owner.Widget v)) (range_with_len 0 n)) c.made
      ∙ ap (filter (is_loose m r (owner.Widget v))) (range_split (length k) (size p) 0)
      ∙ filter_both (is_loose m r (owner.Widget v)) (range_with_len 0 (length k)) (range_with_len (0 + length k) (size p))
      ∙ ap (λ l. l ++ filter (is_loose m r (owner.Widget v)) (range_with_len (0 + length k) (size p))) (range_same (is_loose k r (owner.Widget v)) (is_loose m r (owner.Widget v)) (length k) 0 loose_old)
      ∙ ap (λ l. filter (is_loose k r (owner.Widget v)) (range_with_len 0 (length k)) ++ l) (range_none (is_loose m r (owner.Widget v)) (size p) (0 + length k) loose_new)
      ∙ append-nil (filter (is_loose k r (owner.Widget v)) (range_with_len 0 (length k))))
      ∙ ap (marked (own_number m v)) (old_trees (docs.tops k r (owner.Widget v)) (top_own k s roots rooted v r is root))
      ∙ marked_in (own_number m v) (own_number k v) (is_own k v) (λ n h. number_older k m v c.older.long c.older.same n (omega (arith, own_is_node k v n h))) (page_forest k r v) (forest_own k s roots rooted v r is root)

module _ (p q : Page) (id : ℕ) (t : PlainTrees) (same : SameRoots p q) (c : IsAdded (nodes p) (nodes q) id owner.Host t) where
  added_stays : (v : ℕ) → v < 32 → Stays p q v
  unfolding root_of own forest owns number
  added_stays v lt = record {
    root = same (owner.Widget v) (is_widget v lt);
    mine = own_kept (nodes p) (nodes q) v 0 c.older.long (λ x l. ap (λ (e : Entry). e.owner) (c.older.same x l)) (λ x le l. ap (λ o. same_owner o (owner.Widget v)) (c.own x le l));
    trees = ap (λ u. own_forest (nodes q) u v) (same (owner.Widget v) (is_widget v lt)) ∙ host_elsewhere (nodes p) p.arena.sound p.roots p.rooted v (root p (owner.Widget v)) (is_widget v lt) refl (nodes q) id t c;
    numbers = λ n h. number_older (nodes p) (nodes q) v c.older.long c.older.same n (omega (arith, own_is_node (nodes p) v n h));
  }

  -- and so does all that widgets have
  at_past : (k : List Entry) (v x : ℕ) → length k ≤ x → is_own k v x ≡ false
  at_past k v x le = ap (λ (e : Entry). same_owner e.owner (owner.Widget v)) (get_or_past k x no_entry le)

  own_same : (v x : ℕ) → is_own (nodes q) v x ≡ is_own (nodes p) v x
  own_same v x = by (nat_lt x (length (nodes p))) (nat_lt x (length (nodes q))) refl refl
    where
      by : (a b : Bool) → nat_lt x (length (nodes p)) ≡ a → nat_lt x (length (nodes q)) ≡ b → is_own (nodes q) v x ≡ is_own (nodes p) v x
      by true b e f = let low : x < length (nodes p) = grind (arith, nat_tests, e) in ap (λ (e : Entry). same_owner e.owner (owner.Widget v)) (c.older.same x low)
      by false true e f =
          let high : length (nodes p) ≤ x = grind (arith, nat_tests, e) in
          let low : x < length (nodes q) = grind (arith, nat_tests, f) in
          ap (λ o. same_owner o (owner.Widget v)) (c.own x high low) ∙ sym (at_past (nodes p) v x high)
      by false false e f =
          let high : length (nodes p) ≤ x = grind (arith, nat_tests, e) in
          let past : length (nodes q) ≤ x = grind (arith, nat_tests, f) in
          at_past (nodes q) v x past ∙ sym (at_past (nodes p) v x high)

  pub host_joins : HostJoins p q
  unfolding root_of own forest owns number
  host_joins = record {
    older = c.older;
    kept = record {
      owners = own_same;
      numbers = λ v n. number_all_kept (nodes p) (nodes q) v c.older.long (λ x lt. ap (λ (e : Entry). e.owner) (c.older.same x lt)) (λ x le lt. ap (λ o. same_owner o (owner.Widget v)) (c.own x le lt)) n;
      nodes = λ v. own_kept (nodes p) (nodes q) v 0 c.older.long (λ x l. ap (λ (e : Entry). e.owner) (c.older.same x l)) (λ x le l. ap (λ o. same_owner o (owner.Widget v)) (c.own x le l));
      roots = λ v lt. same (owner.Widget v) (is_widget v lt);
    };
    trees = λ v lt. (added_stays v lt).trees;
  }

-- ## The tree comes under `body`

module _ (p q : Page) (id : ℕ) (mine : (at (nodes p) id).owner ≡ owner.Host) (c : IsLinked (nodes p) (nodes q) body None id) (becomes : BecomesRoot p q id) where
  root_stays : (v : ℕ) → v < 32 → root q (owner.Widget v) ≡ root p (owner.Widget v)
  root_stays v lt = becomes (owner.Widget v) (is_widget v lt) ∙ ap (λ o. root_after id o (root p) (owner.Widget v)) mine

  away : (v x : ℕ) → is_own (nodes p) v x ≡ true → x ≢ id
  away v x h e = no_true (sym (ap (λ o. same_owner o (owner.Widget v)) mine) ∙ ap (λ n. is_own (nodes p) v n) (sym e) ∙ h)

  linked_stays : (v : ℕ) → v < 32 → Stays p q v
  unfolding root_of own forest owns number
  linked_stays v lt = record {
    root = root_stays v lt;
    mine = own_nodes_same (nodes p) (nodes q) v 0 c.kept.made c.kept.owners;
    trees =
        ap (λ u. own_forest (nodes q) u v) (root_stays v lt)
        ∙ forest_stays (nodes p) p.arena.sound p.roots p.rooted v (root p (owner.Widget v)) (is_widget v lt) refl (nodes q) c.kept.made c.kept.owners
        (λ x e off. ap is_some (c.parents x ∙ ap (λ t. cond t (Some body) (at (nodes p) x).parent) (ne_eqb x id (away v x e))))
        (λ x e. c.trees x ∙ grafted_off body None (tree (nodes p) id) (tree (nodes p) x) (without_body (nodes p) p.arena.sound x (own_not_body (nodes p) p.arena.sound v x e)));
    numbers = λ n h. number_kept (nodes p) (nodes q) v c.kept.made c.kept.owners n;
  }

-- ## Both

module _ (p r q : Page) (id : ℕ) (t : PlainTrees) (same : SameRoots p r) (c : IsAdded (nodes p) (nodes r) id owner.Host t) (d : IsLinked (nodes r) (nodes q) body None id) (becomes : BecomesRoot r q id) where
  mine : (at (nodes r) id).owner ≡ owner.Host
  mine = c.own id (omega (arith, c.number)) c.is_in

  pub all_away : (v : ℕ) → v < 32 → IsAway p v → IsAway q v
  all_away v lt h = away_stays r q v (linked_stays r q id mine d becomes v lt) (away_stays p r v (added_stays p r id t same c v lt) h)

  pub all_home : (v : ℕ) (u : PlainTrees) → v < 32 → IsHome p v u → IsHome q v u
  all_home v u lt h = home_stays r q v lt (linked_stays r q id mine d becomes v lt) u (home_stays p r v lt (added_stays p r id t same c v lt) u h)

  -- it stands behind the children that `body` had
  pub here : IsMarkup q id t
  here =
      let below : id ≢ body = λ e. omega (arith, e, c.number, p.arena.sound.some) in
      record {
        is_in = omega (arith, c.is_in, d.kept.made);
        below = below;
        hosts = d.kept.owners id ∙ mine;
        shows = ap unmarked (trees_linked r q id d id below ∙ c.here) ∙ numbered_shape id t ∙ same_plain t;
      }

  first : (v n : ℕ) → v < 32 → root_of p v ≡ Some n → root_of r v ≡ Some n
  unfolding root_of
  first v n lt e = same (owner.Widget v) (is_widget v lt) ∙ e

  then : (v n : ℕ) → v < 32 → root_of r v ≡ Some n → root_of q v ≡ Some n
  unfolding root_of
  then v n lt e = root_stays r q id mine d becomes v lt ∙ e

  pub spot_behind : (lots : List Lot) → IsLaidOut p lots → IsLaidOut q (lots ++ Spot id ∷ [])
  spot_behind lots h = laid_behind p r q id owner.Host t c d first then (Spot id) refl lots h

  pub all_laid : IsOneTree t → (lots : List Lot) → IsLaidOut p lots → IsLaidOut q (lots ++ each_tree t)
  all_laid one lots h = subst (λ l. IsLaidOut q (lots ++ l)) (sym (each_one t one)) (laid_behind p r q id owner.Host t c d first then (Own t) here lots h)

  pub all_lots : (lot : Lot) (n : ℕ) → IsLot p lot n → IsLot q lot n
  all_lots lot n h = lots_stay p r q id owner.Host t c d first then lot n h

  pub all_standing : (n : ℕ) → IsStanding p n → IsStanding q n
  all_standing n h = standing_stay p r q id owner.Host t c d first then n h

  pub here_stands : IsStanding q id
  here_stands = it_stands p r q id owner.Host t c d first then
