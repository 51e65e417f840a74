-- A spare tree comes in the place of a node under `body`.
use Rattle.std.proofs.Common.{◌≡◌, ◌≢◌, ℕ, ◌<◌, List, [], ◌∷◌, Bool, true, false, refl, sym, ap, ◌∙◌, cond, eqb, eqb-true, eq-eqb, ne_eqb, not, ◌&&◌, ◌||◌, arith, Option, Some, None, ⊎_elim}
use Rattle.std.specs.Prelude.{is_some}
use Rattle.std.proofs.lemmas.Bool.{and_parts, cases_Bool, or_cases}
use Rattle.code_units.specs.declared.owner.Owner.TheVariants as owner
use Rattle.plain_tree.specs.Trees.{End, Label, Node, Trees}
use Rattle.tree_ops.specs.Trees.{grafted, has, is_number, put_before, tops, without}
use Rattle.tree_ops.proofs.Absent.{grafted_off}
use Rattle.tree_ops.proofs.Tests.{cases, or_none}
use Rattle.page_nodes.specs.Entries.{at, body, distinct, limit, listed, read, tree}
use Rattle.page_nodes.specs.Moves.{IsSwapped}
use Rattle.page_nodes.specs.Owners.{same_owner}
use Rattle.page_nodes.specs.Trees.{pruned}
use Rattle.page_nodes.proofs.Owners.{same_is}
use Rattle.page_nodes.proofs.Put.{pruned_off}
use Rattle.page_nodes.proofs.Shows.{shows_tree}
use Rattle.page_nodes.proofs.Upward.{has_parent}
use Rattle.page_nodes.proofs.Walk.{without_body}
use Rattle.page_tree.specs.declared.page.Page.{Page}
use Rattle.page_tree.specs.Pages.{BecomesRoot, MayBeRoot, SameRoots, nodes, root}
use Rattle.page_image.specs.Image.{forest, owns, root_of}
use Rattle.page_image.specs.Own.{own_forest}
use Rattle.page_image.specs.Stays.{KeepsNodes}
use Rattle.page_image.proofs.Pages.{is_widget, keeps}
use Rattle.page_image.proofs.Shown.{own_not_body}
use Rattle.page_image.proofs.Staying.{forest_stays}
use Rattle.page_image.proofs.Steps.{pruned_self}
use Rattle.page_build.specs.Standing.{Exchanges, IsHostOrRoot, IsSpare, IsStanding, exchanged}
use Rattle.page_build.proofs.Children.{children_are, kids, tops_grafted}
use Rattle.page_build.proofs.Stands.{host_or_root_stays, none_some}

no_true : false ≡ true → ⊥
no_true e = cc

some_is : (a b : ℕ) → ◌≡◌ {A = Option ℕ} (Some a) (Some b) → a ≡ b
some_is a b h = cc

-- ## Children

tops_without : (n : ℕ) (ts : Trees ℕ) → listed n (tops ts) ≡ false → tops (without n ts) ≡ tops ts
tops_without n End h = refl
tops_without n (Node m l ks ts) h =
    let p = or_none (eqb m n) (listed n (tops ts)) h in
    ap (λ b. tops (cond b (without n ts) (Node m l (without n ks) (without n ts)))) p.0 ∙ ap (λ l. m ∷ l) (tops_without n ts p.1)

pub exchanged_off : (n m : ℕ) (xs : List ℕ) → listed n xs ≡ false → exchanged n m xs ≡ xs
exchanged_off n m [] h = refl
exchanged_off n m (x ∷ xs) h =
    let p = or_none (eqb x n) (listed n xs) h in
    ap (λ b. cond b m x ∷ exchanged n m xs) p.0 ∙ ap (λ l. x ∷ l) (exchanged_off n m xs p.1)

pub not_true : (b : Bool) → not b ≡ true → b ≡ false
not_true true h = absurd (no_true h)
not_true false h = refl

-- one is put before another, which is taken away
tops_swapped : (n m : ℕ) (lm : Label) (km : Trees ℕ) → m ≢ n → (ts : Trees ℕ) → listed n (tops ts) ≡ true → distinct (tops ts) ≡ true → tops (without n (put_before (Some n) (Node m lm km End) ts)) ≡ exchanged n m (tops ts)
tops_swapped n m lm km ne End h d = absurd (no_true h)
tops_swapped n m lm km ne (Node x l ks ts) h0 d =
    let p = and_parts (not (listed x (tops ts))) (distinct (tops ts)) d in
    cases (λ b. (b || listed n (tops ts)) ≡ true → tops (without n (cond b (Node m lm km (Node x l ks ts)) (Node x l ks (put_before (Some n) (Node m lm km End) ts)))) ≡ cond b m x ∷ exchanged n m (tops ts)) (eqb x n)
    (λ e h.
    let off : listed n (tops ts) ≡ false = ap (λ y. listed y (tops ts)) (sym (eqb-true x n e)) ∙ not_true (listed x (tops ts)) p.0 in
    ap (λ b. tops (cond b (without n (Node x l ks ts)) (Node m lm (without n km) (without n (Node x l ks ts))))) (ne_eqb m n ne)
    ∙ ap (λ b. m ∷ tops (cond b (without n ts) (Node x l (without n ks) (without n ts)))) e
    ∙ ap (λ l. m ∷ l) (tops_without n ts off ∙ sym (exchanged_off n m (tops ts) off)))
    (λ e h.
    ap (λ b. tops (cond b (without n (put_before (Some n) (Node m lm km End) ts)) (Node x l (without n ks) (without n (put_before (Some n) (Node m lm km End) ts))))) e
    ∙ ap (λ l. x ∷ l) (tops_swapped n m lm km ne ts h p.1))
    h0

-- ## The page

module _ (p q : Page) (n m : ℕ) (st : IsStanding p n) (sp : IsSpare p m) where
  pub may_be : MayBeRoot p m
  may_be r f e = some_is r m (sym e ∙ sp.only f)

  -- the two are not one
  two : m ≢ n
  two e = none_some body (sym sp.top ∙ ap (λ x. (at (nodes p) x).parent) e ∙ st.under)

  not_body : n ≢ body
  not_body e = none_some body (sym p.arena.sound.top ∙ ap (λ x. (at (nodes p) x).parent) (sym e) ∙ st.under)

  is_top : IsHostOrRoot p n
  is_top f = p.rooted.under n st.under f

  module _ (c : IsSwapped (nodes p) (nodes q) n m) (b : BecomesRoot p q m) where
    -- the node stands in no other tree than its own and that of `body`
    not_there : (x : ℕ) → x ≢ body → x ≢ n → has n (tree (nodes p) x) ≡ false
    not_there x nb ne = ⊎_elim
        (λ e. ⊎_elim
        (λ l. absurd (⊎_elim (λ g. ne (eqb-true x n g)) no_true (or_cases (eqb x n) false l)))
        (λ u. absurd (no_true (sym (without_body (nodes p) p.arena.sound x nb) ∙ ap (λ y. has y (tree (nodes p) x)) (some_is body (u.0) (sym st.under ∙ u.1)) ∙ u.2)))
        (has_parent (nodes p) p.arena.sound n (x ∷ []) (tree (nodes p) x) (shows_tree (nodes p) p.arena.sound x) e))
        (λ e. e)
        (cases_Bool (has n (tree (nodes p) x)))

    cut_same : (x : ℕ) → x ≢ body → pruned n (tree (nodes p) x) ≡ tree (nodes p) x
    cut_same x nb = ⊎_elim
        (λ e. let same : x ≡ n = eqb-true x n e in ap (λ y. pruned n (tree (nodes p) y)) same ∙ pruned_self (nodes p) p.arena.sound n ∙ ap (tree (nodes p)) (sym same))
        (λ e. pruned_off n (tree (nodes p) x) (not_there x nb (λ g. no_true (sym e ∙ eq-eqb x n g))))
        (cases_Bool (eqb x n))

    trees_same : (x : ℕ) → x ≢ body → tree (nodes q) x ≡ tree (nodes p) x
    trees_same x nb = c.trees x ∙ ap (pruned n) (grafted_off body (Some n) (tree (nodes p) m) (tree (nodes p) x) (without_body (nodes p) p.arena.sound x nb)) ∙ cut_same x nb

    children_now : (at (nodes q) body).children ≡ exchanged n m (at (nodes p) body).children
    children_now =
        let us = tree (nodes p) m in
        let ks = read (nodes p) limit (at (nodes p) body).children in
        let same : tops (grafted body (Some n) us ks) ≡ (at (nodes p) body).children = tops_grafted body (Some n) us ks ∙ children_are (nodes p) p.arena.sound body in
        sym (children_are (nodes q) q.arena.sound body)
        ∙ ap kids (c.trees body)
        ∙ tops_swapped n m _ _ two (grafted body (Some n) us ks) (ap (listed n) same ∙ p.arena.sound.upward n body st.under) (ap distinct same ∙ p.arena.sound.once body)
        ∙ ap (exchanged n m) same

    pub exchanges : Exchanges p q n m
    exchanges = record {
      made = c.kept.made;
      owners = c.kept.owners;
      label = c.kept.labels body;
      children = children_now;
      parents = c.parents;
      trees = trees_same;
    }

    -- ## Widgets

    pub same_roots : SameRoots p q
    same_roots o is = b o is ∙ by (same_owner o (at (nodes p) m).owner) (same_owner (at (nodes p) m).owner owner.Host) refl refl
      where
        by : (a h : Bool) → same_owner o (at (nodes p) m).owner ≡ a → same_owner (at (nodes p) m).owner owner.Host ≡ h → cond (a && not h) (Some m) (root p o) ≡ root p o
        by true true e f = refl
        by true false e f = sym (ap (root p) (same_is o (at (nodes p) m).owner e) ∙ sp.only f)
        by false h e f = refl

    roots_kept : (v x : ℕ) → v < 32 → root_of p v ≡ Some x → root_of q v ≡ Some x
    unfolding root_of
    roots_kept v x lt e = same_roots (owner.Widget v) (is_widget v lt) ∙ e

    pub keeps_nodes : KeepsNodes p q
    keeps_nodes = keeps p q same_roots c.kept.made c.kept.owners

    -- it is its owner's root
    not_loose : (v x : ℕ) → owns p v x ≡ true → IsHostOrRoot p x → is_number x (root_of p v) ≡ false → ⊥
    unfolding owns root_of
    not_loose v x h top off =
        let mine = same_is (at (nodes p) x).owner (owner.Widget v) h in
        no_true (sym off ∙ ap (is_number x) (sym (ap (root p) mine) ∙ top (ap (λ o. same_owner o owner.Host) mine)) ∙ eq-eqb x x refl)

    pub trees_kept : (v : ℕ) → v < 32 → forest q v ≡ forest p v
    unfolding owns root_of forest
    trees_kept v lt =
        ap (λ u. own_forest (nodes q) u v) (same_roots (owner.Widget v) (is_widget v lt))
        ∙ forest_stays (nodes p) p.arena.sound p.roots p.rooted v (root p (owner.Widget v)) (is_widget v lt) refl (nodes q) c.kept.made c.kept.owners
        (λ x e off. ap is_some (c.parents x
        ∙ ap (λ t. cond t None (cond (eqb x m) (Some body) (at (nodes p) x).parent)) (ne_eqb x n (λ g. not_loose v x e (λ f. ap (λ y. root p (at (nodes p) y).owner) g ∙ is_top (ap (λ y. same_owner (at (nodes p) y).owner owner.Host) (sym g) ∙ f) ∙ ap Some (sym g)) off))
        ∙ ap (λ t. cond t (Some body) (at (nodes p) x).parent) (ne_eqb x m (λ g. not_loose v x e (λ f. ap (λ y. root p (at (nodes p) y).owner) g ∙ sp.only (ap (λ y. same_owner (at (nodes p) y).owner owner.Host) (sym g) ∙ f) ∙ ap Some (sym g)) off))))
        (λ x e. trees_same x (own_not_body (nodes p) p.arena.sound v x e))

    -- ## Nodes

    pub new_stands : IsStanding q m
    new_stands = record {
      is_in = omega (arith, sp.is_in, c.kept.made);
      under = c.parents m
          ∙ ap (λ t. cond t None (cond (eqb m m) (Some body) (at (nodes p) m).parent)) (ne_eqb m n two)
          ∙ ap (λ t. cond t (Some body) (at (nodes p) m).parent) (eq-eqb m m refl);
    }

    pub old_spare : IsSpare q n
    old_spare = record {
      is_in = omega (arith, st.is_in, c.kept.made);
      below = not_body;
      top = c.parents n ∙ ap (λ t. cond t None (cond (eqb n m) (Some body) (at (nodes p) n).parent)) (eq-eqb n n refl);
      only = host_or_root_stays p q roots_kept n (c.kept.owners n) is_top;
    }

    pub others_stand : (x : ℕ) → x ≢ n → IsStanding p x → IsStanding q x
    others_stand x ne h = record {
      is_in = omega (arith, h.is_in, c.kept.made);
      under = c.parents x ∙ ap (λ t. cond t None (cond (eqb x m) (Some body) (at (nodes p) x).parent)) (ne_eqb x n ne) ∙ either (eqb x m);
    }
      where
        either : (t : Bool) → cond t (Some body) (at (nodes p) x).parent ≡ Some body
        either true = refl
        either false = h.under

    pub others_spare : (x : ℕ) → x ≢ m → IsSpare p x → IsSpare q x
    others_spare x ne h = record {
      is_in = omega (arith, h.is_in, c.kept.made);
      below = h.below;
      top = c.parents x
          ∙ ap (λ t. cond t None (cond (eqb x m) (Some body) (at (nodes p) x).parent)) (ne_eqb x n (λ g. none_some body (sym h.top ∙ ap (λ y. (at (nodes p) y).parent) g ∙ st.under)))
          ∙ ap (λ t. cond t (Some body) (at (nodes p) x).parent) (ne_eqb x m ne)
          ∙ h.top;
      only = host_or_root_stays p q roots_kept x (c.kept.owners x) h.only;
    }
