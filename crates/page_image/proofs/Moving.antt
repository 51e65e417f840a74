-- Several nodes are put under one, at the image.
use Rattle.std.proofs.Common.{◌≡◌, ◌≢◌, ℕ, zero, suc, ◌<◌, List, [], ◌∷◌, Bool, true, false, refl, sym, ap, ◌∙◌, map, ◌||◌, arith, Option, Some, None}
use Rattle.std.specs.Prelude.{slice_index}
use Rattle.std.specs.List.{fold}
use Rattle.code_units.specs.declared.owner.Owner.TheVariants as owner
use Rattle.tree_ops.specs.Labels.{is_leaf}
use Rattle.page_nodes.specs.Entries.{Entry, at, IsSound}
use Rattle.page_nodes.specs.Moves.{KeepsNodes, IsPut, MayMove, Detached, Puts, none_put, put_last}
use Rattle.page_nodes.specs.Owners.{is_owner, same_owner, root_in}
use Rattle.page_tree.specs.Pages.{IsInside, IsLow}
use Rattle.page_tree.specs.Roots.{IsRooted}
use Rattle.page_tree.proofs.RootsKept.{rooted_put}
use Rattle.page_nodes.proofs.Put.{kept_then}
use Rattle.page_nodes.proofs.Owners.{same_is}
use Rattle.query_grammar.specs.Finds.{has_number}
use Rattle.query_grammar.specs.Renumbering.{renumbered}
use Rattle.query_grammar.proofs.Numbers.{has_both, has_first}
use Rattle.widget_meaning.specs.Trees.{moved, detached}
use Rattle.page_image.specs.Own.{is_own, own_number, own_forest}
use Rattle.page_image.specs.Held.{OptionIn}
use Rattle.page_image.proofs.Numbers.{number_kept}
use Rattle.page_image.proofs.Steps.{forest_put, forest_detached}
use Rattle.page_image.proofs.Owners.{fold_last, map_last, numbers_same}

some_is : (a b : ℕ) → ◌≡◌ {A = Option ℕ} (Some a) (Some b) → a ≡ b
some_is a b h = cc

one_put : (k m : List Entry) (roots : List (Option ℕ)) (t : ℕ) (s : Option ℕ) (n : ℕ) → IsSound k → IsRooted k roots → is_leaf (at k t).label ≡ false → MayMove k t n → IsPut k m t s n → (root_in roots (at k n).owner ≡ Some n → ⊥) → IsRooted m roots
one_put k m roots t s n sound r leaf may c free = rooted_put k m roots t s (n ∷ []) sound r (record { open_target = leaf; inside = inside; low = low }) (record { trees = c.trees; parents = c.parents; kept = c.kept })
  where
    inside : (i : ℕ) → i < 1 → IsInside k (root_in roots) t (slice_index (n ∷ []) i)
    inside zero lt = record { apart = may.apart; owner = may.owner; no_root = free }
    inside (suc i) lt = absurd (omega (arith, lt))

    low : (i : ℕ) → i < 1 → IsLow k t (slice_index (n ∷ []) i)
    low zero lt = may.low
    low (suc i) lt = absurd (omega (arith, lt))

pub puts_keep : (k : List Entry) (t : ℕ) (s : Option ℕ) (m : List Entry) (ns : List ℕ) → Puts k t s ns m → KeepsNodes k m
puts_keep k t s m _ none_put = record { made = refl; labels = λ x. refl; owners = λ x. refl }
puts_keep k t s m _ (put_last {m = mid} h sound may c) = kept_then k mid m (puts_keep k t s mid _ h) c.kept

module _ (k : List Entry) (roots : List (Option ℕ)) (rooted : IsRooted k roots) (w r : ℕ) (is : is_owner (owner.Widget w) ≡ true) (root : root_in roots (owner.Widget w) ≡ Some r) (t : ℕ) (next : Option ℕ) (target : is_own k w t ≡ true) (open_target : is_leaf (at k t).label ≡ false) (before : OptionIn (is_own k w) next) where
  pub record Moved (ns : List ℕ) (m : List Entry) : Type 0 where
    pub still : IsRooted m roots
    pub trees : own_forest m (Some r) w ≡ fold (moved (own_number k w t) (renumbered (own_number k w) next)) (own_forest k (Some r) w) (map (own_number k w) ns)

  own_option : (m : List Entry) → ((x : ℕ) → is_own k w x ≡ true → is_own m w x ≡ true) → (u : Option ℕ) → OptionIn (is_own k w) u → OptionIn (is_own m w) u
  own_option m h None q = tt
  own_option m h (Some x) q = h x q

  pub forest_moved : (m : List Entry) (ns : List ℕ) → Puts k t next ns m → ((n : ℕ) → has_number ns n ≡ true → (is_own k w n ≡ true) × (n ≢ r)) → Moved ns m
  forest_moved m _ none_put own = record { still = rooted; trees = refl }
  forest_moved m _ (put_last {ns = ns} {m = mid} {n = n} h sound may c) own =
      let q = puts_keep k t next mid ns h in
      let mine = own n (has_both n ns (n ∷ []) ∙ last (has_number ns n) (has_first n [])) in
      let later : (x : ℕ) → is_own k w x ≡ true → is_own mid w x ≡ true = λ x e. ap (λ o. same_owner o (owner.Widget w)) (q.owners x) ∙ e in
      let there : is_own mid w n ≡ true = later n (mine.0) in
      let past = forest_moved mid ns h (λ x e. own x (has_both x ns (n ∷ []) ∙ first (has_number ns x) (has_number (n ∷ []) x) e)) in
      record {
        still = one_put mid m roots t next n sound past.still (ap is_leaf (q.labels t) ∙ open_target) may c (λ e. mine.1 (some_is n r (sym e ∙ ap (root_in roots) (same_is (at mid n).owner (owner.Widget w) there) ∙ root)));
        trees =
            forest_put mid sound roots past.still w r is root m t next n c (later t target) (own_option mid later next before) there (mine.1)
            ∙ ap (λ (f : ℕ → ℕ). moved (f t) (renumbered f next) (own_forest mid (Some r) w) (f n)) (numbers_same k mid w q.made q.owners)
            ∙ ap (λ ts. moved (own_number k w t) (renumbered (own_number k w) next) ts (own_number k w n)) past.trees
            ∙ sym (fold_last (moved (own_number k w t) (renumbered (own_number k w) next)) (own_forest k (Some r) w) (map (own_number k w) ns) (own_number k w n))
            ∙ ap (fold (moved (own_number k w t) (renumbered (own_number k w) next)) (own_forest k (Some r) w)) (sym (map_last (own_number k w) ns n));
      }
    where
      last : (a : Bool) {b : Bool} → b ≡ true → (a || b) ≡ true
      last true e = refl
      last false e = e

      first : (a b : Bool) → a ≡ true → (a || b) ≡ true
      first true b e = refl
      first false b e = cc

-- nodes come in the place of another
pub forest_replaced : (k : List Entry) (roots : List (Option ℕ)) (rooted : IsRooted k roots) (w r : ℕ) (is : is_owner (owner.Widget w) ≡ true) (root : root_in roots (owner.Widget w) ≡ Some r) (t n : ℕ) (target : is_own k w t ≡ true) (open_target : is_leaf (at k t).label ≡ false) (mine : is_own k w n ≡ true) → n ≢ r → (m new : List Entry) (ns : List ℕ) → Puts k t (Some n) ns m → IsSound m → Detached m new n → ((x : ℕ) → has_number ns x ≡ true → (is_own k w x ≡ true) × (x ≢ r)) →
    own_forest new (Some r) w ≡ detached (fold (moved (own_number k w t) (Some (own_number k w n))) (own_forest k (Some r) w) (map (own_number k w) ns)) (own_number k w n)
forest_replaced k roots rooted w r is root t n target open_target mine ne m new ns h sound c own =
    let q = puts_keep k t (Some n) m ns h in
    let past = forest_moved k roots rooted w r is root t (Some n) target open_target mine m ns h own in
    forest_detached m sound roots past.still w r is root new n c (ap (λ o. same_owner o (owner.Widget w)) (q.owners n) ∙ mine) ne
    ∙ ap (detached (own_forest m (Some r) w)) (number_kept k m w q.made q.owners n)
    ∙ ap (λ ts. detached ts (own_number k w n)) past.trees
