-- An Array is made, then its Bunches, and then it is filled.
use Rattle.std.proofs.Common.{◌≡◌, ℕ, ◌+◌, ◌<◌, List, [], ◌∷◌, Bool, Option, sym, subst, ap, ◌∙◌, length, length-append}
use Rattle.std.specs.List.{fold}
use Rattle.std.proofs.lemmas.List.{length-map}
use Rattle.std.proofs.lemmas.List.FromFn.{length-map-range_with_len}
use Rattle.js_tree.specs.Forest.{Forest}
use Rattle.store_cells.specs.declared.value.Value.{Value as StoreValue}
use Rattle.store_cells.specs.declared.value.Value.TheVariants as value
use Rattle.store_cells.specs.Cells.{Cells, PlainCell}
use Rattle.widget_meaning.specs.BunchReads.{bunches_from, exploded, with_bunch}
use Rattle.widget_meaning.specs.Costs.{with_counts}
use Rattle.widget_meaning.specs.OwnState.{Amounts, State, new_array, with_new_cell}
use Rattle.widget_meaning.specs.Values.{Own}
use Rattle.page_tree.specs.declared.page.Page.{Page}
use Rattle.page_image.specs.Image.{owns}
use Rattle.event_loop.specs.declared.around.Loop.{Loop}
use Rattle.js_image.specs.Held.{IsHeld, Kept}
use Rattle.js_image.specs.Image as joint
use Rattle.js_image.specs.Image.{Rest, all_seen, seen}
use Rattle.js_image.proofs.Grown.{held_stays, seen_stays}
use Rattle.native_image.specs.Image.{Outside, beside, image}
use Rattle.native_image.specs.Made.{AreBunches}
use Rattle.native_image.specs.Sound.{HoldsOwn, KeepsStore}
use Rattle.native_image.proofs.Joint.{holds_grows, rest, store_lift}
use Rattle.bunch_trees.specs.Explodes.{IsEmptyArray, IsExploded, filled}
use Rattle.native_image.specs.Handed.{state}
use Rattle.bunch_trees.proofs.Filled.{empty_there, exploded_is}

-- as many Bunches as nodes
pub as_many : (w : ℕ) (cells : List PlainCell) (vs : List StoreValue) (m : ℕ) (ns : List ℕ) → all_seen w cells vs ≡ bunches_from m ns → length vs ≡ length ns
as_many w cells vs m ns e = sym (length-map vs (seen w cells)) ∙ ap length e ∙ length-map-range_with_len Own m (length ns)

-- what is kept of the store keeps what the widget holds
pub held_by : (w : ℕ) (s t : Cells) (p : Page) (l : Loop) → Kept [] w s t → HoldsOwn w s p l → HoldsOwn w t p l
held_by w s t p l k h = holds_grows w s t p l h k.grows (k.nodes (owns p w) h.bunches)

module _ (w : ℕ) (lt : w < 32) (s0 s1 s2 s3 s4 : Cells) (p : Page) (l : Loop) (ns : List ℕ) (array : ℕ) (vs : List StoreValue) (held0 : HoldsOwn w s0 p l) (held2 : HoldsOwn w s2 p l)
    (k1 : Kept [] w s0 s1) (made1 : (fs : List Forest) (r : Rest) (c : Amounts) → with_counts (joint.image fs r w s1) c ≡ with_new_cell (with_counts (joint.image fs r w s0) c) (new_array 0 []))
    (number1 : (fs : List Forest) (r : Rest) → seen w s1.cells (value.Ref array) ≡ Own (length (joint.image fs r w s0).own.heap)) (cell1 : IsHeld w s1.cells array)
    (k2 : KeepsStore w s1 s2) (bunches : AreBunches w s1 s2 p l ns vs)
    (k3 : Kept [] w s2 s3) (put : (fs : List Forest) (r : Rest) (n : ℕ) → seen w s2.cells (value.Ref array) ≡ Own n → IsEmptyArray (joint.image fs r w s2) n → joint.image fs r w s3 ≡ filled n (all_seen w s2.cells vs) (joint.image fs r w s2))
    (k4 : Kept [] w s3 s4) (paid : (fs : List Forest) (r : Rest) (c : Amounts) → with_counts (joint.image fs r w s4) c ≡ with_counts (joint.image fs r w s3) c) where
  cell2 : IsHeld w s2.cells array
  cell2 = held_stays w s1.cells s2.cells k2.grows array cell1

  cell3 : IsHeld w s3.cells array
  cell3 = held_stays w s2.cells s3.cells k3.grows array cell2

  module _ (fs : List Forest) (x : Outside) (b : Option Bool) where
    abbrev at : Cells → State
    at s = image fs x w (beside s p l b)

    abbrev n : ℕ
    n = length (at s0).own.heap

    first : (c : Amounts) → with_counts (at s1) c ≡ with_new_cell (with_counts (at s0) c) (new_array 0 [])
    first c = ap (λ u. with_counts u c) (sym (store_lift w s0 s1 p l held0 k1.grows lt fs x b)) ∙ made1 fs (rest w lt x (beside s0 p l b)) c

    second : (c : Amounts) → with_counts (at s2) c ≡ fold with_bunch (with_new_cell (with_counts (at s0) c) (new_array 0 [])) ns
    second c = bunches.state fs x b c ∙ ap (λ u. fold with_bunch u ns) (first c)

    number2 : seen w s2.cells (value.Ref array) ≡ Own n
    number2 = seen_stays w s1.cells s2.cells k2.grows (value.Ref array) cell1 ∙ number1 fs (rest w lt x (beside s0 p l b))

    there : IsEmptyArray (at s2) n
    there = subst (λ (u : State). IsEmptyArray u n) (sym (second (at s0).own.counts)) (empty_there (with_counts (at s0) (at s0).own.counts) ns)

    values : all_seen w s2.cells vs ≡ bunches_from (n + 1) ns
    values = bunches.values fs x b ∙ ap (λ m. bunches_from m ns) (ap (λ (u : State). length u.own.heap) (first (at s0).own.counts) ∙ length-append (at s0).own.heap (new_array 0 [] ∷ []))

    third : (c : Amounts) → with_counts (at s3) c ≡ filled n (bunches_from (n + 1) ns) (with_counts (at s2) c)
    third c =
        ap (λ u. with_counts u c) (sym (store_lift w s2 s3 p l held2 k3.grows lt fs x b) ∙ put fs (rest w lt x (beside s2 p l b)) n number2 there)
        ∙ ap (λ v. filled n v (with_counts (at s2) c)) values

    fourth : (c : Amounts) → with_counts (at s4) c ≡ with_counts (at s3) c
    fourth c = ap (λ u. with_counts u c) (sym (store_lift w s3 s4 p l (held_by w s2 s3 p l k3 held2) k4.grows lt fs x b)) ∙ paid fs (rest w lt x (beside s3 p l b)) c

    all : (c : Amounts) → with_counts (at s4) c ≡ exploded ns (with_counts (at s0) c)
    all c = fourth c ∙ third c ∙ ap (filled n (bunches_from (n + 1) ns)) (second c) ∙ exploded_is (with_counts (at s0) c) ns

    number4 : seen w s4.cells (value.Ref array) ≡ Own n
    number4 = seen_stays w s3.cells s4.cells k4.grows (value.Ref array) cell3 ∙ seen_stays w s2.cells s3.cells k3.grows (value.Ref array) cell2 ∙ number2

  pub exploded_by : IsExploded w s0 s4 p l ns array
  exploded_by = record { state = all; number = number4; held = held_stays w s3.cells s4.cells k4.grows array cell3 }
