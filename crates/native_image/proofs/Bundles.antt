-- Bunches that are made one after the other.
use Rattle.std.proofs.Common.{◌≡◌, ℕ, zero, suc, ◌+◌, ◌<◌, List, [], ◌∷◌, ◌++◌, Bool, Option, refl, sym, ap, ◌∙◌, subst, map, length, length-append, take, take-suc, get_or, arith}
use Rattle.std.specs.List.{fold, range_with_len}
use Rattle.std.proofs.lemmas.List.{map-append}
use Rattle.std.proofs.lemmas.List.Sums.{fold-append}
use Rattle.js_tree.specs.Forest.{Forest}
use Rattle.store_cells.specs.declared.value.Value.{Value as StoreValue}
use Rattle.store_cells.specs.Cells.{Cells, PlainCell}
use Rattle.object_store.specs.Grows.{Grows}
use Rattle.widget_meaning.specs.Values.{Own, Value}
use Rattle.widget_meaning.specs.OwnState.{State, new_bunch}
use Rattle.widget_meaning.specs.Plan.{Plan}
use Rattle.widget_meaning.specs.Costs.{make, with_counts}
use Rattle.widget_meaning.specs.BunchReads.{bunches_from, with_bunch}
use Rattle.page_tree.specs.declared.page.Page.{Page}
use Rattle.page_image.specs.Image.{number}
use Rattle.event_loop.specs.declared.around.Loop.{Loop}
use Rattle.js_image.specs.Image.{all_seen, seen}
use Rattle.js_image.specs.Held.{AreFine, IsFine}
use Rattle.js_image.proofs.Grown.{fine_stays, seen_stays}
use Rattle.native_image.specs.Image.{Outside, beside, image}
use Rattle.native_image.specs.Made.{AreBunches}
use Rattle.native_image.proofs.Told.{made_told}

-- ## Lists

range_last : (n a : ℕ) → range_with_len a (suc n) ≡ range_with_len a n ++ (a + n) ∷ []
range_last zero a = let e : a ≡ a + 0 = omega arith in ap (λ m. m ∷ []) e
range_last (suc n) a = let e : a + 1 + n ≡ a + suc n = omega arith in ap (λ l. a ∷ l) (range_last n (a + 1) ∙ ap (λ m. range_with_len (a + 1) n ++ m ∷ []) e)

from_last : (m : ℕ) (ns : List ℕ) (n : ℕ) → bunches_from m (ns ++ n ∷ []) ≡ bunches_from m ns ++ Own (m + length ns) ∷ []
from_last m ns n = let e : length ns + 1 ≡ suc (length ns) = omega arith in ap (λ k. map Own (range_with_len m k)) (length-append ns (n ∷ []) ∙ e) ∙ ap (map Own) (range_last (length ns) m) ∙ map-append Own (range_with_len m (length ns)) ((m + length ns) ∷ [])

fine_last : (w : ℕ) (cells : List PlainCell) (vs : List StoreValue) (v : StoreValue) → AreFine w cells vs → IsFine w cells v → AreFine w cells (vs ++ v ∷ [])
fine_last w cells [] v h f = (f, tt)
fine_last w cells (u ∷ vs) v h f = (h.0, fine_last w cells vs v h.1 f)

module _ (w : ℕ) (old new : List PlainCell) (g : Grows w old new) where
  all_stay : (vs : List StoreValue) → AreFine w old vs → all_seen w new vs ≡ all_seen w old vs
  all_stay [] h = refl
  all_stay (v ∷ vs) h = λ j. seen_stays w old new g v h.0 j ∷ all_stay vs h.1 j

  all_fine : (vs : List StoreValue) → AreFine w old vs → AreFine w new vs
  all_fine [] h = tt
  all_fine (v ∷ vs) h = (fine_stays w old new g v h.0, all_fine vs h.1)

-- as many objects more as Bunches
more_objects : (s : State) (ns : List ℕ) → length (fold with_bunch s ns).own.heap ≡ length s.own.heap + length ns
more_objects s [] = omega arith
more_objects s (n ∷ ns) = let e : length (s.own.heap ++ new_bunch (n ∷ []) ∷ []) ≡ length s.own.heap + 1 = length-append s.own.heap (new_bunch (n ∷ []) ∷ []) in omega (arith, more_objects (with_bunch s n) ns, e)

module _ (w : ℕ) (s m t : Cells) (p : Page) (l : Loop) where
  -- none is made
  pub none_made : AreBunches w s s p l [] []
  none_made = record { state = λ fs x b c. refl; values = λ fs x b. refl; fine = tt }

  -- one more is made
  pub one_made : (ns : List ℕ) (vs : List StoreValue) (n : ℕ) (v : StoreValue) → AreBunches w s m p l ns vs → AreBunches w m t p l (n ∷ []) (v ∷ []) → Grows w m.cells t.cells → AreBunches w s t p l (ns ++ n ∷ []) (vs ++ v ∷ [])
  one_made ns vs n v h one g = record {
    state = λ fs x b c. one.state fs x b c ∙ ap (λ u. with_bunch u n) (h.state fs x b c) ∙ sym (fold-append with_bunch (with_counts (image fs x w (beside s p l b)) c) ns (n ∷ []));
    values = λ fs x b.
        let a = length (image fs x w (beside s p l b)).own.heap in
        let c = (image fs x w (beside m p l b)).own.counts in
        let many : length (image fs x w (beside m p l b)).own.heap ≡ a + length ns = ap (λ (u : State). length u.own.heap) (h.state fs x b c) ∙ more_objects (with_counts (image fs x w (beside s p l b)) c) ns in
        map-append (seen w t.cells) vs (v ∷ [])
        ∙ (λ j. (all_stay w m.cells t.cells g vs h.fine ∙ h.values fs x b) j ++ one.values fs x b j)
        ∙ ap (λ k. bunches_from a ns ++ Own k ∷ []) many
        ∙ sym (from_last a ns n);
    fine = fine_last w t.cells vs v (all_fine w m.cells t.cells g vs h.fine) one.fine.0;
  }

-- a Bunch of one node
pub single : (w : ℕ) (s t : Cells) (p : Page) (l : Loop) (n : ℕ) (v : StoreValue) → ((fs : List Forest) (x : Outside) (b : Option Bool) (k : Value → State → Plan) → make (new_bunch (n ∷ [])) 2 (image fs x w (beside s p l b)) k ≡ k (seen w t.cells v) (image fs x w (beside t p l b))) → IsFine w t.cells v → AreBunches w s t p l (n ∷ []) (v ∷ [])
single w s t p l n v plan fine = record {
  state = λ fs x b c. ap (λ u. with_counts u c) (made_told (new_bunch (n ∷ [])) 2 (image fs x w (beside s p l b)) (image fs x w (beside t p l b)) (seen w t.cells v) (plan fs x b)).1;
  values = λ fs x b. ap (λ u. u ∷ []) (made_told (new_bunch (n ∷ [])) 2 (image fs x w (beside s p l b)) (image fs x w (beside t p l b)) (seen w t.cells v) (plan fs x b)).0;
  fine = (fine, tt);
}

-- by the places of a list
pub made_at : (w : ℕ) (s m t : Cells) (p : Page) (l : Loop) (ns : List ℕ) (i : ℕ) (vs : List StoreValue) (v : StoreValue) → i < length ns → AreBunches w s m p l (map (number p w) (take i ns)) vs → AreBunches w m t p l (number p w (get_or ns i 0) ∷ []) (v ∷ []) → Grows w m.cells t.cells → AreBunches w s t p l (map (number p w) (take (i + 1) ns)) (vs ++ v ∷ [])
made_at w s m t p l ns i vs v lt h one g =
    let next : i + 1 ≡ suc i = omega arith in
    subst (λ ms. AreBunches w s t p l ms (vs ++ v ∷ [])) (sym (ap (λ j. map (number p w) (take j ns)) next ∙ ap (map (number p w)) (take-suc ns i 0 lt) ∙ map-append (number p w) (take i ns) (get_or ns i 0 ∷ [])))
    (one_made w s m t p l (map (number p w) (take i ns)) vs (number p w (get_or ns i 0)) v h one g)
