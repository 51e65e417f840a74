-- The event object is made: call by call.
use Rattle.std.proofs.Common.{◌≡◌, ℕ, Bool, true, List, [], ◌∷◌, length, sym, ap, ◌∙◌, Option}
use Rattle.std.specs.Prelude.{codes, is_some}
use Rattle.js_tree.specs.Forest.{Forest}
use Rattle.store_cells.specs.declared.value.Value.{Value as StoreValue}
use Rattle.store_cells.specs.declared.value.Value.TheVariants as value
use Rattle.store_cells.specs.Cells.{Cells}
use Rattle.widget_meaning.specs.Values.{Undefined, Own}
use Rattle.widget_meaning.specs.OwnState.{Pairs, State, cell_at, lookup, new_bunch, plain_object, replaced, with_cell}
use Rattle.widget_meaning.specs.Costs.{object_cost, sum, with_counts}
use Rattle.widget_meaning.specs.Dispatch.{event_cost, with_event}
use Rattle.page_tree.specs.declared.page.Page.{Page}
use Rattle.page_image.specs.Image.{number}
use Rattle.event_loop.specs.declared.around.Loop.{Loop}
use Rattle.js_image.specs.Held.{IsHeld, Kept}
use Rattle.js_image.specs.Image.{seen}
use Rattle.js_image.proofs.Grown.{held_stays, seen_stays}
use Rattle.native_image.specs.Image.{Outside, beside, image}
use Rattle.native_image.specs.Sound.{IsSound, KeepsStore}
use Rattle.native_image.proofs.Joint.{keeps_of, sound_stays}
use Rattle.turn_dispatch.specs.Events.{Changes, IsNext, born, pairs_with}
use Rattle.turn_dispatch.proofs.Filled.{bunch_place, event_filled, that_place}
use Rattle.native_image.proofs.Keeping.{store_then}

-- a Bunch was put under a name
abbrev pub IsFilled : ℕ → Cells → Cells → ℕ → List ℕ → ℕ → Type 0
IsFilled w old new event name bunch =
    (p : Page) (fs : List Forest) (x : Outside) (l : Loop) (b : Option Bool) (n : ℕ) (ps : Pairs)
    → IsSound w old p l → seen w old.cells (value.Ref event) ≡ Own n
    → cell_at (image fs x w (beside old p l b)) n ≡ plain_object ps → is_some (lookup ps name) ≡ true
    → with_cell (image fs x w (beside old p l b)) n (plain_object (replaced ps name (seen w old.cells (value.Ref bunch)))) ≡ image fs x w (beside new p l b)

-- a store that is kept, and its page and loop stay sound
record Step (w : ℕ) (p : Page) (old new : Cells) : Type 0 where
  kept : KeepsStore w old new
  sound : (l : Loop) → IsSound w old p l → IsSound w new p l

step_of : (w : ℕ) (p : Page) (old new : Cells) → ((fs : List Forest) → Kept fs w old new) → Step w p old new
step_of w p old new k = record { kept = keeps_of w old new k; sound = λ l h. sound_stays w old new p l h (k []) }

module _ (w : ℕ) (p : Page) (kind : List ℕ) (target node : ℕ) (v : StoreValue) (s0 s1 s2 s3 s4 s5 : Cells) (event one two : ℕ)
    (k1 : (fs : List Forest) → Kept fs w s0 s1) (k2 : KeepsStore w s1 s2) (sound2 : (l : Loop) → IsSound w s1 p l → IsSound w s2 p l)
    (k3 : KeepsStore w s2 s3) (sound3 : (l : Loop) → IsSound w s2 p l → IsSound w s3 p l)
    (k4 : (fs : List Forest) → Kept fs w s3 s4) (k5 : (fs : List Forest) → Kept fs w s4 s5) where
  first_step : Step w p s0 s1
  first_step = step_of w p s0 s1 k1

  fourth_step : Step w p s3 s4
  fourth_step = step_of w p s3 s4 k4

  fifth_step : Step w p s4 s5
  fifth_step = step_of w p s4 s5 k5

  pub all_kept : KeepsStore w s0 s5
  all_kept = store_then w s0 s4 s5 (store_then w s0 s3 s4 (store_then w s0 s2 s3 (store_then w s0 s1 s2 first_step.kept k2) k3) fourth_step.kept) fifth_step.kept

  pub all_sound : (l : Loop) → IsSound w s0 p l → IsSound w s5 p l
  all_sound l h = fifth_step.sound l (fourth_step.sound l (sound3 l (sound2 l (first_step.sound l h))))

  module _ (held : IsHeld w s1.cells event) where
    held2 : IsHeld w s2.cells event
    held2 = held_stays w s1.cells s2.cells k2.grows event held

    held3 : IsHeld w s3.cells event
    held3 = held_stays w s2.cells s3.cells k3.grows event held2

    held4 : IsHeld w s4.cells event
    held4 = held_stays w s3.cells s4.cells fourth_step.kept.grows event held3

    pub event_held : IsHeld w s5.cells event
    event_held = held_stays w s4.cells s5.cells fifth_step.kept.grows event held4

    module _ (next : (q : Page) → IsNext w s0 s1 q event) where
      event3 : (fs : List Forest) (x : Outside) (l : Loop) (b : Option Bool) → IsSound w s0 p l → seen w s3.cells (value.Ref event) ≡ Own (length (image fs x w (beside s0 p l b)).own.heap)
      event3 fs x l b h = seen_stays w s2.cells s3.cells k3.grows (value.Ref event) held2 ∙ (seen_stays w s1.cells s2.cells k2.grows (value.Ref event) held ∙ next p fs x l b h)

      event4 : (fs : List Forest) (x : Outside) (l : Loop) (b : Option Bool) → IsSound w s0 p l → seen w s4.cells (value.Ref event) ≡ Own (length (image fs x w (beside s0 p l b)).own.heap)
      event4 fs x l b h = seen_stays w s3.cells s4.cells fourth_step.kept.grows (value.Ref event) held3 ∙ event3 fs x l b h

      pub event_next : IsNext w s0 s5 p event
      event_next fs x l b h = seen_stays w s4.cells s5.cells fifth_step.kept.grows (value.Ref event) held4 ∙ event4 fs x l b h

      module _ (object : (q : Page) → Changes w s0 s1 q (born (plain_object (pairs_with kind Undefined Undefined (seen w s0.cells v))) (object_cost 5)))
          (held_one : IsHeld w s2.cells one) (next_one : IsNext w s1 s2 p one) (born_one : Changes w s1 s2 p (born (new_bunch (number p w target ∷ [])) (object_cost 2)))
          (held_two : IsHeld w s3.cells two) (next_two : IsNext w s2 s3 p two) (born_two : Changes w s2 s3 p (born (new_bunch (number p w node ∷ [])) (object_cost 2)))
          (name_one name_two : List ℕ) (is_one : name_one ≡ codes "target") (is_two : name_two ≡ codes "that")
          (filled_one : IsFilled w s3 s4 event name_one one) (filled_two : IsFilled w s4 s5 event name_two two) where
        pub event_made : Changes w s0 s5 p (λ s. with_event (with_counts s (sum s.own.counts event_cost)) kind (number p w target) (number p w node) (seen w s0.cells v))
        event_made fs x l b h =
            let i0 : State = image fs x w (beside s0 p l b) in
            let i1 : State = image fs x w (beside s1 p l b) in
            let i2 : State = image fs x w (beside s2 p l b) in
            let i3 : State = image fs x w (beside s3 p l b) in
            let i4 : State = image fs x w (beside s4 p l b) in
            let i5 : State = image fs x w (beside s5 p l b) in
            let h1 : IsSound w s1 p l = first_step.sound l h in
            let h2 : IsSound w s2 p l = sound2 l h1 in
            let h3 : IsSound w s3 p l = sound3 l h2 in
            let h4 : IsSound w s4 p l = fourth_step.sound l h3 in
            let e1 : born (plain_object (pairs_with kind Undefined Undefined (seen w s0.cells v))) (object_cost 5) i0 ≡ i1 = object p fs x l b h in
            let e2 : born (new_bunch (number p w target ∷ [])) (object_cost 2) i1 ≡ i2 = born_one fs x l b h1 in
            let e3 : born (new_bunch (number p w node ∷ [])) (object_cost 2) i2 ≡ i3 = born_two fs x l b h2 in
            event_filled kind (number p w target) (number p w node) (seen w s0.cells v) i0 i1 i2 i3 i4 i5 (seen w s3.cells (value.Ref one)) (seen w s4.cells (value.Ref two)) e1 e2 e3
            (seen_stays w s2.cells s3.cells k3.grows (value.Ref one) held_one ∙ (next_one fs x l b h1 ∙ ap Own (bunch_place kind (number p w target) (number p w node) (seen w s0.cells v) i0 i1 i2 i3 i4 i5 Undefined Undefined e1 e2 e3)))
            (seen_stays w s3.cells s4.cells fourth_step.kept.grows (value.Ref two) held_two ∙ (next_two fs x l b h2 ∙ ap Own (that_place kind (number p w target) (number p w node) (seen w s0.cells v) i0 i1 i2 i3 i4 i5 Undefined Undefined e1 e2 e3)))
            (λ ps at has. ap (λ c. with_cell i3 (length i0.own.heap) (plain_object (replaced ps c (seen w s3.cells (value.Ref one))))) (sym is_one) ∙ filled_one p fs x l b (length i0.own.heap) ps h3 (event3 fs x l b h) at (ap (λ c. is_some (lookup ps c)) is_one ∙ has))
            (λ ps at has. ap (λ c. with_cell i4 (length i0.own.heap) (plain_object (replaced ps c (seen w s4.cells (value.Ref two))))) (sym is_two) ∙ filled_two p fs x l b (length i0.own.heap) ps h4 (event4 fs x l b h) at (ap (λ c. is_some (lookup ps c)) is_two ∙ has))
