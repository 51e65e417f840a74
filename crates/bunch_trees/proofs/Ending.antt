-- A native that weighs its cost, does its work and settles.
use Rattle.std.proofs.Common.{◌≡◌, ℕ, sym, ap, ◌∙◌, List, Option, Bool}
use Rattle.js_tree.specs.Forest.{Forest}
use Rattle.store_cells.specs.declared.value.Value.TheVariants as value
use Rattle.store_cells.specs.Cells.{Cells}
use Rattle.widget_meaning.specs.Costs.{give, pay, with_counts}
use Rattle.widget_meaning.specs.OwnState.{Amounts, State}
use Rattle.widget_meaning.specs.Plan.{Plan}
use Rattle.page_tree.specs.declared.page.Page.{Page}
use Rattle.event_loop.specs.declared.around.Loop.{Loop}
use Rattle.js_image.specs.Held.{IsHeld}
use Rattle.js_image.specs.Image.{seen}
use Rattle.js_image.proofs.Grown.{held_stays, seen_stays}
use Rattle.js_values.specs.declared.outcome.NativeOut.TheVariants as native
use Rattle.native_image.specs.Image.{Outside, beside, image}
use Rattle.native_image.specs.Refines.{EndsAt}
use Rattle.native_image.specs.Sound.{HoldsOwn, IsSound, KeepsStore}
use Rattle.native_image.specs.Handed.{state}
use Rattle.bunch_trees.specs.Changes.{Changes}

module _ (w : ℕ) (s m t : Cells) (p q : Page) (l : Loop) (b : Option Bool) (due : Amounts)
    (paid : (fs : List Forest) (x : Outside) (c : Amounts) → with_counts (image fs x w (beside m p l b)) c ≡ with_counts (image fs x w (beside s p l b)) c)
    (f : State → State) (change : Changes w m t p q f) (held : HoldsOwn w m p l)
    (settled : (fs : List Forest) (x : Outside) → (image fs x w (beside t q l b)).own.counts ≡ due) where
  -- the state after it
  pub now_is : (fs : List Forest) (x : Outside) → f (with_counts (image fs x w (beside s p l b)) due) ≡ image fs x w (beside t q l b)
  now_is fs x =
      ap f (sym (paid fs x due))
      ∙ sym (change.state l held fs x b due)
      ∙ ap (with_counts (image fs x w (beside t q l b))) (sym (settled fs x))

  -- the receiver is given back
  pub given_back : (this : ℕ) → IsHeld w s.cells this → KeepsStore w s t → IsSound w t q l → (cost : Amounts) (plan : ℕ → State → Plan)
      → ((fs : List Forest) (x : Outside) (d : ℕ) → plan d (image fs x w (beside s p l b)) ≡ pay cost (image fs x w (beside s p l b)) (λ u. give (seen w s.cells (value.Ref this)) (f u)))
      → ((fs : List Forest) (x : Outside) (k : State → Plan) → pay cost (image fs x w (beside s p l b)) k ≡ k (with_counts (image fs x w (beside s p l b)) due))
      → EndsAt w (beside s p l b) (beside t q l b) plan (native.Value (value.Ref this))
  given_back this mine kept sound cost plan is weighed = record {
    leaves = λ fs x d.
        is fs x d
        ∙ weighed fs x (λ u. give (seen w s.cells (value.Ref this)) (f u))
        ∙ (λ j. give (sym (seen_stays w s.cells t.cells kept.grows (value.Ref this) mine) j) (now_is fs x j));
    fine = held_stays w s.cells t.cells kept.grows this mine;
    fires = tt;
    sound = sound;
  }
