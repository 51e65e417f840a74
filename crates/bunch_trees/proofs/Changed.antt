-- Changes of store and page, one after the other.
use Rattle.std.proofs.Common.{◌≡◌, ℕ, ◌<◌, refl, ap, ◌∙◌, Option, Bool, List}
use Rattle.js_tree.specs.Forest.{Forest}
use Rattle.plain_tree.specs.Trees.{Trees}
use Rattle.store_cells.specs.Cells.{Cells}
use Rattle.widget_meaning.specs.Costs.{with_counts}
use Rattle.widget_meaning.specs.OwnState.{Amounts, State, with_forest}
use Rattle.page_tree.specs.declared.page.Page.{Page}
use Rattle.page_image.specs.Image.{forest}
use Rattle.page_image.specs.Stays.{KeepsNodes, OthersStay}
use Rattle.event_loop.specs.declared.around.Loop.{Loop}
use Rattle.native_image.specs.Image.{Outside, beside, image}
use Rattle.native_image.specs.Sound.{HoldsOwn, KeepsAll}
use Rattle.native_image.proofs.Joint.{page_lift}
use Rattle.native_image.proofs.Keeping.{sound_page}
use Rattle.native_image.specs.Handed.{state}
use Rattle.bunch_trees.specs.Changes.{Changes}

-- nothing changed
pub changes_none : (w : ℕ) (s : Cells) (p : Page) → Changes w s s p p (λ u. u)
changes_none w s p = record { state = λ l h fs x b c. refl; sound = λ l h. h }

-- one change after another
pub changes_then : (w : ℕ) (s m t : Cells) (p r q : Page) (f g : State → State) → ((l : Loop) → HoldsOwn w s p l → KeepsAll w s m p r l) → Changes w s m p r f → Changes w m t r q g → Changes w s t p q (λ u. g (f u))
changes_then w s m t p r q f g kept a b = record {
  state = λ l h fs x k c. b.state l (kept l h).holds fs x k c ∙ ap g (a.state l h fs x k c);
  sound = λ l h. b.sound l (a.sound l h);
}

-- the same change
pub changes_same : (w : ℕ) (s t : Cells) (p q : Page) (f g : State → State) → ((l : Loop) (fs : List Forest) (x : Outside) (b : Option Bool) (c : Amounts) → f (with_counts (image fs x w (beside s p l b)) c) ≡ g (with_counts (image fs x w (beside s p l b)) c)) → Changes w s t p q f → Changes w s t p q g
changes_same w s t p q f g e a = record {
  state = λ l h fs x b c. a.state l h fs x b c ∙ e l fs x b c;
  sound = a.sound;
}

-- the page alone changed, and no node came
pub changes_page : (w : ℕ) → w < 32 → (s : Cells) (p q : Page) → KeepsNodes p q → OthersStay p q w → (f : Trees ℕ → Trees ℕ) → forest q w ≡ f (forest p w) → Changes w s s p q (λ u. with_forest u (f u.own.forest))
changes_page w lt s p q keeps others f e = record {
  state = λ l h fs x b c. ap (λ u. with_counts u c) (page_lift w fs x s p q l b keeps ∙ ap (with_forest (image fs x w (beside s p l b))) e);
  sound = λ l h. sound_page w lt p q keeps others s l h;
}
