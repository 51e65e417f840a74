-- Changes of store and page together.
use Rattle.std.specs.Prelude.{◌≡◌, ℕ, List, Bool, Option}
use Rattle.js_tree.specs.Forest.{Forest}
use Rattle.store_cells.specs.Cells.{Cells}
use Rattle.widget_meaning.specs.OwnState.{Amounts, State}
use Rattle.widget_meaning.specs.Costs.{with_counts}
use Rattle.page_tree.specs.declared.page.Page.{Page}
use Rattle.event_loop.specs.declared.around.Loop.{Loop}
use Rattle.native_image.specs.Image.{Outside, beside, image}
use Rattle.native_image.specs.Sound.{HoldsOwn, IsSound}

-- What a widget has was changed as f says; what that cost is counted and not said here. All stays sound.
pub record Changes (w : ℕ) (s t : Cells) (p q : Page) (f : State → State) : Type 0 where
  pub state : (l : Loop) → HoldsOwn w s p l → (fs : List Forest) (x : Outside) (b : Option Bool) (c : Amounts) → with_counts (image fs x w (beside t q l b)) c ≡ f (with_counts (image fs x w (beside s p l b)) c)
  pub sound : (l : Loop) → IsSound w s p l → IsSound w t q l
