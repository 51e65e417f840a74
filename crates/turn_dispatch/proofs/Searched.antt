-- The search for a node that listens, by what was found.
use Rattle.std.proofs.Common.{◌≡◌, ℕ, ◌∙◌, List, Bool, Option, None, Some, map, sym, ap, subst}
use Rattle.std.specs.Prelude.{IfSome}
use Rattle.std.specs.declared.vec.Vec.{Vec}
use Rattle.std.specs.declared.alloc.Global.{Global}
use Rattle.js_tree.specs.Forest.{Forest}
use Rattle.store_cells.specs.Cells.{Cells, own_count}
use Rattle.query_grammar.specs.Renumbering.{renumbered}
use Rattle.widget_meaning.specs.Values.{Value, Undefined}
use Rattle.widget_meaning.specs.OwnState.{State}
use Rattle.widget_meaning.specs.Costs.{give}
use Rattle.widget_meaning.specs.Dispatch.{hear, hear_found, nearest, search_from}
use Rattle.page_tree.specs.declared.page.Page.{Page}
use Rattle.page_image.specs.Image.{number}
use Rattle.event_loop.specs.declared.around.Loop.{Loop}
use Rattle.event_loop.specs.Deliveries.{found_of}
use Rattle.page_image.specs.Around.{Shows, own_found}
use Rattle.native_image.specs.Image.{Outside, beside, image}
use Rattle.native_image.specs.Sound.{HoldsOwn}
use Rattle.native_image.proofs.Joint.{image_shows}

module _ (w : ℕ) (s : Cells) (p : Page) (l : Loop) (holds : HoldsOwn w s p l) (from : Option ℕ) (kind : List ℕ) (found : Option (ℕ × Vec ℕ Global))
    (image_is : (g : ℕ → ℕ) (t : State) → Shows p w g l t.own → own_found (number p w) g (found_of found) ≡ nearest t (renumbered (number p w) from) kind)
    (target : ℕ) (v : Value) (d : ℕ) (fs : List Forest) (x : Outside) (b : Option Bool) where
  near : nearest (image fs x w (beside s p l b)) (renumbered (number p w) from) kind ≡ own_found (number p w) (own_count w s.cells) (found_of found)
  near = sym (image_is (own_count w s.cells) (image fs x w (beside s p l b)) (image_shows w fs x s p l b holds))

  pub none_found : found ≡ None → search_from (renumbered (number p w) from) kind target v d (image fs x w (beside s p l b)) ≡ give Undefined (image fs x w (beside s p l b))
  none_found e = ap (λ o. hear_found o kind target v d (image fs x w (beside s p l b))) (near ∙ ap (λ o. own_found (number p w) (own_count w s.cells) (found_of o)) e)

  pub some_found : (at : ℕ × Vec ℕ Global) → found ≡ Some at
      → search_from (renumbered (number p w) from) kind target v d (image fs x w (beside s p l b))
      ≡ hear kind target v d (number p w at.0) (map (own_count w s.cells) at.1.items) (image fs x w (beside s p l b))
  some_found at e = ap (λ o. hear_found o kind target v d (image fs x w (beside s p l b))) (near ∙ ap (λ o. own_found (number p w) (own_count w s.cells) (found_of o)) e)

-- what is said of what may be there, where it is there
pub at_some : {A : Type 0} (P : A → Type 0) (o : Option A) (a : A) → o ≡ Some a → IfSome o P → P a
at_some P o a e h = subst (λ u. IfSome u P) e h
