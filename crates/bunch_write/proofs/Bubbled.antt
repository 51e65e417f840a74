-- The innermost dispatch.
use Rattle.std.proofs.Common.{◌≡◌, ℕ, Bool, true, refl, sym, subst, Option, None, Some}
use Rattle.store_cells.specs.Cells.{Cells}
use Rattle.store_cells.specs.declared.value.Value.TheVariants as value
use Rattle.widget_meaning.specs.Dispatch.{bubble}
use Rattle.widget_meaning.specs.OwnState.{State}
use Rattle.widget_meaning.specs.Plan.{Plan}
use Rattle.page_tree.specs.declared.page.Page.{Page}
use Rattle.event_loop.specs.declared.around.Loop.{Loop}
use Rattle.js_image.specs.declared.outcome.Fault.TheVariants as fault
use Rattle.js_values.specs.Fuel.{Fuel}
use Rattle.js_values.specs.declared.outcome.NativeOut.TheVariants as native
use Rattle.native_image.specs.Image.{beside}
use Rattle.native_image.specs.Refines.{RefinesAt}
use Rattle.native_image.specs.Sound.{IsSound}
use Rattle.native_image.proofs.Meeting.{at_free}
use Rattle.native_image.proofs.Working.{at_thrown}

abbrev pub marks : ℕ → State → Plan
marks d t = bubble t.dispatches t

module _ (w : ℕ) (s : Cells) (p : Page) (l : Loop) (f : Fuel) (sound : IsSound w s p l) (b : Option Bool) where
  pub none_open : b ≡ None → RefinesAt w (beside s p l b) (beside s p l b) f f marks (native.Throw fault.E3)
  none_open e = subst (λ o. RefinesAt w (beside s p l o) (beside s p l o) f f marks (native.Throw fault.E3)) (sym e) (at_thrown w (beside s p l None) marks fault.E3 f sound (λ fs x d. refl))

  pub is_marked : (t : Bool) → b ≡ Some t → RefinesAt w (beside s p l b) (beside s p l (Some true)) f f marks (native.Value value.Undefined)
  is_marked t e = subst (λ o. RefinesAt w (beside s p l o) (beside s p l (Some true)) f f marks (native.Value value.Undefined)) (sym e) (at_free w (beside s p l (Some t)) (beside s p l (Some true)) marks (native.Value value.Undefined) f (record { leaves = λ fs x d. refl; fine = tt; fires = tt; sound = sound }))
