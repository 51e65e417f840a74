-- What `later` leaves.
use Rattle.std.proofs.Common.{◌≡◌, ℕ, ℤ, List, length, refl, sym, subst, Option, None, Some}
use Rattle.js_tree.specs.Forest.{Forest}
use Rattle.store_cells.specs.declared.value.Value.{Value as StoreValue}
use Rattle.store_cells.specs.declared.value.Value.TheVariants as value
use Rattle.store_cells.specs.Cells.{Cells, PlainCell, own_count}
use Rattle.widget_meaning.specs.Values as meaning
use Rattle.widget_meaning.specs.Values.{Undefined}
use Rattle.widget_meaning.specs.OwnState.{State}
use Rattle.widget_meaning.specs.Plan.{Plan}
use Rattle.widget_meaning.specs.Costs.{give, throw}
use Rattle.widget_meaning.specs.AdsafeNatives.{later, with_timer}
use Rattle.js_image.specs.declared.outcome.Fault.{Fault}
use Rattle.js_image.specs.Image.{Rest, image, seen}
use Rattle.js_image.specs.Plans.{meant_fault}
use Rattle.js_image.proofs.Grown.{kept_same}
use Rattle.js_values.specs.declared.outcome.NativeOut.TheVariants as native
use Rattle.adsafe_object.specs.Ends.{EndsNoted}
use Rattle.adsafe_object.specs.Notes.{Notes, noted}
use Rattle.adsafe_object.specs.Timers.{AsksOwn}

-- nothing is asked for
pub unasked : (w : ℕ) (cells : List PlainCell) (asked : Option (ℕ × ℤ)) → asked ≡ None → AsksOwn w cells asked
unasked w cells asked none = subst (AsksOwn w cells) (sym none) tt

module _ (s : Cells) (w waiting : ℕ) (f ms : StoreValue) (log : List (List ℕ)) (posts : List (List ℕ × List ℕ)) where
  abbrev with_ask : Option (ℕ × ℤ) → Notes
  with_ask asked = record { log = log; posts = posts; asked = asked }

  abbrev plan : ℕ → State → Plan
  plan d t = later (seen w s.cells f) (seen w s.cells ms) t

  -- nothing is asked for
  pub refused : (asked : Option (ℕ × ℤ)) → asked ≡ None → (e : Fault) → ((fs : List Forest) (r : Rest) → length r.state.own.timers ≡ waiting → plan 0 (image fs r w s) ≡ throw (meant_fault e) (image fs r w s))
      → EndsNoted w waiting s s (with_ask None) (with_ask asked) plan (native.Throw e)
  refused asked none e h = subst (λ a. EndsNoted w waiting s s (with_ask None) (with_ask a) plan (native.Throw e)) (sym none) (record {
    leaves = λ fs r node d few. h fs (noted w s.cells (with_ask None) r) few;
    fine = tt;
    paid = λ x. x;
    kept = λ fs. kept_same fs w s s refl;
  })

  -- a timer is asked for
  pub started : (cell : ℕ) (z : ℤ) → ((fs : List Forest) (r : Rest) → length r.state.own.timers ≡ waiting → plan 0 (image fs r w s) ≡ give Undefined (with_timer (image fs r w s) (meaning.Own (own_count w s.cells cell)) z))
      → EndsNoted w waiting s s (with_ask None) (with_ask (Some (cell, z))) plan (native.Value value.Undefined)
  started cell z h = record {
    leaves = λ fs r node d few. h fs (noted w s.cells (with_ask None) r) few;
    fine = tt;
    paid = λ x. x;
    kept = λ fs. kept_same fs w s s refl;
  }
