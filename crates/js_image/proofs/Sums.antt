-- A sum that is written to a variable, as the widget sees it.
use Rattle.std.proofs.Common.{◌≡◌, ℕ, ℤ, ◌+ℤ◌, List, false, sym, ap, Option, None, Some}
use Rattle.std.specs.Prelude.{IfNone, IfSome}
use Rattle.std.specs.Option.{option_map_or}
use Rattle.js_tree.specs.Forest.{Forest}
use Rattle.store_cells.specs.declared.value.Value.{Value}
use Rattle.store_cells.specs.declared.value.Value.TheVariants as value
use Rattle.store_cells.specs.declared.value.Number.TheVariants as number
use Rattle.store_cells.specs.Cells.{Cells, first_own}
use Rattle.store_cells.specs.Host.{global}
use Rattle.object_store.specs.Calls.{IsAdded, readable}
use Rattle.object_store.specs.Grows.{Grows}
use Rattle.object_store.specs.Owned.{SeesSet, is_held_by, owned, scope_number}
use Rattle.widget_meaning.specs.Values as meaning
use Rattle.widget_meaning.specs.Scopes.{assign, variable}
use Rattle.js_image.specs.Image.{Rest, image}
use Rattle.js_image.specs.Held.{IsConfined, IsOwnScope, Kept}
use Rattle.js_image.specs.Laws.{AreLawful}
use Rattle.js_image.specs.Reads.{shown_global}
use Rattle.js_image.proofs.Found.{value_found}
use Rattle.js_image.proofs.Grown.{kept_same}
use Rattle.js_image.proofs.Writes.{set_is, set_kept}

module _ (w : ℕ) (old new : Cells) (laws : AreLawful old.cells) (x : List ℕ) (i : ℕ) (own : IsOwnScope w old.cells i) (by : ℤ) where
  abbrev sum : ℤ → Value
  sum z = value.Num (number.Whole (z +ℤ by))

  module _ (fs : List Forest) (r : Rest) (d : ℕ) (confined : IsConfined fs w old) (z : ℤ) (added : IsAdded old new i x by z) where
    pub had : variable (image fs r w old) (record { scope = Some (scope_number w old.cells i); depth = d }) x ≡ meaning.Num z
    had = sym ((value_found fs w old confined laws x (Some i) own (value.Num (number.Whole z)) (sym (ap (λ o. option_map_or (λ u. u) o (shown_global (first_own x (readable old.cells global)))) added.before))).0 r d)

  pub added_plan : (o : Option ℤ) → IfSome o (IsAdded old new i x by) → IfSome o (λ z. (u : ℕ) → SeesSet u old new i x (sum z))
      → IfSome o (λ z. (fs : List Forest) (r : Rest) (d : ℕ) → IsConfined fs w old
      → image fs r w new ≡ assign (image fs r w old) (record { scope = Some (scope_number w old.cells i); depth = d }) x (meaning.Num (z +ℤ by)))
  added_plan None some sees = tt
  added_plan (Some z) some sees = λ fs r d confined. set_is fs w old new laws x (sum z) i some.done r confined (sees w) own

  -- what is kept, whether or not there was a sum
  pub added_kept : (o : Option ℤ) → IfSome o (IsAdded old new i x by) → IfNone o (new ≡ old) → IfSome o (λ z. (u : ℕ) → SeesSet u old new i x (sum z))
      → ((v : ℕ) → Grows v old.cells new.cells) → ((u : ℕ) → is_held_by u old.cells i x ≡ false → owned u new ≡ owned u old) → (fs : List Forest) → IsConfined fs w old → Kept fs w old new
  added_kept None some none sees grows others fs confined = kept_same fs w old new none
  added_kept (Some z) some none sees grows others fs confined = set_kept fs w old new laws x (sum z) i some.done own tt (sees w) grows others confined
