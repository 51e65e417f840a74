-- Receivers as the rooms take them.
use Rattle.std.proofs.Common.{◌≡◌, ℕ, suc, zero, List, slice_get, refl, sym, ap, ◌∙◌, subst, Bool, true, false, Option, None, Some, arith, if◌then◌else◌}
use Rattle.std.specs.Prelude.{IfSome, nat_eq, ◌||◌}
use Rattle.std.specs.Option.{option_map, option_map_or}
use Rattle.std.proofs.lemmas.Bool.Decides.{nat_tests}
use Rattle.store_cells.specs.declared.value.Value.{Value}
use Rattle.store_cells.specs.declared.value.Value.TheVariants as value
use Rattle.store_cells.specs.Cells.{PlainCell, is_visible}
use Rattle.store_cells.specs.Host.{global, host_cells}
use Rattle.js_image.specs.Held.{IsFine, IsHeld, is_held}
use Rattle.js_image.specs.Image.{seen}
use Rattle.native_common.specs.Receivers.{IsReceiver, receiver}

false_true : false ≡ true → ⊥
false_true e = cc

or_right : (a b : Bool) → b ≡ true → (a || b) ≡ true
or_right true b e = refl
or_right false b e = e

-- no widget sees the first of the host's cells
host_first : (w : ℕ) → option_map_or (is_visible w) (slice_get host_cells 0) false ≡ false
unfolding host_cells
host_first w = refl

not_zero : (i : ℕ) → nat_eq (suc i) global ≡ false
not_zero i = grind (arith, nat_tests)

module _ (w : ℕ) (cells : List PlainCell) (first : slice_get cells 0 ≡ slice_get host_cells 0) where
  -- what the widget may hold is not the Global cell
  not_global : (i : ℕ) → IsHeld w cells i → nat_eq i global ≡ false
  not_global zero h = absurd (false_true (sym (ap (λ b. b || false) (ap (λ o. option_map_or (is_visible w) o false) first ∙ host_first w)) ∙ h.1))
  not_global (suc i) h = not_zero i

  receiver_fine : (v : Value) → IsFine w cells v → IsReceiver w cells v
  receiver_fine value.Undefined h = tt
  receiver_fine value.Null h = tt
  receiver_fine (value.Bool b) h = tt
  receiver_fine (value.Num n) h = tt
  receiver_fine (value.Text t) h = tt
  receiver_fine (value.Ref i) h = (h.0, or_right (nat_eq i global) (is_held w cells i) h.1)

  receiver_seen : (v : Value) → IsFine w cells v → receiver w cells v ≡ Some (seen w cells v)
  receiver_seen value.Undefined h = refl
  receiver_seen value.Null h = refl
  receiver_seen (value.Bool b) h = refl
  receiver_seen (value.Num n) h = refl
  receiver_seen (value.Text t) h = refl
  receiver_seen (value.Ref i) h = ap (λ b. if b then None else Some (seen w cells (value.Ref i))) (not_global i h)

  -- a receiver that is there
  pub receiver_there : (o : Option Value) (v : Value) → o ≡ Some v → IfSome o (IsFine w cells) → IsReceiver w cells v × (receiver w cells v ≡ option_map (seen w cells) o)
  receiver_there o v e h =
      let fine = subst (λ u. IfSome u (IsFine w cells)) e h in
      (receiver_fine v fine, receiver_seen v fine ∙ sym (ap (option_map (seen w cells)) e))
