-- What `var_add` answers, and what widgets see of it.
use Rattle.std.proofs.Common.{◌≡◌, ℕ, ℤ, ◌+ℤ◌, Option, Some, None, List, true, false, eqb, slice_get, sym, ap, ◌∙◌}
use Rattle.std.specs.Prelude.{IfNone, IfSome}
use Rattle.std.specs.Map.{lookup}
use Rattle.std.specs.Option.{option_and_then}
use Rattle.store_cells.specs.declared.value.Value.{Value}
use Rattle.store_cells.specs.declared.value.Value.TheVariants as value
use Rattle.store_cells.specs.declared.value.Number.TheVariants as number
use Rattle.store_cells.specs.declared.counts.Counts.{Counts}
use Rattle.store_cells.specs.Arrays.{written}
use Rattle.store_cells.specs.Bunches.{IsBunch}
use Rattle.store_cells.specs.Cells.{Cells, PlainCell, chain, first_own, is_bunch, is_scope_at}
use Rattle.store_cells.specs.Numbered.{NumberedCell, cells_of, numbered_holder, numbered_own}
use Rattle.store_cells.specs.Shape.{IsLinked, IsShape, Wrote}
use Rattle.store_cells.proofs.Look.{get_found}
use Rattle.object_store.specs.Calls.{IsAdded, is_number, var_done}
use Rattle.object_store.specs.Grows.{Grows}
use Rattle.object_store.specs.Owned.{SeesSet, is_held_by, owned}
use Rattle.object_store.proofs.Chains.{along_first}
use Rattle.object_store.proofs.Growth.{grows_back, var_grows}
use Rattle.object_store.proofs.Others.{var_seen}
use Rattle.object_store.proofs.Own.{var_own}
use Rattle.object_store.proofs.Removes.{var_written}

-- the value of the variable that is found, and the store after it is written
module _ (s : Cells) (names : List (List ℕ)) (cs : List NumberedCell) {raws : List (ℕ × ℕ)} (kept : List Counts) (view : (let c : Cells = record { cells = cells_of names cs; kept = kept } in c ≡ s)) (shape : IsShape names cs raws kept) (name : List ℕ) (from n h : ℕ) (at : slice_get names n ≡ Some name) (held : numbered_holder cs from n ≡ Some h) where
  value_held : (c : NumberedCell) (v : Value) → slice_get cs h ≡ Some c → lookup (eqb n) c.entries ≡ Some v → first_own name (chain s.cells from) ≡ Some v
  value_held c v here own =
      sym (along_first s.cells from name)
      ∙ sym (get_found s names cs kept view shape name from n at)
      ∙ ap (λ o. option_and_then (numbered_own cs n) o) held
      ∙ ap (λ (o : Option NumberedCell). option_and_then (λ (d : NumberedCell). lookup (eqb n) d.entries) o) here
      ∙ own

  pub added : (c : NumberedCell) (z by sum : ℤ) (after : List NumberedCell) → slice_get cs h ≡ Some c → lookup (eqb n) c.entries ≡ Some (value.Num (number.Whole z)) → sum ≡ z +ℤ by → is_number (z +ℤ by) ≡ true → Wrote names cs names after h (written name (value.Num (number.Whole sum))) → (let d : Cells = record { cells = cells_of names after; kept = kept } in IsAdded s d from name by z)
  added c z by sum after here own is within wrote = record {
    before = value_held c (value.Num (number.Whole z)) here own;
    within = within;
    done = var_written s names cs kept view shape name from (value.Num (number.Whole sum)) n h after at held wrote ∙ ap (λ y. var_done s from name (value.Num (number.Whole y))) is;
  }

-- what widgets see of it
module _ (s : Cells) (links : (i : ℕ) (c : PlainCell) → slice_get s.cells i ≡ Some c → IsLinked s.cells i c) (bunches_each : (i : ℕ) (c : PlainCell) → slice_get s.cells i ≡ Some c → is_bunch c.form ≡ true → IsBunch s.cells c) (from : ℕ) (name : List ℕ) (by : ℤ) (t : Cells) where
  abbrev sum : ℤ → Value
  sum z = value.Num (number.Whole (z +ℤ by))

  pub add_own : (r : Option ℤ) → is_scope_at s.cells from ≡ true → IfSome r (λ z. IsAdded s t from name by z) → IfSome r (λ z. (w : ℕ) → SeesSet w s t from name (sum z))
  add_own None scope some = tt
  add_own (Some z) scope some = var_own s links bunches_each from name (sum z) scope tt t some.done

  pub add_others : (r : Option ℤ) → is_scope_at s.cells from ≡ true → IfSome r (λ z. IsAdded s t from name by z) → IfNone r (t ≡ s) → (w : ℕ) → is_held_by w s.cells from name ≡ false → owned w t ≡ owned w s
  add_others None scope some none w other = ap (owned w) none
  add_others (Some z) scope some none w other = var_seen s links bunches_each from name (sum z) scope t w some.done other

  pub add_grows : (r : Option ℤ) → IfSome r (λ z. IsAdded s t from name by z) → IfNone r (t ≡ s) → (w : ℕ) → Grows w s.cells t.cells
  add_grows None some none w = grows_back w s t none
  add_grows (Some z) some none w = var_grows s w from name (sum z) t some.done
