-- Each Array has a length, by name.
use Rattle.std.proofs.Common.{◌≡◌, ℕ, ◌<◌, List, length, sym, ap, ◌∙◌, subst, Option, Some, arith, true, slice_get, is_some}
use Rattle.std.specs.Option.{option_and_then, option_map}
use Rattle.std.proofs.lemmas.Option.{slice_get-map}
use Rattle.std.proofs.lemmas.List.{length-map}
use Rattle.store_cells.specs.declared.value.Value.{Value}
use Rattle.store_cells.specs.Cells.{PlainCell, is_array, value_of}
use Rattle.store_cells.specs.Arrays.{length_in, length_name}
use Rattle.store_cells.specs.Numbered.{NumberedCell, plain, cells_of}
use Rattle.store_cells.specs.Shape.{IsBase}
use Rattle.store_cells.proofs.Lists.{some_same, get_within}
use Rattle.store_cells.proofs.Heads.{some_at}
use Rattle.keyed_names.proofs.Interning.{same_test}
use Rattle.store_cells.proofs.Look.{known_at, known_cells, look}
use Rattle.store_cells.proofs.Writes.{fine_at}

module _ (names : List (List ℕ)) (cs : List NumberedCell) (base : IsBase names cs) where
  length_numbered : (i : ℕ) (c : NumberedCell) → slice_get cs i ≡ Some c → is_array c.head.form ≡ true → is_some (option_and_then length_in (value_of (plain names c).pairs length_name)) ≡ true
  length_numbered i c at a =
      let known = known_at (length names) cs i c (known_cells names (length cs) cs base.fine) at in
      ap (λ (o : Option Value). is_some (option_and_then length_in o)) (sym (look names length_name 0 (same_test names length_name 0 base.table base.words.length) c.entries known))
      ∙ ((fine_at names (length cs) cs i c base.fine at).array a).length

  pub lengths : (i : ℕ) (d : PlainCell) → slice_get (cells_of names cs) i ≡ Some d → is_array d.form ≡ true → is_some (option_and_then length_in (value_of d.pairs length_name)) ≡ true
  lengths i d at a =
      let lt : i < length cs = omega (arith, get_within (cells_of names cs) i d at, length-map cs (plain names)) in
      let k = some_at cs i lt in
      let is : plain names k.0 ≡ d = some_same (plain names k.0) d (sym (slice_get-map (plain names) cs i ∙ ap (option_map (plain names)) k.1) ∙ at) in
      subst (λ (e : PlainCell). is_some (option_and_then length_in (value_of e.pairs length_name)) ≡ true) is (length_numbered i k.0 k.1 (ap (λ (e : PlainCell). is_array e.form) is ∙ a))
