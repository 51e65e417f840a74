-- A name is taken out; a variable is written.
use Rattle.std.proofs.Common.{◌≡◌, ℕ, ◌<◌, List, [], length, refl, sym, ap, ◌∙◌, subst, Option, Some, Bool, true, false, eqb, if◌then◌else◌, is_some, slice_get}
use Rattle.std.specs.Prelude.{◌&&◌}
use Rattle.std.specs.Option.{option_map_or, option_and_then}
use Rattle.std.specs.Map.{lookup, remove_entry}
use Rattle.std.specs.Str.{bytes_eq}
use Rattle.std.proofs.lemmas.Option.{get_or_from_slice_get, slice_get_within}
use Rattle.keyed_names.proofs.Interning.{same_test}
use Rattle.store_cells.specs.declared.value.Value.{Value}
use Rattle.store_cells.specs.Lists.{changed}
use Rattle.store_cells.specs.Cells.{PlainCell, is_array}
use Rattle.store_cells.specs.Arrays.{end_of, length_in, length_name, written}
use Rattle.store_cells.specs.Numbered.{NumberedCell, element_recounted, found_in, plain, named, cells_of, heads, numbered_without, numbered_held, numbered_has, numbered_holder, refers_at}
use Rattle.store_cells.specs.Shape.{IsBase, IsWellFormed, IsRefWithin, Wrote, scope_at}
use Rattle.store_cells.specs.Arrays.{without}
use Rattle.store_cells.proofs.Look.{known_entries, remove_named, insert_named, climb_has}
use Rattle.store_cells.proofs.Entries.{entries_remove, entries_insert, lookup_removed}
use Rattle.store_cells.proofs.Writes.{changed_base, changed_cells, changed_heads, not_length}
use Rattle.store_cells.proofs.Heads.{holder_scope, scope_form, scope_no_array}
use Rattle.store_cells.proofs.Indexed.{indexed_remove}
use Rattle.store_cells.proofs.Referring.{referring_gone}

-- both hold, or one fails
second_false : (a b : Bool) → (a && b) ≡ false → a ≡ true → b ≡ false
second_false true b h g = h
second_false false b h g = absurd (false_true g)
  where
    false_true : false ≡ true → ⊥
    false_true g = cc

module _ (names : List (List ℕ)) (cs : List NumberedCell) (base : IsBase names cs) (i : ℕ) (name : List ℕ) (n end : ℕ) (at : slice_get names n ≡ Some name) (is_end : end ≡ end_of name) where
  pub took : ((c : NumberedCell) → slice_get cs i ≡ Some c → (is_array c.head.form && bytes_eq name length_name) ≡ false) → (after : List NumberedCell) → after ≡ changed cs i (numbered_without n end) → Wrote names cs names after i (without name)
  took kept after e = record {
    done = ap (cells_of names) e ∙ changed_cells names cs base i (numbered_without n end) (λ c. refl) (without name) alike;
    base = subst (IsBase names) (sym e) (changed_base names cs base i (numbered_without n end) (λ c. refl) fine);
    heads = ap heads e ∙ changed_heads names cs base i (numbered_without n end) (λ c. refl);
  }
    where
      alike : (c : NumberedCell) → slice_get cs i ≡ Some c → IsWellFormed names (length cs) c → plain names (numbered_without n end c) ≡ without name (plain names c)
      alike c g fine =
          let p = remove_named names name n (same_test names name n base.table at) c.entries (known_entries (length names) (length cs) c.entries fine.entries) in
          (λ j. record { owner = c.head.owner; form = c.head.form; up = c.head.up; pairs = p j })
          ∙ sym (ap (λ b. let d : PlainCell = if b then plain names c else record { owner = c.head.owner; form = c.head.form; up = c.head.up; pairs = remove_entry (bytes_eq name) (named names c.entries) } in d) (kept c g))

      fine : (c : NumberedCell) → slice_get cs i ≡ Some c → IsWellFormed names (length cs) c → IsWellFormed names (length cs) (numbered_without n end c)
      fine c g h = record {
        entries = entries_remove (length names) (length cs) n c.entries h.entries;
        array = λ a. record {
          length = ap (λ (o : Option Value). is_some (option_and_then length_in o)) (lookup_removed 0 n c.entries (not_length names base.table base.words name n at (slice_get_within names n name at) (second_false (is_array c.head.form) (bytes_eq name length_name) (kept c g) a))) ∙ (h.array a).length;
          indexed = indexed_remove names (found_in c.elements) n c.entries (h.array a).indexed;
          counted = ap (element_recounted end (refers_at n c.entries) false) (h.array a).counted ∙ referring_gone names n end c.entries (is_end ∙ ap end_of (sym (get_or_from_slice_get names n name [] at)));
        };
      }

-- a variable is written
module _ (names : List (List ℕ)) (cs : List NumberedCell) (base : IsBase names cs) (from i : ℕ) (scope : scope_at (heads cs) from ≡ true) (name : List ℕ) (n : ℕ) (at : slice_get names n ≡ Some name) (within : n < length names) (found : numbered_holder cs from n ≡ Some i) where
  pub has_variable : (c : NumberedCell) → slice_get cs i ≡ Some c → is_some (lookup (eqb n) c.entries) ≡ true
  has_variable c g = sym (ap (λ (o : Option NumberedCell). option_map_or (numbered_has n) o false) g) ∙ climb_has n (length cs) cs (Some from) i found

  pub wrote_variable : (v : Value) → IsRefWithin (length cs) v → (after : List NumberedCell) → after ≡ changed cs i (numbered_held n v) → Wrote names cs names after i (written name v)
  wrote_variable v ref after e = record {
    done = ap (cells_of names) e ∙ changed_cells names cs base i (numbered_held n v) (λ c. refl) (written name v) alike;
    base = subst (IsBase names) (sym e) (changed_base names cs base i (numbered_held n v) (λ c. refl) fine);
    heads = ap heads e ∙ changed_heads names cs base i (numbered_held n v) (λ c. refl);
  }
    where
      alike : (c : NumberedCell) → slice_get cs i ≡ Some c → IsWellFormed names (length cs) c → plain names (numbered_held n v c) ≡ written name v (plain names c)
      alike c g fine =
          let p = insert_named names name n (same_test names name n base.table at) c.entries v (known_entries (length names) (length cs) c.entries fine.entries) (get_or_from_slice_get names n name [] at) in
          λ j. record { owner = c.head.owner; form = c.head.form; up = c.head.up; pairs = p j }

      fine : (c : NumberedCell) → slice_get cs i ≡ Some c → IsWellFormed names (length cs) c → IsWellFormed names (length cs) (numbered_held n v c)
      fine c g h = record {
        entries = entries_insert (length names) (length cs) n v c.entries h.entries within ref;
        array = λ a. absurd (scope_no_array c.head.form (scope_form names cs base.ordered i c g (holder_scope names cs base.ordered n from i scope found)) a);
      }
