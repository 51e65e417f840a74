-- What a cell shows: its own names, its length and its elements.
use Rattle.std.proofs.Common.{◌≡◌, ℕ, ◌<◌, List, [], ◌∷◌, length, map, refl, sym, ap, ◌∙◌, subst, Option, Some, None, Bool, true, false, eqb, if◌then◌else◌, slice_get, is_some, zero, suc}
use Rattle.std.specs.Prelude.{IfSome, ◌&&◌, ◌||◌}
use Rattle.std.specs.Fmt.{decimal}
use Rattle.std.specs.List.{AllByRecursion, IsDistinct, list_any}
use Rattle.std.specs.Map.{keys_of as keys_of_map, lookup}
use Rattle.std.specs.Option.{option_and_then, option_map}
use Rattle.std.specs.Str.{bytes_eq}
use Rattle.std.proofs.lemmas.Map.Made.{is_some-lookup}
use Rattle.std.proofs.lemmas.Map.Views.{any-filter_same}
use Rattle.std.proofs.lemmas.Option.{slice_get-get_or}
use Rattle.std.proofs.lemmas.Slice.Eq.{bytes_eq-Decides}
use Rattle.keyed_names.specs.Interned.{IsTable}
use Rattle.keyed_names.proofs.Interning.{none_test, same_test}
use Rattle.store_cells.specs.declared.value.Value.{Value}
use Rattle.store_cells.specs.declared.counts.Counts.{Counts}
use Rattle.store_cells.specs.Arrays.{is_index_below, is_key, is_reference, keys_of}
use Rattle.store_cells.specs.Cells.{Cells, PlainCell, has_own, is_array, is_bunch, value_of}
use Rattle.store_cells.specs.Numbered.{NumberedCell, cells_of, found_in, is_listed, name_at, named, numbered_element, numbered_length, plain, references_in}
use Rattle.store_cells.specs.Holes.{is_reference_below}
use Rattle.store_cells.specs.Shape.{IsIndexed, IsShape, Known}
use Rattle.store_cells.proofs.Look.{has_same, known_at, known_cells, look_none}
use Rattle.store_cells.proofs.Indexed.{element_named}
use Rattle.store_cells.proofs.Plans.{length_alike}
use Rattle.store_cells.proofs.Writes.{fine_at}
use Rattle.object_store.specs.Elements.{array_length, element, shows_own}
use Rattle.object_store.proofs.Puts.{seen}

-- the name at a place
name_place : (names : List (List ℕ)) (es : List (ℕ × Value)) (k : ℕ) → Known (length names) es → option_and_then (slice_get names) (option_map (λ (e : ℕ × Value). e.0) (slice_get es k)) ≡ option_map (λ (p : List ℕ × Value). p.0) (slice_get (named names es) k)
name_place names [] k h = refl
name_place names (e ∷ es) zero h = slice_get-get_or names e.0 [] h.0
name_place names (e ∷ es) (suc k) h = name_place names es k h.1

-- whether a name is among the keys
any_keys : (d : PlainCell) (name : List ℕ) → list_any (bytes_eq name) (keys_of d) ≡ (is_key d name && has_own name d)
any_keys d name =
    any-filter_same (bytes_eq name) (is_key d) (is_key d name) (λ k e. ap (is_key d) (sym ((bytes_eq-Decides name k).0 e))) (map (λ p. p.0) d.pairs)
    ∙ ap (λ b. is_key d name && b) (sym (is_some-lookup (bytes_eq name) d.pairs))

-- elements below an index, by name
any_named : (names : List (List ℕ)) (n : ℕ) (es : List (ℕ × Value)) → list_any (is_reference_below names n) es ≡ list_any (λ (p : List ℕ × Value). is_index_below n p.0 && is_reference p.1) (named names es)
any_named names n [] = refl
any_named names n (e ∷ es) = ap (λ b. is_reference_below names n e || b) (any_named names n es)

-- names differ as their numbers do
name_apart : (names : List (List ℕ)) → IsTable names → (k : ℕ) → k < length names → (es : List (ℕ × Value)) → Known (length names) es → AllByRecursion (λ y. eqb k y ≡ false) (keys_of_map es) → AllByRecursion (λ y. bytes_eq (name_at names k) y ≡ false) (map (λ (p : List ℕ × Value). p.0) (named names es))
name_apart names table k lt [] known h = tt
name_apart names table k lt (e ∷ es) known h =
    (sym (same_test names (name_at names k) k table (slice_get-get_or names k [] lt) e.0 known.0) ∙ h.0, name_apart names table k lt es known.1 h.1)

named_distinct : (names : List (List ℕ)) → IsTable names → (es : List (ℕ × Value)) → Known (length names) es → IsDistinct eqb (keys_of_map es) → IsDistinct bytes_eq (map (λ (p : List ℕ × Value). p.0) (named names es))
unfolding IsDistinct
named_distinct names table [] known h = tt
named_distinct names table (e ∷ es) known h = (name_apart names table e.0 known.0 es known.1 h.0, named_distinct names table es known.1 h.1)

and_false : (b : Bool) → (b && false) ≡ false
and_false true = refl
and_false false = refl

module _ (s : Cells) (names : List (List ℕ)) (cs : List NumberedCell) {raws : List (ℕ × ℕ)} (kept : List Counts) (view : (let c : Cells = record { cells = cells_of names cs; kept = kept } in c ≡ s)) (shape : IsShape names cs raws kept) (i : ℕ) (c : NumberedCell) (at : slice_get cs i ≡ Some c) where
  here : slice_get s.cells i ≡ Some (plain names c)
  here = seen s names cs kept view shape i c at

  known : Known (length names) c.entries
  known = known_at (length names) cs i c (known_cells names (length cs) cs shape.base.fine) at

  pub shown_name : (k : ℕ) (o : Option (List ℕ)) → o ≡ option_and_then (slice_get names) (option_map (λ (e : ℕ × Value). e.0) (slice_get c.entries k)) → IfSome (slice_get s.cells i) (λ d. o ≡ option_map (λ (p : List ℕ × Value). p.0) (slice_get d.pairs k))
  shown_name k o e = subst (λ (x : Option PlainCell). IfSome x (λ d. o ≡ option_map (λ (p : List ℕ × Value). p.0) (slice_get d.pairs k))) (sym here) (e ∙ name_place names c.entries k known)

  module _ (name : List ℕ) where
    has_none : list_any (bytes_eq name) names ≡ false → has_own name (plain names c) ≡ false
    has_none none = ap is_some (look_none names name (none_test names name none) c.entries known)

    has_some : (n : ℕ) → slice_get names n ≡ Some name → is_some (lookup (eqb n) c.entries) ≡ has_own name (plain names c)
    has_some n found = has_same names name n (same_test names name n shape.base.table found) c known

    abbrev Shows : Bool → Type 0
    Shows b = IfSome (slice_get s.cells i) (λ d. b ≡ shows_own name d)

    shows : (b : Bool) → b ≡ shows_own name (plain names c) → Shows b
    shows b e = subst (λ (x : Option PlainCell). IfSome x (λ d. b ≡ shows_own name d)) (sym here) e

    pub own_hidden : is_bunch c.head.form ≡ true → Shows false
    own_hidden e = shows false (sym (ap (λ b. if b then false else has_own name (plain names c)) e))

    pub own_none : is_bunch c.head.form ≡ false → list_any (bytes_eq name) names ≡ false → Shows false
    own_none e none = shows false (sym (ap (λ b. if b then false else has_own name (plain names c)) e ∙ has_none none))

    pub own_some : is_bunch c.head.form ≡ false → (n : ℕ) → slice_get names n ≡ Some name → (b : Bool) → b ≡ is_some (lookup (eqb n) c.entries) → Shows b
    own_some e n found b is = shows b (is ∙ has_some n found ∙ sym (ap (λ b. if b then false else has_own name (plain names c)) e))

    abbrev Lists : Bool → Type 0
    Lists b = IfSome (slice_get s.cells i) (λ d. b ≡ list_any (bytes_eq name) (keys_of d))

    lists : (b : Bool) → b ≡ (is_listed c name && has_own name (plain names c)) → Lists b
    lists b e = subst (λ (x : Option PlainCell). IfSome x (λ d. b ≡ list_any (bytes_eq name) (keys_of d))) (sym here) (e ∙ sym (any_keys (plain names c) name))

    pub list_never : is_listed c name ≡ false → Lists false
    list_never e = lists false (sym (ap (λ b. b && has_own name (plain names c)) e))

    pub list_none : list_any (bytes_eq name) names ≡ false → Lists false
    list_none none = lists false (sym (ap (λ b. is_listed c name && b) (has_none none) ∙ and_false (is_listed c name)))

    pub list_some : is_listed c name ≡ true → (n : ℕ) → slice_get names n ≡ Some name → (b : Bool) → b ≡ is_some (lookup (eqb n) c.entries) → Lists b
    list_some e n found b is = lists b (is ∙ has_some n found ∙ sym (ap (λ b. b && has_own name (plain names c)) e))

  -- elements below an index
  pub shown_references : (n : ℕ) (b : Bool) → b ≡ list_any (is_reference_below names n) c.entries → IfSome (slice_get s.cells i) (λ d. b ≡ list_any (λ (p : List ℕ × Value). is_index_below n p.0 && is_reference p.1) d.pairs)
  shown_references n b e = subst (λ (x : Option PlainCell). IfSome x (λ d. b ≡ list_any (λ (p : List ℕ × Value). is_index_below n p.0 && is_reference p.1) d.pairs)) (sym here) (e ∙ any_named names n c.entries)

  pub shown_distinct : IsDistinct eqb (keys_of_map c.entries) → IfSome (slice_get s.cells i) (λ d. IsDistinct bytes_eq (map (λ (p : List ℕ × Value). p.0) d.pairs))
  shown_distinct h = subst (λ (x : Option PlainCell). IfSome x (λ d. IsDistinct bytes_eq (map (λ (p : List ℕ × Value). p.0) d.pairs))) (sym here) (named_distinct names shape.base.table c.entries known h)

  -- the length of an Array
  pub shown_length : (o : Option ℕ) → o ≡ (if is_array c.head.form then Some (numbered_length c.entries) else None) → IfSome (slice_get s.cells i) (λ d. o ≡ array_length d)
  shown_length o e = subst (λ (x : Option PlainCell). IfSome x (λ d. o ≡ array_length d)) (sym here) (e ∙ ap (λ n. if is_array c.head.form then Some n else None) (length_alike names shape.base.table shape.base.words c.entries known))

  -- an element of an Array
  abbrev Has : ℕ → Option Value → Type 0
  Has k o = IfSome (slice_get s.cells i) (λ d. o ≡ element k d)

  pub element_none : (k : ℕ) → is_array c.head.form ≡ false → Has k None
  element_none k e = subst (λ (x : Option PlainCell). IfSome x (λ d. None ≡ element k d)) (sym here) (sym (ap (λ b. if b then value_of (named names c.entries) (decimal k) else None) e))

  pub element_some : (k : ℕ) (o : Option Value) → k < 4294967295 → is_array c.head.form ≡ true → o ≡ numbered_element k c → Has k o
  element_some k o small e is = subst (λ (x : Option PlainCell). IfSome x (λ d. o ≡ element k d)) (sym here) (is ∙ element_named names shape.base.table c known ((fine_at names (length cs) cs i c shape.base.fine at).array e).indexed k small ∙ sym (ap (λ b. if b then value_of (named names c.entries) (decimal k) else None) e))

  -- the elements of an Array are noted, and those that refer to cells counted
  pub shown_counted : is_array c.head.form ≡ true → IsIndexed names (found_in c.elements) c.entries × (c.references ≡ references_in names c.entries)
  shown_counted a = let table = (fine_at names (length cs) cs i c shape.base.fine at).array a in (table.indexed, table.counted)
