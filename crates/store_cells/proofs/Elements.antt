-- The names of elements, and an Array as it grows.
use Rattle.std.proofs.Common.{◌≡◌, ℕ, zero, suc, ◌+◌, ◌<◌, ◌≤◌, ◌%◌, ◌^◌, List, [], ◌∷◌, ◌++◌, length, map, slice_get, take, refl, sym, ap, ◌∙◌, subst, Option, Some, arith, Bool, true, false, eqb, if◌then◌else◌, is_some}
use Rattle.std.specs.Prelude.{Result, Ok, Err, OnOk, ◌&&◌, nat_lt}
use Rattle.std.specs.Fmt.{decimal}
use Rattle.std.specs.List.{list_all}
use Rattle.std.specs.Map.{lookup}
use Rattle.std.specs.Option.{option_and_then, option_map_or}
use Rattle.std.specs.Str.{bytes_eq}
use Rattle.std.proofs.lemmas.Bool.Decides.{nat_tests}
use Rattle.std.proofs.lemmas.Fmt.{decimal_by_steps, decimal_injective}
use Rattle.std.proofs.lemmas.Option.{get_or_from_slice_get}
use Rattle.std.proofs.lemmas.Slice.Eq.{bytes_eq-Decides}
use Rattle.indexmap.specs.IndexMap.{insert_entry}
use Rattle.keyed_names.specs.Interned.{IsTable, Interns}
use Rattle.code_units.proofs.Indexed.{index_only}
use Rattle.keyed_names.proofs.Interning.{same_test, stays, longer}
use Rattle.store_cells.specs.declared.value.Value.{Value}
use Rattle.store_cells.specs.declared.value.Value.TheVariants as value
use Rattle.store_cells.specs.declared.cell.Head.{Head}
use Rattle.store_cells.specs.Cells.{PlainCell}
use Rattle.store_cells.specs.Arrays.{end_of, is_reference, length_in, length_name, count_value, written}
use Rattle.store_cells.specs.Born.{filled_cell}
use Rattle.store_cells.specs.Bunches.{array_pairs, elements}
use Rattle.store_cells.specs.Numbered.{NumberedCell, Grown, element_recounted, plain, named, found_in, numbered_written, references_in, refers_at}
use Rattle.store_cells.specs.Shape.{AreElements, AreEntries, AreRefs, AreWords, IsArrayOf, IsWellFormed, IsIndexed, Known}
use Rattle.store_cells.proofs.Entries.{ref_more}
use Rattle.store_cells.proofs.Indexed.{indexed_written, indexed_none, indexed_stay}
use Rattle.store_cells.proofs.Lists.{none_some, some_same}
use Rattle.store_cells.proofs.Referring.{references_stay, referring_written}
use Rattle.store_cells.proofs.Look.{look, insert_named}
use Rattle.store_cells.proofs.Writes.{count_length, length_here, named_stay, zero_within}

false_true : false ≡ true → ⊥
false_true g = cc

below_58 : (n : ℕ) → n < 58 → nat_lt n 58 ≡ true
below_58 n lt = grind (arith, nat_tests, lt)

all_push : (ds : List ℕ) (d : ℕ) → list_all (λ u. nat_lt u 58) ds ≡ true → d < 58 → list_all (λ u. nat_lt u 58) (ds ++ d ∷ []) ≡ true
all_push [] d h lt = ap (λ b. b && true) (below_58 d lt)
all_push (x ∷ ds) d h lt = by (nat_lt x 58) h (all_push ds d)
  where
    by : (b : Bool) → (b && list_all (λ u. nat_lt u 58) ds) ≡ true → (list_all (λ u. nat_lt u 58) ds ≡ true → d < 58 → list_all (λ u. nat_lt u 58) (ds ++ d ∷ []) ≡ true) → (b && list_all (λ u. nat_lt u 58) (ds ++ d ∷ [])) ≡ true
    by true h rest = rest h lt
    by false h rest = absurd (false_true h)

digit_below : (n : ℕ) → 48 + n % 10 < 58
digit_below n = omega arith

all_digits : (n : ℕ) → n < 2 ^ 64 → list_all (λ u. nat_lt u 58) (decimal n) ≡ true
all_digits n lt =
    decimal_by_steps (λ _ ds. list_all (λ u. nat_lt u 58) ds ≡ true) (λ k small. ap (λ b. b && true) (below_58 (48 + k) (omega (arith, small)))) (λ k ds ge h. all_push ds (48 + k % 10) h (digit_below k)) n lt

-- the name of an element is not `length`
pub element_length : (n : ℕ) → n < 2 ^ 64 → bytes_eq (decimal n) length_name ≡ false
element_length n lt = by (bytes_eq (decimal n) length_name) refl
  where
    by : (b : Bool) → bytes_eq (decimal n) length_name ≡ b → b ≡ false
    by false e = refl
    by true e = absurd (false_true (subst (λ (t : List ℕ). list_all (λ u. nat_lt u 58) t ≡ true) ((bytes_eq-Decides (decimal n) length_name).0 e) (all_digits n lt)))

-- the names of two elements differ
pub elements_apart : (m n : ℕ) → m < 2 ^ 64 → n < 2 ^ 64 → (m ≡ n → ⊥) → bytes_eq (decimal m) (decimal n) ≡ false
elements_apart m n lm ln apart = by (bytes_eq (decimal m) (decimal n)) refl
  where
    by : (b : Bool) → bytes_eq (decimal m) (decimal n) ≡ b → b ≡ false
    by false e = refl
    by true e = absurd (apart (decimal_injective m n lm ln ((bytes_eq-Decides (decimal m) (decimal n)).0 e)))

-- one more element
insert_last : (k n : ℕ) (vs : List Value) (v : Value) → n ≡ k + length vs → n < 2 ^ 64 → insert_entry bytes_eq (elements k vs) (decimal n) v ≡ elements k (vs ++ v ∷ [])
insert_last k n [] v is lt = ap (λ m. (decimal m, v) ∷ []) (omega (arith, is))
insert_last k n (x ∷ vs) v is lt =
    ap (λ b. if b then (decimal k, v) ∷ elements (suc k) vs else (decimal k, x) ∷ insert_entry bytes_eq (elements (suc k) vs) (decimal n) v) (elements_apart n k lt (omega (arith, is, lt)) (λ e. absurd (omega (arith, is, e))))
    ∙ ap (λ es. (decimal k, x) ∷ es) (insert_last (suc k) n vs v (omega (arith, is)) lt)

pub insert_element : (n count : ℕ) (vs : List Value) (v : Value) → n ≡ length vs → n < 2 ^ 64 → insert_entry bytes_eq ((length_name, count_value count) ∷ elements 0 vs) (decimal n) v ≡ (length_name, count_value count) ∷ elements 0 (vs ++ v ∷ [])
insert_element n count vs v is lt =
    ap (λ b. if b then (length_name, v) ∷ elements 0 vs else (length_name, count_value count) ∷ insert_entry bytes_eq (elements 0 vs) (decimal n) v) (element_length n lt)
    ∙ ap (λ es. (length_name, count_value count) ∷ es) (insert_last 0 n vs v (omega (arith, is)) lt)

-- an element is an index
pub element_end : (k : ℕ) → k < 4294967295 → k + 1 ≡ end_of (decimal k)
element_end k lt = ap (λ (o : Option ℕ). option_map_or (λ i. i + 1) o 0) (sym (index_only (decimal k) k lt refl))

-- known numbers
pub known_longer : (m n : ℕ) (es : List (ℕ × Value)) → m ≤ n → Known m es → Known n es
known_longer m n [] le h = tt
known_longer m n (e ∷ es) le h = (omega (arith, h.0, le), known_longer m n es le h.1)

pub known_insert : (m n : ℕ) (v : Value) (es : List (ℕ × Value)) → Known m es → n < m → Known m (insert_entry eqb es n v)
known_insert m n v [] h lt = (lt, tt)
known_insert m n v (e ∷ es) h lt = by (eqb n e.0) (known_insert m n v es h.1 lt)
  where
    by : (b : Bool) → Known m (insert_entry eqb es n v) → Known m (if b then (e.0, v) ∷ es else e ∷ insert_entry eqb es n v)
    by true r = h
    by false r = (h.0, r)

pub known_refs : (names : List (List ℕ)) (n size : ℕ) (es : List (ℕ × Value)) → Known n es → AreRefs size (named names es) → AreEntries n size es
known_refs names n size [] h r = tt
known_refs names n size (e ∷ es) h r = ((h.0, r.0), known_refs names n size es h.1 r.1)

-- a value is written under a name of a new cell
module _ (old new : List (List ℕ)) (name : List ℕ) (n end : ℕ) (is : Interns old new name n) (table : IsTable new) (c : NumberedCell) (v : Value) (known : Known (length old) c.entries) where
  pub reference_grown : Grown old new
  reference_grown = record {
    longer = longer old new name is.table;
    kept = stays old new name is.table;
  }

  pub reference_known : {E : Type 0} (r : Result (Unit {0}) E) (after : NumberedCell) → OnOk r (after ≡ numbered_written n v end c) → OnOk r (Known (length new) after.entries)
  reference_known (Ok u) after e = subst (λ (x : NumberedCell). Known (length new) x.entries) (sym e) (known_insert (length new) n v c.entries (known_longer (length old) (length new) c.entries (longer old new name is.table) known) is.within)
  reference_known (Err u) after e = tt

  pub reference_indexed : {E : Type 0} (r : Result (Unit {0}) E) (after : NumberedCell) → OnOk r (after ≡ numbered_written n v end c) → OnOk r (end ≡ end_of name → IsIndexed old (found_in c.elements) c.entries → IsIndexed new (found_in after.elements) after.entries)
  reference_indexed (Ok u) after e = λ is_end h.
      let more = known_longer (length old) (length new) c.entries (longer old new name is.table) known in
      subst (λ (x : NumberedCell). IsIndexed new (found_in x.elements) x.entries) (sym e)
      (indexed_written new table n is.within c.elements end v c.entries more (is_end ∙ ap end_of (sym (get_or_from_slice_get new n name [] is.found))) (indexed_stay old new (stays old new name is.table) (found_in c.elements) c.entries known h))
  reference_indexed (Err u) after e = tt

  pub reference_counted : {E : Type 0} (r : Result (Unit {0}) E) (after : NumberedCell) → OnOk r (after ≡ numbered_written n v end c) → OnOk r (end ≡ end_of name → c.references ≡ references_in old c.entries → after.references ≡ references_in new after.entries)
  reference_counted (Ok u) after e = λ is_end h.
      subst (λ (x : NumberedCell). x.references ≡ references_in new x.entries) (sym e)
      (ap (element_recounted end (refers_at n c.entries) (is_reference v)) (h ∙ sym (references_stay old new (stays old new name is.table) c.entries known))
      ∙ referring_written new n end v c.entries (is_end ∙ ap end_of (sym (get_or_from_slice_get new n name [] is.found))))
  reference_counted (Err u) after e = tt

  pub reference_done : {E : Type 0} (r : Result (Unit {0}) E) (after : NumberedCell) → OnOk r (after ≡ numbered_written n v end c) → OnOk r (plain new after ≡ written name v (plain old c))
  reference_done (Ok u) after e =
      let p = insert_named new name n (same_test new name n table is.found) c.entries v (known_longer (length old) (length new) c.entries (longer old new name is.table) known) (get_or_from_slice_get new n name [] is.found) in
      let q = named_stay old new (longer old new name is.table) (stays old new name is.table) c.entries known in
      ap (plain new) e ∙ (λ j. record { owner = c.head.owner; form = c.head.form; up = c.head.up; pairs = p j }) ∙ ap (λ (ps : List (List ℕ × Value)). let d : PlainCell = record { owner = c.head.owner; form = c.head.form; up = c.head.up; pairs = insert_entry bytes_eq ps name v } in d) q
  reference_done (Err u) after e = tt

pub grown_then : (a b c : List (List ℕ)) → Grown a b → Grown b c → Grown a c
grown_then a b c g h = record {
  longer = omega (arith, g.longer, h.longer);
  kept = λ k lt. h.kept k (omega (arith, lt, g.longer)) ∙ g.kept k lt;
}

-- an Array without elements
pub array_none : (names : List (List ℕ)) (h : Head) (count : ℕ) (first c : NumberedCell) → IsTable names → AreWords names → first ≡ record { head = h; elements = []; references = 0; entries = [] } → c ≡ numbered_written 0 (count_value count) 0 first → IsArrayOf names h count [] c
array_none names h count first c table words is e = record {
  head = ap (λ (x : NumberedCell). x.head) here;
  indexed = subst (λ (x : NumberedCell). IsIndexed names (found_in x.elements) x.entries) (sym here) (indexed_written names table 0 (zero_within names table words) [] 0 (count_value count) [] tt (ap end_of (sym (length_here names table words))) (indexed_none names));
  counted = subst (λ (x : NumberedCell). x.references ≡ references_in names x.entries) (sym here) (referring_written names 0 0 (count_value count) [] (ap end_of (sym (length_here names table words))));
  known = subst (λ (x : NumberedCell). Known (length names) x.entries) (sym here) (zero_within names table words, tt);
  pairs = ap (λ (x : NumberedCell). named names x.entries) here ∙ ap (λ t. (t, count_value count) ∷ []) (length_here names table words);
}
  where
    here : c ≡ numbered_written 0 (count_value count) 0 (record { head = h; elements = []; references = 0; entries = [] })
    here = e ∙ ap (numbered_written 0 (count_value count) 0) is

-- the Array with one element more
take_more : (vs : List Value) (k : ℕ) (v : Value) → slice_get vs k ≡ Some v → take (suc k) vs ≡ take k vs ++ v ∷ []
take_more [] k v at = absurd (none_some at)
take_more (x ∷ vs) zero v at = ap (λ y. y ∷ []) (some_same x v at)
take_more (x ∷ vs) (suc k) v at = ap (λ l. x ∷ l) (take_more vs k v at)

length_take : (vs : List Value) (k : ℕ) → k ≤ length vs → length (take k vs) ≡ k
length_take vs zero le = refl
length_take [] (suc k) le = absurd (omega (arith, le))
length_take (x ∷ vs) (suc k) le = ap suc (length_take vs k (omega (arith, le)))

pub array_more : (old new : List (List ℕ)) (h : Head) (count : ℕ) (vs : List Value) (k : ℕ) (v : Value) (name : List ℕ) (c after : NumberedCell) → IsArrayOf old h count (take k vs) c → k < length vs → k < 2 ^ 64 → name ≡ decimal k → slice_get vs k ≡ Some v → Known (length new) after.entries → after.head ≡ c.head → IsIndexed new (found_in after.elements) after.entries → after.references ≡ references_in new after.entries → plain new after ≡ written name v (plain old c)
    → IsArrayOf new h count (take (k + 1) vs) after
array_more old new h count vs k v name c after is lt small at found known head indexed counted done = record {
  head = head ∙ is.head;
  indexed = indexed;
  counted = counted;
  known = known;
  pairs =
      ap (λ (p : PlainCell). p.pairs) done ∙ (λ j. insert_entry bytes_eq (is.pairs j) (at j) v) ∙ insert_element k count (take k vs) v (sym (length_take vs k (omega (arith, lt)))) small
      ∙ ap (λ l. (length_name, count_value count) ∷ elements 0 l) (sym (take_more vs k v found) ∙ ap (λ n. take n vs) (sym more));
}
  where
    more : k + 1 ≡ suc k
    more = omega arith

-- a whole Array
pub whole_array : (names : List (List ℕ)) (h : Head) (count k : ℕ) (vs : List Value) (c : NumberedCell) → length vs ≤ k → IsArrayOf names h count (take k vs) c → IsArrayOf names h count vs c
whole_array names h count k vs c le is = subst (λ (l : List Value). IsArrayOf names h count l c) (all vs k le) is
  where
    all : (vs : List Value) (k : ℕ) → length vs ≤ k → take k vs ≡ vs
    all [] zero le = refl
    all [] (suc k) le = refl
    all (x ∷ vs) zero le = absurd (omega (arith, le))
    all (x ∷ vs) (suc k) le = ap (λ l. x ∷ l) (all vs k (omega (arith, le)))

-- each is under a bound
abbrev pub AllUnder : ℕ → List ℕ → Type 0
AllUnder size [] = Unit {0}
AllUnder size (r ∷ rs) = (r < size) × AllUnder size rs

pub under_elements : (size : ℕ) (rs : List ℕ) → AllUnder size rs → AreElements size (map value.Ref rs)
under_elements size [] h = tt
under_elements size (r ∷ rs) h = (h.0, under_elements size rs h.1)

pub elements_more : (m n : ℕ) (vs : List Value) → m ≤ n → AreElements m vs → AreElements n vs
elements_more m n [] le h = tt
elements_more m n (v ∷ vs) le h = (ref_more m n v le h.0, elements_more m n vs le h.1)

-- a whole Array is fine
pub refs_elements : (size k : ℕ) (vs : List Value) → AreElements size vs → AreRefs size (elements k vs)
refs_elements size k [] h = tt
refs_elements size k (v ∷ vs) h = (h.0, refs_elements size (suc k) vs h.1)

pub array_fine : (names : List (List ℕ)) (size : ℕ) (h : Head) (count : ℕ) (vs : List Value) (c : NumberedCell) → IsTable names → AreWords names → length vs ≤ 4294967295 → count ≤ 4294967295 → AreElements size vs → IsArrayOf names h count vs c → IsWellFormed names size c
array_fine names size h count vs c table words few le refs is = record {
  entries = known_refs names (length names) size c.entries is.known (subst (AreRefs size) (sym is.pairs) (tt, refs_elements size 0 vs refs));
  array = λ a. record {
    length = ap (λ (o : Option Value). is_some (option_and_then length_in o)) (look names length_name 0 (same_test names length_name 0 table words.length) c.entries is.known ∙ ap (lookup (bytes_eq length_name)) is.pairs) ∙ ap is_some (count_length count le);
    indexed = is.indexed;
    counted = is.counted;
  };
}

pub array_plain : (names : List (List ℕ)) (h : Head) (count : ℕ) (vs : List Value) (c : NumberedCell) → count ≡ length vs → IsArrayOf names h count vs c → plain names c ≡ filled_cell h (array_pairs vs)
array_plain names h count vs c same is =
    let p = is.pairs ∙ ap (λ n. (length_name, count_value n) ∷ elements 0 vs) same in
    λ j. record { owner = (is.head j).owner; form = (is.head j).form; up = (is.head j).up; pairs = p j }
