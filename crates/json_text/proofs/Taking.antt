-- Objects and arrays take one more property.
use Rattle.std.proofs.Common.{drop, get_or, add-one, drop-cons, ◌≡◌, ℕ, zero, suc, ◌+◌, ◌<◌, ◌≤◌, max, List, [], ◌∷◌, ◌++◌, length, refl, sym, ap, ◌∙◌, Some, None, Bool, true, false, arith, cond, if◌then◌else◌, map}
use Rattle.std.specs.Prelude.{◌^◌}
use Rattle.std.specs.Fmt.{decimal}
use Rattle.std.specs.List.{AllByRecursion}
use Rattle.std.specs.List.Sorted.{IsStrictlySortedBy}
use Rattle.std.specs.Map.{keys_of}
use Rattle.std.specs.Str.{bytes_eq}
use Rattle.std.specs.String.{string_cmp}
use Rattle.std.specs.Prelude.{string_bytes}
use Rattle.std.proofs.Common.{Less}
use Rattle.std.specs.Ordering.{is_eq, nat_cmp}
use Rattle.std.specs.Cmp.Lexicographic.{slice_cmp}
use Rattle.std.proofs.lemmas.Str.{IsUtf8-string_bytes}
use Rattle.std.proofs.lemmas.Map.Text.{is_eq-slice_cmp}
use Rattle.serde_json.proofs.Views.{Entry}
use Rattle.std.proofs.lemmas.List.{length-append, map-append}
use Rattle.std.proofs.lemmas.Slice.Eq.{bytes_eq-Decides}
use Rattle.code_units.specs.Indices.{index_of}
use Rattle.code_units.specs.Utf8.{units_of, utf8_of}
use Rattle.code_units.proofs.Indexed.{index_only}
use Rattle.code_units.proofs.RoundTrip.{utf8_of-units_of}
use Rattle.store_cells.proofs.Elements.{element_length, elements_apart}
use Rattle.widget_meaning.specs.Values.{Undefined, Value}
use Rattle.widget_meaning.specs.OwnState as state
use Rattle.widget_meaning.specs.OwnState.{Cell, Pairs, State, lookup, new_array, plain_object, with_cell}
use Rattle.widget_meaning.specs.Costs.{give, slots_cost, sum, with_counts}
use Rattle.widget_meaning.specs.Properties.{index_name, put_index, put_length}
use Rattle.json_text.proofs.Born.{Takes, put_pair_is}

false_true : false ≡ true → ⊥
false_true h = cc

-- ## Objects

-- an object takes a name that it does not have
pub object_takes : (ps : Pairs) (x : List ℕ) → lookup ps x ≡ None → Takes plain_object ps x
object_takes ps x none = record { shape = λ qs. refl; put = λ v n t u e. put_pair_is (plain_object ps) n x v t u none e }

-- none of the pairs has a name that differs from theirs
pub absent : (ps : Pairs) (x : List ℕ) → AllByRecursion (λ (p : List ℕ × Value). bytes_eq x p.0 ≡ false) ps → lookup ps x ≡ None
absent [] x h = refl
absent (p ∷ ps) x h = ap (λ b. cond b (Some p.1) (lookup ps x)) h.0 ∙ absent ps x h.1

-- ## Arrays

abbrev pub array_form : Pairs → Cell
array_form ps = new_array (length ps) ps

-- pairs of an array up to an index
pub record AreBelow (i : ℕ) (ps : Pairs) : Type 0 where
  pub count : length ps ≡ i
  pub misses : (j : ℕ) → i ≤ j → j < 4294967295 → lookup ps (index_name j) ≡ None

pub none_below : AreBelow 0 []
none_below = record { count = refl; misses = λ j low high. refl }

looked_past : (ps : Pairs) (y x : List ℕ) (v : Value) → lookup ps x ≡ None → bytes_eq x y ≡ false → lookup (ps ++ (y, v) ∷ []) x ≡ None
looked_past [] y x v h other = ap (λ b. cond b (Some v) None) other
looked_past (p ∷ ps) y x v h other = by (λ g. looked_past ps y x v g other) (bytes_eq x p.0) refl
  where
    some_none : {A : Type 0} {a : A} → Some a ≡ None → ⊥
    some_none e = cc

    by : (lookup ps x ≡ None → lookup (ps ++ (y, v) ∷ []) x ≡ None) → (b : Bool) → bytes_eq x p.0 ≡ b → cond (bytes_eq x p.0) (Some p.1) (lookup (ps ++ (y, v) ∷ []) x) ≡ None
    by again true e = absurd (some_none (sym (ap (λ b. cond b (Some p.1) (lookup ps x)) e) ∙ h))
    by again false e = ap (λ b. cond b (Some p.1) (lookup (ps ++ (y, v) ∷ []) x)) e ∙ again (sym (ap (λ b. cond b (Some p.1) (lookup ps x)) e) ∙ h)

pub one_below : (i : ℕ) (ps : Pairs) (v : Value) → i < 4294967295 → AreBelow i ps → AreBelow (i + 1) (ps ++ (index_name i, v) ∷ [])
one_below i ps v lt h = record {
  count = omega (arith, length-append ps ((index_name i, v) ∷ []), h.count);
  misses = λ j low high. looked_past ps (index_name i) (index_name j) v (h.misses j (omega (arith, low)) high) (elements_apart j i (small j high) (small i lt) (λ e. omega (arith, low, e)));
}
  where
    small : (j : ℕ) → j < 4294967295 → j < 2 ^ 64
    small j h = omega (arith, h)

-- an array takes the element at its end
pub array_takes : (i : ℕ) (ps : Pairs) → i < 4294967295 → AreBelow i ps → Takes array_form ps (index_name i)
array_takes i ps lt h = record {
  shape = λ qs. refl;
  put = λ v n t u e. raised_is v n t u (put_pair_is (record (array_form ps) { kind = state.Array (max (length ps) (i + 1)) }) n (index_name i) v t u (h.misses i (omega arith) lt)
      (sym (ap (λ o. put_index o (array_form ps) (length ps) n (index_name i) v t (give Undefined)) (index_only (decimal i) i lt refl))
      ∙ sym (ap (λ b. if b then put_length v (array_form ps) n t (give Undefined) else put_index (index_of (index_name i)) (array_form ps) (length ps) n (index_name i) v t (give Undefined)) (element_length i (omega (arith, lt)))) ∙ e));
}
  where
    top : (v : Value) → max (length ps) (i + 1) ≡ length (ps ++ (index_name i, v) ∷ [])
    top v = omega (arith, h.count, length-append ps ((index_name i, v) ∷ []))

    raised_is : (v : Value) (n : ℕ) (t u : State) → u ≡ with_cell (with_counts t (sum t.own.counts (slots_cost 1))) n (record (array_form ps) { kind = state.Array (max (length ps) (i + 1)); pairs = ps ++ (index_name i, v) ∷ [] })
        → u ≡ with_cell (with_counts t (sum t.own.counts (slots_cost 1))) n (array_form (ps ++ (index_name i, v) ∷ []))
    raised_is v n t u e = e ∙ ap (λ l. with_cell (with_counts t (sum t.own.counts (slots_cost 1))) n (new_array l (ps ++ (index_name i, v) ∷ []))) (top v)

-- ## The names of an object

-- pairs have the names of these members
pub HasNames : List Entry → Pairs → Type 0
HasNames done ps = map (λ p. p.0) ps ≡ map (λ (e : Entry). units_of (string_bytes e.0)) done

-- a name that is none of those before it
pub other_names : (done : List Entry) (ps : Pairs) (x : List ℕ) → HasNames done ps → AllByRecursion (λ (e : Entry). units_of (string_bytes e.0) ≡ x → ⊥) done → lookup ps x ≡ None
unfolding HasNames
other_names [] [] x h others = refl
other_names [] (p ∷ ps) x h others = cc
other_names (e ∷ done) [] x h others = cc
other_names (e ∷ done) (p ∷ ps) x h others =
    let first : p.0 ≡ units_of (string_bytes e.0) = cc in
    let rest : map (λ (q : List ℕ × Value). q.0) ps ≡ map (λ (d : Entry). units_of (string_bytes d.0)) done = cc in
    by (λ same. others.0 (sym first ∙ sym same)) (other_names done ps x rest others.1) (bytes_eq x p.0) refl
  where
    by : (x ≡ p.0 → ⊥) → lookup ps x ≡ None → (b : Bool) → bytes_eq x p.0 ≡ b → cond (bytes_eq x p.0) (Some p.1) (lookup ps x) ≡ None
    by apart none true same = absurd (apart ((bytes_eq-Decides x p.0).0 same))
    by apart none false same = ap (λ b. cond b (Some p.1) (lookup ps x)) same ∙ none

-- one more name
pub more_names : (done : List Entry) (e : Entry) (ps : Pairs) (v : Value) → HasNames done ps → HasNames (done ++ e ∷ []) (ps ++ (units_of (string_bytes e.0), v) ∷ [])
unfolding HasNames
more_names done e ps v h = map-append (λ (p : List ℕ × Value). p.0) ps ((units_of (string_bytes e.0), v) ∷ []) ∙ ap (λ l. l ++ units_of (string_bytes e.0) ∷ []) h ∙ sym (map-append (λ (d : Entry). units_of (string_bytes d.0)) done (e ∷ []))

pub no_names : HasNames [] []
unfolding HasNames
no_names = refl

-- keys of a map differ, and so do their units
below_last : (done : List Entry) (e : Entry) (more : List Entry) → IsStrictlySortedBy string_cmp (keys_of (done ++ e ∷ more)) → AllByRecursion (λ (d : Entry). string_cmp d.0 e.0 ≡ Less) done
unfolding IsStrictlySortedBy
below_last [] e more h = tt
below_last (d ∷ done) e more h = (middle done h.0, below_last done e more h.1)
  where
    middle : (ds : List Entry) → AllByRecursion (λ k. string_cmp d.0 k ≡ Less) (keys_of (ds ++ e ∷ more)) → string_cmp d.0 e.0 ≡ Less
    middle [] g = g.0
    middle (x ∷ ds) g = middle ds g.1

pub names_differ : (done : List Entry) (e : Entry) (more : List Entry) → IsStrictlySortedBy string_cmp (keys_of (done ++ e ∷ more)) → AllByRecursion (λ (d : Entry). units_of (string_bytes d.0) ≡ units_of (string_bytes e.0) → ⊥) done
names_differ done e more h = by done (below_last done e more h)
  where
    self : (bs : List ℕ) → slice_cmp nat_cmp bs bs ≡ Less → ⊥
    self bs g = false_true (sym (ap is_eq g) ∙ is_eq-slice_cmp bs bs ∙ (bytes_eq-Decides bs bs).1 refl)

    by : (ds : List Entry) → AllByRecursion (λ (d : Entry). string_cmp d.0 e.0 ≡ Less) ds → AllByRecursion (λ (d : Entry). units_of (string_bytes d.0) ≡ units_of (string_bytes e.0) → ⊥) ds
    by [] g = tt
    by (d ∷ ds) g = (λ same. self (string_bytes e.0) (ap (λ bs. slice_cmp nat_cmp bs (string_bytes e.0)) (sym (utf8_of-units_of (string_bytes e.0) (IsUtf8-string_bytes e.0)) ∙ ap utf8_of (sym same) ∙ utf8_of-units_of (string_bytes d.0) (IsUtf8-string_bytes d.0)) ∙ g.0), by ds g.1)

-- ## What is left of a list

pub drop_item : {X : Type 0} (xs : List X) (i : ℕ) (x : X) → i < length xs → x ≡ get_or xs i x → drop i xs ≡ x ∷ drop (i + 1) xs
drop_item xs i x lt is = rw (add-one, drop-cons xs i x) (ap (λ y. y ∷ drop (suc i) xs) (sym is))

pub drop_end : {X : Type 0} (xs : List X) (i : ℕ) → length xs ≤ i → drop i xs ≡ []
drop_end [] zero h = refl
drop_end [] (suc i) h = refl
drop_end (x ∷ xs) zero h = absurd (omega (arith, h))
drop_end (x ∷ xs) (suc i) h = drop_end xs i (omega (arith, h))
