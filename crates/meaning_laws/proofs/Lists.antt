-- The methods of arrays and the prototypes keep what is there.
use Rattle.meaning_laws.proofs.Values.{also, nan_is, told, both_names, filtered_names, numbered_names, undefined_is, truth_is, num_is, text_is, no_values, more_values, both_values, taken_values, left_values, nth_is, no_value, both_pairs, filtered_pairs, numbered_are, element_is, value_end, call_job}
use Rattle.std.proofs.lemmas.List.FromFn.{length-map-range_with_len}
use Rattle.widget_meaning.specs.NativeForms.{element, elements, numbered_pairs, make_array, from_end, clamped}
use Rattle.std.specs.Prelude.{ℕ, zero, suc, ℤ, ◌+◌, List, [], ◌∷◌, ◌++◌, Option, Some, int_le, unsigned_abs, negsuc, ◌%◌, ◌≡◌, None, if◌then◌else◌, zip, codes, pos, not, nat_lt, ◌-◌, slice_range, is_none}
use Rattle.widget_meaning.specs.Values.{Value, Undefined, Num, Truth, NaN, Null, Text, Own, Host, Is, nth, to_number, to_text, is_object, E3, E4, E7}
use Rattle.widget_meaning.specs.OwnState.{State, Pairs, Cell, cell_at, plain_object, new_array, with_cell, with_new_cell, array_length, kind_of}
use Rattle.widget_meaning.specs.Plan.{Plan}
use Rattle.permitted_table.specs.declared.native.ListNative.{ListNative}
use Rattle.permitted_table.specs.declared.native.ListNative.TheVariants.{ListConcat, Join, Pop, Push, Shift, Unshift, Reverse, Sort, ListSlice, Splice, ForEach, MapNative, FilterNative}
use Rattle.permitted_table.specs.declared.native.PrototypeNative.{PrototypeNative}
use Rattle.permitted_table.specs.declared.native.PrototypeNative.TheVariants.{HasOwnProperty, ObjectToString, ArrayToString, FunctionToString, TextToString, NumberToString, BooleanToString}
use Rattle.widget_meaning.specs.ListChanges.{pop, push, shift, unshift, reverse, sort, splice, change, without_order, spliced, splice_count, new_indexes, list_extra, with_elements, pushed, put_in, sorted, is_before, array_elements}
use Rattle.widget_meaning.specs.ListNatives.{join, list_concat, list_slice, call_each, over, list_method, list_native, kept, joined_text, separator}
use Rattle.widget_meaning.specs.PrototypeNatives.{has_own_property, give_made, function_to_string, array_to_string, in_radix, number_to_string, boolean_to_string, prototype_native, is_radix, number_text}
use Rattle.std.proofs.Common.{◌<◌, ◌≤◌, length, Bool, true, false, refl, sym, ap, subst, arith, take, drop}
use Rattle.std.specs.Prelude as std
use Rattle.std.specs.List.{list_any, join_by, filter, AllByRecursion}
use Rattle.widget_meaning.specs.Limits.{max_length, past_numbers, max_slots, min_radix, max_radix}
use Rattle.std.proofs.lemmas.Bool.{ltb-false, and_parts, leb-true}
use Rattle.std.proofs.lemmas.List.{length-append, reverse-append}
use Rattle.widget_meaning.specs.Properties.{index_of, is_below, cut_to, is_function}
use Rattle.meaning_laws.proofs.Forms.{less_room, elements_are, write_cell, array_put, array_is}
use Rattle.meaning_laws.proofs.Natives.{numbered_length, numbered_fit, give_text_r, make_array_r, on_array_r, on_object_r, on_text_r, want_function_r, with_number_r, with_optional_r}
use Rattle.meaning_laws.proofs.Steps.{by_test, R, Keeps, ended, job, value, charged, paid, made_text, faulted, wanted, lowered, born, born_grows, is_born, with_one, written}
use Rattle.std.specs.Int.{is_negative}
use Rattle.std.proofs.Math.Nat.{mod-lt}
use Rattle.std.specs.Option.{option_map_or}
use Rattle.widget_meaning.specs.Costs.{with_counts, give}
use Rattle.meaning_laws.proofs.Each.{each_both, each_filtered, each_mapped, each_piece, each_first, at_old}
use Rattle.meaning_laws.specs.Texts.{AreUnits, IsOrdinaryValue}
use Rattle.meaning_laws.proofs.Units.{tested, units_tested, made_is, both_units, digits_are, joined_is, to_text_is}
use Rattle.meaning_laws.specs.There.{Sizes, Grows, Told, CellFits, ValueIs, ValuesAre, MaybeIs, CellIs}
use Rattle.meaning_laws.proofs.Later.{same_size, through, value_later, values_later, cell_later}

less : (i m n : ℕ) → i < m → m ≤ n → i < n
less i m n l h = omega arith

each_reversed : (P : Value → Type 0) (vs : List Value) → AllByRecursion P vs → AllByRecursion P (std.reverse vs)
each_reversed P [] h = tt
each_reversed P (v ∷ vs) h = subst (AllByRecursion P) (sym (reverse-append (v ∷ []) vs)) (each_both P (std.reverse vs) (v ∷ []) (each_reversed P vs h.1) (h.0, tt))

module _ (m : Sizes) where
  each_put_in : (v : Value) (vs : List Value) → ValueIs m v → AllByRecursion (ValueIs m) vs → AllByRecursion (ValueIs m) (put_in v vs)
  each_put_in v [] h k = (h, tt)
  each_put_in v (w ∷ ws) h k = by (is_before w v) (each_put_in v ws h k.1)
    where
      by : (b : Bool) → AllByRecursion (ValueIs m) (put_in v ws) → AllByRecursion (ValueIs m) (if b then w ∷ put_in v ws else v ∷ w ∷ ws)
      by true e = (k.0, e)
      by false e = (h, k)

  each_sorted : (vs : List Value) → AllByRecursion (ValueIs m) vs → AllByRecursion (ValueIs m) (sorted vs)
  each_sorted [] h = tt
  each_sorted (v ∷ vs) h = each_put_in v (sorted vs) h.0 (each_sorted vs h.1)

  chosen_are : (vs ws : List Value) → ValuesAre m vs → ValuesAre m (kept vs ws)
  chosen_are vs ws h = record { each = each_mapped {A = Value × Value} (λ p. ValueIs m p.0) (ValueIs m) (λ p. p.0) (λ p q. q) _ (each_filtered {A = Value × Value} (λ p. ValueIs m p.0) _ (zip vs ws) (each_first (ValueIs m) vs ws h.each)) }

  pieces_are : (s : State) → R m s → (v : Value) → ValueIs m v → AllByRecursion (ValueIs m) (array_elements s v)
  pieces_are s h Undefined q = (q, tt)
  pieces_are s h Null q = (q, tt)
  pieces_are s h (Truth b) q = (q, tt)
  pieces_are s h NaN q = (q, tt)
  pieces_are s h (Num z) q = (q, tt)
  pieces_are s h (Text t) q = (q, tt)
  pieces_are s h (Host e) q = (q, tt)
  pieces_are s h (Own n) q = by (array_length (kind_of s (Own n)))
    where
      by : (o : Option ℕ) → AllByRecursion (ValueIs m) (option_map_or (elements s n) o (Own n ∷ []))
      by None = (q, tt)
      by (Some len) = (elements_are m s n len h).each

  with_elements_is : (s : State) (n : ℕ) (vs : List Value) → R m s → ValuesAre m vs → CellIs m (with_elements (cell_at s n) vs)
  with_elements_is s n vs h k = array_put m (cell_at s n) _ _ (h.there.objects n) (both_pairs m _ _ (filtered_pairs m _ _ (h.there.objects n).pairs) (numbered_are m 0 vs k)) (both_names m _ _ (filtered_names m _ _ (h.there.objects n).names) (numbered_names m 0 vs))

two_filters : (ps : Pairs) (len : ℕ) → length (filter (λ p. is_none (index_of p.0)) ps) + length (filter (λ p. is_below len false p.0) ps) ≤ length ps
two_filters [] len = omega arith
two_filters (p ∷ ps) len = by (index_of p.0) (two_filters ps len)
  where
    either : (b : Bool) → length (filter (λ q. is_none (index_of q.0)) ps) + length (filter (λ q. is_below len false q.0) ps) ≤ length ps
        → length (filter (λ q. is_none (index_of q.0)) ps) + length (if b then p ∷ filter (λ q. is_below len false q.0) ps else filter (λ q. is_below len false q.0) ps) ≤ suc (length ps)
    either true e = omega (arith, e)
    either false e = omega (arith, e)

    by : (o : Option ℕ) → length (filter (λ q. is_none (index_of q.0)) ps) + length (filter (λ q. is_below len false q.0) ps) ≤ length ps
        → length (if is_none o then p ∷ filter (λ q. is_none (index_of q.0)) ps else filter (λ q. is_none (index_of q.0)) ps)
        + length (if option_map_or (λ i. nat_lt i len) o false then p ∷ filter (λ q. is_below len false q.0) ps else filter (λ q. is_below len false q.0) ps) ≤ length (p ∷ ps)
    by None e = omega (arith, e)
    by (Some i) e = either (nat_lt i len) e

elements_fit : (c : Cell) (vs : List Value) (k a : ℕ) → length c.pairs ≤ k → k + new_indexes c (length vs) ≤ a → a ≤ max_slots → CellFits a (with_elements c vs)
elements_fit c vs k a h l i = record {
  room = omega (arith, h, l, two_filters c.pairs (length vs), numbered_length 0 vs, length-append (filter (λ p. is_none (index_of p.0)) c.pairs) (numbered_pairs 0 vs));
  len = omega (arith, h, l, i, two_filters c.pairs (length vs));
  count = tt;
}

first_part : (k a b c : ℕ) → k + (a + b) ≤ c → k + a ≤ c
first_part k a b c h = omega (arith, h)

last_part : (k a b c : ℕ) → k + (a + b) ≤ c → k + b ≤ c
last_part k a b c h = omega (arith, h)

pub change_r : (m : Sizes) (x0 : ℕ) (x1 : List Value) (x2 : Value) (x3 : State) → R m x3 → ValuesAre m x1 → ValueIs m x2 → Keeps m (change x0 x1 x2 x3)
change_r m n vs v s hr h1 h2 = paid m _ s (λ t. give v (with_cell t n (with_elements (cell_at t n) vs))) hr (λ a u due. ended m (Is v) (with_cell (with_counts s a) n (with_elements (cell_at s n) vs))
    (write_cell m (with_counts s a) n (with_elements (cell_at s n) vs) u (with_elements_is m s n vs hr h1) refl (elements_fit (cell_at s n) vs s.own.counts.slots a.slots (hr.there.fits n).room due.more due.most)) (value_end m v h2))

pub pop_r : (m : Sizes) (x0 : ℕ) (x1 : ℕ) (x2 : List Value) (x3 : State) → R m x3 → x1 ≤ max_length → Keeps m (pop x0 x1 x2 x3)
pop_r m n zero vs s hr hl = charged m _ s _ hr (ended m _ s hr (value_end m _ (undefined_is m)))
pop_r m n (suc len) vs s hr hl = charged m _ s _ hr (ended m _ (with_cell s n (cut_to (cell_at s n) len))
    (write_cell m s n (cut_to (cell_at s n) len) hr (array_put m (cell_at s n) len _ (hr.there.objects n) (filtered_pairs m _ _ (hr.there.objects n).pairs) (filtered_names m _ _ (hr.there.objects n).names)) refl (record { room = less_room (λ p. is_below len true p.0) (cell_at s n).pairs s.own.counts.slots (hr.there.fits n).room; len = omega (arith, hl); count = tt }))
    (value_end m _ (element_is m (cell_at s n).pairs len (hr.there.objects n).pairs)))

far : (n : ℕ) → n ≤ max_length → n < past_numbers
far n l = omega (arith, l)

pub push_r : (m : Sizes) (x0 : ℕ) (x1 : ℕ) (x2 : List Value) (x3 : State) → R m x3 → ValuesAre m x2 → Keeps m (push x0 x1 x2 x3)
push_r m n len vs s hr h2 = by_test m (nat_lt max_length (len + length vs)) _ _ (λ e. faulted m E7 s hr) (λ e. charged m _ s _ hr (paid m _ s (λ t. give (Num (pos (len + length vs))) (with_cell t n (pushed (cell_at t n) len vs))) hr (λ a u due. ended m _ (with_cell (with_counts s a) n (pushed (cell_at s n) len vs))
    (write_cell m (with_counts s a) n (pushed (cell_at s n) len vs) u (array_put m (cell_at s n) _ _ (hr.there.objects n) (both_pairs m _ _ (hr.there.objects n).pairs (numbered_are m len vs h2)) (both_names m _ _ (hr.there.objects n).names (numbered_names m len vs))) refl (record { room = omega (arith, (hr.there.fits n).room, due.more, numbered_length len vs, length-append (cell_at s n).pairs (numbered_pairs len vs)); len = ltb-false max_length (len + length vs) e; count = tt }))
    (value_end m _ (num_is m (pos (len + length vs)) (told m (far (len + length vs) (ltb-false max_length (len + length vs) e))))))))

pub shift_r : (m : Sizes) (x0 : ℕ) (x1 : ℕ) (x2 : List Value) (x3 : State) → R m x3 → Keeps m (shift x0 x1 x2 x3)
shift_r m n len vs s hr = charged m _ s _ hr (change_r m n _ _ s hr (left_values m 1 _ (elements_are m s n len hr)) (nth_is m 0 _ (elements_are m s n len hr)))

pub unshift_r : (m : Sizes) (x0 : ℕ) (x1 : ℕ) (x2 : List Value) (x3 : State) → R m x3 → ValuesAre m x2 → Keeps m (unshift x0 x1 x2 x3)
unshift_r m n len vs s hr h2 = by_test m (nat_lt max_length (len + length vs)) _ _ (λ e. faulted m E7 s hr) (λ e. charged m _ s _ hr (change_r m n _ _ s hr (both_values m vs _ h2 (elements_are m s n len hr)) (num_is m (pos (len + length vs)) (told m (far (len + length vs) (ltb-false max_length (len + length vs) e))))))

pub reverse_r : (m : Sizes) (x0 : ℕ) (x1 : ℕ) (x2 : List Value) (x3 : State) → R m x3 → ValueIs m (Own x0) → Keeps m (reverse x0 x1 x2 x3)
reverse_r m n len vs s hr ho = charged m _ s _ hr (change_r m n _ (Own n) s hr (record { each = each_reversed (ValueIs m) (elements s n len) (elements_are m s n len hr).each }) ho)

pub without_order_r : (m : Sizes) (x0 : Value) (x1 : State) (x2 : Plan) → R m x1 → Keeps m x2 → Keeps m (without_order x0 x1 x2)
without_order_r m Undefined s p hr f0 = f0
without_order_r m v s p hr f0 = search (faulted)

pub sort_r : (m : Sizes) (x0 : ℕ) (x1 : ℕ) (x2 : List Value) (x3 : State) → R m x3 → ValueIs m (Own x0) → Keeps m (sort x0 x1 x2 x3)
sort_r m n len vs s hr ho = without_order_r m (nth 0 vs) s _ hr (wanted m E4 (not (list_any is_object (elements s n len))) s _ hr (λ _. charged m _ s _ hr
    (change_r m n _ (Own n) s hr (record { each = each_sorted m (elements s n len) (elements_are m s n len hr).each }) ho)))

pub spliced_r : (m : Sizes) (x0 : ℕ) (x1 : List Value) (x2 : ℕ) (x3 : ℕ) (x4 : List Value) (x5 : State) → R m x5 → ValuesAre m x1 → ValuesAre m x4 → ValueIs m (Own x0) → Keeps m (spliced x0 x1 x2 x3 x4 x5)
spliced_r m n vs at count new s hr h1 h4 ho =
    let taken : List Value = take count (drop at vs) in
    let left : List Value = take at vs ++ (new ++ drop (at + count) vs) in
    let c : Cell = new_array (length taken) (numbered_pairs 0 taken) in
    let hc : CellIs m c = array_is m _ _ (numbered_are m 0 taken (taken_values m count _ (left_values m at vs h1))) (numbered_names m 0 taken) in
    let hl : ValuesAre m left = both_values m _ _ (taken_values m at vs h1) (both_values m _ _ h4 (left_values m (at + count) vs h1)) in
    paid m _ s (λ t. give (Own (length t.own.heap)) (with_cell (with_new_cell t (new_array (length taken) (numbered_pairs 0 taken))) n (with_elements (cell_at t n) left))) hr (λ a u due.
    let t : State = with_counts s a in
    let k : Sizes = with_one m t.own.heap c in
    let g : Grows m k = born_grows m s.own.heap s.own.scopes s.own.kept s.own.timers s.own.forest s.own.focus a.slots c u in
    lowered m k _ g (ended k _ (with_cell (with_new_cell t c) n (with_elements (cell_at t n) left))
    (written k (t.own.heap ++ c ∷ []) t.own.scopes t.own.kept t.own.timers t.own.forest t.own.focus a.slots n (with_elements (cell_at t n) left)
    (born m s.own.heap s.own.scopes s.own.kept s.own.timers s.own.forest s.own.focus a.slots c u hc tt (numbered_fit taken s.own.counts.slots a.slots (first_part s.own.counts.slots (length taken) (new_indexes (cell_at s n) (length left)) a.slots due.more) due.most))
    (cell_later m k _ g (with_elements_is m s n left hr hl))
    (sym (ap (λ d. d.prototype) (at_old t.own.heap c (plain_object []) n (less n m.objects (length t.own.heap) ho.born hr.wide.objects))))
    (elements_fit (cell_at s n) left s.own.counts.slots a.slots (hr.there.fits n).room (last_part s.own.counts.slots (length taken) (new_indexes (cell_at s n) (length left)) a.slots due.more) due.most))
    (value_end k _ (is_born m s.own.heap s.own.scopes s.own.kept s.own.timers s.own.forest s.own.focus a.slots c))))

pub splice_count_r : (m : Sizes) (x0 : ℕ) (x1 : List Value) (x2 : ℕ) (x3 : State) (x4 : (ℤ → Plan)) → R m x3 → ((y0 : ℤ) → Keeps m (x4 y0)) → Keeps m (splice_count x0 x1 x2 x3 x4)
splice_count_r m len [] extra s k hr f0 = f0 _
splice_count_r m len (v ∷ vs) extra s k hr f0 = with_number_r m _ extra s k hr f0

pub splice_r : (m : Sizes) (x0 : ℕ) (x1 : ℕ) (x2 : List Value) (x3 : State) → R m x3 → ValuesAre m x2 → ValueIs m (Own x0) → Keeps m (splice x0 x1 x2 x3)
splice_r m n len vs s hr h2 ho = wanted m E4 (not (list_any is_object (take 2 vs))) s _ hr (λ _. with_number_r m (to_number (nth 0 vs)) (list_extra len vs s) s _ hr (λ a. splice_count_r m len (drop 1 vs) (list_extra len vs s) s _ hr
    (λ count. charged m _ s _ hr (spliced_r m n (elements s n len) (from_end len a) (clamped (len - from_end len a) count) (drop 2 vs) s hr (elements_are m s n len hr) (left_values m 2 vs h2) ho))))

pub list_concat_r : (m : Sizes) (x0 : ℕ) (x1 : ℕ) (x2 : List Value) (x3 : State) → R m x3 → ValuesAre m x2 → Keeps m (list_concat x0 x1 x2 x3)
list_concat_r m n len vs s hr h2 = charged m _ s _ hr (make_array_r m _ _ s give hr
    (both_values m _ _ (elements_are m s n len hr) (record { each = each_piece (ValueIs m) (ValueIs m) (array_elements s) (pieces_are m s hr) vs h2.each }))
    (λ l g v t u w. ended l (Is v) t u (value_end l v w)))

-- the text between, and those of elements
separator_is : (v : Value) → IsOrdinaryValue v → AreUnits (separator v)
separator_is Undefined h = units_tested (codes ",") refl
separator_is Null h = (to_text_is Null h).0
separator_is (Truth b) h = (to_text_is (Truth b) h).0
separator_is NaN h = (to_text_is NaN h).0
separator_is (Num z) h = (to_text_is (Num z) h).0
separator_is (Text t) h = (to_text_is (Text t) h).0
separator_is (Own n) h = (to_text_is (Own n) h).0
separator_is (Host e) h = (to_text_is (Host e) h).0

element_text_is : (v : Value) → IsOrdinaryValue v → AreUnits (joined_text v)
element_text_is Undefined h = tt
element_text_is Null h = tt
element_text_is (Truth b) h = (to_text_is (Truth b) h).0
element_text_is NaN h = (to_text_is NaN h).0
element_text_is (Num z) h = (to_text_is (Num z) h).0
element_text_is (Text t) h = (to_text_is (Text t) h).0
element_text_is (Own n) h = (to_text_is (Own n) h).0
element_text_is (Host e) h = (to_text_is (Host e) h).0

pub join_r : (m : Sizes) (x0 : ℕ) (x1 : ℕ) (x2 : Value) (x3 : ℕ) (x4 : State) → R m x4 → ValueIs m x2 → Keeps m (join x0 x1 x2 x3 x4)
join_r m n len x extra s hr hx = wanted m E4 (not (list_any is_object (x ∷ elements s n len))) s _ hr (λ _. give_text_r m extra (join_by joined_text (separator x) (elements s n len)) s hr
    (record { holds = λ e. joined_is (ValueIs m) joined_text (separator x) (separator_is x (hx.text.holds e)) (λ v q. element_text_is v (q.text.holds e)) (elements s n len) (elements_are m s n len hr).each }))

pub list_slice_r : (m : Sizes) (x0 : ℕ) (x1 : ℕ) (x2 : Value) (x3 : Value) (x4 : ℕ) (x5 : State) → R m x5 → Keeps m (list_slice x0 x1 x2 x3 x4 x5)
list_slice_r m n len a b extra s hr = wanted m E4 (not (list_any is_object (a ∷ b ∷ []))) s _ hr (λ _. with_number_r m (to_number a) extra s _ hr (λ x. with_optional_r m (pos len) b extra s _ hr (λ y. charged m extra s _ hr
    (make_array_r m (slice_range (elements s n len) (from_end len x) (from_end len y)) 0 s give hr (taken_values m _ _ (left_values m _ _ (elements_are m s n len hr))) (λ l g v t u w. ended l (Is v) t u (value_end l v w))))))

before : (i n : ℕ) → i + suc n ≤ max_length → i ≤ max_length
before i n h = omega (arith, h)

after_one : (i n : ℕ) → i + suc n ≤ max_length → i + 1 + n ≤ max_length
after_one i n h = omega (arith, h)

pub call_each_r : (m : Sizes) (x0 : Value) (x1 : List Value) (x2 : ℕ) (x3 : List Value) (x4 : ℕ) (x5 : State) (x6 : (List Value → State → Plan)) → R m x5 → ValueIs m x0 → ValuesAre m x1 → ValuesAre m x3 → x2 + length x1 ≤ max_length → ((n : Sizes) → Grows m n → (y0 : List Value) (y1 : State) → R n y1 → ValuesAre n y0 → Keeps n (x6 y0 y1)) → Keeps m (call_each x0 x1 x2 x3 x4 x5 x6)
call_each_r m f [] i ws d s k hr h0 h1 h3 hi f0 = f0 m (same_size m) ws s hr h3
call_each_r m f (v ∷ vs) i ws d s k hr h0 h1 h3 hi f0 = job m _ s _ hr
    (call_job m f None _ d h0 (no_value m) (more_values m v _ h1.each.0 (more_values m _ [] (num_is m (pos i) (told m (far i (before i (length vs) hi)))) (no_values m))))
    (λ n g o t u q. value n o t _ u q (λ w z. call_each_r n f vs (i + 1) (ws ++ w ∷ []) d t k u (value_later m n f g h0) (values_later m n vs g (record { each = h1.each.1 }))
    (both_values n ws _ (values_later m n ws g h3) (more_values n w [] z (no_values n))) (after_one i (length vs) hi) (λ l e ys y r x. f0 l (through m n l g e) ys y r x)))

from_none : (len n : ℕ) → n ≡ len → len ≤ max_length → 0 + n ≤ max_length
from_none len n e l = omega (arith, e, l)

pub over_r : (m : Sizes) (x0 : ℕ) (x1 : ℕ) (x2 : Value) (x3 : ℕ) (x4 : State) (x5 : (List Value → State → Plan)) → R m x4 → ValueIs m x2 → x1 ≤ max_length → ((n : Sizes) → Grows m n → (y0 : List Value) (y1 : State) → R n y1 → ValuesAre n y0 → Keeps n (x5 y0 y1)) → Keeps m (over x0 x1 x2 x3 x4 x5)
over_r m n len f d s k hr h2 hl f0 = want_function_r m f s _ hr (charged m len s _ hr (call_each_r m f (elements s n len) 0 [] d s k hr h2 (elements_are m s n len hr) (no_values m) (from_none len _ (length-map-range_with_len (element (cell_at s n).pairs) 0 len) hl) f0))

pub list_method_r : (m : Sizes) (x0 : ListNative) (x1 : ℕ) (x2 : ℕ) (x3 : List Value) (x4 : ℕ) (x5 : State) → R m x5 → ValuesAre m x3 → ValueIs m (Own x1) → x2 ≤ max_length → Keeps m (list_method x0 x1 x2 x3 x4 x5)
list_method_r m ListConcat n len vs d s hr h3 ho hl = list_concat_r m n len vs s hr h3
list_method_r m Join n len vs d s hr h3 ho hl = join_r m n len (nth 0 vs) (list_extra len vs s) s hr (nth_is m 0 vs h3)
list_method_r m ListSlice n len vs d s hr h3 ho hl = list_slice_r m n len (nth 0 vs) (nth 1 vs) (list_extra len vs s) s hr
list_method_r m ForEach n len vs d s hr h3 ho hl = over_r m n len (nth 0 vs) d s (λ ws t. give Undefined t) hr (nth_is m 0 vs h3) hl (λ l g ws t u q. ended l _ t u (value_end l _ (undefined_is l)))
list_method_r m MapNative n len vs d s hr h3 ho hl = over_r m n len (nth 0 vs) d s (λ ws t. make_array ws 0 t give) hr (nth_is m 0 vs h3) hl
    (λ l g ws t u q. make_array_r l ws 0 t give u q (λ i e v y z w. ended i (Is v) y z (value_end i v w)))
list_method_r m FilterNative n len vs d s hr h3 ho hl = over_r m n len (nth 0 vs) d s (λ ws t. make_array (kept (elements s n len) ws) 0 t give) hr (nth_is m 0 vs h3) hl
    (λ l g ws t u q. make_array_r l (kept (elements s n len) ws) 0 t give u (chosen_are l (elements s n len) ws (values_later m l _ g (elements_are m s n len hr))) (λ i e v y z w. ended i (Is v) y z (value_end i v w)))
list_method_r m Pop n len vs d s hr h3 ho hl = pop_r m n len vs s hr hl
list_method_r m Push n len vs d s hr h3 ho hl = push_r m n len vs s hr h3
list_method_r m Shift n len vs d s hr h3 ho hl = shift_r m n len vs s hr
list_method_r m Unshift n len vs d s hr h3 ho hl = unshift_r m n len vs s hr h3
list_method_r m Reverse n len vs d s hr h3 ho hl = reverse_r m n len vs s hr ho
list_method_r m Sort n len vs d s hr h3 ho hl = sort_r m n len vs s hr ho
list_method_r m Splice n len vs d s hr h3 ho hl = splice_r m n len vs s hr h3 ho

pub list_native_r : (m : Sizes) (x0 : ListNative) (x1 : Option Value) (x2 : List Value) (x3 : ℕ) (x4 : State) → R m x4 → MaybeIs m x1 → ValuesAre m x2 → Keeps m (list_native x0 x1 x2 x3 x4)
list_native_r m w this vs d s hr h1 h2 = on_array_r m this s _ hr h1 (λ n len ho hl. list_method_r m w n len vs d s hr h2 ho hl)

pub has_own_property_r : (m : Sizes) (x0 : Option Value) (x1 : Value) (x2 : State) → R m x2 → Keeps m (has_own_property x0 x1 x2)
has_own_property_r m this x s hr = on_object_r m this s _ hr (λ o. wanted m E4 (not (list_any is_object (x ∷ []))) s _ hr (λ _. ended m _ s hr (value_end m _ (truth_is m _))))

pub give_made_r : (m : Sizes) (x0 : List ℕ) (x1 : State) → R m x1 → Told m (AreUnits x0) → Keeps m (give_made x0 x1)
give_made_r m t s hr ht = made_text m t s (give (Text t)) hr (λ a u due e. ended m (Is (Text t)) (with_counts s a) u (value_end m _ (text_is m t (also m (λ q. made_is t q e) ht))))

pub function_to_string_r : (m : Sizes) (x0 : Option Value) (x1 : State) → R m x1 → Keeps m (function_to_string x0 x1)
function_to_string_r m (Some v) s hr = wanted m E3 (is_function s v) s _ hr (λ e. give_made_r m (codes "[function]") s hr (told m (units_tested (codes "[function]") refl)))
function_to_string_r m None s hr = search (faulted)

pub array_to_string_r : (m : Sizes) (x0 : ℕ) (x1 : ℕ) (x2 : State) → R m x2 → Keeps m (array_to_string x0 x1 x2)
array_to_string_r m n len s hr = join_r m n len (Text (codes ",")) (len + 1) s hr (text_is m _ (told m (tested (codes ",") refl)))

low_radix : (r : ℤ) → is_radix r ≡ true → (n : ℕ) → n % unsigned_abs r < 36
low_radix (pos r) e n =
    let p = and_parts (int_le (pos min_radix) (pos r)) (int_le (pos r) (pos max_radix)) e in
    below n r (leb-true min_radix r p.0) (leb-true r max_radix p.1)
  where
    below : (n r : ℕ) → 2 ≤ r → r ≤ 36 → n % r < 36
    below n r l h = omega (arith, h, mod-lt n {m = r} (omega (arith, l)))
low_radix (negsuc r) e n = absurd (no e)
  where
    no : false ≡ true → ⊥
    no i = cc

sign_is : (b : Bool) → AreUnits (if b then codes "-" else [])
sign_is true = units_tested (codes "-") refl
sign_is false = tt

number_text_is : (v : Value) (r : ℤ) → is_radix r ≡ true → IsOrdinaryValue v → AreUnits (number_text v r)
number_text_is (Num z) r e h = both_units _ _ (sign_is (is_negative z)) (digits_are (unsigned_abs r) false (low_radix r e) (unsigned_abs z))
number_text_is Undefined r e h = (to_text_is Undefined h).0
number_text_is Null r e h = (to_text_is Null h).0
number_text_is (Truth b) r e h = (to_text_is (Truth b) h).0
number_text_is NaN r e h = (to_text_is NaN h).0
number_text_is (Text t) r e h = (to_text_is (Text t) h).0
number_text_is (Own n) r e h = (to_text_is (Own n) h).0
number_text_is (Host x) r e h = (to_text_is (Host x) h).0

pub in_radix_r : (m : Sizes) (x0 : Value) (x1 : Value) (x2 : State) → R m x2 → ValueIs m x0 → Keeps m (in_radix x0 x1 x2)
in_radix_r m v radix s hr hv = wanted m E4 (not (list_any is_object (radix ∷ []))) s _ hr (λ _. with_optional_r m (pos 10) radix 0 s _ hr (λ r. wanted m E7 (is_radix r) s _ hr (λ e. give_made_r m (number_text v r) s hr (also m (number_text_is v r e) hv.text))))

pub number_to_string_r : (m : Sizes) (x0 : Option Value) (x1 : Value) (x2 : State) → R m x2 → MaybeIs m x0 → Keeps m (number_to_string x0 x1 x2)
number_to_string_r m (Some NaN) radix s hr h1 = in_radix_r m NaN radix s hr (nan_is m)
number_to_string_r m (Some (Num z)) radix s hr h1 = in_radix_r m (Num z) radix s hr h1.value
number_to_string_r m this radix s hr h1 = search (faulted)

pub boolean_to_string_r : (m : Sizes) (x0 : Option Value) (x1 : State) → R m x1 → Keeps m (boolean_to_string x0 x1)
boolean_to_string_r m (Some (Truth b)) s hr = give_made_r m (to_text (Truth b)) s hr (told m (to_text_is (Truth b) tt).0)
boolean_to_string_r m this s hr = search (faulted)

pub prototype_native_r : (m : Sizes) (x0 : PrototypeNative) (x1 : Option Value) (x2 : List Value) (x3 : ℕ) (x4 : State) → R m x4 → MaybeIs m x1 → Keeps m (prototype_native x0 x1 x2 x3 x4)
prototype_native_r m HasOwnProperty this vs d s hr h1 = has_own_property_r m this (nth 0 vs) s hr
prototype_native_r m ObjectToString this vs d s hr h1 = on_object_r m this s _ hr (λ o. give_made_r m (codes "[object Object]") s hr (told m (units_tested (codes "[object Object]") refl)))
prototype_native_r m ArrayToString this vs d s hr h1 = on_array_r m this s _ hr h1 (λ n len ho hl. array_to_string_r m n len s hr)
prototype_native_r m FunctionToString this vs d s hr h1 = function_to_string_r m this s hr
prototype_native_r m TextToString this vs d s hr h1 = on_text_r m this s _ hr h1 (λ t ht. ended m _ s hr (value_end m _ (text_is m t ht)))
prototype_native_r m NumberToString this vs d s hr h1 = number_to_string_r m this (nth 0 vs) s hr h1
prototype_native_r m BooleanToString this vs d s hr h1 = boolean_to_string_r m this s hr
