-- What natives have in common, and those of the globals and of Math, keep what is there.
use Rattle.meaning_laws.proofs.Numbers.{Within, OfRead, best_is, max_within, min_within, unit_power}
use Rattle.meaning_laws.proofs.Values.{nth_is, units_told, read_told, told, also, truth_is, nan_is, num_is, text_is, numbered_are, numbered_names, value_end}
use Rattle.meaning_laws.proofs.Steps.{by_test, R, Keeps, ended, halted, either, value, chain, charged, paid, made_text, faulted, wanted, found, born_then}
use Rattle.widget_meaning.specs.Operators.{Gives, Leaves, OpOut, as_number}
use Rattle.widget_meaning.specs.NativeForms.{is_too_long, want_primitives, with_number, give_text, want_function, on_text, on_array, on_bunch, make_array, make_bunch, with_number_or, with_optional, give_texts, on_object, numbered_pairs}
use Rattle.widget_meaning.specs.MathNatives.{best, of_one, of_all, pow, math_native, power}
use Rattle.widget_meaning.specs.Costs.{object_cost, with_counts, give, cost}
use Rattle.std.specs.Prelude.{◌||◌, ℕ, ℤ, List, [], ◌∷◌, Option, Some, pos, zero, suc, negsuc, Bool, true, false, None, length, map, unsigned_abs, not, ◌==◌, ◌+◌, sum_by, ◌&&◌, nat_le, nat_lt, neg_ℤ, if◌then◌else◌}
use Rattle.std.proofs.Common.{◌≡◌, ◌≤◌, refl, ap, subst, arith}
use Rattle.widget_meaning.specs.Limits.{max_length, max_slots, min_radix, max_radix}
use Rattle.widget_meaning.specs.OwnState.{Kind, Object, Array, Function, Bunch, cell_at, State, new_array, new_bunch, with_new_cell, array_length, bunch_nodes, kind_of}
use Rattle.widget_meaning.specs.JsonBack.{HasLength}
use Rattle.code_units.specs.declared.whole.WholeRead.TheVariants as read
use Rattle.code_units.specs.declared.whole.WholeRead.{WholeRead}
use Rattle.widget_meaning.specs.Values.{Value, Undefined, Text, Own, Host, NaN, Num, Is, to_number, to_text, nth, is_object, E3, E4}
use Rattle.widget_meaning.specs.Plan.{Plan}
use Rattle.permitted_table.specs.declared.native.GlobalNative.{GlobalNative}
use Rattle.permitted_table.specs.declared.native.GlobalNative.TheVariants.{BooleanOf, NumberOf, StringOf, IsNaN, IsFinite, ParseInt, FromCharCode}
use Rattle.permitted_table.specs.declared.native.MathNative.{MathNative}
use Rattle.permitted_table.specs.declared.native.MathNative.TheVariants.{Abs, Ceil, Floor, Round, Max, Min, Pow}
use Rattle.widget_meaning.specs.GlobalNatives.{boolean_of, of_number, number_of, text_of_primitive, string_of, string_native, parse_int, from_char_code, global_native, nan_or_not, has_left, code_of, units_read, parsed, run_value, radix_of, digit_run, without_0x}
use Rattle.std.specs.Int.{int_max, int_min, int_pow}
use Rattle.std.specs.List.{list_any, AllByRecursion}
use Rattle.widget_meaning.specs.Properties.{is_own_function}
use Rattle.code_units.specs.Whole.{trimmed_start}
use Rattle.std.specs.Str.Parse.{digits_value, starts_with_minus, without_leading_sign}
use Rattle.meaning_laws.proofs.Forms.{result_r, to_primitive_r, bunch_is, bunch_cell, array_is}
use Rattle.meaning_laws.specs.There.{Sizes, Grows, Told, CellFits, ValueIs, ValuesAre, MaybeIs, NodesAre}
use Rattle.meaning_laws.specs.Texts.{AreUnits, AreAllUnits, IsText, IsOrdinaryValue}
use Rattle.meaning_laws.proofs.Units.{codes_are, made_is}
use Rattle.meaning_laws.proofs.Results.{GivenIs, given, leaves, number_given, truth_given, either_given, as_number_given}

module _ (m : Sizes) where
  run_given : (negative : Bool) (radix : ℕ) (ds : List ℕ) → GivenIs m (run_value negative radix ds)
  run_given negative radix ds = either_given m (nat_le min_radix radix && nat_le radix max_radix && nat_lt 0 (length ds)) _ _
      (number_given m (if negative then neg_ℤ (pos (digits_value radix ds)) else pos (digits_value radix ds))) (given m NaN (nan_is m))

  parsed_given : (negative : Bool) (us : List ℕ) (z : ℤ) → GivenIs m (parsed negative us z)
  parsed_given negative us z = run_given negative (radix_of us z) (digit_run (radix_of us z) (without_0x (radix_of us z) us))

  nan_or_not_given : (b : Bool) (r : WholeRead) → GivenIs m (nan_or_not b r)
  nan_or_not_given b read.NotNumber = truth_given m b
  nan_or_not_given b (read.Whole z) = truth_given m _
  nan_or_not_given b read.Left = leaves m

  power_given : (a b : WholeRead) → GivenIs m (power a b)
  power_given read.Left b = leaves m
  power_given read.NotNumber read.Left = leaves m
  power_given read.NotNumber read.NotNumber = given m NaN (nan_is m)
  power_given read.NotNumber (read.Whole (pos zero)) = given m (Num (pos 1)) (num_is m (pos 1) (told m (omega arith)))
  power_given read.NotNumber (read.Whole (pos (suc n))) = given m NaN (nan_is m)
  power_given read.NotNumber (read.Whole (negsuc n)) = given m NaN (nan_is m)
  power_given (read.Whole x) read.Left = leaves m
  power_given (read.Whole x) read.NotNumber = given m NaN (nan_is m)
  power_given (read.Whole x) (read.Whole (pos zero)) = given m (Num (pos 1)) (num_is m (pos 1) (told m (omega arith)))
  power_given (read.Whole x) (read.Whole (pos (suc n))) = number_given m (int_pow x (suc n))
  power_given (read.Whole x) (read.Whole (negsuc n)) = by (unsigned_abs x == 1) refl
    where
      by : (b : Bool) → (unsigned_abs x == 1) ≡ b → GivenIs m (if b then Gives (Num (int_pow x (suc n))) else Leaves)
      by true e = given m (Num (int_pow x (suc n))) (num_is m (int_pow x (suc n)) (told m (unit_power x (suc n) e)))
      by false e = leaves m

pub want_primitives_r : (m : Sizes) (x0 : List Value) (x1 : State) (x2 : Plan) → R m x1 → Keeps m x2 → Keeps m (want_primitives x0 x1 x2)
want_primitives_r m vs s p hr f0 = wanted m E4 (not (list_any is_object vs)) s p hr (λ e. f0)

pub want_function_r : (m : Sizes) (x0 : Value) (x1 : State) (x2 : Plan) → R m x1 → Keeps m x2 → Keeps m (want_function x0 x1 x2)
want_function_r m f s p hr f0 = wanted m E4 (is_own_function s f) s p hr (λ e. f0)

pub on_text_r : (m : Sizes) (x0 : Option Value) (x1 : State) (x2 : (List ℕ → Plan)) → R m x1 → MaybeIs m x0 → ((y0 : List ℕ) → Told m (IsText y0) → Keeps m (x2 y0)) → Keeps m (on_text x0 x1 x2)
on_text_r m (Some (Text t)) s k hr h0 f0 = f0 t h0.value.text
on_text_r m this s k hr h0 f0 = search (faulted)

long_of : (k : Kind) (len : ℕ) → HasLength k → array_length (Some k) ≡ Some len → len ≤ max_length
long_of (Array i) len h e = subst (λ n. n ≤ max_length) (same i len e) h
  where
    same : (a b : ℕ) → Some a ≡ Some b → a ≡ b
    same a b e = cc
long_of Object len h e = cc
long_of (Function f o) len h e = cc
long_of (Bunch ns) len h e = cc

pub on_array_r : (m : Sizes) (x0 : Option Value) (x1 : State) (x2 : (ℕ → ℕ → Plan)) → R m x1 → MaybeIs m x0 → ((y0 : ℕ) (y1 : ℕ) → ValueIs m (Own y0) → y1 ≤ max_length → Keeps m (x2 y0 y1)) → Keeps m (on_array x0 x1 x2)
on_array_r m (Some (Own n)) s k hr h0 f0 = found m E3 (array_length (kind_of s (Own n))) s (k n) hr (λ len e. f0 n len h0.value (long_of (cell_at s n).kind len (hr.there.fits n).len e))
on_array_r m this s k hr h0 f0 = search (faulted)

pub on_bunch_r : (m : Sizes) (x0 : Option Value) (x1 : State) (x2 : (List ℕ → Plan)) → R m x1 → ((y0 : List ℕ) → NodesAre m y0 → Keeps m (x2 y0)) → Keeps m (on_bunch x0 x1 x2)
on_bunch_r m None s k hr f0 = search (faulted)
on_bunch_r m (Some v) s k hr f0 = found m E3 (bunch_nodes (kind_of s v)) s k hr (λ ns e. f0 ns (bunch_is m s v ns hr e))

pub with_number_or_r : (m : Sizes) (x0 : ℤ) (x1 : WholeRead) (x2 : ℕ) (x3 : State) (x4 : (ℤ → Plan)) → R m x3 → ((y0 : ℤ) → Keeps m (x4 y0)) → Keeps m (with_number_or x0 x1 x2 x3 x4)
with_number_or_r m z (read.Whole x) extra s k hr f0 = f0 x
with_number_or_r m z read.NotNumber extra s k hr f0 = f0 z
with_number_or_r m z read.Left extra s k hr f0 = search (charged, halted)

pub with_number_r : (m : Sizes) (x0 : WholeRead) (x1 : ℕ) (x2 : State) (x3 : (ℤ → Plan)) → R m x2 → ((y0 : ℤ) → Keeps m (x3 y0)) → Keeps m (with_number x0 x1 x2 x3)
with_number_r m r extra s k hr f0 = with_number_or_r m (pos 0) r extra s k hr f0

pub give_text_r : (m : Sizes) (x0 : ℕ) (x1 : List ℕ) (x2 : State) → R m x2 → Told m (AreUnits x1) → Keeps m (give_text x0 x1 x2)
give_text_r m extra t s hr ht = charged m _ s _ hr (made_text m t s (give (Text t)) hr (λ a u due e. ended m (Is (Text t)) (with_counts s a) u (value_end m _ (text_is m t (also m (λ q. made_is t q e) ht)))))

pub numbered_length : (i : ℕ) (vs : List Value) → length (numbered_pairs i vs) ≡ length vs
numbered_length i [] = refl
numbered_length i (v ∷ vs) = ap suc (numbered_length (i + 1) vs)

pub numbered_fit : (vs : List Value) (k a : ℕ) → k + length vs ≤ a → a ≤ max_slots → CellFits a (new_array (length vs) (numbered_pairs 0 vs))
numbered_fit vs k a h l = record { room = omega (arith, h, numbered_length 0 vs); len = omega (arith, h, l); count = tt }

pub make_array_r : (m : Sizes) (x0 : List Value) (x1 : ℕ) (x2 : State) (x3 : (Value → State → Plan)) → R m x2 → ValuesAre m x0 → ((n : Sizes) → Grows m n → (y0 : Value) (y1 : State) → R n y1 → ValueIs n y0 → Keeps n (x3 y0 y1)) → Keeps m (make_array x0 x1 x2 x3)
make_array_r m vs units s k hr h0 f0 = paid m (cost units 1 (length vs) 0) s (λ t. k (Own (length t.own.heap)) (with_new_cell t (new_array (length vs) (numbered_pairs 0 vs)))) hr (λ a u due. born_then m (new_array (length vs) (numbered_pairs 0 vs)) (with_counts s a) k u (array_is m _ _ (numbered_are m 0 vs h0) (numbered_names m 0 vs)) tt (numbered_fit vs s.own.counts.slots a.slots due.more due.most) f0)

counted : (k n a : ℕ) → k + (n + 1) ≤ a → a ≤ max_slots → n ≤ max_slots
counted k n a h l = omega (arith, h, l)

pub make_bunch_r : (m : Sizes) (x0 : List ℕ) (x1 : State) (x2 : (Value → State → Plan)) → R m x1 → NodesAre m x0 → ((n : Sizes) → Grows m n → (y0 : Value) (y1 : State) → R n y1 → ValueIs n y0 → Keeps n (x2 y0 y1)) → Keeps m (make_bunch x0 x1 x2)
make_bunch_r m ns s k hr hn f0 = paid m (object_cost (length ns + 1)) s (λ t. k (Own (length t.own.heap)) (with_new_cell t (new_bunch ns))) hr (λ a u due. born_then m (new_bunch ns) (with_counts s a) k u (bunch_cell m ns hn) tt (record { room = omega arith; len = tt; count = counted s.own.counts.slots (length ns) a.slots due.more due.most }) f0)

pub with_optional_r : (m : Sizes) (x0 : ℤ) (x1 : Value) (x2 : ℕ) (x3 : State) (x4 : (ℤ → Plan)) → R m x3 → ((y0 : ℤ) → Keeps m (x4 y0)) → Keeps m (with_optional x0 x1 x2 x3 x4)
with_optional_r m z Undefined extra s k hr f0 = f0 z
with_optional_r m z v extra s k hr f0 = with_number_r m (to_number v) extra s k hr f0

each_told : (m : Sizes) (ts : List (List ℕ)) → Told m (AreAllUnits ts) → list_any is_too_long ts ≡ false → AllByRecursion (ValueIs m) (map Text ts)
each_told m [] h e = tt
each_told m (t ∷ ts) h e =
    let p = none_so (is_too_long t) (list_any is_too_long ts) e in
    (text_is m t (also m (λ q. made_is t q.0 p.0) h), each_told m ts (also m (λ q. q.1) h) p.1)
  where
    none_so : (a b : Bool) → (a || b) ≡ false → (a ≡ false) × (b ≡ false)
    none_so false b i = (refl, i)
    none_so true b i = cc

pub give_texts_r : (m : Sizes) (x0 : List (List ℕ)) (x1 : State) → R m x1 → Told m (AreAllUnits x0) → Keeps m (give_texts x0 x1)
give_texts_r m ts s hr ht = by_test m (list_any is_too_long ts) _ _ (λ e. halted m _ s hr)
    (λ e. make_array_r m (map Text ts) _ s give hr (record { each = each_told m ts ht e }) (λ n g v t u w. ended n (Is v) t u (value_end n v w)))

pub on_object_r : (m : Sizes) (x0 : Option Value) (x1 : State) (x2 : (Value → Plan)) → R m x1 → ((y0 : Value) → Keeps m (x2 y0)) → Keeps m (on_object x0 x1 x2)
on_object_r m (Some (Own n)) s k hr f0 = f0 (Own n)
on_object_r m (Some (Host h)) s k hr f0 = f0 (Host h)
on_object_r m this s k hr f0 = search (faulted)

pub boolean_of_r : (m : Sizes) (x0 : Value) (x1 : State) → R m x1 → Keeps m (boolean_of x0 x1)
boolean_of_r m v s hr = charged m _ s _ hr (ended m _ s hr (value_end m _ (truth_is m _)))

pub of_number_r : (m : Sizes) (x0 : Value) (x1 : (WholeRead → OpOut)) (x2 : State) → R m x2 → ValueIs m x0 → ((r : WholeRead) → Told m (OfRead r) → GivenIs m (x1 r)) → Keeps m (of_number x0 x1 x2)
of_number_r m v f s hr hv hg = wanted m E4 (not (list_any is_object (v ∷ []))) s _ hr (λ _. charged m _ s _ hr (result_r m _ s hr (hg (to_number v) (read_told m v hv))))

pub number_of_r : (m : Sizes) (x0 : List Value) (x1 : State) → R m x1 → ValuesAre m x0 → Keeps m (number_of x0 x1)
number_of_r m [] s hr h0 = ended m _ s hr (value_end m _ (num_is m (pos 0) (told m (omega arith))))
number_of_r m (v ∷ vs) s hr h0 = of_number_r m v (λ r. as_number r (λ z. z)) s hr h0.each.0 (λ r q. as_number_given m r (λ z. z) (λ z k. k) q)

pub text_of_primitive_r : (m : Sizes) (x0 : Value) (x1 : State) → R m x1 → ValueIs m x0 → Keeps m (text_of_primitive x0 x1)
text_of_primitive_r m (Text t) s hr h0 = ended m _ s hr (value_end m _ h0)
text_of_primitive_r m v s hr h0 = give_text_r m 0 (to_text v) s hr (units_told m v h0)

pub string_of_r : (m : Sizes) (x0 : Value) (x1 : ℕ) (x2 : State) → R m x2 → ValueIs m x0 → Keeps m (string_of x0 x1 x2)
string_of_r m v d s hr h0 = either m _ _ _
    (chain m _ _ (to_primitive_r m v d s hr h0) (λ n g o t u q. value n o t _ u q (λ w z. text_of_primitive_r n w t u z)))
    (charged m _ s _ hr (text_of_primitive_r m v s hr h0))

pub string_native_r : (m : Sizes) (x0 : List Value) (x1 : ℕ) (x2 : State) → R m x2 → ValuesAre m x0 → Keeps m (string_native x0 x1 x2)
string_native_r m [] d s hr h0 = give_text_r m 0 [] s hr (told m tt)
string_native_r m (v ∷ vs) d s hr h0 = string_of_r m v d s hr h0.each.0

pub parse_int_r : (m : Sizes) (x0 : Value) (x1 : Value) (x2 : State) → R m x2 → Keeps m (parse_int x0 x1 x2)
parse_int_r m v radix s hr =
    let us : List ℕ = trimmed_start (to_text v) in
    want_primitives_r m (v ∷ radix ∷ []) s _ hr (with_number_r m (to_number radix) (length (to_text v) + units_read radix) s _ hr
    (λ z. charged m (length (to_text v) + units_read radix) s _ hr (result_r m (parsed (starts_with_minus us) (without_leading_sign us) z) s hr (parsed_given m (starts_with_minus us) (without_leading_sign us) z))))

pub from_char_code_r : (m : Sizes) (x0 : List Value) (x1 : State) → R m x1 → Keeps m (from_char_code x0 x1)
from_char_code_r m vs s hr = wanted m E4 (not (list_any is_object (vs))) s _ hr (λ _. either m (list_any has_left (map to_number vs)) _ _ (charged m (sum_by units_read vs) s _ hr (halted m _ s hr)) (give_text_r m (sum_by units_read vs) (map code_of (map to_number vs)) s hr (told m (codes_are (map to_number vs)))))

pub global_native_r : (m : Sizes) (x0 : GlobalNative) (x1 : Option Value) (x2 : List Value) (x3 : ℕ) (x4 : State) → R m x4 → ValuesAre m x2 → Keeps m (global_native x0 x1 x2 x3 x4)
global_native_r m BooleanOf this vs d s hr h2 = boolean_of_r m (nth 0 vs) s hr
global_native_r m NumberOf this vs d s hr h2 = number_of_r m vs s hr h2
global_native_r m StringOf this vs d s hr h2 = string_native_r m vs d s hr h2
global_native_r m IsNaN this vs d s hr h2 = of_number_r m (nth 0 vs) (nan_or_not true) s hr (nth_is m 0 vs h2) (λ r q. nan_or_not_given m true r)
global_native_r m IsFinite this vs d s hr h2 = of_number_r m (nth 0 vs) (nan_or_not false) s hr (nth_is m 0 vs h2) (λ r q. nan_or_not_given m false r)
global_native_r m ParseInt this vs d s hr h2 = parse_int_r m (nth 0 vs) (nth 1 vs) s hr
global_native_r m FromCharCode this vs d s hr h2 = from_char_code_r m vs s hr

pub of_one_r : (m : Sizes) (x0 : List Value) (x1 : (ℤ → ℤ)) (x2 : State) → R m x2 → ValuesAre m x0 → ((z : ℤ) → Within z → Within (x1 z)) → Keeps m (of_one x0 x1 x2)
of_one_r m vs f s hr hv hf = wanted m E4 (not (list_any is_object (nth 0 vs ∷ []))) s _ hr (λ _. charged m _ s _ hr (result_r m _ s hr (as_number_given m _ f hf (read_told m (nth 0 vs) (nth_is m 0 vs hv)))))

each_text : (m : Sizes) (vs : List Value) → m.texts ≡ true → AllByRecursion (ValueIs m) vs → AllByRecursion IsOrdinaryValue vs
each_text m [] e h = tt
each_text m (v ∷ vs) e h = (h.0.text.holds e, each_text m vs e h.1)

pub of_all_r : (m : Sizes) (x0 : List Value) (x1 : (ℤ → ℤ → ℤ)) (x2 : State) → R m x2 → ValuesAre m x0 → ((x y : ℤ) → Within x → Within y → Within (x1 x y)) → Keeps m (of_all x0 x1 x2)
of_all_r m vs f s hr hv hf = wanted m E4 (not (list_any is_object (vs))) s _ hr (λ _. charged m _ s _ hr (result_r m _ s hr (as_number_given m (best f vs) (λ z. z) (λ z q. q) (record { holds = λ e. best_is f hf vs (each_text m vs e hv.each) }))))

pub pow_r : (m : Sizes) (x0 : Value) (x1 : Value) (x2 : ℕ) (x3 : State) → R m x3 → Keeps m (pow x0 x1 x2 x3)
pow_r m a b extra s hr = wanted m E4 (not (list_any is_object (a ∷ b ∷ []))) s _ hr (λ _. charged m _ s _ hr (result_r m _ s hr (power_given m (to_number a) (to_number b))))

pub math_native_r : (m : Sizes) (x0 : MathNative) (x1 : Option Value) (x2 : List Value) (x3 : ℕ) (x4 : State) → R m x4 → ValuesAre m x2 → Keeps m (math_native x0 x1 x2 x3 x4)
math_native_r m Abs this vs d s hr h2 = of_one_r m vs (λ z. pos (unsigned_abs z)) s hr h2 (λ z q. q)
math_native_r m Ceil this vs d s hr h2 = of_one_r m vs (λ z. z) s hr h2 (λ z q. q)
math_native_r m Floor this vs d s hr h2 = of_one_r m vs (λ z. z) s hr h2 (λ z q. q)
math_native_r m Round this vs d s hr h2 = of_one_r m vs (λ z. z) s hr h2 (λ z q. q)
math_native_r m Max this vs d s hr h2 = of_all_r m vs int_max s hr h2 max_within
math_native_r m Min this vs d s hr h2 = of_all_r m vs int_min s hr h2 min_within
math_native_r m Pow this vs d s hr h2 = pow_r m (nth 0 vs) (nth 1 vs) (length vs) s hr
