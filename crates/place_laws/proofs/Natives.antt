-- What natives have in common, and those of the globals, of Math and of texts, run alike.
use Rattle.std.proofs.Common.{ℕ, ◌+◌, length, map, List, [], ◌∷◌, true, false, Option, Some, None, sym, subst}
use Rattle.std.specs.Prelude.{ℤ, pos, not, sum_by, unsigned_abs}
use Rattle.std.specs.Int.{int_max, int_min}
use Rattle.std.specs.List.{list_any}
use Rattle.code_units.specs.declared.whole.WholeRead.TheVariants as read
use Rattle.code_units.specs.declared.whole.WholeRead.{WholeRead}
use Rattle.code_units.specs.Whole.{trimmed_start}
use Rattle.std.specs.Str.Parse.{starts_with_minus, without_leading_sign}
use Rattle.widget_meaning.specs.Values.{Value, Undefined, Truth, Num, Text, Own, Host, Is, E3, E4, Number, LongText, is_object, is_true, to_text, to_number, nth}
use Rattle.widget_meaning.specs.OwnState.{State, new_array, new_bunch, with_new_cell, array_length, bunch_nodes, kind_of}
use Rattle.widget_meaning.specs.Plan.{Plan}
use Rattle.widget_meaning.specs.Costs.{cost, give, want, or_throw}
use Rattle.widget_meaning.specs.Properties.{is_own_function}
use Rattle.permitted_table.specs.declared.native.GlobalNative.{GlobalNative}
use Rattle.permitted_table.specs.declared.native.GlobalNative.TheVariants.{BooleanOf, NumberOf, StringOf, IsNaN, IsFinite, ParseInt, FromCharCode}
use Rattle.permitted_table.specs.declared.native.MathNative.{MathNative}
use Rattle.permitted_table.specs.declared.native.MathNative.TheVariants.{Abs, Ceil, Floor, Round, Max, Min, Pow}
use Rattle.permitted_table.specs.declared.native.TextNative.{TextNative}
use Rattle.permitted_table.specs.declared.native.TextNative.TheVariants.{CharAt, CharCodeAt, TextConcat, IndexOf, LastIndexOf, TextSlice, Substring, Split}
use Rattle.widget_meaning.specs.Operators.{OpOut, as_number}
use Rattle.widget_meaning.specs.NativeForms.{want_primitives, with_number, give_text, want_function, on_text, on_array, on_bunch, make_array, make_bunch, with_number_or, with_optional, give_texts, on_object, numbered_pairs, is_too_long}
use Rattle.widget_meaning.specs.GlobalNatives.{units_read, boolean_of, of_number, number_of, nan_or_not, text_of_primitive, string_of, string_native, parsed, parse_int, has_left, from_char_code, global_native}
use Rattle.widget_meaning.specs.MathNatives.{best, power, of_one, of_all, pow, math_native}
use Rattle.widget_meaning.specs.TextNatives.{unit_at, first_code, pieces, char_at, char_code_at, text_concat, index_of, last_index_of, text_slice, substring, split, made_of, text_method, text_native}
use Rattle.place_laws.proofs.Near.{N, bare, itself, moved, born, births, own_function_bare, array_bare, bunch_bare}
use Rattle.place_laws.proofs.Alike.{Alike, ended, halted, either, value, chain, charged, paid, made, made_text, faulted, found, wanted}
use Rattle.place_laws.proofs.Forms.{result_a, to_primitive_a}

pub want_primitives_a : (x0 : List Value) (x1 z1 : State) (x2 z2 : Plan) → N x1 z1 → Alike x2 z2 → Alike (want_primitives x0 x1 x2) (want_primitives x0 z1 z2)
want_primitives_a vs s s' p p' near f0 = wanted E4 (not (list_any is_object vs)) s s' p p' near f0

pub want_function_a : (x0 : Value) (x1 z1 : State) (x2 z2 : Plan) → N x1 z1 → Alike x2 z2 → Alike (want_function x0 x1 x2) (want_function x0 z1 z2)
want_function_a f s s' p p' near f0 =
    moved (λ y. Alike (want_function f s p) (want_function f y p')) s s' near
    (subst (λ b. Alike (want_function f s p) (want E4 b (bare s) p')) (sym (own_function_bare s f)) (wanted E4 (is_own_function s f) s (bare s) p p' (itself s) f0))

pub on_text_a : (x0 : Option Value) (x1 z1 : State) (x2 z2 : List ℕ → Plan) → N x1 z1 → ((y0 : List ℕ) → Alike (x2 y0) (z2 y0)) → Alike (on_text x0 x1 x2) (on_text x0 z1 z2)
on_text_a (Some (Text t)) s s' k k' near f0 = f0 t
on_text_a this s s' k k' near f0 = faulted E3 s s' near

pub on_array_a : (x0 : Option Value) (x1 z1 : State) (x2 z2 : ℕ → ℕ → Plan) → N x1 z1 → ((y0 : ℕ) (y1 : ℕ) → Alike (x2 y0 y1) (z2 y0 y1)) → Alike (on_array x0 x1 x2) (on_array x0 z1 z2)
on_array_a (Some (Own n)) s s' k k' near f0 =
    moved (λ y. Alike (on_array (Some (Own n)) s k) (on_array (Some (Own n)) y k')) s s' near
    (subst (λ (o : Option ℕ). Alike (on_array (Some (Own n)) s k) (or_throw E3 o (bare s) (k' n))) (sym (array_bare s (Own n))) (found E3 (array_length (kind_of s (Own n))) s (bare s) (k n) (k' n) (itself s) (f0 n)))
on_array_a this s s' k k' near f0 = faulted E3 s s' near

pub on_bunch_a : (x0 : Option Value) (x1 z1 : State) (x2 z2 : List ℕ → Plan) → N x1 z1 → ((y0 : List ℕ) → Alike (x2 y0) (z2 y0)) → Alike (on_bunch x0 x1 x2) (on_bunch x0 z1 z2)
on_bunch_a None s s' k k' near f0 = faulted E3 s s' near
on_bunch_a (Some v) s s' k k' near f0 =
    moved (λ y. Alike (on_bunch (Some v) s k) (on_bunch (Some v) y k')) s s' near
    (subst (λ (o : Option (List ℕ)). Alike (on_bunch (Some v) s k) (or_throw E3 o (bare s) k')) (sym (bunch_bare s v)) (found E3 (bunch_nodes (kind_of s v)) s (bare s) k k' (itself s) f0))

pub with_number_or_a : (x0 : ℤ) (x1 : WholeRead) (x2 : ℕ) (x3 z3 : State) (x4 z4 : ℤ → Plan) → N x3 z3 → ((y0 : ℤ) → Alike (x4 y0) (z4 y0)) → Alike (with_number_or x0 x1 x2 x3 x4) (with_number_or x0 x1 x2 z3 z4)
with_number_or_a z (read.Whole x) extra s s' k k' near f0 = f0 x
with_number_or_a z read.NotNumber extra s s' k k' near f0 = f0 z
with_number_or_a z read.Left extra s s' k k' near f0 = charged extra s s' _ _ near (halted Number s s' near)

pub with_number_a : (x0 : WholeRead) (x1 : ℕ) (x2 z2 : State) (x3 z3 : ℤ → Plan) → N x2 z2 → ((y0 : ℤ) → Alike (x3 y0) (z3 y0)) → Alike (with_number x0 x1 x2 x3) (with_number x0 x1 z2 z3)
with_number_a r extra s s' k k' near f0 = with_number_or_a (pos 0) r extra s s' k k' near f0

pub give_text_a : (x0 : ℕ) (x1 : List ℕ) (x2 z2 : State) → N x2 z2 → Alike (give_text x0 x1 x2) (give_text x0 x1 z2)
give_text_a extra t s s' near = charged (extra + length t) s s' _ _ near (made_text t s s' _ _ near (λ v y u. ended (Is (Text t)) v y u))

pub make_array_a : (x0 : List Value) (x1 : ℕ) (x2 z2 : State) (x3 z3 : Value → State → Plan) → N x2 z2 → ((y0 : Value) (y1 w1 : State) → N y1 w1 → Alike (x3 y0 y1) (z3 y0 w1)) → Alike (make_array x0 x1 x2 x3) (make_array x0 x1 z2 z3)
make_array_a vs units s s' k k' near f0 = paid (cost units 1 (length vs) 0) s s' _ _ near (λ t y u.
    moved (λ z. Alike (k (Own (length t.own.heap)) (with_new_cell t (new_array (length vs) (numbered_pairs 0 vs)))) (k' (Own (length z.own.heap)) (with_new_cell z (new_array (length vs) (numbered_pairs 0 vs))))) t y u
    (subst (λ n. Alike (k (Own (length t.own.heap)) (with_new_cell t (new_array (length vs) (numbered_pairs 0 vs)))) (k' (Own n) (with_new_cell (bare t) (new_array (length vs) (numbered_pairs 0 vs))))) (sym (births t))
    (f0 (Own (length t.own.heap)) _ _ (born t (bare t) (new_array (length vs) (numbered_pairs 0 vs)) (itself t)))))

pub make_bunch_a : (x0 : List ℕ) (x1 z1 : State) (x2 z2 : Value → State → Plan) → N x1 z1 → ((y0 : Value) (y1 w1 : State) → N y1 w1 → Alike (x2 y0 y1) (z2 y0 w1)) → Alike (make_bunch x0 x1 x2) (make_bunch x0 z1 z2)
make_bunch_a ns s s' k k' near f0 = made (new_bunch ns) (length ns + 1) s s' k k' near f0

pub with_optional_a : (x0 : ℤ) (x1 : Value) (x2 : ℕ) (x3 z3 : State) (x4 z4 : ℤ → Plan) → N x3 z3 → ((y0 : ℤ) → Alike (x4 y0) (z4 y0)) → Alike (with_optional x0 x1 x2 x3 x4) (with_optional x0 x1 x2 z3 z4)
with_optional_a z Undefined extra s s' k k' near f0 = f0 z
with_optional_a z v extra s s' k k' near f0 = with_number_a (to_number v) extra s s' k k' near f0

pub give_texts_a : (x0 : List (List ℕ)) (x1 z1 : State) → N x1 z1 → Alike (give_texts x0 x1) (give_texts x0 z1)
give_texts_a ts s s' near = either (list_any is_too_long ts) _ _ _ _ (halted LongText s s' near) (make_array_a (map Text ts) (sum_by length ts) s s' give give near (λ v t y u. ended (Is v) t y u))

pub on_object_a : (x0 : Option Value) (x1 z1 : State) (x2 z2 : Value → Plan) → N x1 z1 → ((y0 : Value) → Alike (x2 y0) (z2 y0)) → Alike (on_object x0 x1 x2) (on_object x0 z1 z2)
on_object_a (Some (Own n)) s s' k k' near f0 = f0 (Own n)
on_object_a (Some (Host h)) s s' k k' near f0 = f0 (Host h)
on_object_a this s s' k k' near f0 = faulted E3 s s' near

pub boolean_of_a : (x0 : Value) (x1 z1 : State) → N x1 z1 → Alike (boolean_of x0 x1) (boolean_of x0 z1)
boolean_of_a v s s' near = charged (units_read v) s s' _ _ near (ended (Is (Truth (is_true v))) s s' near)

pub of_number_a : (x0 : Value) (x1 : (WholeRead → OpOut)) (x2 z2 : State) → N x2 z2 → Alike (of_number x0 x1 x2) (of_number x0 x1 z2)
of_number_a v f s s' near = want_primitives_a (v ∷ []) s s' _ _ near (charged (units_read v) s s' _ _ near (result_a (f (to_number v)) s s' near))

pub number_of_a : (x0 : List Value) (x1 z1 : State) → N x1 z1 → Alike (number_of x0 x1) (number_of x0 z1)
number_of_a [] s s' near = ended (Is (Num (pos 0))) s s' near
number_of_a (v ∷ vs) s s' near = of_number_a v (λ r. as_number r (λ z. z)) s s' near

pub text_of_primitive_a : (x0 : Value) (x1 z1 : State) → N x1 z1 → Alike (text_of_primitive x0 x1) (text_of_primitive x0 z1)
text_of_primitive_a (Text t) s s' near = ended (Is (Text t)) s s' near
text_of_primitive_a v s s' near = give_text_a 0 (to_text v) s s' near

pub string_of_a : (x0 : Value) (x1 : ℕ) (x2 z2 : State) → N x2 z2 → Alike (string_of x0 x1 x2) (string_of x0 x1 z2)
string_of_a v d s s' near = either (is_object v) _ _ _ _
    (chain _ _ _ _ (to_primitive_a v d s s' near) (λ o t y u. value o t y _ _ u (λ w. text_of_primitive_a w t y u)))
    (charged (units_read v) s s' _ _ near (text_of_primitive_a v s s' near))

pub string_native_a : (x0 : List Value) (x1 : ℕ) (x2 z2 : State) → N x2 z2 → Alike (string_native x0 x1 x2) (string_native x0 x1 z2)
string_native_a [] d s s' near = give_text_a 0 [] s s' near
string_native_a (v ∷ vs) d s s' near = string_of_a v d s s' near

pub parse_int_a : (x0 : Value) (x1 : Value) (x2 z2 : State) → N x2 z2 → Alike (parse_int x0 x1 x2) (parse_int x0 x1 z2)
parse_int_a v radix s s' near = want_primitives_a (v ∷ radix ∷ []) s s' _ _ near (with_number_a (to_number radix) _ s s' _ _ near (λ z. charged _ s s' _ _ near (result_a (parsed (starts_with_minus (trimmed_start (to_text v))) (without_leading_sign (trimmed_start (to_text v))) z) s s' near)))

pub from_char_code_a : (x0 : List Value) (x1 z1 : State) → N x1 z1 → Alike (from_char_code x0 x1) (from_char_code x0 z1)
from_char_code_a vs s s' near = want_primitives_a vs s s' _ _ near (either (list_any has_left (map to_number vs)) _ _ _ _ (charged _ s s' _ _ near (halted Number s s' near)) (give_text_a _ _ s s' near))

pub global_native_a : (x0 : GlobalNative) (x1 : Option Value) (x2 : List Value) (x3 : ℕ) (x4 z4 : State) → N x4 z4 → Alike (global_native x0 x1 x2 x3 x4) (global_native x0 x1 x2 x3 z4)
global_native_a BooleanOf this vs d s s' near = boolean_of_a (nth 0 vs) s s' near
global_native_a NumberOf this vs d s s' near = number_of_a vs s s' near
global_native_a StringOf this vs d s s' near = string_native_a vs d s s' near
global_native_a IsNaN this vs d s s' near = of_number_a (nth 0 vs) (nan_or_not true) s s' near
global_native_a IsFinite this vs d s s' near = of_number_a (nth 0 vs) (nan_or_not false) s s' near
global_native_a ParseInt this vs d s s' near = parse_int_a (nth 0 vs) (nth 1 vs) s s' near
global_native_a FromCharCode this vs d s s' near = from_char_code_a vs s s' near

pub of_one_a : (x0 : List Value) (x1 : (ℤ → ℤ)) (x2 z2 : State) → N x2 z2 → Alike (of_one x0 x1 x2) (of_one x0 x1 z2)
of_one_a vs f s s' near = want_primitives_a (nth 0 vs ∷ []) s s' _ _ near (charged (length vs) s s' _ _ near (result_a (as_number (to_number (nth 0 vs)) f) s s' near))

pub of_all_a : (x0 : List Value) (x1 : (ℤ → ℤ → ℤ)) (x2 z2 : State) → N x2 z2 → Alike (of_all x0 x1 x2) (of_all x0 x1 z2)
of_all_a vs f s s' near = want_primitives_a vs s s' _ _ near (charged (length vs) s s' _ _ near (result_a (as_number (best f vs) (λ z. z)) s s' near))

pub pow_a : (x0 : Value) (x1 : Value) (x2 : ℕ) (x3 z3 : State) → N x3 z3 → Alike (pow x0 x1 x2 x3) (pow x0 x1 x2 z3)
pow_a a b extra s s' near = want_primitives_a (a ∷ b ∷ []) s s' _ _ near (charged extra s s' _ _ near (result_a (power (to_number a) (to_number b)) s s' near))

pub math_native_a : (x0 : MathNative) (x1 : Option Value) (x2 : List Value) (x3 : ℕ) (x4 z4 : State) → N x4 z4 → Alike (math_native x0 x1 x2 x3 x4) (math_native x0 x1 x2 x3 z4)
math_native_a Abs this vs d s s' near = of_one_a vs (λ z. pos (unsigned_abs z)) s s' near
math_native_a Ceil this vs d s s' near = of_one_a vs (λ z. z) s s' near
math_native_a Floor this vs d s s' near = of_one_a vs (λ z. z) s s' near
math_native_a Round this vs d s s' near = of_one_a vs (λ z. z) s s' near
math_native_a Max this vs d s s' near = of_all_a vs int_max s s' near
math_native_a Min this vs d s s' near = of_all_a vs int_min s s' near
math_native_a Pow this vs d s s' near = pow_a (nth 0 vs) (nth 1 vs) (length vs) s s' near

pub char_at_a : (x0 : List ℕ) (x1 : Value) (x2 z2 : State) → N x2 z2 → Alike (char_at x0 x1 x2) (char_at x0 x1 z2)
char_at_a t i s s' near = want_primitives_a (i ∷ []) s s' _ _ near (with_number_a (to_number i) (length t) s s' _ _ near (λ z. give_text_a (length t) (unit_at t z) s s' near))

pub char_code_at_a : (x0 : List ℕ) (x1 : Value) (x2 z2 : State) → N x2 z2 → Alike (char_code_at x0 x1 x2) (char_code_at x0 x1 z2)
char_code_at_a t i s s' near = want_primitives_a (i ∷ []) s s' _ _ near (with_number_a (to_number i) (length t) s s' _ _ near (λ z. charged (length t) s s' _ _ near (ended (Is (first_code (unit_at t z))) s s' near)))

pub text_concat_a : (x0 : List ℕ) (x1 : List Value) (x2 z2 : State) → N x2 z2 → Alike (text_concat x0 x1 x2) (text_concat x0 x1 z2)
text_concat_a t vs s s' near = want_primitives_a vs s s' _ _ near (give_text_a _ _ s s' near)

pub index_of_a : (x0 : List ℕ) (x1 : Value) (x2 : Value) (x3 z3 : State) → N x3 z3 → Alike (index_of x0 x1 x2 x3) (index_of x0 x1 x2 z3)
index_of_a t x from s s' near = want_primitives_a (x ∷ from ∷ []) s s' _ _ near (with_number_a (to_number from) _ s s' _ _ near (λ z. charged _ s s' _ _ near (ended _ s s' near)))

pub last_index_of_a : (x0 : List ℕ) (x1 : Value) (x2 : Value) (x3 z3 : State) → N x3 z3 → Alike (last_index_of x0 x1 x2 x3) (last_index_of x0 x1 x2 z3)
last_index_of_a t x from s s' near = want_primitives_a (x ∷ from ∷ []) s s' _ _ near (with_number_or_a (pos (length t)) (to_number from) _ s s' _ _ near (λ z. charged _ s s' _ _ near (ended _ s s' near)))

pub text_slice_a : (x0 : List ℕ) (x1 : Value) (x2 : Value) (x3 z3 : State) → N x3 z3 → Alike (text_slice x0 x1 x2 x3) (text_slice x0 x1 x2 z3)
text_slice_a t a b s s' near = want_primitives_a (a ∷ b ∷ []) s s' _ _ near (with_number_a (to_number a) (length t) s s' _ _ near (λ x. with_optional_a (pos (length t)) b (length t) s s' _ _ near (λ y. give_text_a (length t) _ s s' near)))

pub substring_a : (x0 : List ℕ) (x1 : Value) (x2 : Value) (x3 z3 : State) → N x3 z3 → Alike (substring x0 x1 x2 x3) (substring x0 x1 x2 z3)
substring_a t a b s s' near = want_primitives_a (a ∷ b ∷ []) s s' _ _ near (with_number_a (to_number a) (length t) s s' _ _ near (λ x. with_optional_a (pos (length t)) b (length t) s s' _ _ near (λ y. give_text_a (length t) _ s s' near)))

pub split_a : (x0 : List ℕ) (x1 : Value) (x2 z2 : State) → N x2 z2 → Alike (split x0 x1 x2) (split x0 x1 z2)
split_a t Undefined s s' near = charged (length t) s s' _ _ near (make_array_a (Text t ∷ []) 0 s s' give give near (λ v t y u. ended (Is v) t y u))
split_a t x s s' near = want_primitives_a (x ∷ []) s s' _ _ near (charged (length t + (length (to_text x) + sum_by length (pieces (to_text x) t))) s s' _ _ near (give_texts_a (pieces (to_text x) t) s s' near))

pub text_method_a : (x0 : TextNative) (x1 : List ℕ) (x2 : List Value) (x3 z3 : State) → N x3 z3 → Alike (text_method x0 x1 x2 x3) (text_method x0 x1 x2 z3)
text_method_a CharAt t vs s s' near = char_at_a t (nth 0 vs) s s' near
text_method_a CharCodeAt t vs s s' near = char_code_at_a t (nth 0 vs) s s' near
text_method_a TextConcat t vs s s' near = text_concat_a t vs s s' near
text_method_a IndexOf t vs s s' near = index_of_a t (nth 0 vs) (nth 1 vs) s s' near
text_method_a LastIndexOf t vs s s' near = last_index_of_a t (nth 0 vs) (nth 1 vs) s s' near
text_method_a TextSlice t vs s s' near = text_slice_a t (nth 0 vs) (nth 1 vs) s s' near
text_method_a Substring t vs s s' near = substring_a t (nth 0 vs) (nth 1 vs) s s' near
text_method_a Split t vs s s' near = split_a t (nth 0 vs) s s' near
text_method_a w t vs s s' near = give_text_a (length t) (made_of w t) s s' near

pub text_native_a : (x0 : TextNative) (x1 : Option Value) (x2 : List Value) (x3 z3 : State) → N x3 z3 → Alike (text_native x0 x1 x2 x3) (text_native x0 x1 x2 z3)
text_native_a w this vs s s' near = on_text_a this s s' _ _ near (λ t. text_method_a w t vs s s' near)
