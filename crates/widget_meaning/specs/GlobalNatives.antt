-- The natives among the listed globals. The extra counts the units of arguments that are texts, and of what is made.
use Rattle.std.specs.Prelude.{ℕ, zero, suc, ℤ, pos, negsuc, neg_ℤ, ◌+◌, ◌==◌, Bool, true, false, not, ◌&&◌, List, [], ◌∷◌, length, take, drop, sum_by, map, slice_index, nat_lt, nat_le, unsigned_abs, if◌then◌else◌, Option}
use Rattle.std.specs.List.{list_any, prefix_len}
use Rattle.std.specs.Int.{int_rem_euclid}
use Rattle.std.specs.Char.{is_digit}
use Rattle.std.specs.Str.{byte}
use Rattle.std.specs.Str.Parse.{digits_value, starts_with_minus, without_leading_sign}
use Rattle.code_units.specs.declared.whole.WholeRead.{WholeRead}
use Rattle.code_units.specs.declared.whole.WholeRead.TheVariants as read
use Rattle.code_units.specs.Whole.{is_x, trimmed_start}
use Rattle.widget_meaning.specs.Limits.{min_radix, max_radix, past_units}
use Rattle.permitted_table.specs.declared.native.GlobalNative.{GlobalNative}
use Rattle.permitted_table.specs.declared.native.GlobalNative.TheVariants.{BooleanOf, NumberOf, StringOf, IsNaN, IsFinite, ParseInt, FromCharCode}
use Rattle.widget_meaning.specs.Values.{Value, Truth, NaN, Num, Text, Number, is_object, is_true, to_text, to_number, nth}
use Rattle.widget_meaning.specs.Operators.{OpOut, Gives, Leaves, number, truth, as_number}
use Rattle.widget_meaning.specs.OwnState.{State}
use Rattle.widget_meaning.specs.Plan.{Plan, Halt, and_then, charge, after}
use Rattle.widget_meaning.specs.Costs.{give}
use Rattle.widget_meaning.specs.Calls.{to_primitive}
use Rattle.widget_meaning.specs.Expressions.{result}
use Rattle.widget_meaning.specs.NativeForms.{want_primitives, with_number, give_text}

-- the units that are read of an argument
abbrev pub units_read : Value → ℕ
units_read (Text t) = length t
units_read v = 0

-- `Boolean(v)`
abbrev pub boolean_of : Value → State → Plan
boolean_of v s = charge (units_read v) s (give (Truth (is_true v)) s)

-- a function of one number: `isNaN(v)`, `isFinite(v)` and `Number(v)`
abbrev pub of_number : Value → (WholeRead → OpOut) → State → Plan
of_number v f s = want_primitives (v ∷ []) s (charge (units_read v) s (result (f (to_number v)) s))

-- `Number(v)`: absent, not undefined, gives 0
abbrev pub number_of : List Value → State → Plan
number_of [] s = give (Num (pos 0)) s
number_of (v ∷ vs) s = of_number v (λ r. as_number r (λ z. z)) s

-- whether it is NaN, or is not
abbrev pub nan_or_not : Bool → WholeRead → OpOut
nan_or_not b read.NotNumber = truth b
nan_or_not b (read.Whole z) = truth (not b)
nan_or_not b read.Left = Leaves

-- a text is handed on; another primitive has its text made
abbrev pub text_of_primitive : Value → State → Plan
text_of_primitive (Text t) s = give (Text t) s
text_of_primitive v s = give_text 0 (to_text v) s

-- `String(v)`: an object by its `toString`
abbrev pub string_of : Value → ℕ → State → Plan
string_of v d s =
    if is_object v then and_then (to_primitive v d s) (after text_of_primitive)
    else charge (units_read v) s (text_of_primitive v s)

-- absent, not undefined, gives the empty text
abbrev pub string_native : List Value → ℕ → State → Plan
string_native [] d s = give_text 0 [] s
string_native (v ∷ vs) d s = string_of v d s

-- whether a text begins with `0x`
abbrev pub has_0x : List ℕ → Bool
has_0x us = slice_index us 0 == byte "0" && is_x (slice_index us 1)

-- a radix of 0 means 16 after `0x`, else 10
abbrev pub radix_of : List ℕ → ℤ → ℕ
radix_of us (pos zero) = if has_0x us then 16 else 10
radix_of us (pos (suc n)) = suc n
radix_of us (negsuc n) = 0

-- for 16 the `0x` is passed over
abbrev pub without_0x : ℕ → List ℕ → List ℕ
without_0x radix us = if radix == 16 && has_0x us then drop 2 us else us

-- the longest run of digits
abbrev pub digit_run : ℕ → List ℕ → List ℕ
digit_run radix us = take (prefix_len (λ u. is_digit u radix) us) us

-- a radix outside 2 to 36, and no digit, give NaN
abbrev pub run_value : Bool → ℕ → List ℕ → OpOut
run_value negative radix ds =
    if nat_le min_radix radix && nat_le radix max_radix && nat_lt 0 (length ds)
    then number (if negative then neg_ℤ (pos (digits_value radix ds)) else pos (digits_value radix ds))
    else Gives NaN

-- the number of what stands after blanks and sign
abbrev pub parsed : Bool → List ℕ → ℤ → OpOut
parsed negative us z = run_value negative (radix_of us z) (digit_run (radix_of us z) (without_0x (radix_of us z) us))

-- `parseInt(s, radix)`: the extra is all units of `s` as a text, and those of a radix that is a text
abbrev pub parse_int : Value → Value → State → Plan
parse_int v radix s =
    let us : List ℕ = trimmed_start (to_text v) in
    let extra : ℕ = length (to_text v) + units_read radix in
    want_primitives (v ∷ radix ∷ []) s (with_number (to_number radix) extra s
    (λ z. charge extra s (result (parsed (starts_with_minus us) (without_leading_sign us) z) s)))

-- a number modulo 65536, NaN as 0
abbrev pub code_of : WholeRead → ℕ
code_of (read.Whole z) = unsigned_abs (int_rem_euclid z (pos past_units))
code_of r = 0

-- whether it leaves the numbers
abbrev pub has_left : WholeRead → Bool
has_left read.Left = true
has_left r = false

-- `String.fromCharCode(u, ...)`
abbrev pub from_char_code : List Value → State → Plan
from_char_code vs s =
    let extra : ℕ = sum_by units_read vs in
    want_primitives vs s
    (if list_any has_left (map to_number vs) then charge extra s (Halt Number s)
    else give_text extra (map code_of (map to_number vs)) s)

-- the natives, each by its row
abbrev pub global_native : GlobalNative → Option Value → List Value → ℕ → State → Plan
global_native BooleanOf this vs d s = boolean_of (nth 0 vs) s
global_native NumberOf this vs d s = number_of vs s
global_native StringOf this vs d s = string_native vs d s
global_native IsNaN this vs d s = of_number (nth 0 vs) (nan_or_not true) s
global_native IsFinite this vs d s = of_number (nth 0 vs) (nan_or_not false) s
global_native ParseInt this vs d s = parse_int (nth 0 vs) (nth 1 vs) s
global_native FromCharCode this vs d s = from_char_code vs s
