-- `hasOwnProperty` and the `toString` of each prototype. No row but that of arrays has an extra.
use Rattle.std.specs.Prelude.{ℕ, ℤ, pos, unsigned_abs, int_le, ◌+◌, Bool, false, ◌&&◌, List, [], ◌∷◌, ◌++◌, is_some, if◌then◌else◌, codes, Option, Some}
use Rattle.std.specs.Fmt.{digits}
use Rattle.std.specs.Int.{is_negative}
use Rattle.code_units.specs.Permitted.{is_permitted}
use Rattle.widget_meaning.specs.Limits.{min_radix, max_radix}
use Rattle.permitted_table.specs.declared.native.PrototypeNative.{PrototypeNative}
use Rattle.permitted_table.specs.declared.native.PrototypeNative.TheVariants.{HasOwnProperty, ObjectToString, ArrayToString, FunctionToString, TextToString, NumberToString, BooleanToString}
use Rattle.widget_meaning.specs.Values.{Value, Truth, NaN, Num, Text, E3, E7, to_text, nth}
use Rattle.widget_meaning.specs.OwnState.{State}
use Rattle.widget_meaning.specs.Plan.{Plan}
use Rattle.widget_meaning.specs.Costs.{make_text, throw, give, want}
use Rattle.widget_meaning.specs.Properties.{own_property, is_function}
use Rattle.widget_meaning.specs.NativeForms.{want_primitives, on_object, on_array, on_text, with_optional}
use Rattle.widget_meaning.specs.ListNatives.{join}

-- `hasOwnProperty(name)`: whether the object has that own name and the name is permitted
abbrev pub has_own_property : Option Value → Value → State → Plan
has_own_property this x s =
    on_object this s (λ o. want_primitives (x ∷ []) s
    (give (Truth (is_some (own_property s o (to_text x)) && is_permitted (to_text x))) s))

-- a text that is made and given, without an extra
abbrev pub give_made : List ℕ → State → Plan
give_made t s = make_text t s (give (Text t))

-- the `toString` of functions: those of the widget, and natives
abbrev pub function_to_string : Option Value → State → Plan
function_to_string (Some v) s = want E3 (is_function s v) s (give_made (codes "[function]") s)
function_to_string this s = throw E3 s

-- the `toString` of arrays is `join(",")`, with its extra: the length, one argument and the units made
abbrev pub array_to_string : ℕ → ℕ → State → Plan
array_to_string n len s = join n len (Text (codes ",")) (len + 1) s

-- the text of a number in a radix; NaN has one text
abbrev pub number_text : Value → ℤ → List ℕ
number_text (Num z) radix =
    (if is_negative z then codes "-" else []) ++ digits (unsigned_abs radix) false (unsigned_abs z)
number_text v radix = to_text v

-- 2 to 36
abbrev pub is_radix : ℤ → Bool
is_radix z = int_le (pos min_radix) z && int_le z (pos max_radix)

-- 10 where absent; a radix outside 2 to 36 throws E7
abbrev pub in_radix : Value → Value → State → Plan
in_radix v radix s =
    want_primitives (radix ∷ []) s
    (with_optional (pos 10) radix 0 s (λ r. want E7 (is_radix r) s (give_made (number_text v r) s)))

-- the `toString` of numbers
abbrev pub number_to_string : Option Value → Value → State → Plan
number_to_string (Some NaN) radix s = in_radix NaN radix s
number_to_string (Some (Num z)) radix s = in_radix (Num z) radix s
number_to_string this radix s = throw E3 s

-- the `toString` of truth values
abbrev pub boolean_to_string : Option Value → State → Plan
boolean_to_string (Some (Truth b)) s = give_made (to_text (Truth b)) s
boolean_to_string this s = throw E3 s

-- the natives, each by its row
abbrev pub prototype_native : PrototypeNative → Option Value → List Value → ℕ → State → Plan
prototype_native HasOwnProperty this vs d s = has_own_property this (nth 0 vs) s
prototype_native ObjectToString this vs d s = on_object this s (λ o. give_made (codes "[object Object]") s)
prototype_native ArrayToString this vs d s = on_array this s (λ n len. array_to_string n len s)
prototype_native FunctionToString this vs d s = function_to_string this s
prototype_native TextToString this vs d s = on_text this s (λ t. give (Text t) s)
prototype_native NumberToString this vs d s = number_to_string this (nth 0 vs) s
prototype_native BooleanToString this vs d s = boolean_to_string this s
