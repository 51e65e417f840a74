-- What natives have in common: arguments, receivers, the extra charge, and what is made.
use Rattle.std.specs.Prelude.{ℕ, ℤ, pos, negsuc, ◌+◌, ◌-◌, min, Bool, List, [], ◌∷◌, length, map, sum_by, nat_lt, if◌then◌else◌, Option, Some, unwrap_or, option_and_then, not}
use Rattle.std.specs.List.{list_any, range_with_len}
use Rattle.code_units.specs.declared.whole.WholeRead.{WholeRead}
use Rattle.code_units.specs.declared.whole.WholeRead.TheVariants as read
use Rattle.widget_meaning.specs.Limits.{max_text}
use Rattle.widget_meaning.specs.Values.{Value, Undefined, Text, Own, Host, E3, E4, Number, LongText, is_object, to_number}
use Rattle.widget_meaning.specs.OwnState.{State, Pairs, lookup, cell_at, new_array, new_bunch, with_new_cell, array_length, kind_of, bunch_nodes}
use Rattle.widget_meaning.specs.Plan.{Plan, Halt, charge}
use Rattle.widget_meaning.specs.Costs.{pay, cost, make, make_text, throw, give, or_throw, want}
use Rattle.widget_meaning.specs.Properties.{index_name, is_own_function}

-- where a row wants primitives, an object throws E4
abbrev pub want_primitives : List Value → State → Plan → Plan
want_primitives vs s p = want E4 (not (list_any is_object vs)) s p

-- where a row wants a function of the widget, all else throws E4
abbrev pub want_function : Value → State → Plan → Plan
want_function f s p = want E4 (is_own_function s f) s p

-- a text as receiver; all else throws E3
abbrev pub on_text : Option Value → State → (List ℕ → Plan) → Plan
on_text (Some (Text t)) s k = k t
on_text this s k = throw E3 s

-- an Array of the widget as receiver, by its number and its length
abbrev pub on_array : Option Value → State → (ℕ → ℕ → Plan) → Plan
on_array (Some (Own n)) s k = or_throw E3 (array_length (kind_of s (Own n))) s (k n)
on_array this s k = throw E3 s

-- a Bunch of the widget as receiver, by its nodes
abbrev pub on_bunch : Option Value → State → (List ℕ → Plan) → Plan
on_bunch this s k = or_throw E3 (option_and_then (λ v. bunch_nodes (kind_of s v)) this) s k

-- a number argument, NaN as this number; where it leaves the numbers, the extra is taken and the widget stops
abbrev pub with_number_or : ℤ → WholeRead → ℕ → State → (ℤ → Plan) → Plan
with_number_or z (read.Whole x) extra s k = k x
with_number_or z read.NotNumber extra s k = k z
with_number_or z read.Left extra s k = charge extra s (Halt Number s)

-- the same, NaN as 0
abbrev pub with_number : WholeRead → ℕ → State → (ℤ → Plan) → Plan
with_number r extra s k = with_number_or (pos 0) r extra s k

-- the extra, which counts the units made too, and then the text that is made and given
abbrev pub give_text : ℕ → List ℕ → State → Plan
give_text extra t s = charge (extra + length t) s (make_text t s (give (Text t)))

-- an element, undefined where it is missing
abbrev pub element : Pairs → ℕ → Value
element ps i = unwrap_or (lookup ps (index_name i)) Undefined

-- the elements of an array below its length, in order
abbrev pub elements : State → ℕ → ℕ → List Value
elements s n len = map (element (cell_at s n).pairs) (range_with_len 0 len)

-- the elements as names and values, numbered from here
abbrev pub numbered_pairs : ℕ → List Value → Pairs
numbered_pairs i [] = []
numbered_pairs i (v ∷ vs) = (index_name i, v) ∷ numbered_pairs (i + 1) vs

-- a new array of these elements, with so many units of texts made for it: one cost
abbrev pub make_array : List Value → ℕ → State → (Value → State → Plan) → Plan
make_array vs units s k =
    pay (cost units 1 (length vs) 0) s
    (λ t. k (Own (length t.own.heap)) (with_new_cell t (new_array (length vs) (numbered_pairs 0 vs))))

-- a new Bunch of these nodes: a cell, and a slot more than there are nodes
abbrev pub make_bunch : List ℕ → State → (Value → State → Plan) → Plan
make_bunch ns s k = make (new_bunch ns) (length ns + 1) s k

-- a number argument that may be absent, which then is this number
abbrev pub with_optional : ℤ → Value → ℕ → State → (ℤ → Plan) → Plan
with_optional z Undefined extra s k = k z
with_optional z v extra s k = with_number (to_number v) extra s k

-- a position: below 0 it is 0, past the end it is the end
abbrev pub clamped : ℕ → ℤ → ℕ
clamped len (pos n) = min n len
clamped len (negsuc n) = 0

-- a position where a negative one is counted from the end
abbrev pub from_end : ℕ → ℤ → ℕ
from_end len (pos n) = min n len
from_end len (negsuc n) = len - (n + 1)

-- a text that is longer than a text can be
abbrev pub is_too_long : List ℕ → Bool
is_too_long t = nat_lt max_text (length t)

-- a new array of texts that are all made for it: one is too long, or one cost
abbrev pub give_texts : List (List ℕ) → State → Plan
give_texts ts s =
    if list_any is_too_long ts then Halt LongText s else make_array (map Text ts) (sum_by length ts) s give

-- an object as receiver: of the widget, or an entry of the permitted table
abbrev pub on_object : Option Value → State → (Value → Plan) → Plan
on_object (Some (Own n)) s k = k (Own n)
on_object (Some (Host h)) s k = k (Host h)
on_object this s k = throw E3 s
