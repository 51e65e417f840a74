-- The methods of texts. The extra counts the units of the text, of arguments that stand for texts, and of what is made.
use Rattle.std.specs.Prelude.{ℕ, zero, suc, ℤ, pos, negsuc, ◌+◌, ◌-◌, min, max, Bool, true, false, List, [], ◌∷◌, ◌++◌, length, take, drop, map, sum_by, nat_eq, nat_le, slice_range, Option, Some, None, slice_get}
use Rattle.std.specs.List.{filter, flat_map, starts_with, range_with_len, last_or, onto_first}
use Rattle.std.specs.Str.{str_to_ascii_lowercase, str_to_ascii_uppercase}
use Rattle.permitted_table.specs.declared.native.TextNative.{TextNative}
use Rattle.permitted_table.specs.declared.native.TextNative.TheVariants.{CharAt, CharCodeAt, TextConcat, IndexOf, LastIndexOf, TextSlice, Substring, Split, ToLowerCase, ToUpperCase}
use Rattle.widget_meaning.specs.Values.{Value, Undefined, NaN, Num, Text, to_text, to_number, nth}
use Rattle.widget_meaning.specs.OwnState.{State}
use Rattle.widget_meaning.specs.Plan.{Plan, charge}
use Rattle.widget_meaning.specs.Costs.{give}
use Rattle.widget_meaning.specs.NativeForms.{want_primitives, on_text, with_number, with_number_or, with_optional, clamped, from_end, give_text, give_texts, make_array}

-- the unit at a position as a text, and nothing outside
abbrev pub unit_at : List ℕ → ℤ → List ℕ
unit_at t (pos n) = take 1 (drop n t)
unit_at t (negsuc n) = []

-- `charAt(i)`
abbrev pub char_at : List ℕ → Value → State → Plan
char_at t i s =
    want_primitives (i ∷ []) s (with_number (to_number i) (length t) s (λ z. give_text (length t) (unit_at t z) s))

-- the first unit as a number, NaN where there is none
abbrev pub first_code : List ℕ → Value
first_code [] = NaN
first_code (u ∷ us) = Num (pos u)

-- `charCodeAt(i)`: no text is made
abbrev pub char_code_at : List ℕ → Value → State → Plan
char_code_at t i s =
    want_primitives (i ∷ []) s
    (with_number (to_number i) (length t) s (λ z. charge (length t) s (give (first_code (unit_at t z)) s)))

-- `concat(a, ...)`
abbrev pub text_concat : List ℕ → List Value → State → Plan
text_concat t vs s =
    want_primitives vs s (give_text (length t + length (flat_map to_text vs)) (t ++ flat_map to_text vs) s)

-- all positions at which a text stands in another, rising; the empty text at each and at the end
abbrev pub positions : List ℕ → List ℕ → List ℕ
positions t x = filter (λ i. starts_with nat_eq (drop i t) x) (range_with_len 0 (length t + 1))

-- a position as a number, and -1 for none
abbrev pub found : Option ℕ → Value
found (Some i) = Num (pos i)
found None = Num (negsuc 0)

-- `indexOf(s, from)`: the least position at or after `from`
abbrev pub index_of : List ℕ → Value → Value → State → Plan
index_of t x from s =
    let extra : ℕ = length t + length (to_text x) in
    want_primitives (x ∷ from ∷ []) s (with_number (to_number from) extra s
    (λ z. charge extra s
    (give (found (slice_get (filter (nat_le (clamped (length t) z)) (positions t (to_text x))) 0)) s)))

-- `lastIndexOf(s, from)`: the greatest position at or before `from`, which for NaN is the end
abbrev pub last_index_of : List ℕ → Value → Value → State → Plan
last_index_of t x from s =
    let extra : ℕ = length t + length (to_text x) in
    want_primitives (x ∷ from ∷ []) s (with_number_or (pos (length t)) (to_number from) extra s
    (λ z. charge extra s
    (give (found (last_or None (filter (λ i. nat_le i (clamped (length t) z)) (positions t (to_text x))))) s)))

-- `slice(a, b)`: negatives from the end, an absent b is the end
abbrev pub text_slice : List ℕ → Value → Value → State → Plan
text_slice t a b s =
    let len : ℕ = length t in
    want_primitives (a ∷ b ∷ []) s (with_number (to_number a) len s (λ x. with_optional (pos len) b len s
    (λ y. give_text len (slice_range t (from_end len x) (from_end len y)) s)))

-- between the lesser and the greater of two positions
abbrev pub between : List ℕ → ℕ → ℕ → List ℕ
between t i j = slice_range t (min i j) (max i j)

-- `substring(a, b)`: an absent b is the end
abbrev pub substring : List ℕ → Value → Value → State → Plan
substring t a b s =
    let len : ℕ = length t in
    want_primitives (a ∷ b ∷ []) s (with_number (to_number a) len s (λ x. with_optional (pos len) b len s
    (λ y. give_text len (between t (clamped len x) (clamped len y)) s)))

-- at a unit: where the text stands a piece ends, else the unit belongs to the first piece
abbrev pub cut_here : Bool → List ℕ → ℕ → (ℕ → List (List ℕ)) → List (List ℕ)
cut_here true x u after = [] ∷ after (length x - 1)
cut_here false x u after = onto_first u (after 0)

-- the pieces between the occurrences of a text, from the left; so many units are still to be passed over
abbrev pub pieces_from : List ℕ → ℕ → List ℕ → List (List ℕ)
pieces_from x k [] = [] ∷ []
pieces_from x zero (u ∷ us) = cut_here (starts_with nat_eq (u ∷ us) x) x u (λ k. pieces_from x k us)
pieces_from x (suc k) (u ∷ us) = pieces_from x k us

-- between empty texts stand the units one by one
abbrev pub pieces : List ℕ → List ℕ → List (List ℕ)
pieces [] t = map (λ u. u ∷ []) t
pieces (x ∷ xs) t = pieces_from (x ∷ xs) 0 t

-- `split(s)`: where s is absent the text itself is handed on
abbrev pub split : List ℕ → Value → State → Plan
split t Undefined s = charge (length t) s (make_array (Text t ∷ []) 0 s give)
split t x s =
    want_primitives (x ∷ []) s
    (charge (length t + (length (to_text x) + sum_by length (pieces (to_text x) t))) s
    (give_texts (pieces (to_text x) t) s))

-- what a method makes of a text by itself, without arguments
abbrev pub made_of : TextNative → List ℕ → List ℕ
made_of ToLowerCase t = str_to_ascii_lowercase t
made_of ToUpperCase t = str_to_ascii_uppercase t
made_of w t = t

-- the methods of a text; the others make one of it by itself
abbrev pub text_method : TextNative → List ℕ → List Value → State → Plan
text_method CharAt t vs s = char_at t (nth 0 vs) s
text_method CharCodeAt t vs s = char_code_at t (nth 0 vs) s
text_method TextConcat t vs s = text_concat t vs s
text_method IndexOf t vs s = index_of t (nth 0 vs) (nth 1 vs) s
text_method LastIndexOf t vs s = last_index_of t (nth 0 vs) (nth 1 vs) s
text_method TextSlice t vs s = text_slice t (nth 0 vs) (nth 1 vs) s
text_method Substring t vs s = substring t (nth 0 vs) (nth 1 vs) s
text_method Split t vs s = split t (nth 0 vs) s
text_method w t vs s = give_text (length t) (made_of w t) s

-- a text as receiver
abbrev pub text_native : TextNative → Option Value → List Value → State → Plan
text_native w this vs s = on_text this s (λ t. text_method w t vs s)
