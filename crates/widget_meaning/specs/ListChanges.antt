-- The methods that change an array.
-- All but `push` and `pop` leave every index below the length, rising, behind all else.
use Rattle.std.specs.Prelude.{ℕ, zero, suc, pos, ℤ, ◌+◌, ◌-◌, Bool, true, false, List, [], ◌∷◌, ◌++◌, length, take, drop, sum_by, nat_lt, is_none, if◌then◌else◌, Option, Some, None, unwrap_or}
use Rattle.std.specs.Prelude as std
use Rattle.std.specs.List.{filter}
use Rattle.std.specs.Option.{option_map_or}
use Rattle.widget_meaning.specs.Limits.{max_length}
use Rattle.widget_meaning.specs.Values.{Value, Undefined, Num, Own, E4, E7, to_text, to_number, nth}
use Rattle.widget_meaning.specs.Operators.{is_text_before}
use Rattle.widget_meaning.specs.OwnState.{State, Cell, cell_at, with_cell, new_array, with_new_cell, array_length, kind_of, Array}
use Rattle.widget_meaning.specs.Plan.{Plan, charge}
use Rattle.widget_meaning.specs.Costs.{pay, cost, slots_cost, throw, give}
use Rattle.widget_meaning.specs.Properties.{index_of, is_below, cut_to}
use Rattle.widget_meaning.specs.NativeForms.{want_primitives, with_number, from_end, clamped, element, elements, numbered_pairs}

-- what an argument of `concat` adds: the elements of an array, all else by itself
abbrev pub array_elements : State → Value → List Value
array_elements s (Own n) = option_map_or (elements s n) (array_length (kind_of s (Own n))) (Own n ∷ [])
array_elements s v = v ∷ []

-- the extra, without units made: the lengths of the array and of array arguments, and the number of arguments
abbrev pub list_extra : ℕ → List Value → State → ℕ
list_extra len vs s = len + (sum_by (λ v. unwrap_or (array_length (kind_of s v)) 0) vs + length vs)

-- an array with these elements, after its other names
abbrev pub with_elements : Cell → List Value → Cell
with_elements c vs =
    record c { kind = Array (length vs); pairs = filter (λ p. is_none (index_of p.0)) c.pairs ++ numbered_pairs 0 vs }

-- how many indexes below the new length were no names: each costs a slot
abbrev pub new_indexes : Cell → ℕ → ℕ
new_indexes c len = len - length (filter (λ p. is_below len false p.0) c.pairs)

-- the array gets these elements, and the native gives this
abbrev pub change : ℕ → List Value → Value → State → Plan
change n vs v s =
    pay (slots_cost (new_indexes (cell_at s n) (length vs))) s
    (λ t. give v (with_cell t n (with_elements (cell_at t n) vs)))

-- `pop()`: the last element is taken out and given; undefined where there is none
abbrev pub pop : ℕ → ℕ → List Value → State → Plan
pop n zero vs s = charge (length vs) s (give Undefined s)
pop n (suc len) vs s =
    charge (length vs) s (give (element (cell_at s n).pairs len) (with_cell s n (cut_to (cell_at s n) len)))

-- an array with these elements at its end
abbrev pub pushed : Cell → ℕ → List Value → Cell
pushed c len vs = record c { kind = Array (len + length vs); pairs = c.pairs ++ numbered_pairs len vs }

-- `push(a, ...)`: gives the length; E7 where it would pass the largest
abbrev pub push : ℕ → ℕ → List Value → State → Plan
push n len vs s =
    if nat_lt max_length (len + length vs) then throw E7 s
    else charge (length vs) s (pay (slots_cost (length vs)) s
    (λ t. give (Num (pos (len + length vs))) (with_cell t n (pushed (cell_at t n) len vs))))

-- `shift()`: the first element is taken out and given
abbrev pub shift : ℕ → ℕ → List Value → State → Plan
shift n len vs s = charge (list_extra len vs s) s (change n (drop 1 (elements s n len)) (nth 0 (elements s n len)) s)

-- `unshift(a, ...)`: at the front, and gives the length
abbrev pub unshift : ℕ → ℕ → List Value → State → Plan
unshift n len vs s =
    if nat_lt max_length (len + length vs) then throw E7 s
    else charge (list_extra len vs s) s (change n (vs ++ elements s n len) (Num (pos (len + length vs))) s)

-- `reverse()`
abbrev pub reverse : ℕ → ℕ → List Value → State → Plan
reverse n len vs s = charge (list_extra len vs s) s (change n (std.reverse (elements s n len)) (Own n) s)

-- what an element is sorted by: its text; undefined has none
abbrev pub sort_key : Value → Option (List ℕ)
sort_key Undefined = None
sort_key v = Some (to_text v)

-- by units, undefined last
abbrev pub is_key_before : Option (List ℕ) → Option (List ℕ) → Bool
is_key_before None b = false
is_key_before (Some t) None = true
is_key_before (Some t) (Some u) = is_text_before t u

-- whether an element comes before another
abbrev pub is_before : Value → Value → Bool
is_before v w = is_key_before (sort_key v) (sort_key w)

-- an element goes before those of sorted ones that do not come before it
abbrev pub put_in : Value → List Value → List Value
put_in v [] = v ∷ []
put_in v (w ∷ ws) = if is_before w v then w ∷ put_in v ws else v ∷ w ∷ ws

-- the elements in order; those that tie keep theirs
abbrev pub sorted : List Value → List Value
sorted [] = []
sorted (v ∷ vs) = put_in v (sorted vs)

-- an argument that is not undefined throws E4
abbrev pub without_order : Value → State → Plan → Plan
without_order Undefined s p = p
without_order v s p = throw E4 s

-- `sort()`: an object among the elements throws E4
abbrev pub sort : ℕ → ℕ → List Value → State → Plan
sort n len vs s =
    without_order (nth 0 vs) s (want_primitives (elements s n len) s
    (charge (list_extra len vs s) s (change n (sorted (elements s n len)) (Own n) s)))

-- elements are taken out at a place and others put in; those taken are a new array: one cost for both
abbrev pub spliced : ℕ → List Value → ℕ → ℕ → List Value → State → Plan
spliced n vs at count new s =
    let taken : List Value = take count (drop at vs) in
    let left : List Value = take at vs ++ (new ++ drop (at + count) vs) in
    pay (cost 0 1 (length taken + new_indexes (cell_at s n) (length left)) 0) s
    (λ t. give (Own (length t.own.heap))
    (with_cell (with_new_cell t (new_array (length taken) (numbered_pairs 0 taken))) n
    (with_elements (cell_at t n) left)))

-- how many are taken out: to the end where n is absent, not undefined
abbrev pub splice_count : ℕ → List Value → ℕ → State → (ℤ → Plan) → Plan
splice_count len [] extra s k = k (pos len)
splice_count len (v ∷ vs) extra s k = with_number (to_number v) extra s k

-- `splice(a, n, v, ...)`
abbrev pub splice : ℕ → ℕ → List Value → State → Plan
splice n len vs s =
    let extra : ℕ = list_extra len vs s in
    want_primitives (take 2 vs) s (with_number (to_number (nth 0 vs)) extra s (λ a. splice_count len (drop 1 vs) extra s
    (λ count. charge extra s
    (spliced n (elements s n len) (from_end len a) (clamped (len - from_end len a) count) (drop 2 vs) s))))
