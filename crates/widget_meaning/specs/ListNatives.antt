-- The methods of arrays that leave the array as it is. A missing element is read as undefined.
use Rattle.std.specs.Prelude.{ℕ, pos, ◌+◌, List, [], ◌∷◌, ◌++◌, map, zip, slice_range, codes, Option, None}
use Rattle.std.specs.List.{filter, flat_map, join_by}
use Rattle.permitted_table.specs.declared.native.ListNative.{ListNative}
use Rattle.permitted_table.specs.declared.native.ListNative.TheVariants.{ListConcat, Join, Pop, Push, Shift, Unshift, Reverse, Sort, ListSlice, Splice, ForEach, MapNative, FilterNative}
use Rattle.widget_meaning.specs.Values.{Value, Undefined, Null, Num, is_true, to_text, to_number, nth}
use Rattle.widget_meaning.specs.OwnState.{State}
use Rattle.widget_meaning.specs.Plan.{Plan, Do, Call, charge, after}
use Rattle.widget_meaning.specs.Costs.{give}
use Rattle.widget_meaning.specs.NativeForms.{want_primitives, want_function, on_array, elements, make_array, with_number, with_optional, from_end, give_text}
use Rattle.widget_meaning.specs.ListChanges.{list_extra, array_elements, pop, push, shift, unshift, reverse, sort, splice}

-- `concat(a, ...)`: the elements, then each argument, arrays by their elements
abbrev pub list_concat : ℕ → ℕ → List Value → State → Plan
list_concat n len vs s =
    charge (list_extra len vs s) s (make_array (elements s n len ++ flat_map (array_elements s) vs) 0 s give)

-- the text of an element; undefined and null are empty
abbrev pub joined_text : Value → List ℕ
joined_text Undefined = []
joined_text Null = []
joined_text v = to_text v

-- the text between, a comma where absent
abbrev pub separator : Value → List ℕ
separator Undefined = codes ","
separator v = to_text v

-- `join(s)`: an object among the elements throws E4, before the extra
abbrev pub join : ℕ → ℕ → Value → ℕ → State → Plan
join n len x extra s =
    want_primitives (x ∷ elements s n len) s
    (give_text extra (join_by joined_text (separator x) (elements s n len)) s)

-- `slice(a, b)`
abbrev pub list_slice : ℕ → ℕ → Value → Value → ℕ → State → Plan
list_slice n len a b extra s =
    want_primitives (a ∷ b ∷ []) s (with_number (to_number a) extra s (λ x. with_optional (pos len) b extra s
    (λ y. charge extra s (make_array (slice_range (elements s n len) (from_end len x) (from_end len y)) 0 s give))))

-- a call of a function with each element and its index, in order, and what is done with what the calls gave
abbrev pub call_each : Value → List Value → ℕ → List Value → ℕ → State → (List Value → State → Plan) → Plan
call_each f [] i ws d s k = k ws s
call_each f (v ∷ vs) i ws d s k =
    Do (Call f None (v ∷ Num (pos i) ∷ []) d) s (after (λ w t. call_each f vs (i + 1) (ws ++ w ∷ []) d t k))

-- `forEach`, `map` and `filter`: the elements are listed at the start; a new array is made after the last call
abbrev pub over : ℕ → ℕ → Value → ℕ → State → (List Value → State → Plan) → Plan
over n len f d s k = want_function f s (charge len s (call_each f (elements s n len) 0 [] d s k))

-- the elements whose result is none of the false values
abbrev pub kept : List Value → List Value → List Value
kept vs ws = map (λ p. p.0) (filter (λ p. is_true p.1) (zip vs ws))

-- the methods of an array by its number and length
abbrev pub list_method : ListNative → ℕ → ℕ → List Value → ℕ → State → Plan
list_method ListConcat n len vs d s = list_concat n len vs s
list_method Join n len vs d s = join n len (nth 0 vs) (list_extra len vs s) s
list_method ListSlice n len vs d s = list_slice n len (nth 0 vs) (nth 1 vs) (list_extra len vs s) s
list_method ForEach n len vs d s = over n len (nth 0 vs) d s (λ ws t. give Undefined t)
list_method MapNative n len vs d s = over n len (nth 0 vs) d s (λ ws t. make_array ws 0 t give)
list_method FilterNative n len vs d s =
    over n len (nth 0 vs) d s (λ ws t. make_array (kept (elements s n len) ws) 0 t give)
list_method Pop n len vs d s = pop n len vs s
list_method Push n len vs d s = push n len vs s
list_method Shift n len vs d s = shift n len vs s
list_method Unshift n len vs d s = unshift n len vs s
list_method Reverse n len vs d s = reverse n len vs s
list_method Sort n len vs d s = sort n len vs s
list_method Splice n len vs d s = splice n len vs s

-- an array as receiver
abbrev pub list_native : ListNative → Option Value → List Value → ℕ → State → Plan
list_native w this vs d s = on_array this s (λ n len. list_method w n len vs d s)
