-- The natives of this crate: those of arrays, and the `toString` of arrays.
use Rattle.std.specs.Prelude.{ℕ, zero, suc, ℤ, pos, ◌+◌, ◌++◌, Bool, true, false, List, [], ◌∷◌, length, Option, Some}
use Rattle.permitted_table.specs.declared.native.NativeId.{NativeId}
use Rattle.permitted_table.specs.declared.native.NativeId.TheVariants as native
use Rattle.widget_meaning.specs.Values.{Value, Undefined, Num, Own, to_number}
use Rattle.widget_meaning.specs.OwnState.{State, cell_at, new_array, with_cell, with_new_cell}
use Rattle.widget_meaning.specs.Plan.{Plan}
use Rattle.widget_meaning.specs.Costs.{cost, give, pay, slots_cost}
use Rattle.widget_meaning.specs.Properties.{cut_to}
use Rattle.widget_meaning.specs.NativeForms.{element, make_array, numbered_pairs}
use Rattle.widget_meaning.specs.ListChanges.{new_indexes, pushed, with_elements}
use Rattle.widget_meaning.specs.ListNatives.{joined_text, list_method}
use Rattle.widget_meaning.specs.PrototypeNatives.{array_to_string}
use Rattle.permitted_table.specs.declared.native.PrototypeNative.TheVariants as prototype
use Rattle.js_image.specs.declared.outcome.Callee.{Callee}
use Rattle.js_image.specs.declared.outcome.Callee.TheVariants as callee
use Rattle.native_common.specs.Numbers.{number_or}

-- whether a native is one of them
abbrev pub is_part : NativeId → Bool
is_part (native.List n) = true
is_part (native.Prototype prototype.ArrayToString) = true
is_part _ = false

-- what `pop` does once it is charged
abbrev pub popped : ℕ → ℕ → State → Plan
popped n zero s = give Undefined s
popped n (suc len) s = give (element (cell_at s n).pairs len) (with_cell s n (cut_to (cell_at s n) len))

-- what `push` does once it is charged
abbrev pub put_last : ℕ → ℕ → List Value → State → Plan
put_last n len vs s =
    pay (slots_cost (length vs)) s
    (λ t. give (Num (pos (len + length vs))) (with_cell t n (pushed (cell_at t n) len vs)))

-- what `splice` does once it is charged: the Array gets elements, and those taken out are a new one, at one cost
abbrev pub exchanged : ℕ → List Value → List Value → State → Plan
exchanged n taken left s =
    pay (cost 0 1 (length taken + new_indexes (cell_at s n) (length left)) 0) s
    (λ t. give (Own (length t.own.heap))
    (with_cell (with_new_cell t (new_array (length taken) (numbered_pairs 0 taken))) n (with_elements (cell_at t n) left)))

-- the same after the cost of the names that are new: the new Array, and then the elements
abbrev pub filled_after : ℕ → List Value → List Value → State → Plan
filled_after n taken left s =
    make_array taken 0 s (λ v t. give v (with_cell t n (with_elements (cell_at t n) left)))

-- how many elements `splice` takes out, by the arguments behind the first; none where the number leaves the numbers
abbrev pub many_taken : ℕ → List Value → Option ℤ
many_taken len [] = Some (pos len)
many_taken len (v ∷ vs) = number_or (pos 0) (to_number v)

-- what `join` puts behind so many elements for the next: its text, behind the text between where it is not the first
abbrev pub joined_next : List ℕ → ℕ → Value → List ℕ
joined_next between zero v = joined_text v
joined_next between (suc at) v = between ++ joined_text v

-- each of them on an Array, by its number and its length; of prototypes there is one
abbrev pub method : NativeId → ℕ → ℕ → List Value → ℕ → State → Plan
method (native.List m) n len vs d s = list_method m n len vs d s
method (native.Prototype p) n len vs d s = array_to_string n len s
method _ n len vs d s = give Undefined s

-- whether what is called is a function of a widget
abbrev pub is_function_callee : Callee → Bool
is_function_callee (callee.Function p) = true
is_function_callee _ = false
