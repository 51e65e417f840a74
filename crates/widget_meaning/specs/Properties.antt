-- Properties of every kind of value, and the length of arrays.
use Rattle.std.specs.Prelude.{ℕ, zero, suc, pos, ◌+◌, List, [], ◌∷◌, ◌++◌, Bool, true, false, not, nat_lt, nat_le, if◌then◌else◌, codes, length, max, map, Option, Some, None, is_some, unwrap_or}
use Rattle.std.specs.List.{filter, list_any}
use Rattle.std.specs.Fmt.{decimal}
use Rattle.std.specs.Str.{bytes_eq}
use Rattle.std.specs.Option.{option_map_or}
pub use Rattle.code_units.specs.Indices.{index_of}
use Rattle.code_units.specs.Permitted.{is_permitted}
use Rattle.widget_meaning.specs.Limits.{max_chain, max_length}
use Rattle.permitted_table.specs.declared.native.HostEntry.TheVariants as host
use Rattle.widget_meaning.specs.Values.{Value, Undefined, Null, Truth, NaN, Num, Text, Own, Host, E1, E5, E7}
use Rattle.widget_meaning.specs.OwnState.{State, Cell, Kind, Array, Function, Bunch, Pairs, lookup, replaced, taken_out, cell_at, with_cell, kind_of}
use Rattle.widget_meaning.specs.Plan.{Plan}
use Rattle.widget_meaning.specs.Costs.{pay, slots_cost, throw, give, want}
use Rattle.widget_meaning.specs.HostTable.{host_pairs, host_prototype}

-- ## Indexes: `index_of` gives the index that a name is, if it is one

-- the name of an element
abbrev pub index_name : ℕ → List ℕ
index_name n = decimal n

-- the name `length`
abbrev pub is_length : List ℕ → Bool
is_length x = bytes_eq x (codes "length")

-- ## Reads

-- an own property among these pairs; an array's `length` is one
abbrev pub kind_property : Kind → Pairs → List ℕ → Option Value
kind_property (Array n) ps x = if is_length x then Some (Num (pos n)) else lookup ps x
kind_property kind ps x = lookup ps x

-- an own property of an object
abbrev pub own_property : State → Value → List ℕ → Option Value
own_property s (Own n) x = kind_property (cell_at s n).kind (cell_at s n).pairs x
own_property s (Host h) x = lookup (host_pairs h) x
own_property s v x = None

-- the prototype of an object
abbrev pub prototype : State → Value → Option Value
prototype s (Own n) = Some (cell_at s n).prototype
prototype s (Host h) = host_prototype h
prototype s v = None

-- what was found, or else what is found further on, which is looked for only then
abbrev pub or_else : {A : Type 0} → Option A → (Bool → Option A) → Option A
or_else (Some a) k = Some a
or_else None k = k true

-- the property of the first object on a chain that has it, so many links far
abbrev pub on_chain : ℕ → State → Option Value → List ℕ → Option Value
on_chain zero s o x = None
on_chain (suc n) s None x = None
on_chain (suc n) s (Some o) x = or_else (own_property s o x) (λ _. on_chain n s (prototype s o) x)

-- a property of an object, own or along its prototypes
abbrev pub along : State → Value → List ℕ → Option Value
along s o x = on_chain (suc max_chain) s (Some o) x

-- a property of a value: those of a primitive come from a host prototype; a text has a `length`
abbrev pub property : State → Value → List ℕ → Option Value
property s Undefined x = None
property s Null x = None
property s (Truth b) x = along s (Host host.BooleanPrototype) x
property s NaN x = along s (Host host.NumberPrototype) x
property s (Num z) x = along s (Host host.NumberPrototype) x
property s (Text t) x =
    if is_length x then Some (Num (pos (length t))) else along s (Host host.TextPrototype) x
property s (Own n) x = along s (Own n) x
property s (Host h) x = along s (Host h) x

-- a property, undefined where there is none
abbrev pub get : State → Value → List ℕ → Value
get s v x = unwrap_or (property s v x) Undefined

-- a read: undefined and null have no properties
abbrev pub read : Value → List ℕ → State → Plan
read Undefined x s = throw E1 s
read Null x s = throw E1 s
read v x s = give (get s v x) s

-- ## Writes

-- a write of a name: one that is kept keeps its place, a new one costs a slot
abbrev pub put_pair : Cell → ℕ → List ℕ → Value → State → (State → Plan) → Plan
put_pair c n x v s k =
    if is_some (lookup c.pairs x)
    then k (with_cell s n (record c { pairs = replaced c.pairs x v }))
    else pay (slots_cost 1) s (λ t. k (with_cell t n (record c { pairs = c.pairs ++ (x, v) ∷ [] })))

-- a write of an index at or past the length raises it
abbrev pub put_index : Option ℕ → Cell → ℕ → ℕ → List ℕ → Value → State → (State → Plan) → Plan
put_index None c len n x v s k = put_pair c n x v s k
put_index (Some i) c len n x v s k = put_pair (record c { kind = Array (max len (i + 1)) }) n x v s k

-- whether a name is an index below a length; for a name that is no index, this
abbrev pub is_below : ℕ → Bool → List ℕ → Bool
is_below len other x = option_map_or (λ i. nat_lt i len) (index_of x) other

-- an array cut to a length: without elements at or past it
abbrev pub cut_to : Cell → ℕ → Cell
cut_to c len = record c { kind = Array len; pairs = filter (λ p. is_below len true p.0) c.pairs }

-- a write of an array's `length`: a whole number up to the largest
abbrev pub put_length : Value → Cell → ℕ → State → (State → Plan) → Plan
put_length (Num (pos len)) c n s k = want E7 (nat_le len max_length) s (k (with_cell s n (cut_to c len)))
put_length v c n s k = throw E7 s

-- a write of an own property of an object of the widget; a Bunch is closed
abbrev pub put_own : Kind → Cell → ℕ → List ℕ → Value → State → (State → Plan) → Plan
put_own (Array len) c n x v s k = if is_length x then put_length v c n s k else put_index (index_of x) c len n x v s k
put_own (Bunch ns) c n x v s k = throw E5 s
put_own kind c n x v s k = put_pair c n x v s k

-- a write of a property, and what is done then: on a primitive nothing, and every host object is closed
abbrev pub put : Value → List ℕ → Value → State → (State → Plan) → Plan
put (Own n) x v s k = put_own (cell_at s n).kind (cell_at s n) n x v s k
put (Host h) x v s k = throw E5 s
put o x v s k = k s

-- a pair is taken out, and what is done then
abbrev pub delete_pair : Cell → ℕ → List ℕ → State → (Bool → State → Plan) → Plan
delete_pair c n x s k = k true (with_cell s n (record c { pairs = taken_out c.pairs x }))

-- a property of an object of the widget is taken out, and what is done then; an array keeps its `length`
abbrev pub delete_own : Kind → Cell → ℕ → List ℕ → State → (Bool → State → Plan) → Plan
delete_own (Array len) c n x s k = if is_length x then k false s else delete_pair c n x s k
delete_own (Bunch ns) c n x s k = throw E5 s
delete_own kind c n x s k = delete_pair c n x s k

-- `delete` of a property: of a primitive it gives true
abbrev pub delete : Value → List ℕ → State → (Bool → State → Plan) → Plan
delete (Own n) x s k = delete_own (cell_at s n).kind (cell_at s n) n x s k
delete (Host h) x s k = throw E5 s
delete o x s k = k true s

-- ## Names

-- the permitted names among these pairs, in order of insertion; an array's `length` is none of them
abbrev pub permitted_names : Pairs → List (List ℕ)
permitted_names ps = filter is_permitted (map (λ p. p.0) ps)

-- the own permitted names of an object
abbrev pub keys : State → Value → List (List ℕ)
keys s (Own n) = permitted_names (cell_at s n).pairs
keys s (Host h) = permitted_names (host_pairs h)
keys s v = []

-- whether a name is among those listed
abbrev pub is_listed : List (List ℕ) → List ℕ → Bool
is_listed xs x = list_any (bytes_eq x) xs

-- names behind those listed, without repeats
abbrev pub listed : List (List ℕ) → List (List ℕ) → List (List ℕ)
listed xs ys = xs ++ filter (λ y. not (is_listed xs y)) ys

-- the names along a chain of objects of the widget, behind those listed
abbrev pub names_on_chain : ℕ → State → Option Value → List (List ℕ) → List (List ℕ)
names_on_chain (suc m) s (Some (Own n)) xs =
    names_on_chain m s (Some (cell_at s n).prototype) (listed xs (permitted_names (cell_at s n).pairs))
names_on_chain m s o xs = xs

-- the names that `for-in` lists: own ones, then those along the prototypes; host objects give none
abbrev pub names_of : State → Value → List (List ℕ)
names_of s v = names_on_chain (suc max_chain) s (Some v) []

-- ## Functions

-- whether an object of the widget is a function
abbrev pub is_function_kind : Option Kind → Bool
is_function_kind (Some (Function f scope)) = true
is_function_kind kind = false

-- a function of the widget
abbrev pub is_own_function : State → Value → Bool
is_own_function s v = is_function_kind (kind_of s v)

-- what can be called: a function of the widget or a native
abbrev pub is_function : State → Value → Bool
is_function s (Host (host.Native w)) = true
is_function s v = is_own_function s v
