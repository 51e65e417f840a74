-- Costs, their limits and the order of stops; faults as objects.
use Rattle.std.specs.Prelude.{ℕ, ◌+◌, List, [], ◌∷◌, length, nat_lt, if◌then◌else◌, codes, Option, Some, None, Bool}
use Rattle.widget_meaning.specs.Limits.{max_cells, max_slots, max_units, max_nodes, max_text}
use Rattle.widget_meaning.specs.Values.{Value, Text, Own, Throw, Is, Fault, E1, E2, E3, E4, E5, E6, E7, E8, E9, E10, E11, E12, Cells, Slots, Units, LongText, Nodes}
use Rattle.widget_meaning.specs.OwnState.{Amounts, State, Cell, Pairs, with_own, with_new_cell, plain_object, Scope}
use Rattle.widget_meaning.specs.Plan.{Plan, Ret, Halt}

-- ## What things cost: units of text, cells, slots, nodes

-- all four
abbrev pub cost : ℕ → ℕ → ℕ → ℕ → Amounts
cost units cells slots nodes = record { units = units; cells = cells; slots = slots; nodes = nodes }

-- units of text
abbrev pub units_cost : ℕ → Amounts
units_cost n = cost n 0 0 0

-- slots
abbrev pub slots_cost : ℕ → Amounts
slots_cost n = cost 0 0 n 0

-- the scope of a call or a `catch`: a slot, and one for each name
abbrev pub scope_cost : Scope → Amounts
scope_cost c = slots_cost (1 + length c.pairs)

-- an object with this many names of its own
abbrev pub object_cost : ℕ → Amounts
object_cost n = cost 0 1 n 0

-- two amounts together
abbrev pub sum : Amounts → Amounts → Amounts
sum a b = cost (a.units + b.units) (a.cells + b.cells) (a.slots + b.slots) (a.nodes + b.nodes)

-- with other counts
abbrev pub with_counts : State → Amounts → State
with_counts s a = with_own s (record s.own { counts = a })

-- what passes no limit goes on; else the widget stops, with the first of units, cells, slots, nodes that does not fit
abbrev pub within : Amounts → State → Plan → Plan
within a s p =
    if nat_lt max_units a.units then Halt Units s
    else if nat_lt max_cells a.cells then Halt Cells s
    else if nat_lt max_slots a.slots then Halt Slots s
    else if nat_lt max_nodes a.nodes then Halt Nodes s
    else p

-- a cost is paid, or the widget stops
abbrev pub pay : Amounts → State → (State → Plan) → Plan
pay a s k = within (sum s.own.counts a) s (k (with_counts s (sum s.own.counts a)))

-- a new object with its slots, and what is done with it
abbrev pub make : Cell → ℕ → State → (Value → State → Plan) → Plan
make c slots s k = pay (object_cost slots) s (λ t. k (Own (length t.own.heap)) (with_new_cell t c))

-- a text that is joined or made: too long, or its units
abbrev pub make_text : List ℕ → State → (State → Plan) → Plan
make_text t s k = if nat_lt max_text (length t) then Halt LongText s else pay (units_cost (length t)) s k

-- the name of a fault
abbrev pub fault_name : Fault → List ℕ
fault_name E7 = codes "RangeError"
fault_name E8 = codes "ADsafe"
fault_name E9 = codes "ADsafe"
fault_name E10 = codes "ADsafe"
fault_name E11 = codes "RangeError"
fault_name E12 = codes "RangeError"
fault_name _ = codes "TypeError"

-- the message of a fault
abbrev pub fault_message : Fault → List ℕ
fault_message E1 = codes "no property of undefined or null"
fault_message E2 = codes "not a function"
fault_message E3 = codes "bad receiver"
fault_message E4 = codes "bad argument"
fault_message E5 = codes "closed object"
fault_message E6 = codes "no primitive value"
fault_message E7 = codes "bad length"
fault_message E8 = codes "bad name"
fault_message E9 = codes "bad query"
fault_message E10 = codes "bad place in the page"
fault_message E11 = codes "too many timers"
fault_message E12 = codes "chain too long"

-- the two names of a fault object
abbrev pub fault_pairs : Fault → Pairs
fault_pairs e = (codes "name", Text (fault_name e)) ∷ (codes "message", Text (fault_message e)) ∷ []

-- a fault is thrown as a new object
abbrev pub throw : Fault → State → Plan
throw e s = make (plain_object (fault_pairs e)) 2 s (λ v t. Ret (Throw v) t)

-- a condition; else a fault is thrown
abbrev pub want : Fault → Bool → State → Plan → Plan
want e b s p = if b then p else throw e s

-- what is there, or else a fault is thrown
abbrev pub or_throw : {A : Type 0} → Fault → Option A → State → (A → Plan) → Plan
or_throw e None s k = throw e s
or_throw e (Some a) s k = k a

-- a form ends with a value
abbrev pub give : Value → State → Plan
give v s = Ret (Is v) s
