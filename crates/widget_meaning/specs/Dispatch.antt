-- Dispatch: an event goes to the nearest node that listens, and with `bubble` on from its parent.
use Rattle.std.specs.Prelude.{ℕ, zero, suc, ◌+◌, List, [], ◌∷◌, Bool, true, false, length, map, Option, Some, None, codes, drop, slice_index_or}
use Rattle.std.specs.List.{filter}
use Rattle.std.specs.Str.{bytes_eq}
use Rattle.widget_meaning.specs.Limits.{max_node_depth}
use Rattle.permitted_table.specs.declared.native.NativeId.TheVariants as natives
use Rattle.widget_meaning.specs.Values.{Value, Undefined, Text, Own, Completion, Is, E3}
use Rattle.widget_meaning.specs.Trees.{parent}
use Rattle.widget_meaning.specs.OwnState.{Amounts, State, Pairs, kept_at, plain_object, new_bunch, with_new_cell}
use Rattle.widget_meaning.specs.Plan.{Plan, Ret, Do, and_then, Call, Hear, Hearing, after}
use Rattle.widget_meaning.specs.Costs.{pay, cost, give, throw}
use Rattle.widget_meaning.specs.HostTable.{native}
use Rattle.widget_meaning.specs.Calls.{invoke}

-- the functions of a node that listen to a type, in order of listening
abbrev pub listening : State → ℕ → List ℕ → List ℕ
listening s n kind = map (λ h. h.func) (filter (λ h. bytes_eq h.kind kind) (kept_at s n).handlers)

-- the functions of this node where it has some, or else what is found further up
abbrev pub here_or_above : ℕ → List ℕ → (Bool → Option (ℕ × List ℕ)) → Option (ℕ × List ℕ)
here_or_above n [] k = k true
here_or_above n (f ∷ fs) k = Some (n, f ∷ fs)

-- the nearest node at or above this one that listens, with its functions, at most this many steps up
abbrev pub nearest_from : ℕ → State → Option ℕ → List ℕ → Option (ℕ × List ℕ)
nearest_from m s None kind = None
nearest_from zero s (Some n) kind = None
nearest_from (suc m) s (Some n) kind =
    here_or_above n (listening s n kind) (λ _. nearest_from m s (parent n s.own.forest) kind)

-- the nearest of all: no tree of a widget is higher than the limit and one, so a way up never meets this bound
abbrev pub nearest : State → Option ℕ → List ℕ → Option (ℕ × List ℕ)
nearest s o kind = nearest_from (max_node_depth + 1) s o kind

-- with a new innermost dispatch, in which `bubble` was not called yet
abbrev pub with_dispatch : State → State
with_dispatch s = record s { dispatches = false ∷ s.dispatches }

-- without the innermost dispatch
abbrev pub without_dispatch : State → State
without_dispatch s = record s { dispatches = drop 1 s.dispatches }

-- whether `bubble` was called in the innermost dispatch
abbrev pub is_bubbled : State → Bool
is_bubbled s = slice_index_or s.dispatches 0 false

-- `bubble()` marks the innermost dispatch; E3 where none runs
abbrev pub bubble : List Bool → State → Plan
bubble [] s = throw E3 s
bubble (b ∷ bs) s = give Undefined (record s { dispatches = true ∷ bs })

-- the event object, before its two Bunches
abbrev pub event_pairs : List ℕ → ℕ → Value → Pairs
event_pairs kind n value =
    (codes "type", Text kind)
    ∷ (codes "target", Own (n + 1))
    ∷ (codes "that", Own (n + 2))
    ∷ (codes "value", value)
    ∷ (codes "bubble", native natives.Bubble) ∷ []

-- with the event object and the Bunches of its target and of the node
abbrev pub with_event : State → List ℕ → ℕ → ℕ → Value → State
with_event s kind target node value =
    with_new_cell (with_new_cell (with_new_cell s
    (plain_object (event_pairs kind (length s.own.heap) value)))
    (new_bunch (target ∷ [])))
    (new_bunch (node ∷ []))

-- an event object with its two Bunches
abbrev pub event_cost : Amounts
event_cost = cost 0 3 9 0

-- the dispatch at a node: its event object is paid before the first call. The job's unit is that of the first call
abbrev pub hear : List ℕ → ℕ → Value → ℕ → ℕ → List ℕ → State → Plan
hear kind target value d node [] s = give Undefined s
hear kind target value d node (f ∷ fs) s =
    pay event_cost s (λ t. Do
    (Hear (record {
      kind = kind;
      target = target;
      node = node;
      value = value;
      event = Own
          (length t.own.heap);
      first = f;
      others = fs;
      depth = d;
    }))
    (with_dispatch (with_event t kind target node value)) Ret)

-- the dispatch at the node that was found; where nothing listens, nothing is done
abbrev pub hear_found : Option (ℕ × List ℕ) → List ℕ → ℕ → Value → ℕ → State → Plan
hear_found None kind target value d s = give Undefined s
hear_found (Some (node, fs)) kind target value d s = hear kind target value d node fs s

-- the search from a node on, and the dispatch
abbrev pub search_from : Option ℕ → List ℕ → ℕ → Value → ℕ → State → Plan
search_from o kind target value d s = hear_found (nearest s o kind) kind target value d s

-- an event to a node, with a value or undefined, by a caller at this depth
abbrev pub dispatch : List ℕ → ℕ → Value → ℕ → State → Plan
dispatch kind target value d s = search_from (Some target) kind target value d s

-- the handlers after the first, in order
abbrev pub handlers : List ℕ → Hearing → State → Plan
handlers [] h s = give Undefined s
handlers (f ∷ fs) h s = Do (Call (Own f) None (h.event ∷ []) h.depth) s (after (λ v t. handlers fs h t))

-- after a dispatch: where `bubble` was called in it, the search goes on from the parent that the node has now
abbrev pub bubble_on : Bool → Hearing → State → Plan
bubble_on false h s = give Undefined s
bubble_on true h s = search_from (parent h.node s.own.forest) h.kind h.target h.value h.depth s

-- after the handlers: the dispatch is over
abbrev pub dispatch_end : Hearing → Completion → State → Plan
dispatch_end h (Is v) s = bubble_on (is_bubbled s) h (without_dispatch s)
dispatch_end h o s = Ret o (without_dispatch s)

-- what the job is, after its unit
abbrev pub heard : Hearing → State → Plan
heard h s =
    and_then (and_then (invoke (Own h.first) None (h.event ∷ []) h.depth s) (after (λ v t. handlers h.others h t)))
    (dispatch_end h)
