-- Items: what an event and an advance do to a widget by itself.
use Rattle.std.specs.Prelude.{ℕ, zero, suc, ◌+◌, ◌*◌, ◌/◌, List, [], ◌∷◌, nat_le, nat_eq, if◌then◌else◌, codes, Option, Some, None}
use Rattle.std.specs.Str.{bytes_eq}
use Rattle.widget_meaning.specs.Limits.{max_timers, min_delay}
use Rattle.widget_meaning.specs.Values.{Value, Undefined, Text, Own, Stop}
use Rattle.plain_tree.specs.Trees.{Label, ElementOf}
use Rattle.tree_ops.specs.Labels.{with_attribute}
use Rattle.widget_meaning.specs.Trees.{label_of, relabelled, node_at}
use Rattle.widget_meaning.specs.OwnState.{OwnState, State, Timer}
use Rattle.widget_meaning.specs.Plan.{Plan, Ret, Do, Call}
use Rattle.widget_meaning.specs.Dispatch.{nearest, dispatch}
use Rattle.widget_meaning.specs.Turns.{turn}

-- an event: its type, the path of child positions from the root, and its value, if any
pub record Event : Type 0 where
  pub kind : List ℕ
  pub path : List ℕ
  pub value : Option (List ℕ)

-- an item: an event, or an advance by so many milliseconds
pub data Item : Type 0 where
  Occurs : Event → Item
  Advance : ℕ → Item

-- a value becomes the `value` attribute of an `input`, at no cost
abbrev pub with_value : Option Label → ℕ → Option (List ℕ) → OwnState → OwnState
with_value (Some (ElementOf tag attrs)) n (Some v) o =
    if bytes_eq tag (codes "input")
    then record o { forest = relabelled n (with_attribute (codes "value") (Some v) (ElementOf tag attrs)) o.forest }
    else o
with_value l n v o = o

-- the value that handlers see
abbrev pub event_value : Option (List ℕ) → Value
event_value None = Undefined
event_value (Some v) = Text v

-- a widget between its turns
abbrev pub resting : OwnState → State
resting o = record { own = o; dispatches = [] }

-- where a node at or above the target listens, a turn of the dispatch; else none begins
abbrev pub if_heard : Option (ℕ × List ℕ) → (State → Plan) → OwnState → OwnState
if_heard None k o = o
if_heard (Some f) k o = turn k o

-- an event at its node
abbrev pub occurs_at : Event → ℕ → OwnState → OwnState
occurs_at e n o = if_heard (nearest (resting o) (Some n) e.kind) (dispatch e.kind n (event_value e.value) 0) o

-- an event whose path leads to no node is missed
abbrev pub occurs : Event → Option ℕ → OwnState → OwnState
occurs e None o = record o { missed = o.missed + 1 }
occurs e (Some n) o = occurs_at e n (with_value (label_of n o.forest) n e.value o)

-- the timer with the lesser due time, the first at a tie
abbrev pub sooner : Option Timer → Option Timer → Option Timer
sooner None u = u
sooner (Some t) None = Some t
sooner (Some t) (Some u) = if nat_le t.due u.due then Some t else Some u

-- the waiting timer with the least due time up to the limit, the earlier started at a tie
abbrev pub next_due : ℕ → List Timer → Option Timer
next_due limit [] = None
next_due limit (t ∷ ts) = sooner (if nat_le t.due limit then Some t else None) (next_due limit ts)

-- without the first that is due then
abbrev pub without_due : ℕ → List Timer → List Timer
without_due d [] = []
without_due d (t ∷ ts) = if nat_eq t.due d then ts else t ∷ without_due d ts

-- the call of its function
abbrev pub timer_plan : Timer → State → Plan
timer_plan t s = Do (Call (Own t.func) None [] 0) s Ret

-- a timer is taken out, and the clock becomes its due time
abbrev pub without_timer : Timer → OwnState → OwnState
without_timer t o = record o { timers = without_due t.due o.timers; clock = t.due }

-- the turn of a timer, without it and at its due time
abbrev pub timer_turn : Timer → OwnState → OwnState
timer_turn t o = turn (timer_plan t) (without_timer t o)

-- what a widget does unless it has stopped
abbrev pub unless_stopped : Option Stop → OwnState → (OwnState → OwnState) → OwnState
unless_stopped None o f = f o
unless_stopped (Some c) o f = o

-- the turn of a due timer, and what follows; where none is due, the clock is the limit
abbrev pub on_due : Option Timer → ℕ → OwnState → (OwnState → OwnState) → OwnState
on_due None limit o f = record o { clock = limit }
on_due (Some t) limit o f = f (timer_turn t o)

-- at most so many turns of due timers, one after the other, and then the clock is the limit. A stop leaves all as it is
abbrev pub due_turns : ℕ → ℕ → OwnState → OwnState
due_turns zero limit o = record o { clock = limit }
due_turns (suc n) limit o = unless_stopped o.stop o (λ p. on_due (next_due limit p.timers) limit p (due_turns n limit))

-- an advance: in each stretch of the least delay no more timers are due than may wait, so the turns are enough
abbrev pub advance : ℕ → OwnState → OwnState
advance d o = due_turns (max_timers * (d / min_delay + 2)) (o.clock + d) o

-- what an item does to a widget that has not stopped
abbrev pub live_item : OwnState → Item → OwnState
live_item o (Occurs e) = occurs e (node_at o.forest e.path) o
live_item o (Advance d) = advance d o

-- a stopped widget counts its events as gone, and its advances do nothing
abbrev pub stopped_item : OwnState → Item → OwnState
stopped_item o (Occurs e) = record o { gone = o.gone + 1 }
stopped_item o (Advance d) = o

-- an item, by whether the widget has stopped
abbrev pub item_at : Option Stop → OwnState → Item → OwnState
item_at None o i = live_item o i
item_at (Some c) o i = stopped_item o i

-- what an item does
abbrev pub item : OwnState → Item → OwnState
item o i = item_at o.stop o i
