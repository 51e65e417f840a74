-- What a widget in a host has still to do: the turn in progress, and the queue.
use Rattle.std.specs.Prelude.{◌≡◌, ◌≢◌, ℕ, zero, suc, ◌+◌, ◌-◌, ◌*◌, ◌/◌, ◌<◌, ◌≤◌, List, [], ◌∷◌, if◌then◌else◌, Bool, true, false, not, Option, Some, None, is_some}
use Rattle.std.specs.List.{fold}
use Rattle.js_tree.specs.Plain.{Stmts, Fun}
use Rattle.widget_meaning.specs.Limits.{max_timers, min_delay}
use Rattle.widget_meaning.specs.Values.{Stop, Fuel}
use Rattle.widget_meaning.specs.Trees.{label_of, node_at}
use Rattle.widget_meaning.specs.OwnState.{OwnState, State, Timer}
use Rattle.widget_meaning.specs.Plan.{Plan, Out, OutOfFuel}
use Rattle.widget_meaning.specs.Meaning.{run_plan}
use Rattle.widget_meaning.specs.Dispatch.{nearest, dispatch}
use Rattle.widget_meaning.specs.Turns.{begun, end_turn, stopped}
use Rattle.widget_meaning.specs.Items.{Event, Item, Occurs, Advance, item, with_value, event_value, resting, timer_plan, next_due, without_timer, due_turns, unless_stopped}
use Rattle.widget_meaning.specs.Alone.{call_parts, library_plan, go_plan, load_library, go_turn}

-- a step with the charge c, from this state: for every fuel g in place of what is left
pub record Moves (c : ℕ) (s : State) (before after : Plan) : Type 0 where
  pub within : (g : ℕ) → c ≤ g → run_plan g before ≡ run_plan (g - c) after
  pub beyond : (g : ℕ) → g < c → run_plan g before ≡ record { how = OutOfFuel; state = s; left = g }

-- what stands in a queue: a load turn, an item, or the rest of an advance, by the turns it may begin and its limit
pub data Work : Type 0 where
  Library : Stmts → Work
  Go : Stmts → Work
  Given : Item → Work
  Until : ℕ → ℕ → Work

-- the own state after it
abbrev pub work : OwnState → Work → OwnState
work o (Library ss) = load_library o ss
work o (Go ss) = unless_stopped o.stop o (go_turn (call_parts ss))
work o (Given i) = item o i
work o (Until n limit) = due_turns n limit o

-- a turn in progress: what it has still to do, and its fuel left
pub record Going : Type 0 where
  pub plan : Plan
  pub left : ℕ

-- what a host knows of a widget. In a turn `spent` is what was spent when it began
pub record Seen : Type 0 where
  pub own : OwnState
  pub going : Option Going
  pub queue : List Work

-- an own state in which what is spent in the turn counts
abbrev pub shown : Option Going → OwnState → OwnState
shown None o = o
shown (Some t) o = record o { spent = o.spent + (o.grant - t.left) }

-- the own state that the host stands for
abbrev pub image : Seen → OwnState
image s = shown s.going s.own

-- between turns, with this queue
abbrev pub waiting : OwnState → List Work → Seen
waiting o is = record { own = o; going = None; queue = is }

-- in a turn that has just begun, with this queue
abbrev pub started : (State → Plan) → OwnState → List Work → Seen
started k o is =
    record { own = (begun o).own; going = Some (record { plan = k (begun o); left = o.grant }); queue = is }

-- ## The turn in progress, or else the first that the queue begins

-- what a turn cannot change
pub record Fixed : Type 0 where
  pub turns : ℕ
  pub spent : ℕ
  pub missed : ℕ
  pub gone : ℕ
  pub stop : Option Stop
  pub grant : ℕ

-- of an own state
abbrev pub fixed : OwnState → Fixed
fixed o = record { turns = o.turns; spent = o.spent; missed = o.missed; gone = o.gone; stop = o.stop; grant = o.grant }

-- a turn: what it cannot change, what it has still to do, and its fuel left
pub record Turn : Type 0 where
  pub fixed : Fixed
  pub plan : Plan
  pub left : ℕ

-- the turn in progress at an own state
abbrev pub turn_at : OwnState → Going → Turn
turn_at o t = record { fixed = fixed o; plan = t.plan; left = t.left }

-- a turn that begins here
abbrev pub opens : (State → Plan) → OwnState → Turn
opens k o = record { fixed = fixed (begun o).own; plan = k (begun o); left = o.grant }

-- a widget that has stopped begins none
abbrev pub if_live : Option Stop → Option Turn → Option Turn
if_live None t = t
if_live (Some c) t = None

-- the load turn of a library
abbrev pub library_opens : Option (List ℕ × Fun) → OwnState → Option Turn
library_opens None o = None
library_opens (Some (x, f)) o = Some (opens (library_plan x f) o)

-- the turn of the `go` function
abbrev pub go_opens : Option (List ℕ × Fun) → OwnState → Option Turn
go_opens None o = None
go_opens (Some (x, f)) o = Some (opens (go_plan f) o)

-- the turn of an event at a node, where one listens
abbrev pub heard : Option (ℕ × List ℕ) → Event → ℕ → OwnState → Option Turn
heard None e n o = None
heard (Some f) e n o = Some (opens (dispatch e.kind n (event_value e.value) 0) o)

-- the turn of an event whose path leads to a node, or to none
abbrev pub event_turn : Event → Option ℕ → OwnState → Option Turn
event_turn e None o = None
event_turn e (Some n) o =
    let p : OwnState = with_value (label_of n o.forest) n e.value o in
    heard (nearest (resting p) (Some n) e.kind) e n p

-- the turn of a due timer
abbrev pub timer_opens : Option Timer → OwnState → Option Turn
timer_opens None o = None
timer_opens (Some t) o = Some (opens (timer_plan t) (without_timer t o))

-- the next turn of an advance that may still begin so many
abbrev pub due_turn : ℕ → ℕ → OwnState → Option Turn
due_turn zero limit o = None
due_turn (suc n) limit o = if_live o.stop (timer_opens (next_due limit o.timers) o)

-- the first turn that a work begins
abbrev pub opening : OwnState → Work → Option Turn
opening o (Library ss) = if_live o.stop (library_opens (call_parts ss) o)
opening o (Go ss) = if_live o.stop (go_opens (call_parts ss) o)
opening o (Given (Occurs e)) = if_live o.stop (event_turn e (node_at o.forest e.path) o)
opening o (Given (Advance d)) = if_live o.stop (due_turn (max_timers * (d / min_delay + 2)) (o.clock + d) o)
opening o (Until n limit) = due_turn n limit o

-- the one, or else the other
abbrev pub or_else : Option Turn → Option Turn → Option Turn
or_else (Some t) other = Some t
or_else None other = other

-- the first turn that a queue begins
abbrev pub first_of : OwnState → List Work → Option Turn
first_of o [] = None
first_of o (i ∷ is) = or_else (opening o i) (first_of (work o i) is)

-- the turn in progress, or else that one
abbrev pub first_at : Option Going → OwnState → List Work → Option Turn
first_at (Some t) o is = Some (turn_at o t)
first_at None o is = first_of o is

-- the turn that a pick runs
abbrev pub first : Seen → Option Turn
first s = first_at s.going s.own s.queue

-- ## Finish, At, Rest, Due

-- the own state after a turn that ends so
abbrev pub closed : Fixed → ℕ → Out → OwnState
closed f spent r = end_turn r.how r.state (record r.state.own {
  turns = f.turns;
  spent = spent;
  missed = f.missed;
  gone = f.gone;
  stop = f.stop;
  grant = f.grant;
})

-- the units that the rest of a turn spends, with g units in place of what is left
abbrev pub rest_of : Turn → ℕ → ℕ
rest_of t g = g - (run_plan g t.plan).left

-- the own state after it
abbrev pub at_of : Turn → ℕ → OwnState
at_of t g = closed t.fixed (t.fixed.spent + ((t.fixed.grant - t.left) + rest_of t g)) (run_plan g t.plan)

-- a turn that is carried to its end
abbrev pub ended : Turn → OwnState
ended t = closed t.fixed (t.fixed.spent + (t.fixed.grant - (run_plan t.left t.plan).left)) (run_plan t.left t.plan)

-- the own state after the turn in progress
abbrev pub held : Option Going → OwnState → OwnState
held None o = o
held (Some t) o = ended (turn_at o t)

-- and after all that the queue has still to do
abbrev pub due : Seen → OwnState
due s = fold work (held s.going s.own) s.queue

-- of a turn, or where there is none
abbrev pub at_from : Option Turn → OwnState → ℕ → OwnState
at_from None o g = o
at_from (Some t) o g = at_of t g

-- what is spent, nothing where there is none
abbrev pub rest_from : Option Turn → ℕ → ℕ
rest_from None g = 0
rest_from (Some t) g = rest_of t g

-- the own state after the turn that a pick runs, with g units
abbrev pub At : Seen → ℕ → OwnState
At s g = at_from (first s) (due s) g

-- the units that it spends
abbrev pub Rest : Seen → ℕ → ℕ
Rest s g = rest_from (first s) g

-- the same to do
pub record Same (old new : Seen) : Type 0 where
  pub begins : first new ≡ first old
  pub due : due new ≡ due old
  pub spent : (image new).spent ≡ (image old).spent

-- ## A pick

-- a turn goes on from old to new by spending a, of which the last charge began below k
pub record Runs (k a : ℕ) (old new : Turn) : Type 0 where
  pub fixed : new.fixed ≡ old.fixed
  pub left : new.left + a ≡ old.left
  pub same : (g : ℕ) → a ≤ g → run_plan g old.plan ≡ run_plan (g - a) new.plan
  pub least : (h : ℕ) → k ≤ h → h < a → 0 < (run_plan h old.plan).left

-- nothing began a turn, and all that was to do is done
pub record IsIdle (old new : Seen) : Type 0 where
  pub none : first old ≡ None
  pub going : new.going ≡ None
  pub queue : new.queue ≡ []
  pub due : due new ≡ due old
  pub spent : (image new).spent ≡ (image old).spent

-- the turn is not over, and spent the least units of at least k at which it can be cut; why the life has stopped, if it has, is as when the turn began
pub record IsCut (k : ℕ) (old new : Seen) : Type 0 where
  pub turn : Turn
  pub begins : first old ≡ Some turn
  pub units : ℕ
  pub enough : k ≤ units
  pub exact : rest_of turn units ≡ units
  pub least : (h : ℕ) → k ≤ h → h < units → rest_of turn h ≢ h
  pub shows : at_of turn units ≡ stopped Fuel (image new)
  pub stop : (image new).stop ≡ turn.fixed.stop
  pub spent : (image new).spent ≡ (image old).spent + units
  pub going : is_some new.going ≡ true
  pub due : due new ≡ due old

-- the turn is over, and could not be cut at any units of at least k before its end, nor at its end
pub record IsOver (k : ℕ) (old new : Seen) : Type 0 where
  pub turn : Turn
  pub begins : first old ≡ Some turn
  pub least : (h : ℕ) → k ≤ h → h < rest_of turn turn.left → rest_of turn h ≢ h
  pub fuel : (run_plan turn.left turn.plan).how ≡ OutOfFuel → rest_of turn turn.left < k
  pub shows : image new ≡ at_of turn turn.left
  pub spent : (image new).spent ≡ (image old).spent + rest_of turn turn.left
  pub going : new.going ≡ None
  pub due : due new ≡ due old

-- ## What is left, as a number that each pick lowers

-- how many picks a work may still take at most, but for those that a turn takes
abbrev pub potential : Work → ℕ
potential (Library ss) = 1
potential (Go ss) = 1
potential (Given (Occurs e)) = 1
potential (Given (Advance d)) = max_timers * (d / min_delay + 2) + 2
potential (Until n limit) = n + 1

-- of a queue
abbrev pub potentials : List Work → ℕ
potentials [] = 0
potentials (i ∷ is) = potential i + potentials is

-- of a turn in progress: its fuel left
abbrev pub turn_weight : Option Going → ℕ
turn_weight None = 0
turn_weight (Some t) = t.left + 1

-- more than the fuel of any turn
abbrev pub turn_bound : ℕ
turn_bound = 2000000

-- of a widget: a work in its queue weighs more than any turn
abbrev pub weight : Seen → ℕ
weight s = potentials s.queue * turn_bound + turn_weight s.going

-- nothing is queued
abbrev pub is_empty : List Work → Bool
is_empty [] = true
is_empty (i ∷ is) = false

-- a widget is ready where it has a turn in progress or a queue that is not empty
abbrev pub ready : Seen → Bool
ready s = if is_some s.going then true else not (is_empty s.queue)
