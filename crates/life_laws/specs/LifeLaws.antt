-- Laws of what a widget has still to do: its works one by one, a turn as it is run, and how a pick ends.
use Rattle.std.specs.Prelude.{◌≡◌, ℕ, suc, ◌+◌, ◌-◌, ◌*◌, ◌/◌, ◌<◌, ◌≤◌, ◌⊎◌, List, [], ◌∷◌, Some, None}
use Rattle.js_tree.specs.Plain.{Stmts, Fun}
use Rattle.widget_meaning.specs.Limits.{max_timers, min_delay}
use Rattle.widget_meaning.specs.Values.{Stop}
use Rattle.widget_meaning.specs.Trees.{label_of, node_at}
use Rattle.widget_meaning.specs.OwnState.{OwnState, State, Timer}
use Rattle.widget_meaning.specs.Plan.{End, OutOfFuel}
use Rattle.widget_meaning.specs.Meaning.{run_plan}
use Rattle.widget_meaning.specs.Dispatch.{nearest, dispatch}
use Rattle.widget_meaning.specs.Items.{Event, Occurs, Advance, with_value, event_value, resting, timer_plan, next_due, without_timer}
use Rattle.widget_meaning.specs.Alone.{call_parts, library_plan, go_plan}
use Rattle.life_laws.specs.Life.{Moves, Work, Library, Go, Given, Until, Going, Seen, Turn, turn_at, waiting, started, closed, ended, Same, Runs, IsIdle, IsCut, IsOver}

-- a work at the front of a queue: it begins a turn, becomes another work, or is done with none
pub record WorkLaws (o : OwnState) (is : List Work) : Type 0 where
  -- the load turns; a stop drops them
  pub library_begins : (ss : Stmts) (x : List ℕ) (f : Fun) → o.stop ≡ None → call_parts ss ≡ Some (x, f)
      → Same (waiting o (Library ss ∷ is)) (started (library_plan x f) o is)
  pub library_stopped : (ss : Stmts) (c : Stop) → o.stop ≡ Some c → Same (waiting o (Library ss ∷ is)) (waiting o is)
  pub go_begins : (ss : Stmts) (x : List ℕ) (f : Fun) → o.stop ≡ None → call_parts ss ≡ Some (x, f)
      → Same (waiting o (Go ss ∷ is)) (started (go_plan f) o is)
  pub go_stopped : (ss : Stmts) (c : Stop) → o.stop ≡ Some c → Same (waiting o (Go ss ∷ is)) (waiting o is)
  -- an advance becomes its turns up to its limit
  pub advance_begins : (d : ℕ) → o.stop ≡ None
      → Same (waiting o (Given (Advance d) ∷ is))
      (waiting o (Until (max_timers * (d / min_delay + 2)) (o.clock + d) ∷ is))
  pub advance_stopped : (d : ℕ) (c : Stop) → o.stop ≡ Some c → Same (waiting o (Given (Advance d) ∷ is)) (waiting o is)
  pub until_over : (limit : ℕ) → Same (waiting o (Until 0 limit ∷ is)) (waiting (record o { clock = limit }) is)
  pub until_stopped : (n limit : ℕ) (c : Stop) → o.stop ≡ Some c
      → Same (waiting o (Until (suc n) limit ∷ is)) (waiting o is)
  pub until_none : (n limit : ℕ) → o.stop ≡ None → next_due limit o.timers ≡ None
      → Same (waiting o (Until (suc n) limit ∷ is)) (waiting (record o { clock = limit }) is)
  pub until_begins : (n limit : ℕ) (t : Timer) → o.stop ≡ None → next_due limit o.timers ≡ Some t
      → Same (waiting o (Until (suc n) limit ∷ is)) (started (timer_plan t) (without_timer t o) (Until n limit ∷ is))
  -- an event is gone, missed, heard by nobody, or dispatched
  pub event_gone : (e : Event) (c : Stop) → o.stop ≡ Some c
      → Same (waiting o (Given (Occurs e) ∷ is)) (waiting (record o { gone = o.gone + 1 }) is)
  pub event_missed : (e : Event) → o.stop ≡ None → node_at o.forest e.path ≡ None
      → Same (waiting o (Given (Occurs e) ∷ is)) (waiting (record o { missed = o.missed + 1 }) is)
  pub event_unheard : (p : OwnState) (e : Event) (n : ℕ) → o.stop ≡ None → node_at o.forest e.path ≡ Some n
      → p ≡ with_value (label_of n o.forest) n e.value o → nearest (resting p) (Some n) e.kind ≡ None
      → Same (waiting o (Given (Occurs e) ∷ is)) (waiting p is)
  pub event_begins : (p : OwnState) (e : Event) (n : ℕ) (f : ℕ × List ℕ) → o.stop ≡ None
      → node_at o.forest e.path ≡ Some n
      → p ≡ with_value (label_of n o.forest) n e.value o → nearest (resting p) (Some n) e.kind ≡ Some f
      → Same (waiting o (Given (Occurs e) ∷ is)) (started (dispatch e.kind n (event_value e.value) 0) p is)

-- what is the same to do, step by step
pub record SameLaws : Type 0 where
  pub none : (a : Seen) → Same a a
  pub more : (a b c : Seen) → Same a b → Same b c → Same a c

-- a turn as it is run: nothing yet, and one move more, which begins below k or costs nothing; its end is the same
pub record RunLaws (k : ℕ) : Type 0 where
  pub none : (t : Turn) → Runs k 0 t t
  pub more : (a c : ℕ) (s : State) (t u v : Turn) → Runs k a t u → Moves c s u.plan v.plan → v.fixed ≡ u.fixed
      → v.left + c ≡ u.left → (a < k) ⊎ (c ≡ 0) → Runs k (a + c) t v
  pub ends : (a : ℕ) (t u : Turn) → Runs k a t u → ended u ≡ ended t

-- a pick that takes its queue to the turn x of t and runs it for a units to y of u, and is out of fuel there
pub record Cutting (k a : ℕ) (s t u : Seen) (x y : Going) (z : State) : Type 0 where
  pub same : Same s t
  pub before : t.going ≡ Some x
  pub after : u.going ≡ Some y
  pub queue : u.queue ≡ t.queue
  pub runs : Runs k a (turn_at t.own x) (turn_at u.own y)
  pub within : x.left ≤ t.own.grant
  pub some : 0 < k
  pub enough : k ≤ a
  pub out_of_fuel : run_plan 0 y.plan ≡ record { how = OutOfFuel; state = z; left = 0 }
  pub state : z.own ≡ u.own

-- a pick that takes its queue to the turn x of t and runs it to its end
pub record Ending (k a : ℕ) (s t u : Seen) (x : Going) (y : Turn) (how : End) (o : State) : Type 0 where
  pub same : Same s t
  pub before : t.going ≡ Some x
  pub after : u.going ≡ None
  pub queue : u.queue ≡ t.queue
  pub runs : Runs k a (turn_at t.own x) y
  pub within : x.left ≤ t.own.grant
  pub some : 0 < k
  pub out : run_plan y.left y.plan ≡ record { how = how; state = o; left = y.left }
  pub fuel : how ≡ OutOfFuel → a < k
  pub own : u.own ≡ closed y.fixed (y.fixed.spent + (y.fixed.grant - y.left))
      (record { how = how; state = o; left = y.left })
  pub spent : u.own.spent ≡ y.fixed.spent + (y.fixed.grant - y.left)

-- how a pick ends, also behind works that begin no turn; it is idle, cut and over in no two of these ways
pub record PickLaws : Type 0 where
  pub idle : (a b : Seen) → Same a b → b.going ≡ None → b.queue ≡ [] → IsIdle a b
  pub cut : (k a : ℕ) (s t u : Seen) (x y : Going) (z : State) → Cutting k a s t u x y z → IsCut k s u
  pub over : (k a : ℕ) (s t u : Seen) (x : Going) (y : Turn) (how : End) (o : State) → Ending k a s t u x y how o
      → IsOver k s u
  pub cut_from : (k : ℕ) (s t u : Seen) → Same s t → IsCut k t u → IsCut k s u
  pub over_from : (k : ℕ) (s t u : Seen) → Same s t → IsOver k t u → IsOver k s u
  pub idle_not_cut : (k : ℕ) (s t : Seen) → IsIdle s t → ¬ (IsCut k s t)
  pub idle_not_over : (k : ℕ) (s t : Seen) → IsIdle s t → ¬ (IsOver k s t)
  pub cut_not_over : (k : ℕ) (s t : Seen) → IsCut k s t → ¬ (IsOver k s t)
