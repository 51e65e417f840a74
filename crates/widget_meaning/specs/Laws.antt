-- Laws of the meaning as a whole: fuel, stops, stopped widgets, waiting timers, and lists of items.
use Rattle.std.specs.Prelude.{◌≡◌, ℕ, suc, ◌+◌, ◌-◌, ◌*◌, ◌/◌, ◌≤◌, List, [], ◌∷◌, ◌++◌, length, Some}
use Rattle.js_tree.specs.Plain as tree
use Rattle.js_tree.specs.Plain.{Stmts, Catch, OptionalBlock}
use Rattle.widget_meaning.specs.Limits.{max_timers, min_delay}
use Rattle.widget_meaning.specs.Values.{Stop, Completion}
use Rattle.widget_meaning.specs.OwnState.{OwnState, State, Timer}
use Rattle.widget_meaning.specs.Plan.{Place, Plan, Exec, End, Ended, Stopped, OutOfFuel, and_then}
use Rattle.widget_meaning.specs.Calls.{statements, stmt_list}
use Rattle.widget_meaning.specs.Meaning.{run_plan, meaning}
use Rattle.widget_meaning.specs.Turns.{begun, turn}
use Rattle.widget_meaning.specs.Items.{Event, Item, Occurs, Advance, item, live_item, due_turns}
use Rattle.widget_meaning.specs.Alone.{Content, Given, delivered, alone, alone_from}

-- the end is a stop
abbrev pub IsStop : End → Type 0
IsStop (Ended o) = ⊥
IsStop (Stopped c) = Unit {0}
IsStop OutOfFuel = Unit {0}

-- fuel left never grows, and what a turn spends is what fell of its grant
pub record FuelLaws : Type 0 where
  pub left_falls : (g : ℕ) (p : Plan) → (run_plan g p).left ≤ g
  pub spends_what_fell : (k : State → Plan) (o : OwnState)
      → (turn k o).spent ≡ o.spent + (o.grant - (run_plan o.grant (k (begun o))).left)
  pub spends_within_grant : (k : State → Plan) (o : OwnState) → (turn k o).spent ≤ o.spent + o.grant
  pub counts_turns : (k : State → Plan) (o : OwnState) → (turn k o).turns ≡ o.turns + 1

-- what comes after a plan does not see its stop; so no `catch` and no `finally` sees one of its block
pub record StopLaws : Type 0 where
  pub passes : (g : ℕ) (p : Plan) (k : Completion → State → Plan) → IsStop (run_plan g p).how
      → run_plan g (and_then p k) ≡ run_plan g p
  pub not_caught : (at : ℕ) (names : List ℕ) (a : Stmts) (c : Catch) (b : OptionalBlock) (p : Place) (s : State)
      (g : ℕ) → IsStop (run_plan g (statements (stmt_list a) p s)).how
      → meaning (Exec (tree.StmtAt at names (tree.Try a c b)) p) s (suc g) ≡ run_plan g (statements (stmt_list a) p s)

-- a stopped widget stays stopped: an event changes `gone` alone, an advance nothing
pub record StoppedLaws : Type 0 where
  pub event : (o : OwnState) (c : Stop) (e : Event) → o.stop ≡ Some c
      → item o (Occurs e) ≡ record o { gone = o.gone + 1 }
  pub advance : (o : OwnState) (c : Stop) (d : ℕ) → o.stop ≡ Some c → item o (Advance d) ≡ o

-- a longer list of items goes on from the shorter one; what is given in two parts is delivered in two parts
pub record AloneLaws : Type 0 where
  pub goes_on : (w : Content) (grant : ℕ) (is js : List Item)
      → alone w grant (is ++ js) ≡ alone_from (alone w grant is) js
  pub delivered_in_parts : (gs hs : List Given) (x : List ℕ) → delivered (gs ++ hs) x ≡ delivered gs x ++ delivered hs x
  pub keeps_grant : (w : Content) (grant : ℕ) (is : List Item) → (alone w grant is).grant ≡ grant

-- no timer is due before this time
abbrev pub NoneBefore : ℕ → List Timer → Type 0
NoneBefore time [] = Unit {0}
NoneBefore time (t ∷ ts) = (time ≤ t.due) × NoneBefore time ts

-- no more timers wait than may, and none is due before the clock
pub record AreTimers (o : OwnState) : Type 0 where
  pub few : length o.timers ≤ max_timers
  pub ahead : NoneBefore o.clock o.timers

-- so it is at any time; and an advance takes all due timers: a greater bound on their turns changes nothing
pub record TimerLaws : Type 0 where
  pub kept : (o : OwnState) (is : List Item) → AreTimers o → AreTimers (alone_from o is)
  pub whole : (w : Content) (grant : ℕ) (is : List Item) → AreTimers (alone w grant is)
  pub enough : (o : OwnState) (d more : ℕ) → AreTimers o
      → due_turns (max_timers * (d / min_delay + 2) + more) (o.clock + d) o ≡ live_item o (Advance d)
