-- A turn as it is run for the units of a pick.
use Rattle.std.specs.Prelude.{◌≡◌, ℕ, ◌-◌, ◌<◌, ◌≤◌, List, Bool}
use Rattle.widget_meaning.specs.Plan as plan
use Rattle.widget_meaning.specs.Plan.{Plan}
use Rattle.widget_meaning.specs.Meaning.{run_plan}
use Rattle.native_image.specs.Image.{Outside}
use Rattle.life_laws.specs.Life.{Fixed, Runs}
use Rattle.native_image.specs.declared.handed.Shared.{Shared}
use Rattle.turn_dispatch.specs.declared.turn.Turn.{Turn}
use Rattle.turn_dispatch.specs.Stop.TheVariants as stop
use Rattle.turn_steps.specs.declared.turn.TurnEnd.{TurnEnd}
use Rattle.turn_steps.specs.declared.turn.TurnEnd.TheVariants as ended
use Rattle.turn_steps.specs.declared.turn.Ran.{Ran}
use Rattle.turn_steps.specs.declared.turn.Ran.TheVariants as ran
use Rattle.native_image.specs.declared.handed.Widget.{Widget}
use Rattle.turn_steps.specs.Turning.{FineEnd, FineTurn, end_of, plan_in, state_in, turn_in}

-- the last plan of a turn that is over ends at once, as the turn ended
abbrev pub IsOut : Outside → Shared → Widget → Turn → TurnEnd → Type 0
IsOut x h v t how =
    run_plan t.left (plan_in x h v t) ≡ record { how = end_of v.id.index h.store.cells how; state = state_in x h v t.calls.dispatches.items; left = t.left }

module _ (k : ℕ) (old new : Shared) (v u : Widget) (t s : Turn) where
  -- The k units of a pick are used up: the turn spent at least so many, the last charge began below k, and what is next costs fuel.
  pub record IsCutAt (f : Fixed) (x : Outside) : Type 0 where
    pub less : s.left ≤ t.left
    pub runs : Runs k (t.left - s.left) (turn_in x old v f t) (turn_in x new u f s)
    pub enough : k ≤ t.left - s.left
    pub out_of_fuel : run_plan 0 (plan_in x new u s) ≡ record { how = plan.OutOfFuel; state = state_in x new u s.calls.dispatches.items; left = 0 }

  -- The turn is over so, with this fuel left: its last plan ends at once, at the widget's state with some dispatches open; for want of fuel only where the units are not used up.
  pub record IsEndedAt (f : Fixed) (x : Outside) (how : TurnEnd) (left : ℕ) : Type 0 where
    pub last : Plan
    pub dispatches : List Bool
    pub less : left ≤ t.left
    pub runs : Runs k (t.left - left) (turn_in x old v f t) (record { fixed = f; plan = last; left = left })
    pub fuel : how ≡ ended.Stop stop.Fuel → t.left - left < k
    pub out : run_plan left last ≡ record { how = end_of u.id.index new.store.cells how; state = state_in x new u dispatches; left = left }

  -- what came of a turn, of which this is left where it is cut
  abbrev pub RanTo : Fixed → Outside → Ran → Type 0
  RanTo f x ran.Cut = IsCutAt f x
  RanTo f x (ran.Ended how left) = IsEndedAt f x how left

-- what is held after it is the widget's
abbrev pub FineRan : Shared → ℕ → Turn → Ran → Type 0
FineRan h w s ran.Cut = FineTurn h w s
FineRan h w s (ran.Ended how left) = FineEnd w h.store.cells how
