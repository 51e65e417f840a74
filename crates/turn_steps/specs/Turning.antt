-- A turn in progress as its meaning has it. Of the host's records of the widget, log and posts are the widget's own.
use Rattle.std.specs.Prelude.{ℕ, List, Bool}
use Rattle.js_tree.specs.Forest.{Forest}
use Rattle.store_cells.specs.Cells.{PlainCell}
use Rattle.widget_meaning.specs.OwnState.{State}
use Rattle.widget_meaning.specs.Plan as plan
use Rattle.widget_meaning.specs.Plan.{Plan, End}
use Rattle.js_image.specs.Held.{IsConfined}
use Rattle.js_image.specs.Plans.{meant_cause}
use Rattle.js_names.specs.Code.{trees_of}
use Rattle.js_flow.specs.Views.{completion_of}
use Rattle.js_flow.specs.Fine.{FineCompletion}
use Rattle.turn_dispatch.specs.Stop.TheVariants as stop
use Rattle.native_image.specs.Image.{Outside}
use Rattle.native_image.specs.Sound.{IsSound}
use Rattle.natives.specs.Reach.{with_notes}
use Rattle.life_laws.specs.Life as life
use Rattle.life_laws.specs.Life.{Fixed}
use Rattle.turn_dispatch.specs.Held.{FineDoing}
use Rattle.turn_dispatch.specs.Levels.{turn_plan}
use Rattle.turn_dispatch.specs.Turns.{turn_image}
use Rattle.turn_dispatch.specs.Waiting.{FineLevels}
use Rattle.native_image.specs.declared.handed.Shared.{Shared}
use Rattle.turn_dispatch.specs.declared.turn.Turn.{Turn}
use Rattle.turn_steps.specs.declared.turn.TurnEnd.{TurnEnd}
use Rattle.turn_steps.specs.declared.turn.TurnEnd.TheVariants as ended
use Rattle.native_image.specs.declared.handed.Widget.{Widget}

-- the trees of the scripts of the widget whose turn it is
abbrev pub forests : Shared → List Forest
forests h = trees_of h.codes.items

module _ (x : Outside) (h : Shared) (v : Widget) where
  -- the widget's state with these dispatches open, the innermost last
  abbrev pub state_in : List Bool → State
  state_in dispatches = turn_image (forests h) (with_notes v.log.items v.posts.items x) v.id.index h.store h.page v.around dispatches

  -- what a turn has still to do
  abbrev pub plan_in : Turn → Plan
  plan_in t = turn_plan (forests h) v.id.index h.store.cells h.page t.doing t.calls.levels.items (state_in t.calls.dispatches.items)

  -- a turn of a widget of which this is fixed
  abbrev pub turn_in : Fixed → Turn → life.Turn
  turn_in f t = record { fixed = f; plan = plan_in t; left = t.left }

-- how a turn ended, as the meaning has it
abbrev pub end_of : ℕ → List PlainCell → TurnEnd → End
end_of w cells (ended.Over o) = plan.Ended (completion_of w cells o)
end_of w cells (ended.Stop stop.Fuel) = plan.OutOfFuel
end_of w cells (ended.Stop (stop.Due c)) = plan.Stopped (meant_cause c)

-- the widget may hold it
abbrev pub FineEnd : ℕ → List PlainCell → TurnEnd → Type 0
FineEnd w cells (ended.Over o) = FineCompletion w cells o
FineEnd w cells (ended.Stop c) = Unit {0}

-- What a turn in progress holds is the widget's.
pub record FineTurn (h : Shared) (w : ℕ) (t : Turn) : Type 0 where
  pub doing : FineDoing (forests h) w h.store h.page t.doing
  pub levels : FineLevels (forests h) w h.store.cells h.page t.calls.levels.items

-- What holds of a widget beside what all share: what it has in the store leads to what it may hold, and store, page and what is kept for it agree.
pub record FineWidget (h : Shared) (v : Widget) : Type 0 where
  pub confined : IsConfined (forests h) v.id.index h.store
  pub sound : IsSound v.id.index h.store h.page v.around
