-- What a turn has still to do: what it does, and what waits for that to end.
use Rattle.std.specs.Prelude.{ℕ, List, [], ◌∷◌, Option, None, Some, drop, map, slice_index_or}
use Rattle.js_tree.specs.Forest.{Forest}
use Rattle.store_cells.specs.declared.value.Value.TheVariants as value
use Rattle.store_cells.specs.Cells.{PlainCell, own_count}
use Rattle.widget_meaning.specs.Values.{Completion, Undefined}
use Rattle.widget_meaning.specs.OwnState.{State}
use Rattle.widget_meaning.specs.Plan as plan
use Rattle.widget_meaning.specs.Plan.{Plan, Ret, Halt, Do, after, and_then}
use Rattle.widget_meaning.specs.Costs.{give}
use Rattle.widget_meaning.specs.Properties.{put}
use Rattle.widget_meaning.specs.BunchWrites.{fired}
use Rattle.widget_meaning.specs.Dispatch.{dispatch_end, handlers, with_dispatch}
use Rattle.page_tree.specs.declared.page.Page.{Page}
use Rattle.page_image.specs.Image.{number}
use Rattle.js_image.specs.Image.{seen}
use Rattle.js_image.specs.Plans.{meant_cause}
use Rattle.js_flow.specs.Views.{completion_of}
use Rattle.js_flow.specs.Frames.{native_plan, rest}
use Rattle.js_flow.specs.Todo.{todo}
use Rattle.turn_dispatch.specs.declared.level.Firing.{Firing}
use Rattle.turn_dispatch.specs.declared.level.Hearing.{Hearing}
use Rattle.turn_dispatch.specs.declared.level.Heard.{Heard}
use Rattle.turn_dispatch.specs.declared.level.Heard.TheVariants as heard
use Rattle.turn_dispatch.specs.declared.level.Level.{Level}
use Rattle.turn_dispatch.specs.declared.level.Level.TheVariants as level
use Rattle.turn_dispatch.specs.declared.level.Doing.{Doing}
use Rattle.turn_dispatch.specs.declared.level.Doing.TheVariants as doing

module _ (w : ℕ) (cells : List PlainCell) (p : Page) where
  -- the functions of a node that listen, by their own numbers
  abbrev pub functions_of : Hearing → List ℕ
  functions_of h = map (own_count w cells) h.handlers.items

  -- a dispatch at a node
  abbrev pub hearing_of : Hearing → plan.Hearing
  hearing_of h = record {
    kind = h.dispatch.kind;
    target = number p w h.dispatch.target;
    node = number p w h.node;
    value = seen w cells h.dispatch.value;
    event = seen w cells (value.Ref h.event);
    first = slice_index_or (functions_of h) 0 0;
    others = drop 1 (functions_of h);
    depth = h.dispatch.depth;
  }

  -- what the function of a library gave is kept in `lib`
  abbrev pub keeps_on : ℕ → List ℕ → Completion → State → Plan
  keeps_on lib x o s = after (λ v t. put (seen w cells (value.Ref lib)) x v t (give Undefined)) o s

  -- the handlers from a number on, and then the end of the dispatch
  abbrev pub hears_on : Hearing → ℕ → Completion → State → Plan
  hears_on h n o s = and_then (after (λ v t. handlers (drop n (functions_of h)) (hearing_of h) t) o s) (dispatch_end (hearing_of h))

  -- the nodes from a number on
  abbrev pub fires_on : Firing → ℕ → Completion → State → Plan
  fires_on f n o s = after (λ v t. fired f.kind (map (number p w) (drop n f.nodes.items)) (seen w cells f.last) f.depth t) o s

  -- the first handler of a dispatch is called, in a new innermost dispatch; or the widget stops
  abbrev pub heard_plan : Heard → State → Plan
  heard_plan (heard.Calls h) s = Do (plan.Hear (hearing_of h.value)) (with_dispatch s) Ret
  heard_plan (heard.Stop c) s = Halt (meant_cause c) s

  -- what is done with the node that was found to listen; where there is none, nothing
  abbrev pub searched_plan : Option Heard → State → Plan
  searched_plan None s = give Undefined s
  searched_plan (Some h) s = heard_plan h s

module _ (fs : List Forest) (w : ℕ) (cells : List PlainCell) (p : Page) where
  -- what is done with how a call ended
  abbrev pub level_taken : Level → Completion → State → Plan
  level_taken (level.Keeps lib x) = keeps_on w cells p lib x
  level_taken (level.Hears h n) = hears_on w cells p h.value n
  level_taken (level.Fires f n) = fires_on w cells p f.value n
  level_taken (level.Waits t) = rest fs w cells t.value.frames.list.items

  -- what levels have still to do, from the last down, over what comes below
  abbrev pub over : List Level → (Completion → State → Plan) → Completion → State → Plan
  over [] k = k
  over (l ∷ levels) k = over levels (λ o s. and_then (level_taken l o s) k)

  -- what levels have still to do
  abbrev pub levels_rest : List Level → Completion → State → Plan
  levels_rest levels = over levels Ret

  -- what a turn has still to do
  abbrev pub turn_plan : Doing → List Level → State → Plan
  turn_plan (doing.Runs t) levels s = and_then (todo fs w cells t.value.control t.value.frames.list.items s) (levels_rest levels)
  turn_plan (doing.Native t n) levels s =
      and_then (and_then (native_plan w cells n.value s) (rest fs w cells t.value.frames.list.items)) (levels_rest levels)
  turn_plan (doing.Hears h) levels s = Do (plan.Hear (hearing_of w cells p h.value)) s (levels_rest levels)
  turn_plan (doing.Over o) levels s = Ret (completion_of w cells o) s
  turn_plan (doing.Stop c) levels s = Halt (meant_cause c) s
