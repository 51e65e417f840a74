-- A life as its meaning has it: its own state, its turn in progress, and its queue.
use Rattle.std.specs.Prelude.{ℕ, ◌+◌, List, [], ◌∷◌, Bool, false, Option, None, Some, codes, map}
use Rattle.std.specs.Option.{option_map}
use Rattle.std.specs.Str.{bytes_eq}
use Rattle.plain_tree.specs.Trees.{ElementOf, Label}
use Rattle.js_tree.specs.Plain as tree
use Rattle.js_tree.specs.Plain.{Expr, Fun, Stmts}
use Rattle.js_tree.specs.Forest.{Forest, fun_at}
use Rattle.widget_meaning.specs.Values as meaning
use Rattle.widget_meaning.specs.OwnState.{OwnState, Post}
use Rattle.widget_meaning.specs.Items.{Event, Occurs, Advance}
use Rattle.event_loop.specs.declared.delivery.Event.{Event as Told}
use Rattle.js_image.specs.Plans.{meant_cause}
use Rattle.js_names.specs.Code.{trees_of}
use Rattle.js_flow.specs.Parts.{forest_at}
use Rattle.native_image.specs.Image.{Outside, beside, image}
use Rattle.life_laws.specs.Life as todo
use Rattle.life_laws.specs.Life.{Going, Seen}
use Rattle.turn_dispatch.specs.Stop.{Stop}
use Rattle.turn_dispatch.specs.Stop.TheVariants as stop
use Rattle.turn_dispatch.specs.declared.level.Doing.{Doing}
use Rattle.turn_dispatch.specs.Levels.{turn_plan}
use Rattle.turn_dispatch.specs.declared.calls.Calls.{Calls}
use Rattle.turn_dispatch.specs.Turns.{turn_image}
use Rattle.life_queue.specs.declared.life.Life.{Life}
use Rattle.life_queue.specs.declared.life.Script.{Script}
use Rattle.turn_dispatch.specs.declared.turn.Turn.{Turn}
use Rattle.life_queue.specs.declared.life.Work.{Work}
use Rattle.life_queue.specs.declared.life.Work.TheVariants as work
use Rattle.native_image.specs.declared.handed.Shared.{Shared}

-- why a life has stopped
abbrev pub meant_stop : Stop → meaning.Stop
meant_stop stop.Fuel = meaning.Fuel
meant_stop (stop.Due c) = meaning.PastLimit (meant_cause c)

-- a kept post
abbrev pub post_of : List ℕ × List ℕ → Post
post_of p = record { receiver = p.0; text = p.1 }

-- what is recorded of a life
abbrev pub outside : Life → Outside
outside l = record {
  log = l.widget.log.items;
  uncaught = l.records.uncaught.items;
  posts = map post_of l.widget.posts.items;
  turns = l.records.turns;
  spent = l.records.spent;
  missed = l.records.missed;
  gone = l.records.gone;
  stop = option_map meant_stop l.records.stop;
  grant = l.grant;
  outer = [];
}

-- the text of a script that hands over a function under a name. What is done with a script is told by these two
abbrev pub text_with : List ℕ → Fun → Stmts
text_with x f =
    let callee : Expr = tree.ExprAt 0 [] (tree.Name []) in
    tree.AndStmt tree.NoStmts
    (tree.StmtAt 0 [] (tree.Only
    (tree.ExprAt 0 [] (tree.Call callee
    (tree.AndExpr (tree.AndExpr tree.NoExprs (tree.ExprAt 0 [] (tree.Str x)))
    (tree.ExprAt 0 [] (tree.Function f)))))))

-- an event
abbrev pub event_of : Told → Event
event_of e = record { kind = e.kind; path = e.path.items; value = e.value }

-- whether a node is an `input`
abbrev pub is_input_label : Option Label → Bool
is_input_label (Some (ElementOf tag attrs)) = bytes_eq tag (codes "input")
is_input_label l = false

-- the trees of the scripts of the life whose turn it is
abbrev pub trees_in : Shared → List Forest
trees_in h = trees_of h.codes.items

module _ (fs : List Forest) where
  -- the function of a script
  abbrev pub function_of : Script → Fun
  function_of c = fun_at (forest_at fs c.code) c.fun

  -- a work
  abbrev pub work_of : Work → todo.Work
  work_of (work.Library c) = todo.Library (text_with c.name (function_of c))
  work_of (work.Go c) = todo.Go (text_with c.name (function_of c))
  work_of (work.Event e) = todo.Given (Occurs (event_of e))
  work_of (work.Advance d) = todo.Given (Advance d)
  work_of (work.Until n limit) = todo.Until n limit

-- a life after a turn has begun, which does this over these calls
abbrev pub begun_with : Life → Doing → Calls → Life
begun_with l d c = record l {
  records = record l.records { turns = l.records.turns + 1 };
  turn = Some (record { doing = d; calls = c; left = l.grant });
}

module _ (h : Shared) (w : ℕ) where
  -- the own state of a life
  abbrev pub own_of : Life → OwnState
  own_of l = (image (trees_in h) (outside l) w (beside h.store h.page l.widget.around None)).own

  -- its turn in progress
  abbrev pub going_of : Life → Turn → Going
  going_of l t = record {
    plan = turn_plan (trees_in h) w h.store.cells h.page t.doing t.calls.levels.items
        (turn_image (trees_in h) (outside l) w h.store h.page l.widget.around t.calls.dispatches.items);
    left = t.left;
  }

  -- what waits in its queue
  abbrev pub works_of : Life → List todo.Work
  works_of l = map (work_of (trees_in h)) l.queue.items

  -- all that is seen of a life
  abbrev pub life_seen : Life → Seen
  life_seen l = record { own = own_of l; going = option_map (going_of l) l.turn; queue = works_of l }

  -- the same between turns, with a work at the front of the queue
  abbrev pub life_with : Work → Life → Seen
  life_with i l = todo.waiting (own_of l) (work_of (trees_in h) i ∷ works_of l)
