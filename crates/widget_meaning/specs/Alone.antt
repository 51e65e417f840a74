-- One widget by itself: its load, and then its items.
use Rattle.std.specs.Prelude.{ℕ, List, [], ◌∷◌, if◌then◌else◌, Option, Some, None, replicate}
use Rattle.std.specs.List.{fold}
use Rattle.std.specs.Str.{bytes_eq}
use Rattle.js_tree.specs.Plain as tree
use Rattle.js_tree.specs.Plain.{Stmts, Fun}
use Rattle.permitted_table.specs.declared.native.HostEntry.TheVariants as host
use Rattle.widget_meaning.specs.Values.{Value, Undefined, Own, Host, Completion}
use Rattle.plain_tree.specs.Trees.{size}
use Rattle.widget_meaning.specs.Trees.{Trees, numbered}
use Rattle.widget_meaning.specs.OwnState.{OwnState, State, plain_object, new_function, nothing_kept}
use Rattle.widget_meaning.specs.Plan.{Plan, Ret, Do, Call, after}
use Rattle.widget_meaning.specs.Costs.{cost, make, give}
use Rattle.widget_meaning.specs.Properties.{put}
use Rattle.widget_meaning.specs.Turns.{turn}
use Rattle.widget_meaning.specs.Items.{Event, Item, Occurs, Advance, item, unless_stopped}

-- what is given to a page: an event to a name, an advance to all, a swap of a name
pub data Given : Type 0 where
  Sent : List ℕ → Event → Given
  Passed : ℕ → Given
  Swapped : List ℕ → Given

-- the events to a name and all advances, in order
abbrev pub delivered : List Given → List ℕ → List Item
delivered [] x = []
delivered (Sent y e ∷ gs) x = if bytes_eq y x then Occurs e ∷ delivered gs x else delivered gs x
delivered (Passed d ∷ gs) x = Advance d ∷ delivered gs x
delivered (Swapped y ∷ gs) x = delivered gs x

-- an accepted widget: its subtree, its libraries in order and its last script
pub record Content : Type 0 where
  pub root : Trees
  pub libraries : List Stmts
  pub script : Stmts

-- the string and the function of `ADSAFE.lib("name", function ..);` and of `ADSAFE.go("NAME_", function ..);`
abbrev pub call_parts : Stmts → Option (List ℕ × Fun)
call_parts (tree.AndStmt tree.NoStmts
    (tree.StmtAt a xs (tree.Only
    (tree.ExprAt b bs (tree.Call callee
    (tree.AndExpr (tree.AndExpr tree.NoExprs (tree.ExprAt c cs (tree.Str x)))
    (tree.ExprAt d ds (tree.Function f)))))))) = Some (x, f)
call_parts ss = None

-- the object `lib`, which is made first
abbrev pub lib : Value
lib = Own 0

-- the widget before its first turn: the object `lib` and the nodes of the subtree are paid
abbrev pub beginning : Content → ℕ → OwnState
beginning w grant = record {
  heap = plain_object [] ∷ [];
  scopes = [];
  forest = numbered 0 w.root;
  kept = replicate (size w.root) nothing_kept;
  timers = [];
  clock = 0;
  focus = None;
  log = [];
  uncaught = [];
  posts = [];
  counts = cost 0 1 0 (size w.root);
  turns = 0;
  spent = 0;
  missed = 0;
  gone = 0;
  stop = None;
  grant = grant;
}

-- the outermost function of a script, made without a scope and called with these
abbrev pub call_script : Fun → List Value → State → (Completion → State → Plan) → Plan
call_script f vs s k = make (new_function f None) 0 s (λ v t. Do (Call v None vs 0) t k)

-- the call of a library's function: its value is kept in `lib` under its name, at the cost of a property
abbrev pub library_plan : List ℕ → Fun → State → Plan
library_plan x f s = call_script f (lib ∷ []) s (after (λ v t. put lib x v t (give Undefined)))

-- the load turn of a library
abbrev pub library_turn : Option (List ℕ × Fun) → OwnState → OwnState
library_turn None o = o
library_turn (Some (x, f)) o = turn (library_plan x f) o

-- the `go` function is called with `dom` and `lib`
abbrev pub go_plan : Fun → State → Plan
go_plan f s = call_script f (Host host.Dom ∷ lib ∷ []) s Ret

-- the turn of the `go` function
abbrev pub go_turn : Option (List ℕ × Fun) → OwnState → OwnState
go_turn None o = o
go_turn (Some (x, f)) o = turn (go_plan f) o

-- one load turn for each library, and that of the `go` function; a stop drops those that remain
abbrev pub load_library : OwnState → Stmts → OwnState
load_library o ss = unless_stopped o.stop o (library_turn (call_parts ss))

-- the widget after its load
abbrev pub loaded : Content → ℕ → OwnState
loaded w grant =
    let o : OwnState = fold load_library (beginning w grant) w.libraries in
    unless_stopped o.stop o (go_turn (call_parts w.script))

-- and then the items
abbrev pub alone_from : OwnState → List Item → OwnState
alone_from o is = fold item o is

-- one widget by itself: the load, and the items in order
abbrev pub alone : Content → ℕ → List Item → OwnState
alone w grant is = alone_from (loaded w grant) is

-- what a widget of this name does on what is given to the page
abbrev pub alone_on : List ℕ → Content → ℕ → List Given → OwnState
alone_on x w grant gs = alone w grant (delivered gs x)
