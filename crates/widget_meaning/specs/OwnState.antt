-- The state of one widget by itself, and how it is read and changed.
use Rattle.std.specs.Prelude.{ℕ, List, [], ◌∷◌, ◌++◌, Bool, false, Option, Some, None, slice_index_or, slice_set, if◌then◌else◌}
use Rattle.std.specs.Str.{bytes_eq}
pub use Rattle.code_units.specs.Pairs.{lookup}
use Rattle.js_tree.specs.Plain.{Fun}
use Rattle.permitted_table.specs.declared.native.HostEntry.TheVariants as host
use Rattle.widget_meaning.specs.Values.{Value, Own, Host, Stop}
use Rattle.widget_meaning.specs.Trees.{Trees}

-- names with their values, in order of insertion
abbrev pub Pairs : Type 0
Pairs = List (List ℕ × Value)

-- what an object is: an array has its length, a function its tree and its scope, a Bunch its nodes
pub data Kind : Type 0 where
  Object : Kind
  Array : ℕ → Kind
  Function : Fun → Option ℕ → Kind
  Bunch : List ℕ → Kind

-- an object of the widget
pub record Cell : Type 0 where
  pub kind : Kind
  pub prototype : Value
  pub pairs : Pairs

-- a scope: the one around it, and its names
pub record Scope : Type 0 where
  pub outer : Option ℕ
  pub pairs : Pairs

-- a handler: the type that it listens to, and the number of its function
pub record Handler : Type 0 where
  pub kind : List ℕ
  pub func : ℕ

-- what is kept with a node: its handlers in order of listening, its mark, and whether it is protected
-- (`Kept` of `js_image` is another record: what a call keeps)
pub record Kept : Type 0 where
  pub handlers : List Handler
  pub mark : List ℕ
  pub is_protected : Bool

-- a waiting timer: when it is due, and the number of its function
pub record Timer : Type 0 where
  pub due : ℕ
  pub func : ℕ

-- a kept post
pub record Post : Type 0 where
  pub receiver : List ℕ
  pub text : List ℕ

-- what is counted for each widget; also what one thing costs
pub record Amounts : Type 0 where
  pub units : ℕ
  pub cells : ℕ
  pub slots : ℕ
  pub nodes : ℕ

-- one widget by itself
pub record OwnState : Type 0 where
  -- objects and scopes in order of birth
  pub heap : List Cell
  pub scopes : List Scope
  -- the root's tree first, then detached trees by the age of their tops; nodes are numbered by birth
  pub forest : Trees
  -- by the numbers of nodes
  pub kept : List Kept
  -- in order of their start
  pub timers : List Timer
  pub clock : ℕ
  pub focus : Option ℕ
  pub log : List (List ℕ)
  pub uncaught : List (List ℕ)
  pub posts : List Post
  pub counts : Amounts
  -- turns begun, fuel charged, events that were missed or came too late
  pub turns : ℕ
  pub spent : ℕ
  pub missed : ℕ
  pub gone : ℕ
  pub stop : Option Stop
  -- the grant of fuel of each turn, which never changes
  pub grant : ℕ

-- within a turn: the widget, and the open dispatches, innermost first, each with whether `bubble` was called in it
pub record State : Type 0 where
  pub own : OwnState
  pub dispatches : List Bool

-- ## Names with their values: `lookup` gives what a name has

-- a kept name keeps its place; a new one is not put in
abbrev pub replaced : Pairs → List ℕ → Value → Pairs
replaced [] x v = []
replaced (p ∷ ps) x v = if bytes_eq x p.0 then (p.0, v) ∷ ps else p ∷ replaced ps x v

-- the pairs without a name
abbrev pub taken_out : Pairs → List ℕ → Pairs
taken_out [] x = []
taken_out (p ∷ ps) x = if bytes_eq x p.0 then ps else p ∷ taken_out ps x

-- ## New objects

-- an object with this prototype
abbrev pub new_object : Value → Pairs → Cell
new_object proto ps = record { kind = Object; prototype = proto; pairs = ps }

-- an object with the plain prototype
abbrev pub plain_object : Pairs → Cell
plain_object ps = new_object (Host host.ObjectPrototype) ps

-- an array of this length
abbrev pub new_array : ℕ → Pairs → Cell
new_array n ps = record { kind = Array n; prototype = Host host.ArrayPrototype; pairs = ps }

-- a function with the scope in which it is made
abbrev pub new_function : Fun → Option ℕ → Cell
new_function f scope = record { kind = Function f scope; prototype = Host host.FunctionPrototype; pairs = [] }

-- a Bunch of these nodes
abbrev pub new_bunch : List ℕ → Cell
new_bunch ns = record { kind = Bunch ns; prototype = Host host.BunchPrototype; pairs = [] }

-- ## What is read

-- the object with a number
abbrev pub cell_at : State → ℕ → Cell
cell_at s n = slice_index_or s.own.heap n (plain_object [])

-- what an object of the widget is
abbrev pub kind_of : State → Value → Option Kind
kind_of s (Own n) = Some (cell_at s n).kind
kind_of s v = None

-- the length of an array
abbrev pub array_length : Option Kind → Option ℕ
array_length (Some (Array len)) = Some len
array_length kind = None

-- the nodes of a Bunch
abbrev pub bunch_nodes : Option Kind → Option (List ℕ)
bunch_nodes (Some (Bunch ns)) = Some ns
bunch_nodes kind = None

-- the scope with a number
abbrev pub scope_at : State → ℕ → Scope
scope_at s n = slice_index_or s.own.scopes n (record { outer = None; pairs = [] })

-- nothing is kept with a node
abbrev pub nothing_kept : Kept
nothing_kept = record { handlers = []; mark = []; is_protected = false }

-- what is kept with a node
abbrev pub kept_at : State → ℕ → Kept
kept_at s n = slice_index_or s.own.kept n nothing_kept

-- ## What is changed

-- with another widget
abbrev pub with_own : State → OwnState → State
with_own s o = record s { own = o }

-- with one object changed
abbrev pub with_cell : State → ℕ → Cell → State
with_cell s n c = with_own s (record s.own { heap = slice_set s.own.heap n c })

-- with one scope changed
abbrev pub with_scope : State → ℕ → Scope → State
with_scope s n c = with_own s (record s.own { scopes = slice_set s.own.scopes n c })

-- with another page
abbrev pub with_forest : State → Trees → State
with_forest s t = with_own s (record s.own { forest = t })

-- with something else kept with one node
abbrev pub with_kept : State → ℕ → Kept → State
with_kept s n k = with_own s (record s.own { kept = slice_set s.own.kept n k })

-- with one more object; its number is how many there were
abbrev pub with_new_cell : State → Cell → State
with_new_cell s c = with_own s (record s.own { heap = s.own.heap ++ c ∷ [] })

-- with one more scope; its number is how many there were
abbrev pub with_new_scope : State → Scope → State
with_new_scope s c = with_own s (record s.own { scopes = s.own.scopes ++ c ∷ [] })
