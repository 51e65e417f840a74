-- What is there: each object and each node that something names was born, and each prototype is older than its object;
-- no object has more names than slots were paid, and no array is too long; and, where it is said of texts too, each value
-- is ordinary, and each name of an object is a text.
use Rattle.std.specs.Prelude.{◌≡◌, Bool, true, false, ℕ, zero, suc, ◌+◌, ◌<◌, ◌≤◌, List, [], length, Option, Some, None, slice_index_or, ⊤}
use Rattle.std.specs.List.{AllByRecursion}
use Rattle.plain_tree.specs.Trees.{height}
use Rattle.widget_meaning.specs.Limits.{max_chain, max_node_depth, max_slots}
use Rattle.widget_meaning.specs.Values.{Value, Undefined, Null, Truth, NaN, Num, Text, Own, Host, Reference, Variable, Property, Found, Completion, Normal, Is, Refers, Return, Break, Continue, Throw}
use Rattle.widget_meaning.specs.OwnState.{OwnState, Kind, Object, Array, Function, Bunch, Cell, Pairs, Scope, Kept, Timer, plain_object, nothing_kept}
use Rattle.widget_meaning.specs.HostTable.{host_prototype}
use Rattle.widget_meaning.specs.Keeps.{no_scope}
use Rattle.widget_meaning.specs.NodeLaws.{IsPage}
use Rattle.widget_meaning.specs.JsonBack.{HasLength}
use Rattle.widget_meaning.specs.Plan.{Loop, WhileLoop, DoLoop, ForLoop, ForInLoop, Hearing, Job, Eval, Target, Exec, Pass, Call, RunNative, Hear, End, Ended, Stopped, OutOfFuel}
use Rattle.widget_meaning.specs.Trees.{Trees}
use Rattle.meaning_laws.specs.Texts.{AreUnits, IsText, AreTexts, IsOrdinaryValue, AreNames, ExprHasTexts, OptionHasTexts, StmtHasTexts, FunHasTexts, PageHasTexts}

-- ## Numbers

-- how many objects and nodes were born, and whether what is said is said of texts and numbers too
pub record Sizes : Type 0 where
  pub objects : ℕ
  pub nodes : ℕ
  pub texts : Bool

-- of a widget, with texts and numbers or without
abbrev pub sizes_with : Bool → OwnState → Sizes
sizes_with b o = record { objects = length o.heap; nodes = length o.kept; texts = b }

-- without
abbrev pub sizes : OwnState → Sizes
sizes o = sizes_with false o

-- with
abbrev pub told_sizes : OwnState → Sizes
told_sizes o = sizes_with true o

-- no fewer of both
pub record Grows (m n : Sizes) : Type 0 where
  pub objects : m.objects ≤ n.objects
  pub nodes : m.nodes ≤ n.nodes
  pub texts : m.texts ≡ n.texts

-- what holds of texts and numbers, where it is said of them too
pub record Told (m : Sizes) (P : Type 0) : Type 0 where
  pub holds : m.texts ≡ true → P

-- a value that is an object of the widget has a number below this
abbrev pub IsBelow : ℕ → Value → Type 0
IsBelow n Undefined = ⊤
IsBelow n Null = ⊤
IsBelow n (Truth b) = ⊤
IsBelow n NaN = ⊤
IsBelow n (Num z) = ⊤
IsBelow n (Text t) = ⊤
IsBelow n (Own i) = i < n
IsBelow n (Host h) = ⊤

-- ## What is there

-- a value: its object was born, and it is ordinary
pub record ValueIs (m : Sizes) (v : Value) : Type 0 where
  pub born : IsBelow m.objects v
  pub text : Told m (IsOrdinaryValue v)

-- each of these values
pub record ValuesAre (m : Sizes) (vs : List Value) : Type 0 where
  pub each : AllByRecursion (ValueIs m) vs

-- a value, if there is one
abbrev pub OfValue : Sizes → Option Value → Type 0
OfValue m None = ⊤
OfValue m (Some v) = ValueIs m v

-- the same, by name
pub record MaybeIs (m : Sizes) (o : Option Value) : Type 0 where
  pub value : OfValue m o

-- names with their values
pub record PairsAre (m : Sizes) (ps : Pairs) : Type 0 where
  pub each : AllByRecursion (λ p. ValueIs m p.1) ps

-- a node
pub record NodeIs (m : Sizes) (n : ℕ) : Type 0 where
  pub born : n < m.nodes

-- each of these nodes
pub record NodesAre (m : Sizes) (ns : List ℕ) : Type 0 where
  pub each : AllByRecursion (NodeIs m) ns

-- a node, if there is one
abbrev pub OfNode : Sizes → Option ℕ → Type 0
OfNode m None = ⊤
OfNode m (Some n) = NodeIs m n

-- each of these functions, by their numbers
pub record FunctionsAre (m : Sizes) (fs : List ℕ) : Type 0 where
  pub each : AllByRecursion (λ f. f < m.objects) fs

-- the nodes of a Bunch, the tree of a function
abbrev pub OfKind : Sizes → Kind → Type 0
OfKind m Object = ⊤
OfKind m (Array n) = ⊤
OfKind m (Function f o) = Told m (FunHasTexts f)
OfKind m (Bunch ns) = NodesAre m ns

-- an object: what it is, its prototype, its values and their names
pub record CellIs (m : Sizes) (c : Cell) : Type 0 where
  pub kind : OfKind m c.kind
  pub prototype : ValueIs m c.prototype
  pub pairs : PairsAre m c.pairs
  pub names : Told m (AreNames c.pairs)

-- what is kept with a node: the functions of its handlers, and its mark
pub record KeptIs (m : Sizes) (k : Kept) : Type 0 where
  pub handlers : AllByRecursion (λ h. h.func < m.objects) k.handlers
  pub mark : Told m (AreUnits k.mark)

-- a Bunch has no more nodes than slots may be paid
abbrev pub OfCount : Kind → Type 0
OfCount Object = ⊤
OfCount (Array n) = ⊤
OfCount (Function f o) = ⊤
OfCount (Bunch ns) = length ns ≤ max_slots

-- an object has no more names than slots were paid, and an array is no longer than it may be
pub record CellFits (slots : ℕ) (c : Cell) : Type 0 where
  pub room : length c.pairs ≤ slots
  pub len : HasLength c.kind
  pub count : OfCount c.kind

-- ## Prototypes

-- the object with a number
abbrev pub cell_in : List Cell → ℕ → Cell
cell_in hs n = slice_index_or hs n (plain_object [])

-- the prototype of a value, if it has one
abbrev pub prototype_in : List Cell → Value → Option Value
prototype_in hs Undefined = None
prototype_in hs Null = None
prototype_in hs (Truth b) = None
prototype_in hs NaN = None
prototype_in hs (Num z) = None
prototype_in hs (Text t) = None
prototype_in hs (Own n) = Some (cell_in hs n).prototype
prototype_in hs (Host h) = host_prototype h

-- the chain from here on has so many objects at most
abbrev pub IsShort : ℕ → List Cell → Option Value → Type 0
IsShort zero hs None = ⊤
IsShort zero hs (Some v) = ⊥
IsShort (suc m) hs None = ⊤
IsShort (suc m) hs (Some v) = IsShort m hs (prototype_in hs v)

-- ## Of an own state

-- all that is named is there, prototypes are older than their objects, and no chain of them is longer than may be
pub record AreThere (m : Sizes) (hs : List Cell) (cs : List Scope) (ks : List Kept) (ts : List Timer) (f : Trees)
    (focus : Option ℕ) (slots : ℕ) : Type 0 where
  pub objects : (n : ℕ) → CellIs m (cell_in hs n)
  pub older : (n : ℕ) → IsBelow n (cell_in hs n).prototype
  pub chains : (n : ℕ) → IsShort (suc max_chain) hs (Some (Own n))
  pub scopes : (n : ℕ) → PairsAre m (slice_index_or cs n no_scope).pairs
  pub kept : (n : ℕ) → KeptIs m (slice_index_or ks n nothing_kept)
  pub timers : AllByRecursion (λ t. t.func < m.objects) ts
  pub page : IsPage f m.nodes
  -- no tree is higher than the limit
  pub low : height f ≤ max_node_depth + 1
  pub focused : OfNode m focus
  pub labels : Told m (PageHasTexts f)
  pub fits : (n : ℕ) → CellFits slots (cell_in hs n)
  -- the object `lib` and the root, the first of all
  pub lib : ValueIs m (Own 0)
  pub root : NodeIs m 0

-- of a widget by itself, with texts and numbers or without
abbrev pub IsThereWith : Bool → OwnState → Type 0
IsThereWith b o = AreThere (sizes_with b o) o.heap o.scopes o.kept o.timers o.forest o.focus o.counts.slots

-- without
abbrev pub IsThere : OwnState → Type 0
IsThere o = IsThereWith false o

-- with: each value is ordinary, and each name of an object is a text
abbrev pub HasOrdinaryValues : OwnState → Type 0
HasOrdinaryValues o = IsThereWith true o

-- ## What a job holds

-- a reference
abbrev pub OfReference : Sizes → Reference → Type 0
OfReference m (Variable x) = ⊤
OfReference m (Property v x) = ValueIs m v × Told m (IsText x)
OfReference m (Found v) = ValueIs m v

-- the same, by name
pub record ReferenceIs (m : Sizes) (r : Reference) : Type 0 where
  pub value : OfReference m r

-- how a form ends
abbrev pub OfCompletion : Sizes → Completion → Type 0
OfCompletion m Normal = ⊤
OfCompletion m (Is v) = ValueIs m v
OfCompletion m (Refers r) = ReferenceIs m r
OfCompletion m (Return v) = ValueIs m v
OfCompletion m Break = ⊤
OfCompletion m Continue = ⊤
OfCompletion m (Throw v) = ValueIs m v

-- the same, by name
pub record CompletionIs (m : Sizes) (o : Completion) : Type 0 where
  pub value : OfCompletion m o

-- the object and the names of a `for-in`, and the trees
abbrev pub OfLoop : Sizes → Loop → Type 0
OfLoop m (WhileLoop e b) = Told m (ExprHasTexts e) × Told m (AllByRecursion StmtHasTexts b)
OfLoop m (DoLoop b e) = Told m (ExprHasTexts e) × Told m (AllByRecursion StmtHasTexts b)
OfLoop m (ForLoop test next b) =
    Told m (OptionHasTexts test) × (Told m (AllByRecursion ExprHasTexts next)
    × Told m (AllByRecursion StmtHasTexts b))
OfLoop m (ForInLoop v x y ys b) =
    ValueIs m v × (Told m (IsText y) × (Told m (AreTexts ys) × Told m (AllByRecursion StmtHasTexts b)))

-- the same, by name
pub record LoopIs (m : Sizes) (l : Loop) : Type 0 where
  pub value : OfLoop m l

-- an event at a node
pub record HearingIs (m : Sizes) (h : Hearing) : Type 0 where
  pub target : NodeIs m h.target
  pub node : NodeIs m h.node
  pub value : ValueIs m h.value
  pub event : ValueIs m h.event
  pub first : h.first < m.objects
  pub others : FunctionsAre m h.others
  pub kind : Told m (IsText h.kind)

-- a call: the function, what it is a method of, and the arguments
pub record CallIs (m : Sizes) (f : Value) (this : Option Value) (vs : List Value) : Type 0 where
  pub func : ValueIs m f
  pub receiver : MaybeIs m this
  pub arguments : ValuesAre m vs

-- what a job holds
abbrev pub OfJob : Sizes → Job → Type 0
OfJob m (Eval e p) = Told m (ExprHasTexts e)
OfJob m (Target e p) = Told m (ExprHasTexts e)
OfJob m (Exec i p) = Told m (StmtHasTexts i)
OfJob m (Pass l p) = LoopIs m l
OfJob m (Call f this vs d) = CallIs m f this vs
OfJob m (RunNative w this vs d) = CallIs m Undefined this vs
OfJob m (Hear h) = HearingIs m h

-- the same, by name
pub record JobIs (m : Sizes) (j : Job) : Type 0 where
  pub holds : OfJob m j

-- what an end hands on
abbrev pub OfEnd : Sizes → End → Type 0
OfEnd m (Ended o) = CompletionIs m o
OfEnd m (Stopped c) = ⊤
OfEnd m OutOfFuel = ⊤
