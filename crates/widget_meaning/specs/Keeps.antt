-- What each state of a plan keeps, a predicate on the counts, the waiting timers and the clock, and one on objects and
-- scopes; and how a plan ends.
use Rattle.std.specs.Prelude.{ℕ, ◌+◌, ◌<◌, ◌≤◌, List, [], ◌∷◌, ◌++◌, length, Option, Some, None, slice_index_or, slice_set}
use Rattle.plain_tree.specs.Trees.{Label, End, Node, size}
use Rattle.tree_ops.specs.Trees.{relabelled}
use Rattle.widget_meaning.specs.Trees.{Trees, grafted, numbered, with_detached, detached, moved}
use Rattle.widget_meaning.specs.Limits.{max_cells, max_slots, max_units, max_nodes, max_timers, min_delay}
use Rattle.widget_meaning.specs.Values.{Completion}
use Rattle.widget_meaning.specs.OwnState.{Amounts, State, Timer, Cell, Kind, Function, Scope, Pairs, plain_object}
use Rattle.widget_meaning.specs.Plan.{Plan, Ret, Halt, Need, Tick, Do, Job, Eval, Target, Exec, Pass}
use Rattle.widget_meaning.specs.Costs.{sum}
use Rattle.widget_meaning.specs.Ways.{Way, Ends, way_of}

-- the counts pass no limit
pub record FitsLimits (c : Amounts) : Type 0 where
  pub units : c.units ≤ max_units
  pub cells : c.cells ≤ max_cells
  pub slots : c.slots ≤ max_slots
  pub nodes : c.nodes ≤ max_nodes

-- a predicate on the scope in which a function was made; all else has none
abbrev pub OfFunction : (Option ℕ → Type 0) → Kind → Type 0
OfFunction P (Function f scope) = P scope
OfFunction P kind = Unit {0}

-- no scope
abbrev pub no_scope : Scope
no_scope = record { outer = None; pairs = [] }

-- a predicate on objects and scopes, and one on a scope where there are so many, that what is born and written keeps;
-- and of how many scopes it is asked that they are there
pub record Links : Type 1 where
  pub asked : ℕ → ℕ
  pub enough : (n : ℕ) → asked n ≤ n
  pub through : (m n k : ℕ) → asked m ≤ n → asked n ≤ k → asked m ≤ k
  pub Linked : List Cell → List Scope → Type 0
  pub Older : ℕ → Option ℕ → Type 0
  pub later : (m n : ℕ) (o : Option ℕ) → asked m ≤ n → Older m o → Older n o
  pub outermost : (n : ℕ) → Older n None
  pub newest : (cs : List Scope) (c : Scope) → Older (length (cs ++ c ∷ [])) (Some (length cs))
  pub function : (hs : List Cell) (cs : List Scope) (n : ℕ) → Linked hs cs
      → OfFunction (Older (length cs)) (slice_index_or hs n (plain_object [])).kind
  pub born : (hs : List Cell) (cs : List Scope) (c : Cell) → Linked hs cs → OfFunction (Older (length cs)) c.kind
      → Linked (hs ++ c ∷ []) cs
  pub written : (hs : List Cell) (cs : List Scope) (n : ℕ) (c : Cell) → Linked hs cs
      → OfFunction (Older (length cs)) c.kind → Linked (slice_set hs n c) cs
  pub entered : (hs : List Cell) (cs : List Scope) (c : Scope) → Linked hs cs → Older (length cs) c.outer
      → Linked hs (cs ++ c ∷ [])
  pub assigned : (hs : List Cell) (cs : List Scope) (n : ℕ) (ps : Pairs) → Linked hs cs
      → Linked hs (slice_set cs n (record (slice_index_or cs n no_scope) { pairs = ps }))

-- a predicate on a page and how many nodes there were, that each change of the page keeps
pub record Pages : Type 1 where
  pub Page : Trees → ℕ → Type 0
  pub labelled : (ts : Trees) (k n : ℕ) (l : Label) → Page ts k → Page (relabelled n l ts) k
  pub put : (ts : Trees) (k p n : ℕ) (next : Option ℕ) → Page ts k → Page (moved p next ts n) k
  pub freed : (ts : Trees) (k n : ℕ) → Page ts k → Page (detached ts n) k
  pub grown : (ts us : Trees) (k p : ℕ) (next : Option ℕ) → Page ts k
      → Page (grafted p next (numbered k us) ts) (k + size (numbered k us))
  pub added : (ts : Trees) (k : ℕ) (l : Label) → Page ts k → Page (with_detached (Node k l End End) ts) (k + 1)

-- a predicate that costs within the limits keep, and timers that are started while fewer than the limit wait
pub record Invariant : Type 1 where
  pub Holds : Amounts → List Timer → ℕ → Type 0
  pub paid : (c cost : Amounts) (ts : List Timer) (clock : ℕ) → Holds c ts clock → FitsLimits (sum c cost)
      → Holds (sum c cost) ts clock
  pub started : (c : Amounts) (ts : List Timer) (clock : ℕ) (t : Timer) → Holds c ts clock → length ts < max_timers
      → clock + min_delay ≤ t.due → Holds c (ts ++ t ∷ []) clock
  pub links : Links
  pub pages : Pages

-- of a state, in which there are at least as many scopes as are asked
pub record Fine (i : Invariant) (n : ℕ) (c : Amounts) (ts : List Timer) (clock : ℕ) (hs : List Cell) (cs : List Scope)
    (f : Trees) (k : ℕ) : Type 0 where
  pub holds : i.Holds c ts clock
  pub linked : i.links.Linked hs cs
  pub page : i.pages.Page f k
  pub wide : i.links.asked n ≤ length cs

-- the same by the state
abbrev pub HoldsOf : Invariant → ℕ → State → Type 0
HoldsOf i n s =
    Fine i n s.own.counts s.own.timers s.own.clock s.own.heap s.own.scopes s.own.forest (length s.own.kept)

-- the scope of a job's place is one where there are so many
abbrev pub JobOf : Invariant → ℕ → Job → Type 0
JobOf i n (Eval e p) = i.links.Older n p.scope
JobOf i n (Target e p) = i.links.Older n p.scope
JobOf i n (Exec e p) = i.links.Older n p.scope
JobOf i n (Pass l p) = i.links.Older n p.scope
JobOf i n j = Unit {0}

-- each state of a plan has it and the plan ends in a way, where those that its jobs hand on have it and end in theirs
unfoldable pub Keeps : Invariant → ℕ → Way → Plan → Type 0
Keeps i n way (Ret o s) = HoldsOf i n s × Ends way o
Keeps i n way (Halt c s) = HoldsOf i n s
Keeps i n way (Need c s p) = HoldsOf i n s × Keeps i n way p
Keeps i n way (Tick s p) = HoldsOf i n s × Keeps i n way p
Keeps i n way (Do j s k) = HoldsOf i n s × (JobOf i (length s.own.scopes) j
    × ((o : Completion) (t : State) → HoldsOf i (length s.own.scopes) t → Ends (way_of j) o → Keeps i n way (k o t)))
