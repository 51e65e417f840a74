-- Scopes: each stands in an older one, and each function was made in one that is there. So the search for a name ends
-- by itself, and its bound is never met.
use Rattle.std.specs.Prelude.{◌≡◌, ℕ, ◌+◌, ◌<◌, List, [], length, Option, Some, None, slice_index_or}
use Rattle.widget_meaning.specs.OwnState.{OwnState, State, Cell, Scope, plain_object}
use Rattle.widget_meaning.specs.Plan.{Job, Eval, Target, Exec, Pass}
use Rattle.widget_meaning.specs.Scopes.{scope_having}
use Rattle.widget_meaning.specs.Meaning.{meaning}
use Rattle.widget_meaning.specs.Items.{Item}
use Rattle.widget_meaning.specs.Alone.{Content, alone, alone_from}
use Rattle.widget_meaning.specs.Keeps.{OfFunction, no_scope}

-- a scope, if any, has a number below this
abbrev pub IsScope : ℕ → Option ℕ → Type 0
IsScope n None = Unit {0}
IsScope n (Some i) = i < n

-- each scope stands in an older one, and each function was made in a scope that is there
pub record AreLinked (hs : List Cell) (cs : List Scope) : Type 0 where
  pub scopes : (n : ℕ) → IsScope n (slice_index_or cs n no_scope).outer
  pub functions : (n : ℕ) → OfFunction (IsScope (length cs)) (slice_index_or hs n (plain_object [])).kind

-- the scope of a job's place is there
abbrev pub HasScope : State → Job → Type 0
HasScope s (Eval e p) = IsScope (length s.own.scopes) p.scope
HasScope s (Target e p) = IsScope (length s.own.scopes) p.scope
HasScope s (Exec i p) = IsScope (length s.own.scopes) p.scope
HasScope s (Pass l p) = IsScope (length s.own.scopes) p.scope
HasScope s j = Unit {0}

-- so it is at any time; and from a scope that is there a search is the same with a greater bound
pub record ScopeLaws : Type 0 where
  pub jobs : (j : Job) (s : State) (g : ℕ) → AreLinked s.own.heap s.own.scopes → HasScope s j
      → AreLinked (meaning j s g).state.own.heap (meaning j s g).state.own.scopes
  pub kept : (o : OwnState) (is : List Item) → AreLinked o.heap o.scopes
      → AreLinked (alone_from o is).heap (alone_from o is).scopes
  pub whole : (w : Content) (grant : ℕ) (is : List Item)
      → AreLinked (alone w grant is).heap (alone w grant is).scopes
  pub enough : (s : State) (o : Option ℕ) (x : List ℕ) (more : ℕ) → AreLinked s.own.heap s.own.scopes
      → IsScope (length s.own.scopes) o
      → scope_having (length s.own.scopes + more) s o x ≡ scope_having (length s.own.scopes) s o x
