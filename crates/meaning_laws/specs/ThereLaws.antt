-- Laws of what is there, and of chains of prototypes.
use Rattle.std.specs.Prelude.{◌≡◌, ℕ, suc, ◌+◌, ◌≤◌, List, [], Option, Some}
use Rattle.plain_tree.specs.Trees.{size, height}
use Rattle.widget_meaning.specs.Limits.{max_chain, max_node_depth}
use Rattle.widget_meaning.specs.Values.{Value}
use Rattle.widget_meaning.specs.OwnState.{OwnState, State, cell_at}
use Rattle.widget_meaning.specs.JsonBack.{HasLength}
use Rattle.widget_meaning.specs.Plan.{Job}
use Rattle.widget_meaning.specs.Properties.{on_chain, along, names_on_chain, names_of}
use Rattle.widget_meaning.specs.Dispatch.{nearest_from, nearest}
use Rattle.widget_meaning.specs.Meaning.{meaning}
use Rattle.widget_meaning.specs.Items.{Item}
use Rattle.widget_meaning.specs.Alone.{Content, alone, alone_from}
use Rattle.widget_meaning.specs.AdsafeNatives.{chain_from}
use Rattle.meaning_laws.specs.There.{IsThere, JobIs, OfEnd, sizes}

-- so it is after each job, and of what the job ends with; and at any time, of a widget that has a root and whose trees are low
pub record ThereLaws : Type 0 where
  pub jobs : (j : Job) (s : State) (g : ℕ) → IsThere s.own → JobIs (sizes s.own) j → IsThere (meaning j s g).state.own
  pub ends : (j : Job) (s : State) (g : ℕ) → IsThere s.own → JobIs (sizes s.own) j
      → OfEnd (sizes (meaning j s g).state.own) (meaning j s g).how
  pub kept : (o : OwnState) (is : List Item) → IsThere o → IsThere (alone_from o is)
  pub whole : (w : Content) (grant : ℕ) (is : List Item) → 1 ≤ size w.root → height w.root ≤ max_node_depth + 1
      → IsThere (alone w grant is)

-- a walk along prototypes comes to the same with a greater bound: a read, the names that `for-in` lists, and the objects
-- that `create` counts
pub record ChainLaws : Type 0 where
  pub reads : (s : State) (v : Value) (x : List ℕ) (more : ℕ) → IsThere s.own
      → on_chain (suc max_chain + more) s (Some v) x ≡ along s v x
  pub lists : (s : State) (v : Value) (more : ℕ) → IsThere s.own
      → names_on_chain (suc max_chain + more) s (Some v) [] ≡ names_of s v
  pub counts : (s : State) (v : Value) (more : ℕ) → IsThere s.own
      → chain_from (suc max_chain + more) s (Some v) ≡ chain_from (suc max_chain) s (Some v)

-- and so does the way up from a node
abbrev pub WayLaws : Type 0
WayLaws =
    (s : State) (o : Option ℕ) (kind : List ℕ) (more : ℕ) → IsThere s.own
    → nearest_from (max_node_depth + 1 + more) s o kind ≡ nearest s o kind

-- no array is longer than it may be, though `splice` tests no length
abbrev pub LengthLaws : Type 0
LengthLaws = (s : State) (n : ℕ) → IsThere s.own → HasLength (cell_at s n).kind
