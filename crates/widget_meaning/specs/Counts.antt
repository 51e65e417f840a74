-- The counts of a widget only rise, and stay within their limits.
use Rattle.std.specs.Prelude.{ℕ, ◌≤◌, List}
use Rattle.widget_meaning.specs.Limits.{max_nodes}
use Rattle.plain_tree.specs.Trees.{size}
use Rattle.widget_meaning.specs.OwnState.{Amounts, OwnState, State}
use Rattle.widget_meaning.specs.Plan.{Job}
use Rattle.widget_meaning.specs.Meaning.{meaning}
use Rattle.widget_meaning.specs.Items.{Item}
use Rattle.widget_meaning.specs.Alone.{Content, alone, alone_from}
use Rattle.widget_meaning.specs.Keeps.{FitsLimits}

-- the counts are at least the earlier ones, and pass no limit
pub record Risen (earlier counts : Amounts) : Type 0 where
  pub units : earlier.units ≤ counts.units
  pub cells : earlier.cells ≤ counts.cells
  pub slots : earlier.slots ≤ counts.slots
  pub nodes : earlier.nodes ≤ counts.nodes
  pub within : FitsLimits counts

-- of a job, of items, and of a whole run of a widget whose subtree is within its limit
pub record CountLaws : Type 0 where
  pub jobs : (j : Job) (s : State) (g : ℕ) → FitsLimits s.own.counts
      → Risen s.own.counts (meaning j s g).state.own.counts
  pub items : (o : OwnState) (is : List Item) → FitsLimits o.counts → Risen o.counts (alone_from o is).counts
  pub whole : (w : Content) (grant : ℕ) (is : List Item) → size w.root ≤ max_nodes
      → FitsLimits (alone w grant is).counts
