-- Nodes: each has a number of its own, below how many nodes the widget has had; and the way up from a node ends by itself
-- where no tree is too high.
use Rattle.std.specs.Prelude.{◌≡◌, ℕ, ◌+◌, ◌≤◌, List, length, nat_eq, if◌then◌else◌, Option}
use Rattle.plain_tree.specs.Trees.{End, Node, height}
use Rattle.widget_meaning.specs.Limits.{max_node_depth}
use Rattle.widget_meaning.specs.Trees.{Trees}
use Rattle.widget_meaning.specs.OwnState.{OwnState, State}
use Rattle.widget_meaning.specs.Plan.{Job}
use Rattle.widget_meaning.specs.Dispatch.{nearest_from, nearest}
use Rattle.widget_meaning.specs.Meaning.{meaning}
use Rattle.widget_meaning.specs.Items.{Item}
use Rattle.widget_meaning.specs.Alone.{Content, alone, alone_from}

-- how often a number stands in trees
abbrev pub times : ℕ → Trees → ℕ
times n End = 0
times n (Node m l ks ts) = (if nat_eq m n then 1 else 0) + (times n ks + times n ts)

-- each number stands once at most, and below this
pub record IsPage (ts : Trees) (k : ℕ) : Type 0 where
  pub once : (n : ℕ) → times n ts ≤ 1
  pub there : (n : ℕ) → k ≤ n → times n ts ≡ 0

-- so it is at any time, where the bound is how many nodes the widget has had
pub record NodeLaws : Type 0 where
  pub jobs : (j : Job) (s : State) (g : ℕ) → IsPage s.own.forest (length s.own.kept)
      → IsPage (meaning j s g).state.own.forest (length (meaning j s g).state.own.kept)
  pub kept : (o : OwnState) (is : List Item) → IsPage o.forest (length o.kept)
      → IsPage (alone_from o is).forest (length (alone_from o is).kept)
  pub whole : (w : Content) (grant : ℕ) (is : List Item)
      → IsPage (alone w grant is).forest (length (alone w grant is).kept)

-- where each number stands once and no tree is higher than the limit, a greater bound finds the same
abbrev pub AncestorLaws : Type 0
AncestorLaws =
    (s : State) (o : Option ℕ) (kind : List ℕ) (k more : ℕ) → IsPage s.own.forest k
    → height s.own.forest ≤ max_node_depth + 1
    → nearest_from (max_node_depth + 1 + more) s o kind ≡ nearest s o kind
