-- What is still to be found, and where the walk goes.
use Rattle.std.specs.Prelude.{◌≡◌, ℕ, suc, ◌≤◌, List, [], ◌∷◌, ◌++◌, map, length, take}
use Rattle.js_tree.specs.declared.nodes.Part.{Part}
use Rattle.js_tree.specs.Forest.{Forest}
use Rattle.js_tree.specs.Parts.{Spot, spot_at, IsIn, spots_size}
use Rattle.first_breach.specs.Lists.{In}
use Rattle.node_rules.specs.declared.pushes.Work.{Work}
use Rattle.node_rules.specs.declared.enclosing.Enclosing.{Enclosing}
use Rattle.node_rules.specs.Parts.{inner}
use Rattle.node_rules.specs.Enclosing.{IsEnclosing, env_of}
use Rattle.node_rules.specs.Work.{at_depth}
use Rattle.adsafe_rules.specs.Rows.{Found}

-- in what lies on the stack, where the nodes of env are open
pub record Left (f : Forest) (env : List Spot) (ws : List Work) (rule place : ℕ) : Type 0 where
  pub work : Work
  pub is_in : In work ws
  pub inside : Found (take work.depth env) (spot_at f work.part) rule place

-- the depths do not fall towards the top of the stack
abbrev pub Rises : List Work → Type 0
Rises [] = Unit {0}
Rises (w ∷ ws) = ((v : Work) → In v ws → w.depth ≤ v.depth) × Rises ws

-- all are in the tree
abbrev pub AreIn : Forest → List Part → Type 0
AreIn f [] = Unit {0}
AreIn f (p ∷ ps) = IsIn f p × AreIn f ps

-- what holds of the stack and the open nodes
pub record IsGoing (f : Forest) (e : Enclosing) (ws : List Work) : Type 0 where
  pub parts : (w : Work) → In w ws → IsIn f w.part
  pub rises : Rises ws
  pub deep : (w : Work) → In w ws → w.depth ≤ length e.stack.items
  pub enclosing : IsEnclosing f e

abbrev pub tree_of : Forest → Work → Spot
tree_of f w = spot_at f w.part

-- the number of nodes on a stack
abbrev pub load : Forest → List Work → ℕ
load f ws = spots_size (map (tree_of f) ws)

-- the stack has these trees more, at a depth
pub record Pushes (f : Forest) (d : ℕ) (spots : List Spot) (before after : List Work) : Type 0 where
  pub parts : List Part
  pub same : spots ≡ map (spot_at f) parts
  pub are_in : AreIn f parts
  pub pushed : after ≡ before ++ map (at_depth d) parts

-- a stack, and what is open, after one more step
pub record Opens (f : Forest) (d : ℕ) (n : Spot) (old new : Enclosing) (before after : List Work) : Type 0 where
  pub pushes : Pushes f (suc d) (inner n) before after
  pub same : take d (env_of f new.stack.items) ≡ env_of f old.stack.items
  pub around : (p : Spot) → In p (inner n) → take (suc d) (env_of f new.stack.items) ≡ env_of f old.stack.items ++ n ∷ []
  pub deep : (p : Spot) → In p (inner n) → suc d ≤ length new.stack.items
  pub longer : length old.stack.items ≤ length new.stack.items
  pub enclosing : IsEnclosing f new
