-- A tree is added.
use Rattle.std.specs.Prelude.{◌≡◌, ℕ, ◌+◌, ◌<◌, ◌≤◌, List, length, None}
use Rattle.code_units.specs.declared.owner.Owner.{Owner}
use Rattle.plain_tree.specs.Trees.{PlainTrees, size}
use Rattle.page_nodes.specs.Entries.{Entry, at, tree}
use Rattle.tree_ops.specs.Trees.{numbered}

-- older nodes stay as they were
pub record Older (old new : List Entry) : Type 0 where
  pub long : length old ≤ length new
  pub same : (x : ℕ) → x < length old → at new x ≡ at old x
  pub trees : (x : ℕ) → x < length old → tree new x ≡ tree old x

-- A new tree of an owner, without a parent: a plain tree with numbers from the next on.
pub record IsAdded (old new : List Entry) (id : ℕ) (o : Owner) (p : PlainTrees) : Type 0 where
  pub number : id ≡ length old
  pub is_in : id < length new
  pub made : length new ≡ length old + size p
  pub here : tree new id ≡ numbered id p
  pub top : (at new id).parent ≡ None
  pub own : (x : ℕ) → length old ≤ x → x < length new → (at new x).owner ≡ o
  pub older : Older old new

-- the trees of older nodes stay
abbrev pub OlderStay : List Entry → List Entry → Type 0
OlderStay old new = (x : ℕ) → x < length old → tree new x ≡ tree old x
