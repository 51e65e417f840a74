-- The trees of an owner, and its nodes in document order.
use Rattle.std.specs.Prelude.{ℕ, List, ◌++◌, length, Bool, not, ◌&&◌, if◌then◌else◌, Option, None, is_some, option_to_list}
use Rattle.std.specs.List.{filter, flat_map, range_with_len}
use Rattle.code_units.specs.declared.owner.Owner.{Owner}
use Rattle.tree_ops.specs.Trees.{is_number, numbers}
use Rattle.page_nodes.specs.Entries.{Entry, at, tree}
use Rattle.page_nodes.specs.Owners.{same_owner}

-- a node with what is below it
abbrev pub within : List Entry → ℕ → List ℕ
within k n = numbers (tree k n)

-- what is below a node
abbrev pub below : List Entry → ℕ → List ℕ
below k n = flat_map (within k) (at k n).children

-- the parent under which a node has siblings; the root has none
abbrev pub parent_within : List Entry → Option ℕ → ℕ → Option ℕ
parent_within k r n = if is_number n r then None else (at k n).parent

-- the top of a detached tree of the owner
abbrev pub is_loose : List Entry → Option ℕ → Owner → ℕ → Bool
is_loose k r o n = same_owner (at k n).owner o && not (is_some (at k n).parent) && not (is_number n r)

-- the tops of the owner's trees: the root, and then the others by their age
abbrev pub tops : List Entry → Option ℕ → Owner → List ℕ
tops k r o = option_to_list r ++ filter (is_loose k r o) (range_with_len 0 (length k))

-- the owner's nodes in document order
abbrev pub document : List Entry → Option ℕ → Owner → List ℕ
document k r o = flat_map (within k) (tops k r o)
