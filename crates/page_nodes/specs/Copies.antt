-- Nodes as plain trees: with their ids, or as copies, which have none.
use Rattle.std.specs.Prelude.{ℕ, Bool, not, ◌||◌, codes, if◌then◌else◌}
use Rattle.std.specs.Str.{bytes_eq}
use Rattle.plain_tree.specs.Trees.{Attribute, Label, Trees, PlainTrees, unmarked}
use Rattle.tree_ops.specs.Labels.{copied_label}
use Rattle.tree_ops.specs.Trees.{copied}

-- an `id` is taken only where ids are kept
abbrev pub is_taken : Bool → Attribute → Bool
is_taken ids a = ids || not (bytes_eq (a.0) (codes "id"))

-- what a node is, or what its copy is
abbrev pub taken_label : Bool → Label → Label
taken_label ids l = if ids then l else copied_label l

-- numbered trees, or their copies, without their numbers
abbrev pub taken : Bool → Trees ℕ → PlainTrees
taken ids ts = unmarked (if ids then ts else copied ts)
