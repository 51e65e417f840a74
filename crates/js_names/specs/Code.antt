-- What callers see of a tree with the names of its functions.
use Rattle.std.specs.Prelude.{ℕ, List, length, map}
use Rattle.js_tree.specs.declared.tree.Tree.{Tree}
use Rattle.js_tree.specs.Forest.{Forest}
use Rattle.js_tree.specs.Trees.{trees}
use Rattle.js_names.specs.declared.code.Code.{Code}

-- the tree
abbrev pub tree_in : Code → Tree
tree_in c = c.shared.value.tree

-- the plain trees of its nodes
abbrev pub code_trees : Code → Forest
code_trees c = trees (tree_in c)

-- the functions below this number have names
abbrev pub known : Code → ℕ
known c = length c.shared.value.funs.items

-- those of several codes
abbrev pub trees_of : List Code → List Forest
trees_of codes = map code_trees codes
