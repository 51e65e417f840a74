-- What a widget's trees say of a node, and where nodes may go: the meaning's tests, on trees.
use Rattle.std.specs.Prelude.{ℕ, ◌+◌, List, [], Bool, false, not, ◌&&◌, nat_eq, nat_le, unwrap_or, option_and_then}
use Rattle.std.specs.List.{list_all}
use Rattle.std.specs.Option.{option_map_or}
use Rattle.plain_tree.specs.Names as names
use Rattle.plain_tree.specs.Trees.{Trees, height}
use Rattle.tree_ops.specs.Labels.{is_text, tag_of}
use Rattle.tree_ops.specs.Trees.{has, subtree}
use Rattle.query_grammar.specs.Finds.{has_number}
use Rattle.widget_meaning.specs.Trees.{label_of, depth_of, parent}

-- a text node
abbrev pub is_text_at : Trees ℕ → ℕ → Bool
is_text_at ts n = option_map_or is_text (label_of n ts) false

-- a void element
abbrev pub is_void_at : Trees ℕ → ℕ → Bool
is_void_at ts n = names.is_void (unwrap_or (option_and_then tag_of (label_of n ts)) [])

-- whether a node may go under a target: it is no root, stands not at or above it, and nothing gets over 200 nodes above it (`max_node_depth` of the meaning)
abbrev pub may_go : Trees ℕ → ℕ → ℕ → Bool
may_go ts t n = not (nat_eq n 0) && not (has t (subtree n ts)) && nat_le (depth_of t ts + height (subtree n ts)) 200

-- whether a target takes all of these nodes
abbrev pub takes : Trees ℕ → List ℕ → ℕ → Bool
takes ts ms t = not (is_text_at ts t) && not (is_void_at ts t) && list_all (may_go ts t) ms

-- whether these nodes may come in the place of a node: it has a parent that takes them, and is none of them
abbrev pub may_come : Trees ℕ → List ℕ → ℕ → Bool
may_come ts ms n = option_map_or (λ p. not (has_number ms n) && takes ts ms p) (parent n ts) false
