-- The page of one widget: plain trees whose nodes have numbers, the root's first, then detached ones by age of their
-- tops.
use Rattle.std.specs.Prelude.{ℕ, zero, suc, ◌+◌, List, map, nat_eq, nat_lt, if◌then◌else◌, slice_get, Option, Some, None}
use Rattle.std.specs.List.{fold, list_any}
use Rattle.std.specs.Option.{option_or}
use Rattle.plain_tree.specs.Trees as plain
use Rattle.plain_tree.specs.Trees.{End, Node, Label, joined}
pub use Rattle.tree_ops.specs.Trees.{tops, has, subtree, without, relabelled, grafted, numbered, copied}

-- trees whose nodes have numbers
abbrev pub Trees : Type 0
Trees = plain.Trees ℕ

-- ## What is there

-- the label of the first tree
abbrev pub first_label : Trees → Option Label
first_label End = None
first_label (Node n l ks ts) = Some l

-- the label of a node
abbrev pub label_of : ℕ → Trees → Option Label
label_of n ts = first_label (subtree n ts)

-- the children of the first tree
abbrev pub first_children : Trees → Trees
first_children End = End
first_children (Node n l ks ts) = ks

-- the children of a node
abbrev pub children : ℕ → Trees → Trees
children n ts = first_children (subtree n ts)

-- the parent of a node, none for a top
abbrev pub parent : ℕ → Trees → Option ℕ
parent n End = None
parent n (Node m l ks ts) = option_or (if list_any (nat_eq n) (tops ks) then Some m else parent n ks) (parent n ts)

-- the trees of several nodes, in order
abbrev pub subtrees : List ℕ → Trees → Trees
subtrees ns ts = joined (map (λ n. subtree n ts) ns)

-- the tree at a position, text nodes counted
abbrev pub child_at : ℕ → Trees → Trees
child_at n End = End
child_at zero (Node m l ks ts) = Node m l ks End
child_at (suc n) (Node m l ks ts) = child_at n ts

-- the number of the node to which child positions lead from the first tree
abbrev pub node_at : Trees → List ℕ → Option ℕ
node_at ts path = slice_get (tops (fold (λ t i. child_at i (first_children t)) (child_at 0 ts) path)) 0

-- the number of nodes above a node in its tree, in trees below so many; 0 for what is not there
abbrev pub depth_below : ℕ → ℕ → Trees → ℕ
depth_below d n End = 0
depth_below d n (Node m l ks ts) = (if nat_eq m n then d else depth_below (d + 1) n ks) + depth_below d n ts

-- the number of nodes above a node in its tree; 0 for a top
abbrev pub depth_of : ℕ → Trees → ℕ
depth_of n ts = depth_below 0 n ts

-- ## What is changed

-- a tree among detached trees, by the number of its top
abbrev pub among : ℕ → Label → Trees → Trees → Trees
among n l ks End = Node n l ks End
among n l ks (Node m v us ts) = if nat_lt n m then Node n l ks (Node m v us ts) else Node m v us (among n l ks ts)

-- detached trees go behind the root's tree, each by the number of its top
abbrev pub with_detached : Trees → Trees → Trees
with_detached End us = us
with_detached ts End = ts
with_detached (Node n l ks ts) (Node r v us xs) = with_detached ts (Node r v us (among n l ks xs))

-- a node is taken from its parent, and becomes a tree of its own
abbrev pub detached : Trees → ℕ → Trees
detached ts n = with_detached (subtree n ts) (without n ts)

-- a node becomes a child of another: before the child with a number, or the last
abbrev pub moved : ℕ → Option ℕ → Trees → ℕ → Trees
moved parent next ts n = grafted parent next (subtree n ts) (without n ts)
