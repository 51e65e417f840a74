-- What it is that nodes are moved.
use Rattle.std.specs.Prelude.{◌≡◌, ℕ, ◌+◌, ◌<◌, ◌≤◌, max, List, [], ◌∷◌, ◌++◌, length, Option, Some, None, true, false, ◌==◌, ◌||◌, if◌then◌else◌, ◌⊎◌, ◌≢◌, slice_index}
use Rattle.plain_tree.specs.Trees.{Label, Trees, height}
use Rattle.tree_ops.specs.Labels.{is_text}
use Rattle.tree_ops.specs.Trees.{has, grafted, relabelled}
use Rattle.page_nodes.specs.Trees.{level, pruned, all_pruned}
use Rattle.page_nodes.specs.Owners.{same_owner}
use Rattle.page_nodes.specs.Entries.{Entry, at, body, listed, tree, limit, IsSound}

-- labels and owners stay
pub record KeepsNodes (old new : List Entry) : Type 0 where
  pub made : length new ≡ length old
  pub labels : (x : ℕ) → (at new x).label ≡ (at old x).label
  pub owners : (x : ℕ) → (at new x).owner ≡ (at old x).owner

-- A node is taken from its parent: every tree is without it below its top.
pub record Detached (old new : List Entry) (n : ℕ) : Type 0 where
  pub trees : (x : ℕ) → tree new x ≡ pruned n (tree old x)
  pub parents : (x : ℕ) → (at new x).parent ≡ (if x == n then None else (at old x).parent)
  pub kept : KeepsNodes old new

-- Nodes are taken from their parents: every tree is without them below its top.
pub record AreDetached (old new : List Entry) (ns : List ℕ) : Type 0 where
  pub trees : (x : ℕ) → tree new x ≡ all_pruned ns (tree old x)
  pub parents : (x : ℕ) → (at new x).parent ≡ (if listed x ns then None else (at old x).parent)
  pub kept : KeepsNodes old new

-- the greatest height of several nodes' trees
abbrev pub highest : List Entry → List ℕ → ℕ
highest k [] = 0
highest k (n ∷ ns) = max (height (tree k n)) (highest k ns)

-- the tree of each node, after one is put among the children of another
abbrev pub put_under : ℕ → Option ℕ → ℕ → (ℕ → Trees ℕ) → ℕ → Trees ℕ
put_under t s n f x = grafted t s (pruned n (f n)) (pruned n (f x))

-- the same of several, one after the other
abbrev pub put_all : ℕ → Option ℕ → List ℕ → (ℕ → Trees ℕ) → ℕ → Trees ℕ
put_all t s [] f = f
put_all t s (n ∷ ns) f = put_all t s ns (put_under t s n f)

-- the parent of each node after several were put under one
abbrev pub parents_after : ℕ → List ℕ → (ℕ → Option ℕ) → ℕ → Option ℕ
parents_after t [] u = u
parents_after t (n ∷ ns) u = parents_after t ns (λ x. if x == n then Some t else u x)

-- Nodes are put under a target in order, each taken from where it was: before a child, or behind the last.
pub record ArePut (old new : List Entry) (t : ℕ) (s : Option ℕ) (ns : List ℕ) : Type 0 where
  pub trees : (x : ℕ) → tree new x ≡ put_all t s ns (tree old) x
  pub parents : (x : ℕ) → (at new x).parent ≡ parents_after t ns (λ y. (at old y).parent) x
  pub kept : KeepsNodes old new

-- How many nodes stand above a node and with it, `body` not counted. It is so deep in its own tree, in those above it and in no other.
pub record IsDepth (k : List Entry) (n depth : ℕ) : Type 0 where
  pub most : (x : ℕ) → x ≢ body → level n (tree k x) ≤ depth
  pub reached : (n ≡ body × depth ≡ 0) ⊎ ((x : ℕ) × (x ≢ body) × (level n (tree k x) ≡ depth))

-- The node has no parent and is not `body`; the target takes children and is not in the node's tree; both have one owner, but under `body`; nothing becomes too deep.
pub record MayLink (k : List Entry) (t n : ℕ) : Type 0 where
  pub other : n ≢ body
  pub top : (at k n).parent ≡ None
  pub apart : has t (tree k n) ≡ false
  pub low : (x : ℕ) → x ≢ body → level t (tree k x) + height (tree k n) ≤ limit
  pub owner : (same_owner (at k n).owner (at k t).owner || (t == body)) ≡ true
  pub takes : is_text (at k t).label ≡ false

-- A node without a parent is put among the children of a target: before a child, or behind the last.
pub record IsLinked (old new : List Entry) (t : ℕ) (s : Option ℕ) (n : ℕ) : Type 0 where
  pub trees : (x : ℕ) → tree new x ≡ grafted t s (tree old n) (tree old x)
  pub parents : (x : ℕ) → (at new x).parent ≡ (if x == n then Some t else (at old x).parent)
  pub kept : KeepsNodes old new
  pub others : (x : ℕ) → x ≢ t → x ≢ n → at new x ≡ at old x

-- The target takes children and is not in the node's tree, both have one owner, the node is not `body`, and nothing becomes too deep.
pub record MayMove (k : List Entry) (t n : ℕ) : Type 0 where
  pub other : n ≢ body
  pub apart : has t (tree k n) ≡ false
  pub owner : (at k n).owner ≡ (at k t).owner
  pub low : (x : ℕ) → x ≢ body → level t (tree k x) + height (tree k n) ≤ limit
  pub takes : is_text (at k t).label ≡ false

-- each node of a list may be moved
abbrev pub MayMoveAll : List Entry → ℕ → List ℕ → Type 0
MayMoveAll k t ns = (i : ℕ) → i < length ns → MayMove k t (slice_index ns i)

-- one node is put under a target
pub record IsPut (old new : List Entry) (t : ℕ) (s : Option ℕ) (n : ℕ) : Type 0 where
  pub trees : (x : ℕ) → tree new x ≡ put_under t s n (tree old) x
  pub parents : (x : ℕ) → (at new x).parent ≡ (if x == n then Some t else (at old x).parent)
  pub kept : KeepsNodes old new

-- the numbers are nodes
abbrev pub AreNodes : List Entry → List ℕ → Type 0
AreNodes k ns = (i : ℕ) → i < length ns → slice_index ns i < length k

-- the trees of other owners stay
abbrev pub OthersStay : List Entry → List Entry → ℕ → Type 0
OthersStay old new t = (x : ℕ) → x ≢ body → (at old x).owner ≢ (at old t).owner → tree new x ≡ tree old x

-- the trees stay of the owners that have none of these nodes
abbrev pub OthersOfAllStay : List Entry → List Entry → List ℕ → Type 0
OthersOfAllStay old new ns =
    (x : ℕ) → x ≢ body → ((n : ℕ) → listed n ns ≡ true → (at old x).owner ≢ (at old n).owner) → tree new x ≡ tree old x

-- A tree stands in the place of another under `body`.
pub record IsSwapped (old new : List Entry) (n m : ℕ) : Type 0 where
  pub trees : (x : ℕ) → tree new x ≡ pruned n (grafted body (Some n) (tree old m) (tree old x))
  pub parents : (x : ℕ) → (at new x).parent ≡ (if x == n then None else (if x == m then Some body else (at old x).parent))
  pub kept : KeepsNodes old new

-- a node has another label
pub record IsRelabelled (old new : List Entry) (n : ℕ) (l : Label) : Type 0 where
  pub trees : (x : ℕ) → tree new x ≡ relabelled n l (tree old x)
  pub labels : (x : ℕ) → (at new x).label ≡ (if x == n then l else (at old x).label)
  pub parents : (x : ℕ) → (at new x).parent ≡ (at old x).parent
  pub children : (x : ℕ) → (at new x).children ≡ (at old x).children
  pub owners : (x : ℕ) → (at new x).owner ≡ (at old x).owner
  pub made : length new ≡ length old

-- Nodes were put under a target one after the other. Each page on the way keeps what every page keeps, and the node may be moved there.
pub data Puts (k : List Entry) (t : ℕ) (s : Option ℕ) : List ℕ → List Entry → Type 0 where
  none_put : Puts k t s [] k
  put_last : {ns : List ℕ} {m new : List Entry} {n : ℕ} → Puts k t s ns m → IsSound m → MayMove m t n → IsPut m new t s n → Puts k t s (ns ++ n ∷ []) new

-- Nodes were taken from their parents one after the other. Each page on the way keeps what every page keeps.
pub data Detaches (k : List Entry) : List ℕ → List Entry → Type 0 where
  none_detached : Detaches k [] k
  detach_last : {ns : List ℕ} {m new : List Entry} {n : ℕ} → Detaches k ns m → IsSound m → Detached m new n → Detaches k (ns ++ n ∷ []) new
