-- What a page has, and when a call is refused.
use Rattle.std.specs.Prelude.{◌≡◌, ℕ, ◌+◌, ◌<◌, ◌≤◌, List, length, Option, Some, None, true, false, not, ◌&&◌, ◌==◌, if◌then◌else◌, ◌⊎◌, ◌≢◌, slice_index}
use Rattle.code_units.specs.declared.owner.Owner.{Owner}
use Rattle.code_units.specs.declared.owner.Owner.TheVariants as owner
use Rattle.plain_tree.specs.Trees.{PlainTrees, unmarked, height, size}
use Rattle.page_tree.specs.declared.fault.PageFault.{PageFault}
use Rattle.page_tree.specs.declared.fault.PageFault.TheVariants as fault
use Rattle.page_tree.specs.declared.page.Page.{Page}
use Rattle.tree_ops.specs.Labels.{is_leaf}
use Rattle.tree_ops.specs.Trees.{has, copied}
use Rattle.page_nodes.specs.Trees.{level, pruned}
use Rattle.page_nodes.specs.Owners.{is_owner, root_in, same_owner}
use Rattle.page_nodes.specs.Entries.{Entry, at, body, listed, tree, limit, IsSound}
use Rattle.page_nodes.specs.Moves.{KeepsNodes, IsDepth, put_all, parents_after, Puts, Detached}
use Rattle.page_tree.specs.Counts.{count_of, most_of}
use Rattle.page_nodes.specs.Arenas.{nodes_in}

-- the nodes of a page, in the order of their numbers, which is that of their birth
abbrev pub nodes : Page → List Entry
nodes p = nodes_in p.arena

-- the root of an owner
abbrev pub root : Page → Owner → Option ℕ
root p o = root_in p.roots o

-- a root is a node of its owner, and nothing but `body` is above it
pub record IsRoot (k : List Entry) (o : Owner) (r : ℕ) : Type 0 where
  pub is_in : r < length k
  pub own : (at k r).owner ≡ o
  pub high : (p : ℕ) → (at k r).parent ≡ Some p → p ≡ body

-- when a node may not be put under another: it is that node or above it, has another owner, or is a root or `body`
abbrev pub IsNotInside : List Entry → (Owner → Option ℕ) → ℕ → ℕ → Type 0
IsNotInside k root t n = (has t (tree k n) ≡ true) ⊎ ((at k n).owner ≢ (at k t).owner) ⊎ (root (at k n).owner ≡ Some n)

-- some node would have over 200 nodes above it
abbrev pub IsTooDeep : List Entry → ℕ → ℕ → Type 0
IsTooDeep k t n = (x : ℕ) × (x ≢ body) × (limit < level t (tree k x) + height (tree k n))

-- a node that is not the target or above it, has its owner and is neither a root nor `body`
pub record IsInside (k : List Entry) (root : Owner → Option ℕ) (t n : ℕ) : Type 0 where
  pub apart : has t (tree k n) ≡ false
  pub owner : (at k n).owner ≡ (at k t).owner
  pub no_root : root (at k n).owner ≢ Some n

-- a node has an owner and is not its root
abbrev pub IsOwn : List Entry → (Owner → Option ℕ) → Owner → ℕ → Type 0
IsOwn k root o n = ((at k n).owner ≡ o) × (root (at k n).owner ≢ Some n)

-- a node has another owner, or is its owner's root
abbrev pub IsNotOwn : List Entry → (Owner → Option ℕ) → Owner → ℕ → Type 0
IsNotOwn k root o n = ((at k n).owner ≢ o) ⊎ (root (at k n).owner ≡ Some n)

-- no node would have over 200 nodes above it
abbrev pub IsLow : List Entry → ℕ → ℕ → Type 0
IsLow k t n = (x : ℕ) → x ≢ body → level t (tree k x) + height (tree k n) ≤ limit

-- nodes that may be put under a target
pub record MayPutAll (k : List Entry) (root : Owner → Option ℕ) (t : ℕ) (ns : List ℕ) : Type 0 where
  pub open_target : is_leaf (at k t).label ≡ false
  pub inside : (i : ℕ) → i < length ns → IsInside k root t (slice_index ns i)
  pub low : (i : ℕ) → i < length ns → IsLow k t (slice_index ns i)

-- some node of a list
abbrev pub SomeNode : List ℕ → (ℕ → Type 0) → Type 0
SomeNode ns P = (i : ℕ) × (i < length ns) × P (slice_index ns i)

-- the target takes no children, or one of the nodes may not be put under it
abbrev pub AreNotInside : List Entry → (Owner → Option ℕ) → ℕ → List ℕ → Type 0
AreNotInside k root t ns = (is_leaf (at k t).label ≡ true) ⊎ SomeNode ns (IsNotInside k root t)

-- not all of these nodes may be put under a target
abbrev pub MayNotPutAll : List Entry → (Owner → Option ℕ) → List ℕ → ℕ → Type 0
MayNotPutAll k root ns t = AreNotInside k root t ns ⊎ SomeNode ns (IsTooDeep k t)

-- a target takes children, and a tree so high becomes not too deep under it
abbrev pub IsOpen : List Entry → ℕ → ℕ → Type 0
IsOpen k t h = (is_leaf (at k t).label ≡ false) × ((d : ℕ) × IsDepth k t d × (d + h ≤ limit))

-- a target takes no children, or a tree so high becomes too deep under it
abbrev pub IsNotOpen : List Entry → ℕ → ℕ → Type 0
IsNotOpen k t h = (is_leaf (at k t).label ≡ true) ⊎ ((d : ℕ) × IsDepth k t d × (limit < d + h))

-- when nodes may not be put under a target
abbrev pub RefusesAll : List Entry → (Owner → Option ℕ) → ℕ → List ℕ → PageFault → Type 0
RefusesAll k root t ns fault.NotInside = AreNotInside k root t ns
RefusesAll k root t ns fault.TooDeep = (¬ AreNotInside k root t ns) × SomeNode ns (IsTooDeep k t)
RefusesAll k root t ns fault.Memory = ⊥
RefusesAll k root t ns (fault.Nodes kept) = ⊥

-- When nodes are not put under a target. Memory may be wanted where nothing else is wrong.
abbrev pub RefusesPut : List Entry → (Owner → Option ℕ) → ℕ → List ℕ → PageFault → Type 0
RefusesPut k root t ns fault.Memory = MayPutAll k root t ns
RefusesPut k root t ns f = RefusesAll k root t ns f

-- A node that may be replaced: it has a parent, is no root and none of the nodes, which may be put under its parent.
pub record MayReplace (k : List Entry) (root : Owner → Option ℕ) (t n : ℕ) (ns : List ℕ) : Type 0 where
  pub parent : (at k n).parent ≡ Some t
  pub no_root : root (at k n).owner ≢ Some n
  pub away : listed n ns ≡ false
  pub may : MayPutAll k root t ns

-- when a node is not replaced by these
abbrev pub IsNotReplaced : List Entry → (Owner → Option ℕ) → ℕ → List ℕ → Type 0
IsNotReplaced k root n ns = (root (at k n).owner ≡ Some n) ⊎ ((at k n).parent ≡ None) ⊎ (listed n ns ≡ true) ⊎ ((t : ℕ) × ((at k n).parent ≡ Some t) × AreNotInside k root t ns)

-- found before memory is wanted
abbrev pub RefusesReplaceFirst : List Entry → (Owner → Option ℕ) → ℕ → List ℕ → PageFault → Type 0
RefusesReplaceFirst k root n ns fault.NotInside = IsNotReplaced k root n ns
RefusesReplaceFirst k root n ns fault.TooDeep = (¬ IsNotReplaced k root n ns) × ((t : ℕ) × ((at k n).parent ≡ Some t) × SomeNode ns (IsTooDeep k t))
RefusesReplaceFirst k root n ns fault.Memory = ⊥
RefusesReplaceFirst k root n ns (fault.Nodes kept) = ⊥

-- When a node is not replaced. Memory may be wanted where nothing else is wrong.
abbrev pub RefusesReplace : List Entry → (Owner → Option ℕ) → ℕ → List ℕ → PageFault → Type 0
RefusesReplace k root n ns fault.Memory = (t : ℕ) × MayReplace k root t n ns
RefusesReplace k root n ns f = RefusesReplaceFirst k root n ns f

-- Nodes are put before a node, in order, and then it is taken from its parent.
pub record IsReplaced (old new : List Entry) (t n : ℕ) (ns : List ℕ) : Type 0 where
  pub trees : (x : ℕ) → tree new x ≡ pruned n (put_all t (Some n) ns (tree old) x)
  pub parents : (x : ℕ) → (at new x).parent ≡ (if x == n then None else parents_after t ns (λ y. (at old y).parent) x)
  pub kept : KeepsNodes old new

-- the whole replacement, under the parent of the node
abbrev pub Replaces : List Entry → List Entry → (Owner → Option ℕ) → ℕ → List ℕ → Type 0
Replaces old new root n ns = (t : ℕ) × MayReplace old root t n ns × IsReplaced old new t n ns

-- The same as steps: the nodes are put before the node under its parent, and then it is taken from there. The page in between keeps what every page keeps.
pub record ReplaceSteps (old new : List Entry) (n : ℕ) (ns : List ℕ) : Type 0 where
  pub parent : ℕ
  pub is : (at old n).parent ≡ Some parent
  pub page : List Entry
  pub put : Puts old parent (Some n) ns page
  pub sound : IsSound page
  pub taken : Detached page new n

-- the host, or a widget without a root
abbrev pub HasNone : List (Option ℕ) → Owner → Type 0
HasNone roots owner.Host = Unit {0}
HasNone roots (owner.Widget w) = root_in roots (owner.Widget w) ≡ None

-- the host, or a widget of which the page has no root
abbrev pub HasNoRoot : Page → Owner → Type 0
HasNoRoot p o = HasNone p.roots o

-- a node may be its owner's root: a widget has no other
abbrev pub MayBeRoot : Page → ℕ → Type 0
MayBeRoot p n = (r : ℕ) → same_owner (at (nodes p) n).owner owner.Host ≡ false → root p (at (nodes p) n).owner ≡ Some r → r ≡ n

-- the root of each owner, where a widget's node becomes its owner's root
abbrev pub root_after : ℕ → Owner → (Owner → Option ℕ) → Owner → Option ℕ
root_after n o root p = if same_owner p o && not (same_owner o owner.Host) then Some n else root p

-- none of these nodes is its owner's root
abbrev pub AreNoRoots : Page → List ℕ → Type 0
AreNoRoots p ns = (i : ℕ) → i < length ns → root p (at (nodes p) (slice_index ns i)).owner ≢ Some (slice_index ns i)

-- the roots stay
abbrev pub SameRoots : Page → Page → Type 0
SameRoots old new = (o : Owner) → is_owner o ≡ true → root new o ≡ root old o

-- a node becomes its owner's root, where the owner is a widget
abbrev pub BecomesRoot : Page → Page → ℕ → Type 0
BecomesRoot old new n = (o : Owner) → is_owner o ≡ true → root new o ≡ root_after n (at (nodes old) n).owner (root old) o

-- a plain tree that may be added: not too high, and not too many nodes
pub record MayAdd (k : List Entry) (o : Owner) (p : PlainTrees) : Type 0 where
  pub low : height p ≤ limit
  pub room : count_of o k + size p ≤ most_of o

-- the nodes are too many
abbrev pub IsTooMany : List Entry → Owner → PlainTrees → ℕ → Type 0
IsTooMany k o p kept = (kept ≡ count_of o k) × (most_of o < kept + size p)

-- When a tree is not added. Memory may be wanted where nothing else is wrong.
abbrev pub RefusesAdd : List Entry → Owner → PlainTrees → PageFault → Type 0
RefusesAdd k o p fault.TooDeep = limit < height p
RefusesAdd k o p (fault.Nodes kept) = (height p ≤ limit) × IsTooMany k o p kept
RefusesAdd k o p fault.Memory = MayAdd k o p
RefusesAdd k o p fault.NotInside = ⊥

-- the copy of a node, without ids and numbers
abbrev pub copy_of : List Entry → ℕ → PlainTrees
copy_of k n = unmarked (copied (tree k n))

-- A copy is never too deep. Memory may be wanted before its nodes are counted.
abbrev pub RefusesCopy : List Entry → Owner → PlainTrees → PageFault → Type 0
RefusesCopy k o p (fault.Nodes kept) = IsTooMany k o p kept
RefusesCopy k o p fault.Memory = Unit {0}
RefusesCopy k o p fault.TooDeep = ⊥
RefusesCopy k o p fault.NotInside = ⊥

-- the host makes no more nodes than its html texts may have
abbrev pub HasHostRoom : List Entry → Owner → PlainTrees → Type 0
HasHostRoom k o p = same_owner o owner.Host ≡ true → count_of owner.Host k + size p ≤ 300000
