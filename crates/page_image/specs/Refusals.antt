-- When a widget gets no new nodes: it would have more than 16384 (`max_nodes` of the meaning), or a tree would be higher than
-- 201, a node with 200 above it (`max_node_depth`). Memory may be wanted at any time.
use Rattle.std.specs.Prelude.{◌≡◌, ℕ, ◌+◌, ◌<◌, ◌≤◌}
use Rattle.plain_tree.specs.Trees.{PlainTrees, height, size}
use Rattle.page_tree.specs.declared.fault.PageFault.{PageFault}
use Rattle.page_tree.specs.declared.fault.PageFault.TheVariants as fault

-- so many nodes of a widget that has so many pass its limit
abbrev pub RefusesCopy : ℕ → ℕ → PageFault → Type 0
RefusesCopy made more (fault.Nodes kept) = (kept ≡ made) × (16384 < made + more)
RefusesCopy made more fault.Memory = Unit {0}
RefusesCopy made more fault.TooDeep = ⊥
RefusesCopy made more fault.NotInside = ⊥

-- So many copies pass the limit of a widget that has so many nodes; those that were made before are kept.
abbrev pub RefusesCopies : ℕ → ℕ → PageFault → Type 0
RefusesCopies made more (fault.Nodes kept) = (made ≤ kept) × (16384 < made + more)
RefusesCopies made more fault.Memory = Unit {0}
RefusesCopies made more fault.TooDeep = ⊥
RefusesCopies made more fault.NotInside = ⊥

-- a tree is too deep, or its nodes pass the limit
abbrev pub RefusesTree : ℕ → PlainTrees → PageFault → Type 0
RefusesTree made p fault.TooDeep = 201 < height p
RefusesTree made p (fault.Nodes kept) = (height p ≤ 201) × (kept ≡ made) × (16384 < made + size p)
RefusesTree made p fault.Memory = Unit {0}
RefusesTree made p fault.NotInside = ⊥
