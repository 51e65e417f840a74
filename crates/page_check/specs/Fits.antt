-- Which manifests give pages that a host may load.
use Rattle.std.specs.Prelude.{◌≤◌, ℕ, List, All, IsTrue, length, map, sum_by}
use Rattle.plain_tree.specs.Trees.{Trees, End, height}
use Rattle.plain_tree.specs.Plains.{Places}
use Rattle.manifest_shape.specs.Slots.{are_slots, most_fuel}
use Rattle.manifest_reader.specs.declared.entry.Manifest.{Manifest}
use Rattle.manifest_reader.specs.Page.{Part, Markup, Widget, part_of, nodes_of, node_limit}
use Rattle.page_plan.specs.Loadable.{most_high, AreLoadableChannels}
use Rattle.page_check.specs.Runs.{slots_named}

-- the markup of a part
abbrev pub markup_of : Part → Trees Places
markup_of (Markup trees) = trees
markup_of (Widget name file fuel) = End

-- a page of these parts, with these channels
pub record AreFit (parts : List Part) (pairs : List (ℕ × ℕ)) : Type 0 where
  -- at most 16 slots, no two of one name
  pub slots : IsTrue (are_slots (map (λ n. n.0) (slots_named parts)))
  -- a turn of each has from 1 to 1,000,000 of fuel
  pub fuel : All (λ n. (1 ≤ n.1) × (n.1 ≤ most_fuel)) (slots_named parts)
  -- no node of the markup has more than 200 above it
  pub low : All (λ part. height (markup_of part) ≤ most_high) parts
  -- the markup has at most 262,144 nodes
  pub few : sum_by nodes_of parts ≤ node_limit
  -- at most 64 channels, no two the same, each between two of the slots
  pub channels : AreLoadableChannels (length (slots_named parts)) pairs

-- a manifest whose page a host may load: every manifest that is read is one
abbrev pub IsFit : Manifest → Type 0
IsFit manifest = AreFit (map part_of manifest.entries.items) manifest.channels.items
