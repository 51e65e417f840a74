-- Where the pairs of a table stand. No public clause cites this module.
use Rattle.std.specs.Prelude.{ℕ, ◌+◌, ◌≤◌, length}
use Rattle.indexmap.specs.IndexMap.{spare}
use Rattle.pair_table.specs.Pairs.{Pairs}
use Rattle.pair_table.specs.declared.table.Storage.{Storage}
use Rattle.pair_table.specs.declared.table.Storage.TheVariants.{Few, Many, Rising}

-- the pairs, and the room for more
abbrev pub pairs_in : {V : Type 0} → Storage V → Pairs V
pairs_in (Few few) = few
pairs_in (Rising rising) = rising.value
pairs_in (Many map) = record { entries = map.value.entries; spare = spare map.value }

-- a list has places for so many more pairs; the others have room, or make it
abbrev pub HasPlaces : {V : Type 0} → ℕ → Storage V → Type 0
HasPlaces n (Few few) = length few.entries + n ≤ 32
HasPlaces n (Rising rising) = Unit {0}
HasPlaces n (Many map) = Unit {0}
