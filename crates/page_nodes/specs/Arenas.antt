-- What an arena has.
use Rattle.std.specs.Prelude.{ℕ, List}
use Rattle.page_nodes.specs.declared.arena.Arena.{Arena}
use Rattle.page_nodes.specs.Entries.{Entry, entries}
use Rattle.page_nodes.specs.Room.{room_at}

-- its nodes, in the order of their numbers
abbrev pub nodes_in : Arena → List Entry
nodes_in a = entries a.rows.items

-- for how many more children a node has room
abbrev pub room_of : Arena → ℕ → ℕ
room_of a t = room_at a.rows.items t
