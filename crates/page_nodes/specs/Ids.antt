-- Nodes by their `id`.
use Rattle.std.specs.Prelude.{ℕ, ◌+◌, List, [], ◌∷◌, length, Option, Some, None, Bool, true, ◌&&◌, ◌==◌, nat_le, codes}
use Rattle.std.specs.List.{filter, range_with_len}
use Rattle.std.specs.Option.{option_eq}
use Rattle.std.specs.Str.{bytes_eq}
use Rattle.std.specs.HashMap.{HashMap, get_by}
use Rattle.std.specs.declared.vec.Vec.{Vec}
use Rattle.std.specs.declared.alloc.Global.{Global}
use Rattle.code_units.specs.declared.owner.Owner.{Owner}
use Rattle.tree_ops.specs.Labels.{attribute_of}
use Rattle.page_nodes.specs.Entries.{Entry, at}
use Rattle.page_nodes.specs.Owners.{same_owner}
use Rattle.page_nodes.specs.Room.{room_in}

-- whether a node is an element of an owner, whose first attribute named `id` has a value
abbrev pub has_id : Owner → List ℕ → Entry → Bool
has_id o value e = same_owner e.owner o && option_eq bytes_eq (attribute_of (codes "id") e.label) (Some value)

-- the numbers of an owner's nodes with an id, in order, which is that of their birth
abbrev pub with_id : List Entry → Owner → List ℕ → List ℕ
with_id k o value = filter (λ n. has_id o value (at k n)) (range_with_len 0 (length k))

-- whether numbers rise, from one on
abbrev pub rises : ℕ → List ℕ → Bool
rises a [] = true
rises a (m ∷ ms) = nat_le a m && rises (m + 1) ms

-- the numbers of a list that may be there
abbrev pub numbers_in : Option (Vec ℕ Global) → List ℕ
numbers_in None = []
numbers_in (Some list) = list.items

-- for how many more numbers it has room
abbrev pub room_left : Option (Vec ℕ Global) → ℕ
room_left None = 0
room_left (Some list) = room_in list

module _ {S : Type 0} where
  -- the numbers under an id
  abbrev pub numbers_of : HashMap (List ℕ) (Vec ℕ Global) S → List ℕ → List ℕ
  numbers_of lists value = numbers_in (get_by (bytes_eq value) lists)

  -- for how many more there is room
  abbrev pub room_under : HashMap (List ℕ) (Vec ℕ Global) S → List ℕ → ℕ
  room_under lists value = room_left (get_by (bytes_eq value) lists)

  -- the same in a table of lists
  abbrev pub numbers_at : Option (HashMap (List ℕ) (Vec ℕ Global) S) → List ℕ → List ℕ
  numbers_at None value = []
  numbers_at (Some lists) value = numbers_of lists value

  -- the room of a list in a table
  abbrev pub room_at_id : Option (HashMap (List ℕ) (Vec ℕ Global) S) → List ℕ → ℕ
  room_at_id None value = 0
  room_at_id (Some lists) value = room_under lists value

-- whether a place and an id are these
abbrev pub is_under : ℕ → Option (List ℕ) → ℕ → List ℕ → Bool
is_under s id t value = (s == t) && option_eq bytes_eq id (Some value)
