-- For how many more children a node has room.
use Rattle.std.specs.Prelude.{ℕ, zero, suc, ◌-◌, List, [], ◌∷◌, vec_len, vec_capacity}
use Rattle.std.specs.declared.vec.Vec.{Vec}
use Rattle.std.specs.declared.alloc.Global.{Global}
use Rattle.page_nodes.specs.declared.rows.Row.{Row}

-- how many more numbers fit into a list without memory
abbrev pub room_in : Vec ℕ Global → ℕ
room_in v = vec_capacity v - vec_len v

-- the room among the children of a node
abbrev pub room_at : List Row → ℕ → ℕ
room_at [] t = 0
room_at (r ∷ rows) zero = room_in r.children
room_at (r ∷ rows) (suc t) = room_at rows t
