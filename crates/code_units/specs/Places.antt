-- Lines and columns of a byte offset.
use Rattle.std.specs.Prelude.{◌≡◌, ℕ, ◌+◌, ◌<◌, ◌⊎◌, Bool, List, length, take, count_by, nat_eq}
use Rattle.std.specs.List.{after_last}
use Rattle.code_units.specs.declared.place.Place.{Place}

abbrev pub is_line_feed : ℕ → Bool
is_line_feed b = nat_eq b 10

-- 1 plus the line feeds before the offset
unfoldable pub line_of : List ℕ → ℕ → ℕ
line_of bytes offset = 1 + count_by is_line_feed (take offset bytes)

-- 1 plus the bytes since the last line feed before the offset
unfoldable pub column_of : List ℕ → ℕ → ℕ
column_of bytes offset = 1 + length (after_last is_line_feed (take offset bytes))

-- the line and the column of an offset
abbrev pub place_at : List ℕ → ℕ → Place
place_at bytes offset = record { line = line_of bytes offset; column = column_of bytes offset }

-- a place comes before another: on an earlier line, or earlier on the same line
abbrev pub Precedes : Place → Place → Type 0
Precedes p q = (p.line < q.line) ⊎ ((p.line ≡ q.line) × (p.column < q.column))
