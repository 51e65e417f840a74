-- Where the first line ends.
use Rattle.std.specs.Prelude.{ℕ, ◌+◌, Bool, List, length, min, ◌==◌}
use Rattle.std.specs.List.{position_or_len}

abbrev pub is_feed : ℕ → Bool
is_feed b = b == 10

-- behind the first line feed, or at the end
abbrev pub line_end : List ℕ → ℕ
line_end bytes = min (position_or_len is_feed bytes + 1) (length bytes)
