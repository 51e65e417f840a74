-- What the clauses of a sink cite.
use Rattle.std.specs.Prelude.{ℕ, List, ◌++◌, Option, Some, None}

-- what is held after these bytes more, told or not
abbrev pub with_bytes : Option (List ℕ) → List ℕ → Option (List ℕ)
with_bytes None bytes = None
with_bytes (Some held) bytes = Some (held ++ bytes)
