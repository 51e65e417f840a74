-- What a node is. The words on labels that others cite stand in `tree_ops`.
use Rattle.std.specs.Prelude.{ℕ, List, [], Bool, ◌≡◌, slice_index_or}
use Rattle.std.specs.Str.{bytes_eq}
use Rattle.plain_tree.specs.Trees.{Attribute}

-- whether the attribute at a place has a name
abbrev pub IsNamed : List ℕ → List Attribute → ℕ → Bool → Type 0
IsNamed name attributes i b = bytes_eq (slice_index_or attributes i ([], [])).0 name ≡ b
