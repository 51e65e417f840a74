use Rattle.std.proofs.Common.{◌≡◌, ℕ, List, [], length, slice_get}
use Rattle.page_nodes.specs.Ids.{numbers_at}
use Rattle.page_nodes.proofs.ids.Ids.new.Given as goal

-- so many owners have a list, without numbers
abbrev pub invariant-each : goal.invariant-each
invariant-each l = record { long : length l.owners.items ≡ l.counter; none : (s : ℕ) (value : List ℕ) → numbers_at (slice_get l.owners.items s) value ≡ [] }
