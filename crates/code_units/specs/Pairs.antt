-- Names with their values, in order.
use Rattle.std.specs.Prelude.{ℕ, List, Option}
use Rattle.std.specs.Str.{bytes_eq}
use Rattle.std.specs.Map as map

-- the value of a name: that of the first pair with it
abbrev pub lookup : {V : Type 0} → List (List ℕ × V) → List ℕ → Option V
lookup pairs name = map.lookup (bytes_eq name) pairs
