-- What stays of bytes to which a call appends.
use Rattle.std.specs.Prelude.{◌≡◌, ℕ, List, ◌++◌}

-- the old bytes stand first in the new ones
pub record Grows (old new : List ℕ) : Type 0 where
  pub made : List ℕ
  pub appended : new ≡ old ++ made
