-- Bytes that were appended.
use Rattle.std.specs.Prelude.{◌≡◌, ℕ, List, ◌++◌}

-- new is old and a front of the whole
pub record AppendsFront (old new whole : List ℕ) : Type 0 where
  pub taken : List ℕ
  pub rest : List ℕ
  pub new_is : new ≡ old ++ taken
  pub whole_is : whole ≡ taken ++ rest
