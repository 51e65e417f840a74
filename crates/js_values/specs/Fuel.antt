-- Fuel.
use Rattle.std.specs.Prelude.{ℕ}

-- what is left of a grant, and all that was spent
pub record Fuel : Type 0 where
  pub left : ℕ
  pub spent : ℕ
