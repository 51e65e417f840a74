-- Borders of texts.
use Rattle.std.specs.Prelude.{◌≡◌, ℕ, ◌+◌, ◌-◌, ◌<◌, ◌≤◌, List, length, get_or}

-- the first n units of x are those of t at a place
abbrev pub Agrees : List ℕ → List ℕ → ℕ → ℕ → Type 0
Agrees x t at n = (j : ℕ) → j < n → get_or x j 0 ≡ get_or t (at + j) 0

-- the border of the first n units of x has b: its first b stand at their end too, and no more of them do, but all n
pub record IsBorder (x : List ℕ) (n b : ℕ) : Type 0 where
  pub shorter : b < n
  pub stands : Agrees x x (n - b) b
  pub longest : (d : ℕ) → 0 < d → d + b < n → Agrees x x d (n - d) → ⊥

-- the borders of the first units of x, from one unit on
abbrev pub AreBorders : List ℕ → List ℕ → Type 0
AreBorders x bs = (n : ℕ) → 0 < n → n ≤ length bs → IsBorder x n (get_or bs (n - 1) 0)
