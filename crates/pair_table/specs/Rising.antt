-- Numbers that tell their places. No public clause cites this module.
use Rattle.std.specs.Prelude.{◌≡◌, ◌-◌, ◌<◌, ◌≤◌, ℕ, List, Some, length, nat_eq, slice_get}
use Rattle.std.specs.List.{IsDistinct}

-- each of the first of these numbers stands one before itself, and 0 stands first
abbrev pub AreNear : ℕ → List ℕ → Type 0
AreNear upto ns = (p n : ℕ) → p < upto → slice_get ns p ≡ Some n → n - 1 ≡ p

-- no place before one has a number
abbrev pub IsNoneBefore : ℕ → ℕ → List ℕ → Type 0
IsNoneBefore upto n ns = (p : ℕ) → p < upto → slice_get ns p ≡ Some n → ⊥

-- what a list of rising numbers keeps: no two are equal, and the first of them tell their places
pub record IsRising (upto : ℕ) (ns : List ℕ) : Type 0 where
  pub differ : IsDistinct nat_eq ns
  pub within : upto ≤ length ns
  pub near : AreNear upto ns
