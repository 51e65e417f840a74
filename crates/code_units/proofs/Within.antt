-- Places past the end of a text.
use Rattle.std.proofs.Common.{◌≡◌, ℕ, List, length, take, min, refl, arith}
use Rattle.std.proofs.lemmas.Grind.{common_steps}
use Rattle.code_units.specs.Places.{line_of, column_of}

take_min : (xs : List ℕ) (n : ℕ) → take (min n (length xs)) xs ≡ take n xs
take_min xs n = grind (arith, common_steps)

pub line_within : (bytes : List ℕ) (at : ℕ) → line_of bytes (min at (length bytes)) ≡ line_of bytes at
unfolding line_of
line_within bytes at = rw (take_min bytes at) refl

pub column_within : (bytes : List ℕ) (at : ℕ) → column_of bytes (min at (length bytes)) ≡ column_of bytes at
unfolding column_of
column_within bytes at = rw (take_min bytes at) refl
