-- Places between the characters of a text.
use Rattle.std.specs.Prelude.{◌≡◌, ℕ, ◌<◌, ◌≤◌, List, ◌∷◌, length, drop}
use Rattle.std.specs.Str.{IsUtf8, chars}

-- the characters from a byte on
unfoldable pub from : List ℕ → ℕ → List ℕ
from text at = chars (drop at text)

-- no character is cut there
pub record IsPlace (text : List ℕ) (at : ℕ) : Type 0 where
  pub within : at ≤ length text
  pub spelled : IsUtf8 (drop at text)

-- this character stands at `at`, up to `next`
pub record IsNext (text : List ℕ) (at c next : ℕ) : Type 0 where
  pub here : from text at ≡ c ∷ from text next
  pub later : at < next
  pub place : IsPlace text next

-- `next` is the place of the rest
pub record IsEnd (text : List ℕ) (at : ℕ) (rest : List ℕ) (next : ℕ) : Type 0 where
  pub rest_is : rest ≡ from text next
  pub later : at ≤ next
  pub place : IsPlace text next
