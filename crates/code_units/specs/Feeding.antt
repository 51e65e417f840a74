-- What a text feeds a hasher: its units, four to a word, and last a word with those that are left and their number.
use Rattle.std.specs.Prelude.{ℕ, ◌+◌, ◌*◌, ◌^◌, List, [], ◌∷◌, length, get_or}
use Rattle.std.specs.Hash as fed

-- four numbers of 16 bits in a word, the first lowest
abbrev pub word : ℕ → ℕ → ℕ → ℕ → ℕ
word a b c d = a + b * 2 ^ 16 + c * 2 ^ 32 + d * 2 ^ 48

-- up to three units, and their number
abbrev pub last : List ℕ → ℕ
last us = word (get_or us 0 0) (get_or us 1 0) (get_or us 2 0) (length us)

-- the words of a text
unfoldable pub words : List ℕ → List ℕ
words [] = last [] ∷ []
words (a ∷ []) = last (a ∷ []) ∷ []
words (a ∷ b ∷ []) = last (a ∷ b ∷ []) ∷ []
words (a ∷ b ∷ c ∷ []) = last (a ∷ b ∷ c ∷ []) ∷ []
words (a ∷ b ∷ c ∷ d ∷ rest) = word a b c d ∷ words rest

-- the writes for words, each of eight bytes
unfoldable pub writes : List ℕ → List (List ℕ)
writes [] = []
writes (w ∷ ws) = fed.le_bytes 8 w ∷ writes ws

-- the writes for a text
unfoldable pub input : List ℕ → List (List ℕ)
input us = writes (words us)
