-- The lines of some bytes.
use Rattle.std.specs.Prelude.{◌≡◌, ◌≢◌, ℕ, ◌+◌, ◌≤◌, ◌==◌, ⊤, List, [], ◌∷◌, ◌++◌, take, drop, length, All, if◌then◌else◌, Option, Some, None, option_map, IfSome}
use Rattle.std.specs.List.{slice_get}
use Rattle.host_io.specs.declared.cuts.Seen.{Seen}
use Rattle.host_io.specs.declared.cuts.Seen.TheVariants.{More, Feed, End}

-- a byte in front of the first line
abbrev pub onto_first : ℕ → List (List ℕ) → List (List ℕ)
onto_first b [] = (b ∷ []) ∷ []
onto_first b (line ∷ lines) = (b ∷ line) ∷ lines

-- the lines, without their line feeds; what follows the last line feed is a line if there is any of it
abbrev pub lines_of : List ℕ → List (List ℕ)
lines_of [] = []
lines_of (b ∷ bytes) = if b == 10 then [] ∷ lines_of bytes else onto_first b (lines_of bytes)

-- the bytes hold no line feed
abbrev pub IsLine : List ℕ → Type 0
IsLine bytes = All (λ b. b ≢ 10) bytes

-- what was taken of the bytes that are left, where they are told: a part of a line; the rest of it, and the line feed; nothing, at the end
abbrev pub Took : List ℕ → Seen → Option (List ℕ) → Option (List ℕ) → Type 0
Took part seen None left = ⊤
Took part seen (Some bytes) None = ⊥
Took part More (Some bytes) (Some left) = bytes ≡ part ++ left
Took part Feed (Some bytes) (Some left) = bytes ≡ part ++ 10 ∷ left
Took part End (Some bytes) (Some left) = (bytes ≡ []) × (part ≡ []) × (left ≡ [])

-- of the bytes that were left, where they are told, the first line is given to one byte over the limit, and the others are left
pub record Gives (max : ℕ) (old new : Option (List ℕ)) (next : Option (List ℕ)) : Type 0 where
  pub line : IfSome old (λ bytes. next ≡ option_map (take (max + 1)) (slice_get (lines_of bytes) 0))
  pub rest : IfSome old (λ bytes. option_map lines_of new ≡ Some (drop 1 (lines_of bytes)))
  pub bound : IfSome next (λ line. length line ≤ max + 1)
