-- What the machine makes of bytes. It is there for proofs alone.
use Rattle.std.specs.Prelude.{ℕ, ◌+◌, List, [], ◌∷◌, Option, Some, None, length, take, drop, slice_index, unwrap_or, if◌then◌else◌}
use Rattle.std.specs.Int.{is_in_range}
use Rattle.std.specs.Char.{len_utf8}
use Rattle.std.specs.Str.{chars}
use Rattle.std.specs.Str.Lossy.{utf8_valid_len, utf8_error_len}
use Rattle.markup_grammar.specs.declared.Sign.TheVariants as sign
use Rattle.markup_grammar.specs.Signs.{sign_of}
use Rattle.markup_grammar.specs.Machine.{State, begin, step, finished}
use Rattle.plain_tree.specs.Trees.{Trees}
use Rattle.plain_tree.specs.Plains.{Places}

-- the state behind a text, or the place of the character that is not taken
pub data Outcome : Type 0 where
  Reached : State → Outcome
  Stuck : ℕ → Outcome

abbrev pub goes_on : Option State → ℕ → (State → Outcome) → Outcome
goes_on None at next = Stuck at
goes_on (Some st) at next = next st

-- what comes of these characters, the first of which stands at `at`
abbrev pub reads : State → ℕ → List ℕ → Outcome
reads st at [] = Reached st
reads st at (c ∷ cs) = goes_on (step st (sign_of c) (record { code = c; at = at })) at (λ next. reads next (at + len_utf8 c) cs)

-- the trees, or the place of the refusal
pub data Judged : Type 0 where
  Read : Trees Places → Judged
  Bad : ℕ → Judged

-- how many bytes begin a character, of bytes that begin with none
abbrev pub begun_len : List ℕ → ℕ
begun_len tail = if is_in_range 0xC2 0xF4 (slice_index tail 0) then unwrap_or (utf8_error_len tail) (length tail) else 0

-- at the end of the bytes
abbrev pub ends : Option (Trees Places) → ℕ → Judged
ends None at = Bad at
ends (Some ts) at = Read ts

-- where bytes follow that begin with no character: any character of several bytes stands for them
abbrev pub breaks : Option State → ℕ → List ℕ → Judged
breaks None at tail = Bad at
breaks (Some st) at tail = Bad (at + begun_len tail)

abbrev pub behind : Outcome → ℕ → List ℕ → Judged
behind (Stuck place) at tail = Bad place
behind (Reached st) at [] = ends (finished (Some st)) at
behind (Reached st) at (b ∷ tail) = breaks (step st sign.Other (record { code = 0xFFFD; at = at })) at (b ∷ tail)

-- what comes of the bytes
abbrev pub judged : List ℕ → Judged
judged bytes = let n = utf8_valid_len bytes in behind (reads begin 0 (chars (take n bytes))) n (drop n bytes)
