-- How the words of a line are read.
use Rattle.std.specs.Prelude.{◌≡◌, ℕ, ◌+◌, ◌-◌, ◌^◌, Bool, ◌&&◌, List, [], ◌∷◌, ◌++◌, length, take, drop, nat_lt, ◌==◌, if◌then◌else◌, codes, decimal, Option, Some, None, MatchOption, option_map, option_and_then}
use Rattle.std.specs.Borrow.{Bor}
use Rattle.std.specs.List.{slice_split, position, position_or_len}
use Rattle.std.specs.Str.{bytes_eq, byte}
use Rattle.std.specs.Str.Parse.{digits_value}
use Rattle.reach_cert.specs.declared.cert.Ref.{Ref}
use Rattle.reach_cert.specs.declared.cert.Ref.TheVariants.{Host, Raw, Global, Cell}
use Rattle.reach_cert.specs.declared.cert.RowKind.{RowKind}
use Rattle.reach_cert.specs.declared.cert.RowKind.TheVariants.{Object, Array, Function, Bunch}
use Rattle.reach_cert.specs.Certs.{Row}
use Rattle.reach_cert.specs.Shape.{is_name}

-- the bytes that a slice holds, if there is one
abbrev pub IsSlice : Option (List ℕ) → Option (Bor (List ℕ)) → Type 0
IsSlice bytes slice = MatchOption slice (bytes ≡ None) (λ s. bytes ≡ Some s.now)

-- what stands behind a front, if the bytes begin with it
abbrev pub behind : List ℕ → List ℕ → Option (List ℕ)
behind front bytes = if bytes_eq (take (length front) bytes) front then Some (drop (length front) bytes) else None

-- what stands before the line feed at the end of a line, if there is one
abbrev pub before_feed : List ℕ → Option (List ℕ)
before_feed line = if bytes_eq (drop (length line - 1) line) (10 ∷ []) then Some (take (length line - 1) line) else None

abbrev pub is_space : ℕ → Bool
is_space b = b == byte " "

abbrev pub is_colon : ℕ → Bool
is_colon b = b == byte ":"

-- where the first word ends
abbrev pub word_end : List ℕ → ℕ
word_end text = position_or_len is_space text

-- the name that the word is
abbrev pub name_in : List ℕ → Option (List ℕ)
name_in word = if is_name word then Some word else None

-- the number below 2^32 whose decimal text the word is
unfoldable pub number_in : List ℕ → Option ℕ
number_in word = let n = digits_value 10 word in if bytes_eq word (decimal n) && nat_lt n (2 ^ 32) then Some n else None

abbrev pub cell_of : Option (List ℕ) → Option ℕ → Option Ref
cell_of (Some name) (Some number) = Some (Cell name number)
cell_of _ _ = None

-- the cell that a word names whose colon stands at a place
abbrev pub cell_at : List ℕ → Option ℕ → Option Ref
cell_at word None = None
cell_at word (Some k) = cell_of (name_in (take k word)) (number_in (drop (k + 1) word))

-- the reference that the word is
unfoldable pub ref_in : List ℕ → Option Ref
ref_in word =
    if bytes_eq word (codes "host") then Some Host
    else if bytes_eq word (codes "raw") then Some Raw
    else if bytes_eq word (codes "global") then Some Global
    else cell_at word (position is_colon word)

-- one reference and more
abbrev pub joined : Option Ref → Option (List Ref) → Option (List Ref)
joined (Some ref) (Some refs) = Some (ref ∷ refs)
joined _ _ = None

abbrev pub each_ref : List (List ℕ) → Option (List Ref)
each_ref [] = Some []
each_ref (word ∷ words) = joined (ref_in word) (each_ref words)

-- the references of a text in which a space stands before each
unfoldable pub refs_in : List ℕ → Option (List Ref)
refs_in [] = Some []
refs_in (b ∷ text) = if is_space b then each_ref (slice_split is_space text) else None

-- the references read before, and those of the rest
abbrev pub with_front : List Ref → Option (List Ref) → Option (List Ref)
with_front front rest = option_map (λ refs. front ++ refs) rest

-- the kind that the word is
abbrev pub kind_in : List ℕ → Option RowKind
kind_in word =
    if bytes_eq word (codes "object") then Some Object
    else if bytes_eq word (codes "array") then Some Array
    else if bytes_eq word (codes "function") then Some Function
    else if bytes_eq word (codes "bunch") then Some Bunch
    else None

abbrev pub row_with : Option RowKind → Option (List Ref) → Option Row
row_with (Some kind) (Some refs) = Some (record { kind = kind; refs = refs })
row_with _ _ = None

-- the row of a text that begins with its kind
unfoldable pub row_in : List ℕ → Option Row
row_in text = row_with (kind_in (take (word_end text) text)) (refs_in (drop (word_end text) text))

-- what stands in the line of a cell behind its number
unfoldable pub cell_behind : ℕ → List ℕ → Option (List ℕ)
cell_behind n text =
    if nat_lt n (2 ^ 32)
    then option_and_then (λ t. option_and_then (behind (codes " ")) (behind (decimal n) t)) (behind (codes "c ") text)
    else None
