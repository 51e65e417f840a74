-- Units of UTF-8 bytes, piece by piece.
use Rattle.std.proofs.Common.{◌≡◌, ℕ, true, List, [], ◌∷◌, ◌++◌, refl, ◌∙◌, ap, arith, IsUtf8, encode_utf8, nat_lt, lt-ltb}
use Rattle.std.specs.Str.{chars, IsAscii}
use Rattle.std.specs.Char.Escape.{encode_utf16}
use Rattle.std.proofs.lemmas.List.Concat.{flat_map-append}
use Rattle.std.proofs.lemmas.Str.{chars-append, chars_past_char, chars-IsAscii, IsAscii-drop}
use Rattle.code_units.specs.Utf8.{units_of, units_of_chars}

pub units_of_chars-append : (cs ds : List ℕ) → units_of_chars (cs ++ ds) ≡ units_of_chars cs ++ units_of_chars ds
units_of_chars-append cs ds = flat_map-append encode_utf16 cs ds

-- the bytes in two pieces
pub units_of-append : (xs ys : List ℕ) → IsUtf8 xs → units_of (xs ++ ys) ≡ units_of xs ++ units_of ys
unfolding units_of
units_of-append xs ys u = ap units_of_chars (chars-append xs ys u) ∙ units_of_chars-append (chars xs) (chars ys)

-- the bytes with a code point before the rest
pub units_of-char : (bs rest : List ℕ) (c : ℕ) → IsUtf8 bs → bs ≡ encode_utf8 c ++ rest → units_of bs ≡ encode_utf16 c ++ units_of rest
unfolding units_of
units_of-char bs rest c u e = ap units_of_chars (chars_past_char bs rest c u e)

ascii_chars : (cs : List ℕ) → IsAscii cs → units_of_chars cs ≡ cs
ascii_chars [] a = refl
ascii_chars (c ∷ cs) a =
    let narrow : nat_lt c 0x1_0000 ≡ true = lt-ltb c 0x1_0000 (omega (arith, a 0)) in
    rw narrow (ap (λ us. c ∷ us) (ascii_chars cs (λ i. IsAscii-drop (c ∷ cs) 1 a i)))

-- ASCII bytes are their units
pub units_of-ascii : (bs : List ℕ) → IsAscii bs → units_of bs ≡ bs
unfolding units_of
units_of-ascii bs a = ap units_of_chars (chars-IsAscii bs a) ∙ ascii_chars bs a

-- each code point has been read
pub units_of-read : (bytes cs us front : List ℕ) → cs ≡ chars bytes → us ≡ front ++ units_of_chars cs → us ≡ front ++ units_of bytes
unfolding units_of
units_of-read bytes cs us front read e = e ∙ ap (λ ds. front ++ units_of_chars ds) read
