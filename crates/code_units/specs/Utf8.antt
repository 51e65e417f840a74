-- Bytes of UTF-8 and 16-bit units, each by way of their code points (ECMA-262 3rd edition, 6 and 8.4).
-- The standard's words are std's: `IsUtf8`, `chars`, `encode_utf8_all` (`Str`), `encode_utf16`, `utf16_lossy_chars` (`Char`).
use Rattle.std.specs.Prelude.{ℕ, ◌<◌, ◌≤◌, List, encode_utf8_all}
use Rattle.std.specs.List.{flat_map}
use Rattle.std.specs.Str.{IsUtf8, IsValidUpTo, chars}
use Rattle.std.specs.Char.Escape.{encode_utf16}
use Rattle.std.specs.Char.Utf16.{utf16_lossy_chars}
use Rattle.code_units.specs.declared.utf8.TextFault.{TextFault}
use Rattle.code_units.specs.declared.utf8.TextFault.TheVariants.{NotUtf8, Memory}

-- the units of code points: one below 65536, and two surrogates above
abbrev pub units_of_chars : List ℕ → List ℕ
units_of_chars cs = flat_map encode_utf16 cs

-- Units: the units of the code points that UTF-8 bytes spell
unfoldable pub units_of : List ℕ → List ℕ
units_of bytes = units_of_chars (chars bytes)

-- Utf8: the bytes of the code points that the units spell, U+FFFD for each lone surrogate
unfoldable pub utf8_of : List ℕ → List ℕ
utf8_of units = encode_utf8_all (utf16_lossy_chars units)

-- the units stand for one code point together
abbrev pub IsSurrogatePair : ℕ → ℕ → Type 0
IsSurrogatePair high low = (0xD800 ≤ high) × (high < 0xDC00) × (0xDC00 ≤ low) × (low < 0xE000)

-- the bytes are no UTF-8, with the first byte of the first ill-formed sequence, or there was no memory for their units
abbrev pub IsTextFault : List ℕ → TextFault → Type 0
IsTextFault bytes (NotUtf8 at) = IsValidUpTo bytes at
IsTextFault bytes Memory = IsUtf8 bytes
