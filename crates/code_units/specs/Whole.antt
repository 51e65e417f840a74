-- Texts as whole numbers (ECMA-262 3rd edition, 9.3.1, with the blanks and the numbers of this product).
use Rattle.std.specs.Prelude.{ℕ, ◌-◌, ◌^◌, ℤ, pos, unsigned_abs, Bool, ◌&&◌, ◌||◌, List, ◌++◌, length, take, drop, slice_index, nat_lt, ◌==◌, if◌then◌else◌, codes}
use Rattle.std.specs.List.{list_all, list_any, prefix_len, suffix_len, before_first, after_first}
use Rattle.std.specs.Char.{is_digit}
use Rattle.std.specs.Int.{is_in_range}
use Rattle.std.specs.Str.{bytes_eq, byte}
use Rattle.std.specs.Str.Parse.{digits_value, without_leading_sign, signed_digits_value}
use Rattle.code_units.specs.declared.whole.WholeRead.{WholeRead}
use Rattle.code_units.specs.declared.whole.WholeRead.TheVariants.{Whole, NotNumber, Left}

-- tab, line feed, vertical tab, form feed, carriage return, space
abbrev pub is_blank : ℕ → Bool
is_blank u = is_in_range 9 13 u || u == 32

-- the text without the blanks at its start; at its end; at both
abbrev pub trimmed_start : List ℕ → List ℕ
trimmed_start us = drop (prefix_len is_blank us) us

abbrev pub trimmed_end : List ℕ → List ℕ
trimmed_end us = take (length us - suffix_len is_blank us) us

unfoldable pub trimmed : List ℕ → List ℕ
trimmed us = trimmed_start (trimmed_end us)

-- a whole number within the numbers, -(2^53-1) to 2^53-1, or none
abbrev pub bounded : ℤ → WholeRead
bounded z = if nat_lt (unsigned_abs z) (2 ^ 53) then Whole z else Left

-- one digit or more in the radix, and nothing else
abbrev pub is_numeral : ℕ → List ℕ → Bool
is_numeral radix us = nat_lt 0 (length us) && list_all (λ u. is_digit u radix) us

-- `.`; `e` or `E`; `x` or `X`
abbrev pub is_point : ℕ → Bool
is_point u = u == byte "."

abbrev pub is_e : ℕ → Bool
is_e u = u == byte "e" || u == byte "E"

abbrev pub is_x : ℕ → Bool
is_x u = u == byte "x" || u == byte "X"

-- digits, among which one point may stand
abbrev pub is_mantissa : List ℕ → Bool
is_mantissa us = is_numeral 10 (before_first is_point us ++ after_first is_point us)

-- `e` or `E`, an optional sign and digits
abbrev pub is_exponent : List ℕ → Bool
is_exponent us = is_e (slice_index us 0) && is_numeral 10 (without_leading_sign (drop 1 us))

-- a decimal literal that has a point or an exponent
abbrev pub is_fraction : List ℕ → Bool
is_fraction us = is_mantissa (before_first is_e us)
    && (if list_any is_e us then is_numeral 10 (without_leading_sign (after_first is_e us)) else list_any is_point us)

-- `0x` or `0X` and hexadecimal digits
abbrev pub is_hexadecimal : List ℕ → Bool
is_hexadecimal us = slice_index us 0 == byte "0" && is_x (slice_index us 1) && is_numeral 16 (drop 2 us)

-- the number of a text without blanks at its ends
abbrev pub number_of : List ℕ → WholeRead
number_of us =
    if length us == 0 then Whole (pos 0)
    else if is_numeral 10 (without_leading_sign us) then bounded (signed_digits_value 10 us)
    else if bytes_eq (without_leading_sign us) (codes "Infinity") || is_fraction (without_leading_sign us) then Left
    else if is_hexadecimal us then bounded (pos (digits_value 16 (drop 2 us)))
    else NotNumber

-- the number of a text
unfoldable pub number_in : List ℕ → WholeRead
number_in us = number_of (trimmed us)
