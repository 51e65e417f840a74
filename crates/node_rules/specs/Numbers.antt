-- Number literals (A17).
use Rattle.std.specs.Prelude.{ℕ, ◌+◌, ◌-◌, ◌*◌, Bool, List, ◌||◌, ◌&&◌, not, codes, length, nat_eq, nat_lt, nat_le, slice_index, drop, if◌then◌else◌}
use Rattle.std.specs.List.{fold, list_any, starts_with}
use Rattle.node_rules.specs.Words.{is_digit}

-- a hexadecimal literal
abbrev pub is_hex : List ℕ → Bool
is_hex text = starts_with nat_eq text (codes "0x") || starts_with nat_eq text (codes "0X")

-- the value of a digit: `0` to `9`, `A` to `F`, `a` to `f`
abbrev pub digit_value : ℕ → ℕ
digit_value u = if nat_le u 57 then u - 48 else (if nat_le u 70 then u - 55 else u - 87)

-- the value of digits to a base
abbrev pub value_to : ℕ → List ℕ → ℕ
value_to base digits = fold (λ value u. value * base + digit_value u) 0 digits

-- the value of a literal
abbrev pub number_value : List ℕ → ℕ
number_value text = if is_hex text then value_to 16 (drop 2 text) else value_to 10 text

-- a `.` stands in it
abbrev pub has_fraction : List ℕ → Bool
has_fraction text = list_any (nat_eq 46) text

-- an `e` or `E` stands in it, and it is not hexadecimal
abbrev pub has_exponent : List ℕ → Bool
has_exponent text = not (is_hex text) && (list_any (nat_eq 101) text || list_any (nat_eq 69) text)

-- it is greater than 2^53 - 1
abbrev pub is_too_large : List ℕ → Bool
is_too_large text = nat_lt 9007199254740991 (number_value text)

-- a `0` before a digit
abbrev pub has_leading_zero : List ℕ → Bool
has_leading_zero text = nat_le 2 (length text) && (nat_eq (slice_index text 0) 48 && is_digit (slice_index text 1))

-- A17
unfoldable pub is_refused_number : List ℕ → Bool
is_refused_number text = has_fraction text || (has_exponent text || (is_too_large text || has_leading_zero text))
