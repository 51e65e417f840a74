-- What a character is. A character is a code point.
use Rattle.std.specs.Prelude.{ℕ, Bool, false, List, [], ◌∷◌, nat_le, nat_eq, ◌&&◌, ◌||◌, not, codes, if◌then◌else◌}
use Rattle.std.specs.List.{list_any}
use Rattle.js_tokens.specs.declared.class.Class.{Class}
use Rattle.js_tokens.specs.declared.class.Class.TheVariants as class

-- a line end (ECMA-262 3rd edition, 7.3): LF, CR, U+2028, U+2029
abbrev pub is_line_end : ℕ → Bool
is_line_end c = nat_eq c 10 || nat_eq c 13 || nat_eq c 0x2028 || nat_eq c 0x2029

-- what goes on in a line
abbrev pub is_in_line : ℕ → Bool
is_in_line c = not (is_line_end c)

-- an ASCII letter, `_` or `$`
abbrev pub is_letter : ℕ → Bool
is_letter c = (nat_le 97 c && nat_le c 122) || (nat_le 65 c && nat_le c 90) || nat_eq c 95 || nat_eq c 36

abbrev pub is_digit : ℕ → Bool
is_digit c = nat_le 48 c && nat_le c 57

abbrev pub is_hex_digit : ℕ → Bool
is_hex_digit c = is_digit c || (nat_le 97 c && nat_le c 102) || (nat_le 65 c && nat_le c 70)

-- what goes on in a name
abbrev pub is_part : ℕ → Bool
is_part c = is_letter c || is_digit c

-- tab, LF, vertical tab, form feed, CR, space
abbrev pub is_blank : ℕ → Bool
is_blank c = (nat_le 9 c && nat_le c 13) || nat_eq c 32

-- what begins a mark, besides `.` and `/`
abbrev pub begins_mark : ℕ → Bool
begins_mark c = list_any (nat_eq c) (codes "{}()[];,<>=!+-*%&|^~?:")

-- what a character begins, outside of strings and comments
abbrev pub class_of : ℕ → Class
class_of c =
    if is_letter c then class.Letter
    else (if is_digit c then class.Digit
    else (if is_blank c then class.Blank
    else (if nat_eq c 34 || nat_eq c 39 then class.Quote
    else (if nat_eq c 46 then class.Point
    else (if nat_eq c 47 then class.Slash
    else (if begins_mark c then class.Mark
    else class.Other))))))

-- the first character passes the test
abbrev pub Begins : (ℕ → Bool) → List ℕ → Bool
Begins p [] = false
Begins p (c ∷ cs) = p c

-- the first character is this one
abbrev pub Starts : ℕ → List ℕ → Bool
Starts x [] = false
Starts x (c ∷ cs) = nat_eq c x
