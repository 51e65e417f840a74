-- What the scanner finds at the front of the characters, from left to right. The relations of `Lexes` say what that means.
use Rattle.std.specs.Prelude.{ℕ, List, [], ◌∷◌, Bool, true, false, nat_eq, ◌&&◌, ◌||◌, if◌then◌else◌, Option, Some, None}
use Rattle.js_tokens.specs.declared.token.TokenKind.{TokenKind}
use Rattle.js_tokens.specs.declared.token.TokenKind.TheVariants as kind
use Rattle.js_tokens.specs.declared.class.Class.{Class}
use Rattle.js_tokens.specs.declared.class.Class.TheVariants as class
use Rattle.js_tokens.specs.Characters.{class_of, is_line_end, is_in_line, is_digit, is_hex_digit, is_part, Begins, Starts}
use Rattle.js_tokens.specs.Words.{is_reserved}
use Rattle.js_tokens.specs.Lexes.{front, Part, Close, LineEnd, Backslash, Plain, part_of, is_escape}

abbrev pub tail : List ℕ → List ℕ
tail [] = []
tail (c ∷ cs) = cs

-- behind the characters that pass the test
abbrev pub after_run : (ℕ → Bool) → List ℕ → List ℕ
after_run p [] = []
after_run p (c ∷ cs) = if p c then after_run p cs else c ∷ cs

-- behind a sign, if one stands there
abbrev pub after_sign : List ℕ → List ℕ
after_sign cs = if Starts 43 cs || Starts 45 cs then tail cs else cs

abbrev pub has_exponent : List ℕ → Bool
has_exponent cs = (Starts 101 cs || Starts 69 cs) && Begins is_digit (after_sign (tail cs))

abbrev pub after_exponent : List ℕ → List ℕ
after_exponent cs = if has_exponent cs then after_run is_digit (after_sign (tail cs)) else cs

abbrev pub after_fraction : List ℕ → List ℕ
after_fraction cs = if Starts 46 cs then after_run is_digit (tail cs) else cs

-- behind a number whose first digit is before these characters
abbrev pub after_decimal : List ℕ → List ℕ
after_decimal cs = after_exponent (after_fraction (after_run is_digit cs))

abbrev pub is_hexadecimal : ℕ → List ℕ → Bool
is_hexadecimal c cs = nat_eq c 48 && ((Starts 120 cs || Starts 88 cs) && Begins is_hex_digit (tail cs))

abbrev pub after_number : ℕ → List ℕ → List ℕ
after_number c cs = if is_hexadecimal c cs then after_run is_hex_digit (tail cs) else after_decimal cs

-- behind `=`, if it stands there
abbrev pub after_assign : List ℕ → List ℕ
after_assign cs = if Starts 61 cs then tail cs else cs

-- behind `=` or `!`; `+`, `-`, `&` or `|`; `<`; `>>`; `>`
abbrev pub after_equals : List ℕ → List ℕ
after_equals cs = if Starts 61 cs then after_assign (tail cs) else cs

abbrev pub after_double : ℕ → List ℕ → List ℕ
after_double c cs = if Starts c cs then tail cs else after_assign cs

abbrev pub after_less : List ℕ → List ℕ
after_less cs = if Starts 60 cs then after_assign (tail cs) else after_assign cs

abbrev pub after_shift : List ℕ → List ℕ
after_shift cs = if Starts 62 cs then after_assign (tail cs) else after_assign cs

abbrev pub after_greater : List ℕ → List ℕ
after_greater cs = if Starts 62 cs then after_shift (tail cs) else after_assign cs

-- behind the longest mark that begins with this character
abbrev pub after_mark : ℕ → List ℕ → List ℕ
after_mark c cs =
    if nat_eq c 61 || nat_eq c 33 then after_equals cs
    else (if nat_eq c 43 || nat_eq c 45 || nat_eq c 38 || nat_eq c 124 then after_double c cs
    else (if nat_eq c 42 || nat_eq c 47 || nat_eq c 37 || nat_eq c 94 then after_assign cs
    else (if nat_eq c 60 then after_less cs
    else (if nat_eq c 62 then after_greater cs
    else cs))))

abbrev pub is_backslash : Part → Bool
is_backslash Backslash = true
is_backslash _ = false

abbrev pub string_step : Part → List ℕ → Option (List ℕ) → Option (List ℕ)
string_step Close cs next = Some cs
string_step LineEnd cs next = None
string_step _ cs next = next

-- behind the closing quote, from behind the opening one; `escaped` says that a backslash stands before
abbrev pub after_string : ℕ → Bool → List ℕ → Option (List ℕ)
after_string quote escaped [] = None
after_string quote true (c ∷ cs) = if is_line_end c then None else after_string quote false cs
after_string quote false (c ∷ cs) = string_step (part_of quote c) cs (after_string quote (is_backslash (part_of quote c)) cs)

abbrev pub bad_step : Part → Bool → List ℕ → Option (List ℕ) → Option (List ℕ)
bad_step Plain good here next = next
bad_step Backslash true here next = next
bad_step Backslash false here next = Some here
bad_step _ good here next = None

-- the first bad escape of a string
abbrev pub first_bad : ℕ → Bool → List ℕ → Option (List ℕ)
first_bad quote escaped [] = None
first_bad quote true (c ∷ cs) = first_bad quote false cs
first_bad quote false (c ∷ cs) = bad_step (part_of quote c) (is_escape cs) (c ∷ cs) (first_bad quote (is_backslash (part_of quote c)) cs)

-- the first bad escape: the one that was there before, or this one at `place`
abbrev pub noted : Option ℕ → Bool → ℕ → Option ℕ
noted (Some before) good place = Some before
noted None true place = None
noted None false place = Some place

-- behind the first `*/`
abbrev pub after_comment : List ℕ → Option (List ℕ)
after_comment [] = None
after_comment (c ∷ cs) = if nat_eq c 42 && Starts 47 cs then Some (tail cs) else after_comment cs

-- what stands at the front
pub data Found : Type 0 where
  End : Found
  Gap : List ℕ → Found
  Token : TokenKind → List ℕ → Found
  Bad : List ℕ → Found

-- a name is reserved or not
abbrev pub word_kind : Bool → TokenKind
word_kind true = kind.Reserved
word_kind false = kind.Name

abbrev pub found_number : List ℕ → List ℕ → Found
found_number cs rest = if Begins is_part rest then Bad cs else Token kind.Number rest

abbrev pub found_string : List ℕ → Option (List ℕ) → Option (List ℕ) → Found
found_string here None bad = Bad here
found_string here (Some rest) None = Token kind.Str rest
found_string here (Some rest) (Some place) = Bad place

abbrev pub found_comment : List ℕ → Option (List ℕ) → Found
found_comment here None = Bad here
found_comment here (Some rest) = Gap rest

abbrev pub found_slash : List ℕ → List ℕ → Found
found_slash here cs =
    if Starts 47 cs then Gap (after_run is_in_line (tail cs))
    else (if Starts 42 cs then found_comment here (after_comment (tail cs))
    else Token kind.Mark (after_assign cs))

abbrev pub found_point : List ℕ → List ℕ → Found
found_point here cs = if Begins is_digit cs then found_number here (after_exponent (after_run is_digit cs)) else Token kind.Mark cs

abbrev pub found_at : Class → ℕ → List ℕ → Found
found_at class.Letter c cs = Token (word_kind (is_reserved (front (c ∷ cs) (after_run is_part cs)))) (after_run is_part cs)
found_at class.Digit c cs = found_number (c ∷ cs) (after_number c cs)
found_at class.Blank c cs = Gap cs
found_at class.Quote c cs = found_string (c ∷ cs) (after_string c false cs) (first_bad c false cs)
found_at class.Point c cs = found_point (c ∷ cs) cs
found_at class.Slash c cs = found_slash (c ∷ cs) cs
found_at class.Mark c cs = Token kind.Mark (after_mark c cs)
found_at class.Other c cs = Bad (c ∷ cs)

abbrev pub found : List ℕ → Found
found [] = End
found (c ∷ cs) = found_at (class_of c) c cs
