-- Which tokens stand in a text, and where a text is bad.
-- A relation `R cs rest` says that something stands in the characters cs, before rest.
use Rattle.std.specs.Prelude.{◌≡◌, ℕ, ◌-◌, ◌<◌, ◌≤◌, List, [], ◌∷◌, ◌++◌, length, take, Bool, true, false, nat_eq, ◌&&◌, ◌||◌, not, if◌then◌else◌, Contains, encode_utf8_all}
use Rattle.std.specs.Str.{IsUtf8, IsValidUpTo, chars}
use Rattle.js_tokens.specs.declared.token.Token.{Token}
use Rattle.js_tokens.specs.declared.token.TokenKind.{TokenKind}
use Rattle.js_tokens.specs.declared.token.TokenKind.TheVariants as kind
use Rattle.js_tokens.specs.declared.token.TokenFault.{TokenFault}
use Rattle.js_tokens.specs.declared.token.TokenFault.TheVariants as fault
use Rattle.js_tokens.specs.declared.class.Class.TheVariants as class
use Rattle.js_tokens.specs.Characters.{class_of, is_line_end, is_in_line, is_digit, is_hex_digit, is_part, Begins, Starts}
use Rattle.js_tokens.specs.Words.{is_reserved, is_mark}

-- characters that pass the test
pub data Run (p : ℕ → Bool) : List ℕ → List ℕ → Type 0 where
  none : {rest : List ℕ} → Run p rest rest
  more : {c : ℕ} {cs rest : List ℕ} → p c ≡ true → Run p cs rest → Run p (c ∷ cs) rest

-- what stands in cs before rest
abbrev pub front : List ℕ → List ℕ → List ℕ
front cs rest = take (length cs - length rest) cs

-- Numbers (ECMA-262 3rd edition, 7.8.3)

-- `.`, and digits or none; or nothing
pub data Fraction : List ℕ → List ℕ → Type 0 where
  no_fraction : {rest : List ℕ} → Fraction rest rest
  fraction : {c : ℕ} {cs rest : List ℕ} → c ≡ 46 → Run is_digit cs rest → Fraction (c ∷ cs) rest

-- `+`, `-` or nothing
pub data Plus : List ℕ → List ℕ → Type 0 where
  no_sign : {rest : List ℕ} → Plus rest rest
  sign : {c : ℕ} {rest : List ℕ} → (nat_eq c 43 || nat_eq c 45) ≡ true → Plus (c ∷ rest) rest

-- `e` or `E`, an optional sign, and digits; or nothing
pub data Exponent : List ℕ → List ℕ → Type 0 where
  no_exponent : {rest : List ℕ} → Exponent rest rest
  exponent : {c d : ℕ} {cs ds rest : List ℕ} → (nat_eq c 101 || nat_eq c 69) ≡ true → Plus cs (d ∷ ds) → is_digit d ≡ true → Run is_digit ds rest → Exponent (c ∷ cs) rest

pub data Number : List ℕ → List ℕ → Type 0 where
  hexadecimal : {a b c : ℕ} {cs rest : List ℕ} → a ≡ 48 → (nat_eq b 120 || nat_eq b 88) ≡ true → is_hex_digit c ≡ true → Run is_hex_digit cs rest → Number (a ∷ b ∷ c ∷ cs) rest
  decimal : {c : ℕ} {cs ds es rest : List ℕ} → is_digit c ≡ true → Run is_digit cs ds → Fraction ds es → Exponent es rest → Number (c ∷ cs) rest
  point : {c d : ℕ} {cs es rest : List ℕ} → c ≡ 46 → is_digit d ≡ true → Run is_digit cs es → Exponent es rest → Number (c ∷ d ∷ cs) rest

-- Strings (ECMA-262 3rd edition, 7.8.4)

-- what a character is in a string with this quote
pub data Part : Type 0 where
  Close : Part
  LineEnd : Part
  Backslash : Part
  Plain : Part

abbrev pub part_of : ℕ → ℕ → Part
part_of quote c = if nat_eq c quote then Close else (if is_line_end c then LineEnd else (if nat_eq c 92 then Backslash else Plain))

-- what begins behind a backslash
pub data Escape : Type 0 where
  Zero : Escape
  Digit : Escape
  TwoDigits : Escape
  FourDigits : Escape
  NoEscape : Escape
  Itself : Escape

abbrev pub escape_of : ℕ → Escape
escape_of c =
    if nat_eq c 48 then Zero
    else (if is_digit c then Digit
    else (if nat_eq c 120 then TwoDigits
    else (if nat_eq c 117 then FourDigits
    else (if is_line_end c then NoEscape
    else Itself))))

-- that many hexadecimal digits come
abbrev pub two_digits : List ℕ → Bool
two_digits (a ∷ b ∷ cs) = is_hex_digit a && is_hex_digit b
two_digits _ = false

abbrev pub four_digits : List ℕ → Bool
four_digits (a ∷ b ∷ cs) = is_hex_digit a && is_hex_digit b && two_digits cs
four_digits _ = false

-- an escape stands there, where the first character is of this kind
abbrev pub is_escape_of : Escape → List ℕ → Bool
is_escape_of Zero cs = not (Begins is_digit cs)
is_escape_of Digit cs = false
is_escape_of TwoDigits cs = two_digits cs
is_escape_of FourDigits cs = four_digits cs
is_escape_of NoEscape cs = false
is_escape_of Itself cs = true

-- An escape stands there, behind its backslash. (Its hexadecimal digits are plain characters of the string.)
abbrev pub is_escape : List ℕ → Bool
is_escape [] = false
is_escape (c ∷ cs) = is_escape_of (escape_of c) cs

-- a string from behind its quote: up to the same quote, in one line, and each backslash begins an escape
pub data Inside (quote : ℕ) : List ℕ → List ℕ → Type 0 where
  close : {c : ℕ} {rest : List ℕ} → part_of quote c ≡ Close → Inside quote (c ∷ rest) rest
  plain : {c : ℕ} {cs rest : List ℕ} → part_of quote c ≡ Plain → Inside quote cs rest → Inside quote (c ∷ cs) rest
  escape : {c d : ℕ} {cs rest : List ℕ} → part_of quote c ≡ Backslash → is_escape (d ∷ cs) ≡ true → Inside quote cs rest → Inside quote (c ∷ d ∷ cs) rest

-- the same with any escapes, good or bad: a backslash stands before any character but a line end
pub data Closed (quote : ℕ) : List ℕ → List ℕ → Type 0 where
  last : {c : ℕ} {rest : List ℕ} → part_of quote c ≡ Close → Closed quote (c ∷ rest) rest
  single : {c : ℕ} {cs rest : List ℕ} → part_of quote c ≡ Plain → Closed quote cs rest → Closed quote (c ∷ cs) rest
  pair : {c d : ℕ} {cs rest : List ℕ} → part_of quote c ≡ Backslash → is_line_end d ≡ false → Closed quote cs rest → Closed quote (c ∷ d ∷ cs) rest

-- the first bad escape of a string: `place` is from its backslash on
pub data BadEscape (quote : ℕ) : List ℕ → List ℕ → Type 0 where
  here : {c : ℕ} {cs : List ℕ} → part_of quote c ≡ Backslash → is_escape cs ≡ false → BadEscape quote (c ∷ cs) (c ∷ cs)
  past_plain : {c : ℕ} {cs place : List ℕ} → part_of quote c ≡ Plain → BadEscape quote cs place → BadEscape quote (c ∷ cs) place
  past_escape : {c d : ℕ} {cs place : List ℕ} → part_of quote c ≡ Backslash → is_escape (d ∷ cs) ≡ true → BadEscape quote cs place → BadEscape quote (c ∷ d ∷ cs) place

-- Comments (ECMA-262 3rd edition, 7.4)

-- from behind `/*` up to the first `*/`
pub data Comment : List ℕ → List ℕ → Type 0 where
  ends : {a b : ℕ} {rest : List ℕ} → a ≡ 42 → b ≡ 47 → Comment (a ∷ b ∷ rest) rest
  skip : {c : ℕ} {cs rest : List ℕ} → (nat_eq c 42 && Starts 47 cs) ≡ false → Comment cs rest → Comment (c ∷ cs) rest

-- `//` or `/*` stands there
abbrev pub begins_comment : List ℕ → Bool
begins_comment [] = false
begins_comment (c ∷ cs) = nat_eq c 47 && (Starts 47 cs || Starts 42 cs)

-- Tokens

-- a token of this kind
pub data Spelled : TokenKind → List ℕ → List ℕ → Type 0 where
  name : {c : ℕ} {cs rest : List ℕ} → class_of c ≡ class.Letter → Run is_part cs rest → is_reserved (front (c ∷ cs) rest) ≡ false → Spelled kind.Name (c ∷ cs) rest
  reserved : {c : ℕ} {cs rest : List ℕ} → class_of c ≡ class.Letter → Run is_part cs rest → is_reserved (front (c ∷ cs) rest) ≡ true → Spelled kind.Reserved (c ∷ cs) rest
  number : {cs rest : List ℕ} → Number cs rest → Spelled kind.Number cs rest
  text : {quote : ℕ} {cs rest : List ℕ} → class_of quote ≡ class.Quote → Inside quote cs rest → Spelled kind.Str (quote ∷ cs) rest
  mark : (m : List ℕ) {cs rest : List ℕ} → is_mark m ≡ true → cs ≡ m ++ rest → begins_comment cs ≡ false → Spelled kind.Mark cs rest

-- no token that begins there is longer
abbrev pub IsLongest : List ℕ → List ℕ → Type 0
IsLongest cs rest = (k : TokenKind) (other : List ℕ) → Spelled k cs other → length rest ≤ length other

-- a number is not followed by what goes on in a name
abbrev pub IsApart : TokenKind → List ℕ → Type 0
IsApart kind.Number rest = Begins is_part rest ≡ false
IsApart _ rest = Unit {0}

-- the bytes of these characters
abbrev pub size : List ℕ → ℕ
size cs = length (encode_utf8_all cs)

-- gaps and tokens in turn, at the end of a text of n bytes
pub data Reads (n : ℕ) : List ℕ → List Token → Type 0 where
  done : Reads n [] []
  blank : {c : ℕ} {cs : List ℕ} {ts : List Token} → class_of c ≡ class.Blank → Reads n cs ts → Reads n (c ∷ cs) ts
  line_comment : {a b : ℕ} {cs rest : List ℕ} {ts : List Token} → class_of a ≡ class.Slash → b ≡ 47 → Run is_in_line cs rest → Begins is_in_line rest ≡ false → Reads n rest ts → Reads n (a ∷ b ∷ cs) ts
  comment : {a b : ℕ} {cs rest : List ℕ} {ts : List Token} → class_of a ≡ class.Slash → b ≡ 42 → Comment cs rest → Reads n rest ts → Reads n (a ∷ b ∷ cs) ts
  token : {k : TokenKind} {cs rest : List ℕ} {ts : List Token} → Spelled k cs rest → IsLongest cs rest → IsApart k rest → Reads n rest ts →
      Reads n cs (record { kind = k; from = n - size cs; to = n - size rest } ∷ ts)

-- the bytes are UTF-8, and are these tokens with gaps between
abbrev pub Lexes : List ℕ → List Token → Type 0
Lexes bytes ts = IsUtf8 bytes × Reads (length bytes) (chars bytes) ts

-- the tokens stand one after the other from `at` on, none is empty, and the last ends by n
abbrev pub InOrder : ℕ → ℕ → List Token → Type 0
InOrder n at [] = at ≤ n
InOrder n at (t ∷ ts) = (at ≤ t.from) × (t.from < t.to) × InOrder n t.to ts

-- the bytes have this token
pub record IsTokenOf (bytes : List ℕ) (token : Token) : Type 0 where
  pub tokens : List Token
  pub lexes : Lexes bytes tokens
  pub is_in : Contains tokens token

-- no gap and no token stands there, and `place` is from the bad place on
pub data Bad : List ℕ → List ℕ → Type 0 where
  glued : {cs rest : List ℕ} → Spelled kind.Number cs rest → IsLongest cs rest → Begins is_part rest ≡ true → Bad cs cs
  unclosed : {quote : ℕ} {cs : List ℕ} → class_of quote ≡ class.Quote → ((rest : List ℕ) → Closed quote cs rest → ⊥) → Bad (quote ∷ cs) (quote ∷ cs)
  bad_escape : {quote : ℕ} {cs rest place : List ℕ} → class_of quote ≡ class.Quote → Closed quote cs rest → BadEscape quote cs place → Bad (quote ∷ cs) place
  open_comment : {a b : ℕ} {cs : List ℕ} → class_of a ≡ class.Slash → b ≡ 42 → ((rest : List ℕ) → Comment cs rest → ⊥) → Bad (a ∷ b ∷ cs) (a ∷ b ∷ cs)
  other : {c : ℕ} {cs : List ℕ} → class_of c ≡ class.Other → Bad (c ∷ cs) (c ∷ cs)

-- the first bad place, after gaps and tokens
pub data FirstBad : List ℕ → List ℕ → Type 0 where
  bad : {cs place : List ℕ} → Bad cs place → FirstBad cs place
  past_blank : {c : ℕ} {cs place : List ℕ} → class_of c ≡ class.Blank → FirstBad cs place → FirstBad (c ∷ cs) place
  past_line_comment : {a b : ℕ} {cs rest place : List ℕ} → class_of a ≡ class.Slash → b ≡ 47 → Run is_in_line cs rest → Begins is_in_line rest ≡ false → FirstBad rest place → FirstBad (a ∷ b ∷ cs) place
  past_comment : {a b : ℕ} {cs rest place : List ℕ} → class_of a ≡ class.Slash → b ≡ 42 → Comment cs rest → FirstBad rest place → FirstBad (a ∷ b ∷ cs) place
  past_token : {k : TokenKind} {cs rest place : List ℕ} → Spelled k cs rest → IsLongest cs rest → IsApart k rest → FirstBad rest place → FirstBad cs place

-- the first byte of the first ill-formed sequence, or else the first bad place
pub data BadPlace (bytes : List ℕ) (at : ℕ) : Type 0 where
  ill_formed : IsValidUpTo bytes at → BadPlace bytes at
  bad_token : (place : List ℕ) → IsUtf8 bytes → FirstBad (chars bytes) place → at ≡ length bytes - size place → BadPlace bytes at

-- what an error says
abbrev pub IsFault : List ℕ → TokenFault → Type 0
IsFault bytes (fault.BadToken at) = BadPlace bytes at
IsFault bytes fault.Memory = Unit {0}
