-- A text has no more tokens than bytes.
use Rattle.std.proofs.Common.{◌≡◌, ℕ, ◌<◌, ◌≤◌, List, [], ◌∷◌, ◌++◌, length, ap, ◌∙◌, arith, true, false, refl, sym, length-append, encode_utf8, encode_utf8_all}
use Rattle.std.specs.Str.{chars}
use Rattle.std.proofs.lemmas.Str.{encodes-chars, length-encode, len_utf8_bounds}
use Rattle.js_tokens.specs.declared.token.Token.{Token}
use Rattle.js_tokens.specs.declared.token.TokenKind.{TokenKind}
use Rattle.js_tokens.specs.Lexes.{Lexes, Spelled, Number, Reads}
use Rattle.js_tokens.specs.Lexes.Spelled.{name, reserved, number, text, mark}
use Rattle.js_tokens.specs.Lexes.Number.{hexadecimal, decimal, point}
use Rattle.js_tokens.specs.Lexes.Reads.{done, blank, line_comment, comment, token}
use Rattle.js_tokens.specs.Words.{is_mark, marks}
use Rattle.js_tokens.proofs.Runs.{suffix_length, run_suffix}
use Rattle.js_tokens.proofs.Numbers.{fraction_suffix, exponent_suffix}
use Rattle.js_tokens.proofs.Strings.{inside_suffix, comment_suffix}

-- a token has a character at least
number_shorter : {cs rest : List ℕ} → Number cs rest → length rest < length cs
number_shorter (hexadecimal a b c run) = let l = suffix_length (run_suffix run) in omega (arith, l)
number_shorter (decimal c run part power) =
    let l = suffix_length (run_suffix run) in
    let m = suffix_length (fraction_suffix part) in
    let n = suffix_length (exponent_suffix power) in
    omega (arith, l, m, n)
number_shorter (point c d run power) =
    let l = suffix_length (run_suffix run) in
    let n = suffix_length (exponent_suffix power) in
    omega (arith, l, n)

no_mark : is_mark [] ≡ false
unfolding is_mark marks
no_mark = refl

mark_shorter : (m cs rest : List ℕ) → is_mark m ≡ true → cs ≡ m ++ rest → length rest < length cs
mark_shorter [] cs rest is same = let none : false ≡ true = sym no_mark ∙ is in cc
mark_shorter (c ∷ m) cs rest is same = let l = ap length same ∙ length-append (c ∷ m) rest in omega (arith, l)

pub spelled_shorter : {k : TokenKind} {cs rest : List ℕ} → Spelled k cs rest → length rest < length cs
spelled_shorter (name letter run free) = let l = suffix_length (run_suffix run) in omega (arith, l)
spelled_shorter (reserved letter run word) = let l = suffix_length (run_suffix run) in omega (arith, l)
spelled_shorter (number n) = number_shorter n
spelled_shorter (text quote inside) = let l = suffix_length (inside_suffix inside) in omega (arith, l)
spelled_shorter (mark m {cs = cs} {rest = rest} is same bare) = mark_shorter m cs rest is same

tokens_few : {n : ℕ} {cs : List ℕ} {ts : List Token} → Reads n cs ts → length ts ≤ length cs
tokens_few done = omega arith
tokens_few (blank b rest) = let l = tokens_few rest in omega (arith, l)
tokens_few (line_comment a b run stop rest) = let l = tokens_few rest in let m = suffix_length (run_suffix run) in omega (arith, l, m)
tokens_few (comment a b body rest) = let l = tokens_few rest in let m = suffix_length (comment_suffix body) in omega (arith, l, m)
tokens_few (token spelled longest apart rest) = let l = tokens_few rest in let m = spelled_shorter spelled in omega (arith, l, m)

-- and a character a byte
chars_few : (cs : List ℕ) → length cs ≤ length (encode_utf8_all cs)
chars_few [] = omega arith
chars_few (c ∷ cs) =
    let l = chars_few cs in
    let m = length-append (encode_utf8 c) (encode_utf8_all cs) in
    let n = length-encode c in
    let o = len_utf8_bounds c in
    omega (arith, l, m, n, o.0)

pub few_tokens : (bytes : List ℕ) (ts : List Token) → Lexes bytes ts → length ts ≤ length bytes
few_tokens bytes ts lexes =
    let l = tokens_few lexes.1 in
    let m = chars_few (chars bytes) in
    let n = ap length (encodes-chars bytes lexes.0) in
    omega (arith, l, m, n)
