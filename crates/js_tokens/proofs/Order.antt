-- The tokens of a text stand in order.
use Rattle.std.proofs.Common.{◌≡◌, ℕ, ◌-◌, ◌<◌, ◌≤◌, List, [], ◌∷◌, ◌++◌, length, true, refl, ap, subst, sym, arith}
use Rattle.std.specs.Str.{chars}
use Rattle.std.proofs.lemmas.Bool.{false≢true}
use Rattle.std.proofs.lemmas.Str.{encodes-chars, len_utf8_bounds}
use Rattle.js_tokens.specs.declared.token.Token.{Token}
use Rattle.js_tokens.specs.declared.token.TokenKind.{TokenKind}
use Rattle.js_tokens.specs.Words.{is_mark, marks}
use Rattle.js_tokens.specs.Lexes.{Number, Spelled, Reads, Lexes, InOrder, size}
use Rattle.js_tokens.specs.Lexes.Number.{hexadecimal, decimal, point}
use Rattle.js_tokens.specs.Lexes.Spelled.{name, reserved, number, text, mark}
use Rattle.js_tokens.specs.Lexes.Reads.{done, blank, line_comment, comment, token}
use Rattle.js_tokens.proofs.Runs.{Suffix, next, suffix_more, run_suffix}
use Rattle.js_tokens.proofs.Numbers.{fraction_suffix, exponent_suffix}
use Rattle.js_tokens.proofs.Strings.{comment_suffix, inside_suffix}
use Rattle.js_tokens.proofs.Longest.{append_suffix}
use Rattle.js_tokens.proofs.Lies.{size_cons, suffix_size}

-- a character, and an end of the others
record Shorter (cs rest : List ℕ) : Type 0 where
  first : ℕ
  others : List ℕ
  is : cs ≡ first ∷ others
  suffix : Suffix others rest

shorter : {c : ℕ} {cs rest : List ℕ} → Suffix cs rest → Shorter (c ∷ cs) rest
shorter {c} {cs} s = record { first = c; others = cs; is = refl; suffix = s }

mark_shorter : (m cs rest : List ℕ) → is_mark m ≡ true → cs ≡ m ++ rest → Shorter cs rest
unfolding is_mark marks
mark_shorter [] cs rest is e = absurd (false≢true is)
mark_shorter (c ∷ m) cs rest is e = subst (λ l. Shorter l rest) (sym e) (shorter (append_suffix m rest (m ++ rest) refl))

number_shorter : {cs rest : List ℕ} → Number cs rest → Shorter cs rest
number_shorter (hexadecimal a b c r) = shorter (next (next (run_suffix r)))
number_shorter (decimal d r f x) = shorter (suffix_more (run_suffix r) (suffix_more (fraction_suffix f) (exponent_suffix x)))
number_shorter (point e d r x) = shorter (next (suffix_more (run_suffix r) (exponent_suffix x)))

spelled_shorter : {k : TokenKind} {cs rest : List ℕ} → Spelled k cs rest → Shorter cs rest
spelled_shorter (name e r n) = shorter (run_suffix r)
spelled_shorter (reserved e r n) = shorter (run_suffix r)
spelled_shorter (number n) = number_shorter n
spelled_shorter (text q i) = shorter (inside_suffix i)
spelled_shorter {cs = cs} {rest} (mark m is same bare) = mark_shorter m cs rest is same

shorter_size : {cs rest : List ℕ} → Shorter cs rest → size rest < size cs
shorter_size s =
    let a = suffix_size s.suffix in
    let b = size_cons s.first s.others in
    let w = len_utf8_bounds s.first in
    let e = ap size s.is in
    omega (arith, a, b, w.0, e)

-- from a place that is no later than what is left
in_order : (n at : ℕ) (cs : List ℕ) (ts : List Token) → size cs ≤ n → at ≤ n - size cs → Reads n cs ts → InOrder n at ts
in_order n at cs ts le lo done = omega (arith, lo)
in_order n at cs ts le lo (blank {c} {cs = ds} e h) = let s = size_cons c ds in in_order n at ds ts (omega (arith, s, le)) (omega (arith, s, lo, le)) h
in_order n at cs ts le lo (line_comment {a} {b} {cs = ds} {rest} e f r stop h) =
    let s = shorter_size (shorter {c = a} (next {c = b} (run_suffix r))) in
    in_order n at rest ts (omega (arith, s, le)) (omega (arith, s, lo, le)) h
in_order n at cs ts le lo (comment {a} {b} {cs = ds} {rest} e f c h) =
    let s = shorter_size (shorter {c = a} (next {c = b} (comment_suffix c))) in
    in_order n at rest ts (omega (arith, s, le)) (omega (arith, s, lo, le)) h
in_order n at cs ts le lo (token {k} {rest = rest} {ts = us} spelled long apart h) =
    let s = shorter_size (spelled_shorter spelled) in
    (lo, omega (arith, s, le), in_order n (n - size rest) rest us (omega (arith, s, le)) (omega arith) h)

pub tokens_in_order : (bytes : List ℕ) (ts : List Token) → Lexes bytes ts → InOrder (length bytes) 0 ts
tokens_in_order bytes ts l = let e = ap length (encodes-chars bytes (l.0)) in in_order (length bytes) 0 (chars bytes) ts (omega (arith, e)) (omega arith) (l.1)
