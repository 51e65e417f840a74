-- Where the tokens of a text lie.
use Rattle.std.proofs.Common.{◌≡◌, ℕ, zero, suc, ◌-◌, ◌+◌, ◌<◌, ◌≤◌, List, [], ◌∷◌, ◌++◌, length, take, drop, true, refl, ap, ◌∙◌, subst, sym, arith, length-append, slice_index_or, encode_utf8, encode_utf8_all}
use Rattle.std.specs.Str.{IsUtf8, chars, all_scalars}
use Rattle.std.specs.Char.{len_utf8}
use Rattle.std.proofs.Math.Utf8.{scalar}
use Rattle.std.specs.Prelude.{nat_eq, ◌||◌, slice_range}
use Rattle.std.proofs.lemmas.Bool.{and_parts, and_from}
use Rattle.std.proofs.lemmas.Bool.Decides.{nat_tests}
use Rattle.std.proofs.lemmas.Str.{encodes-chars, chars-encodes, scalars-chars, encodes-append, length-encode, len_utf8_ascii}
use Rattle.js_tokens.specs.declared.token.Token.{Token}
use Rattle.js_tokens.specs.declared.token.TokenKind.{TokenKind}
use Rattle.js_tokens.specs.declared.token.TokenKind.TheVariants as kind
use Rattle.js_tokens.specs.declared.class.Class.TheVariants as class
use Rattle.js_tokens.specs.Says.{StandsFor, between_quotes}
use Rattle.js_tokens.proofs.Stands.{Stands, value_of, string_front}
use Rattle.js_tokens.specs.Characters.{class_of}
use Rattle.js_tokens.specs.declared.value.Mode.TheVariants as mode
use Rattle.js_tokens.specs.Value.{string_value, text_between, text_of}
use Rattle.js_tokens.specs.Lexes.{size, Spelled, Inside, Reads, IsTokenOf}
use Rattle.js_tokens.specs.Lexes.Spelled.{name, reserved, number, text, mark}
use Rattle.js_tokens.specs.Lexes.Reads.{done, blank, line_comment, comment, token}
use Rattle.js_tokens.proofs.Runs.{Suffix, whole, next, suffix_more, run_suffix}
use Rattle.js_tokens.proofs.Strings.{comment_suffix}
use Rattle.js_tokens.proofs.Longest.{spelled_suffix, at_class}

-- the characters of a token of a text, in which cs are left
pub record Lies (n : ℕ) (cs : List ℕ) (t : Token) : Type 0 where
  pub start : List ℕ
  pub rest : List ℕ
  pub suffix : Suffix cs start
  pub spelled : Spelled t.kind start rest
  pub from_is : t.from ≡ n - size start
  pub to_is : t.to ≡ n - size rest

later : {n : ℕ} {cs ds : List ℕ} {t : Token} → Suffix cs ds → Lies n ds t → Lies n cs t
later s l = record { start = l.start; rest = l.rest; suffix = suffix_more s l.suffix; spelled = l.spelled; from_is = l.from_is; to_is = l.to_is }

lies : (n : ℕ) (cs : List ℕ) (ts : List Token) (t : Token) (k : ℕ) → Reads n cs ts → k < length ts → slice_index_or ts k t ≡ t → Lies n cs t
lies n cs ts t k done lt e = absurd (omega (arith, lt))
lies n cs ts t k (blank {c} {cs = ds} f h) lt e = later (next whole) (lies n ds ts t k h lt e)
lies n cs ts t k (line_comment {a} {b} {cs = ds} {rest} f g r stop h) lt e = later (next (next (run_suffix r))) (lies n rest ts t k h lt e)
lies n cs ts t k (comment {a} {b} {cs = ds} {rest} f g c h) lt e = later (next (next (comment_suffix c))) (lies n rest ts t k h lt e)
lies n cs ts t zero (token {k = kd} {rest = rest} s long apart h) lt e =
    subst (Lies n cs) e (record { start = cs; rest = rest; suffix = whole; spelled = s; from_is = refl; to_is = refl })
lies n cs ts t (suc k) (token {k = kd} {rest = rest} {ts = us} s long apart h) lt e = later (spelled_suffix s) (lies n rest us t k h (omega (arith, lt)) e)

-- the bytes of an end of the characters

pub size_cons : (c : ℕ) (cs : List ℕ) → size (c ∷ cs) ≡ len_utf8 c + size cs
size_cons c cs = length-append (encode_utf8 c) (encode_utf8_all cs) ∙ ap (λ k. k + size cs) (length-encode c)

pub suffix_size : {cs rest : List ℕ} → Suffix cs rest → size rest ≤ size cs
suffix_size whole = omega arith
suffix_size (next {c} {cs} {rest} s) = omega (arith, size_cons c cs, suffix_size s)

drop_past : (xs ys : List ℕ) (n k : ℕ) → n ≡ length xs + k → drop n (xs ++ ys) ≡ drop k ys
drop_past [] ys n k e = ap (λ i. drop i ys) (omega (arith, e))
drop_past (x ∷ xs) ys zero k e = absurd (omega (arith, e))
drop_past (x ∷ xs) ys (suc n) k e = drop_past xs ys n k (omega (arith, e))

suffix_bytes : {cs rest : List ℕ} → Suffix cs rest → drop (size cs - size rest) (encode_utf8_all cs) ≡ encode_utf8_all rest
suffix_bytes {cs} whole = let e : size cs - size cs ≡ 0 = omega arith in ap (λ i. drop i (encode_utf8_all cs)) e
suffix_bytes (next {c} {cs} {rest} s) =
    let a = size_cons c cs in
    let b = suffix_size s in
    let l = length-encode c in
    drop_past (encode_utf8 c) (encode_utf8_all cs) (size (c ∷ cs) - size rest) (size cs - size rest) (omega (arith, a, b, l)) ∙ suffix_bytes s

-- what stands between the quotes of a string

scalars_front : (xs ys : List ℕ) → all_scalars (xs ++ ys) ≡ true → all_scalars xs ≡ true
scalars_front [] ys e = refl
scalars_front (x ∷ xs) ys e = let p = and_parts (scalar x) (all_scalars (xs ++ ys)) e in and_from (scalar x) (all_scalars xs) (p.0) (scalars_front xs ys (p.1))

scalars_suffix : {cs rest : List ℕ} → Suffix cs rest → all_scalars cs ≡ true → all_scalars rest ≡ true
scalars_suffix whole e = e
scalars_suffix (next {c} {cs} s) e = scalars_suffix s (and_parts (scalar c) (all_scalars cs) e).1

quote_ascii : (q : ℕ) → (nat_eq q 34 || nat_eq q 39) ≡ true → q < 128
quote_ascii q e = grind (arith, nat_tests)

take_past : (xs ys : List ℕ) (n : ℕ) → n ≡ length xs → take n (xs ++ ys) ≡ xs
take_past [] ys zero e = refl
take_past [] ys (suc n) e = absurd (omega (arith, e))
take_past (x ∷ xs) ys zero e = absurd (omega (arith, e))
take_past (x ∷ xs) ys (suc n) e = ap (λ l. x ∷ l) (take_past xs ys n (omega (arith, e)))

pub record StringLies (bytes : List ℕ) (t : Token) : Type 0 where
  pub ordered : t.from + 2 ≤ t.to
  pub within : t.to ≤ length bytes
  pub inner : IsUtf8 (take (t.to - 1 - (t.from + 1)) (drop (t.from + 1) bytes))
  pub stands : Stands (chars (take (t.to - 1 - (t.from + 1)) (drop (t.from + 1) bytes)))

string_at : (bytes cs ds rest : List ℕ) (q : ℕ) (t : Token) → encode_utf8_all cs ≡ bytes → all_scalars cs ≡ true → Suffix cs (q ∷ ds) → class_of q ≡ class.Quote → Inside q ds rest → t.from ≡ length bytes - size (q ∷ ds) → t.to ≡ length bytes - size rest → StringLies bytes t
string_at bytes cs ds rest q t spell scalars suffix quote i from_is to_is =
    let p = string_front quote i in
    let pre = p.pre in
    let one : len_utf8 q ≡ 1 = len_utf8_ascii q (quote_ascii q (at_class q class.Quote quote)) in
    let n = ap length spell in
    let at_start = size_cons q ds in
    let at_end = size_cons q rest in
    let whole_size = ap size p.whole ∙ ap length (encodes-append pre (q ∷ rest)) ∙ length-append (encode_utf8_all pre) (encode_utf8_all (q ∷ rest)) in
    let le = suffix_size suffix in
    let behind : Suffix cs ds = suffix_more suffix (next whole) in
    let start : t.from + 1 ≡ size cs - size ds = omega (arith, n, at_start, one, from_is, le) in
    let len : t.to - 1 - (t.from + 1) ≡ length (encode_utf8_all pre) = omega (arith, n, at_start, at_end, one, whole_size, from_is, to_is, le) in
    let bytes_there : drop (t.from + 1) bytes ≡ encode_utf8_all pre ++ encode_utf8_all (q ∷ rest) =
    ap (λ l. drop (t.from + 1) l) (sym spell) ∙ ap (λ k. drop k (encode_utf8_all cs)) start ∙ suffix_bytes behind ∙ ap encode_utf8_all p.whole ∙ encodes-append pre (q ∷ rest) in
    let inner_is : take (t.to - 1 - (t.from + 1)) (drop (t.from + 1) bytes) ≡ encode_utf8_all pre = ap (take (t.to - 1 - (t.from + 1))) bytes_there ∙ take_past (encode_utf8_all pre) (encode_utf8_all (q ∷ rest)) (t.to - 1 - (t.from + 1)) len in
    let good : all_scalars pre ≡ true = scalars_front pre (q ∷ rest) (subst (λ l. all_scalars l ≡ true) p.whole (scalars_suffix behind scalars)) in
    record {
      ordered = omega (arith, n, at_start, at_end, one, whole_size, from_is, to_is, le);
      within = omega (arith, to_is);
      inner = (pre, (good, sym inner_is));
      stands = subst Stands (sym (ap chars inner_is ∙ chars-encodes pre good)) p.stands;
    }

string_spelled : (bytes cs start rest : List ℕ) (k : TokenKind) (t : Token) → k ≡ kind.Str → encode_utf8_all cs ≡ bytes → all_scalars cs ≡ true → Suffix cs start → Spelled k start rest → t.from ≡ length bytes - size start → t.to ≡ length bytes - size rest → StringLies bytes t
string_spelled bytes cs start rest k t is spell scalars suffix (name e r n) from_is to_is = absurd (cc is)
string_spelled bytes cs start rest k t is spell scalars suffix (reserved e r n) from_is to_is = absurd (cc is)
string_spelled bytes cs start rest k t is spell scalars suffix (number n) from_is to_is = absurd (cc is)
string_spelled bytes cs start rest k t is spell scalars suffix (mark m e same bare) from_is to_is = absurd (cc is)
string_spelled bytes cs start rest k t is spell scalars suffix (text {quote = q} {cs = ds} quote i) from_is to_is = string_at bytes cs ds rest q t spell scalars suffix quote i from_is to_is

token_lies : (bytes : List ℕ) (t : Token) → IsTokenOf bytes t → Lies (length bytes) (chars bytes) t
token_lies bytes t h = lies (length bytes) (chars bytes) h.tokens t (h.is_in.0) (h.lexes.1) (h.is_in.1) (h.is_in.2)

pub string_lies : (bytes : List ℕ) (t : Token) → IsTokenOf bytes t → t.kind ≡ kind.Str → StringLies bytes t
string_lies bytes t h is =
    let l = token_lies bytes t h in
    string_spelled bytes (chars bytes) l.start l.rest t.kind t is (encodes-chars bytes (h.lexes.0)) (scalars-chars bytes (h.lexes.0)) l.suffix l.spelled l.from_is l.to_is

-- a token is a stretch of the bytes
pub token_range : (bytes : List ℕ) (t : Token) → IsTokenOf bytes t → (t.from ≤ t.to) × (t.to ≤ length bytes)
token_range bytes t h =
    let l = token_lies bytes t h in
    let a = suffix_size (spelled_suffix l.spelled) in
    let f = l.from_is in
    let g = l.to_is in
    (omega (arith, a, f, g), omega (arith, g))

-- what a token says

pub says_string : (bytes units inner : List ℕ) (t : Token) → t.kind ≡ kind.Str → inner ≡ slice_range bytes (t.from + 1) (t.to - 1) → units ≡ string_value mode.Plain (chars inner) → units ≡ text_of bytes t
unfolding text_of
says_string bytes units inner t is e u = u ∙ ap (λ l. string_value mode.Plain (chars l)) e ∙ sym (ap (λ k. text_between k bytes t.from t.to) is)

other_kind : (bytes : List ℕ) (k : TokenKind) (from to : ℕ) → (k ≡ kind.Str → ⊥) → text_between k bytes from to ≡ slice_range bytes from to
other_kind bytes kind.Name from to is = refl
other_kind bytes kind.Reserved from to is = refl
other_kind bytes kind.Number from to is = refl
other_kind bytes kind.Mark from to is = refl
other_kind bytes kind.Str from to is = absurd (is refl)

pub says_bytes : (bytes units inner : List ℕ) (t : Token) → (t.kind ≡ kind.Str → ⊥) → inner ≡ slice_range bytes t.from t.to → units ≡ inner → units ≡ text_of bytes t
unfolding text_of
says_bytes bytes units inner t is e u = u ∙ e ∙ sym (other_kind bytes t.kind t.from t.to is)

pub said_string : (bytes : List ℕ) (t : Token) → IsTokenOf bytes t → t.kind ≡ kind.Str → StandsFor (between_quotes bytes t) (text_of bytes t)
unfolding text_of
said_string bytes t h is =
    let s = string_lies bytes t h is in
    subst (λ us. StandsFor (between_quotes bytes t) us) (value_of (s.stands.1) ∙ sym (ap (λ k. text_between k bytes t.from t.to) is)) (s.stands.1)
