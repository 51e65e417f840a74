-- A step over one character.
use Rattle.std.proofs.Common.{◌≡◌, ℕ, suc, ◌+◌, ◌<◌, List, [], ◌∷◌, ◌++◌, length, drop, get_or, refl, ap, ◌∙◌, arith, subst, sym, drop-cons, encode_utf8}
use Rattle.std.specs.Str.{IsUtf8, chars, IsCharBoundary}
use Rattle.std.specs.Char.{len_utf8}
use Rattle.std.proofs.lemmas.Str.{drop_past_char, IsUtf8-past_char, chars_past_char, IsCharBoundary-past_char, IsCharBoundary-from_drop, chars-nil, encode_ascii, len_utf8_ascii, len_utf8_bounds}
use Rattle.js_tokens.specs.Cursor.{from, IsPlace, IsNext}

pub boundary : (text : List ℕ) (at : ℕ) → IsPlace text at → IsCharBoundary text at
boundary text at p = IsCharBoundary-from_drop text at p.within p.spelled

pub past : (text rest : List ℕ) (at c : ℕ) → IsPlace text at → drop at text ≡ encode_utf8 c ++ rest → IsNext text at c (at + len_utf8 c)
unfolding from
past text rest at c p e =
    let tail : drop (at + len_utf8 c) text ≡ rest = drop_past_char text rest at c e in
    let utf8 : IsUtf8 rest = IsUtf8-past_char (drop at text) rest c p.spelled e in
    let bound = IsCharBoundary-past_char text rest at c p.within p.spelled e in
    let wide = len_utf8_bounds c in
    record {
      here = chars_past_char (drop at text) rest c p.spelled e ∙ ap (λ l. c ∷ chars l) (sym tail);
      later = omega (arith, wide.0);
      place = record { within = bound.0; spelled = subst IsUtf8 (sym tail) utf8 };
    }

pub past_ascii : (text : List ℕ) (at : ℕ) → IsPlace text at → at < length text → get_or text at 0 < 128 → IsNext text at (get_or text at 0) (at + 1)
past_ascii text at p lt ascii =
    let b = get_or text at 0 in
    let one : len_utf8 b ≡ 1 = len_utf8_ascii b ascii in
    let e : drop at text ≡ encode_utf8 b ++ drop (suc at) text = drop-cons text at 0 lt ∙ ap (λ l. l ++ drop (suc at) text) (sym (encode_ascii b ascii)) in
    subst (λ n. IsNext text at b (at + n)) one (past text (drop (suc at) text) at b p e)

nothing : (cs : List ℕ) → length cs ≡ 0 → cs ≡ []
nothing [] e = refl
nothing (c ∷ cs) e = absurd (omega (arith, e))

pub none_left : (text : List ℕ) (at : ℕ) → length (drop at text) ≡ 0 → from text at ≡ []
unfolding from
none_left text at e = ap chars (nothing (drop at text) e) ∙ chars-nil
