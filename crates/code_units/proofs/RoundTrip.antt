-- The units of UTF-8 bytes give the bytes back.
use Rattle.std.proofs.Common.{◌≡◌, ℕ, ◌+◌, ◌-◌, ◌/◌, ◌%◌, ◌<◌, ◌≤◌, Bool, true, ◌&&◌, List, [], ◌∷◌, ◌++◌, Some, map, refl, ap, ◌∙◌, arith, IsUtf8, encode_utf8_all, inl, inr}
use Rattle.std.proofs.Common.{◌⊎◌, false}
use Rattle.std.proofs.Math.Utf8.{scalar, scalar_cases}
use Rattle.std.proofs.lemmas.Bool.{cases_lt, false≢true}
use Rattle.std.specs.Str.{chars, all_scalars}
use Rattle.std.specs.Option.{unwrap_or}
use Rattle.std.specs.Char.{IsScalar}
use Rattle.std.specs.Char.Escape.{encode_utf16}
use Rattle.std.specs.Char.Utf16.{utf16_chars, surrogate_pair_char}
use Rattle.std.proofs.str.Utf16.{one_unit, two_units, lone_unit_char_low, lone_unit_char_high}
use Rattle.std.proofs.lemmas.Str.{utf16_chars-nil, utf16_chars_lone, utf16_chars_pair, encodes-chars, scalars-chars}
use Rattle.code_units.specs.Utf8.{units_of, units_of_chars, utf8_of}

and_both : (a b : Bool) → (a && b) ≡ true → (a ≡ true) × (b ≡ true)
and_both true b e = (refl, e)
and_both false b e = absurd (false≢true e)

narrow : (c : ℕ) (us : List ℕ) → c < 0x1_0000 → (c < 0xD800) ⊎ ((0xE000 ≤ c) × (c < 0x11_0000)) → utf16_chars (encode_utf16 c ++ us) ≡ Some c ∷ utf16_chars us
narrow c us small scalar =
    ap (λ xs. utf16_chars (xs ++ us)) (one_unit c small)
    ∙ utf16_chars_lone c us (λ pair. elim scalar as (λ _. ⊥) [ inl low ↦ omega arith | inr high ↦ omega arith ])
    ∙ ap (λ o. o ∷ utf16_chars us) (elim scalar [ inl low ↦ lone_unit_char_low c low | inr high ↦ lone_unit_char_high c high.0 ])

wide : (c : ℕ) (us : List ℕ) → 0x1_0000 ≤ c → c < 0x11_0000 → utf16_chars (encode_utf16 c ++ us) ≡ Some c ∷ utf16_chars us
wide c us large scalar =
    let high = 0xD800 + (c - 0x1_0000) / 0x400 in
    let low = 0xDC00 + (c - 0x1_0000) % 0x400 in
    let whole : surrogate_pair_char high low ≡ c = omega arith in
    ap (λ xs. utf16_chars (xs ++ us)) (two_units c large)
    ∙ utf16_chars_pair high low us (omega arith, omega arith, omega arith, omega arith)
    ∙ ap (λ d. Some d ∷ utf16_chars us) whole

char_back : (c : ℕ) (us : List ℕ) → IsScalar c → utf16_chars (encode_utf16 c ++ us) ≡ Some c ∷ utf16_chars us
char_back c us s =
    let scalar = scalar_cases c s in
    elim (cases_lt c 0x1_0000) [
      | inl small ↦ narrow c us small scalar
      | inr large ↦ wide c us large (elim scalar [ inl low ↦ omega arith | inr high ↦ high.1 ])
    ]

pub chars_back : (cs : List ℕ) → all_scalars cs ≡ true → utf16_chars (units_of_chars cs) ≡ map Some cs
chars_back [] s = utf16_chars-nil
chars_back (c ∷ cs) s =
    let each = and_both (scalar c) (all_scalars cs) s in
    char_back c (units_of_chars cs) each.0 ∙ ap (λ os. Some c ∷ os) (chars_back cs each.1)

lossless : (cs : List ℕ) → map (λ o. unwrap_or o 0xFFFD) (map Some cs) ≡ cs
lossless [] = refl
lossless (c ∷ cs) = ap (λ ds. c ∷ ds) (lossless cs)

pub utf8_of-units_of : (bytes : List ℕ) → IsUtf8 bytes → utf8_of (units_of bytes) ≡ bytes
unfolding units_of utf8_of
utf8_of-units_of bytes u =
    ap (λ os. encode_utf8_all (map (λ o. unwrap_or o 0xFFFD) os)) (chars_back (chars bytes) (scalars-chars bytes u))
    ∙ ap encode_utf8_all (lossless (chars bytes))
    ∙ encodes-chars bytes u
