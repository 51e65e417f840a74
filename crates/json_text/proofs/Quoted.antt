-- What stands in quotes, a code point at a time.
use Rattle.std.proofs.Common.{◌≡◌, ℕ, zero, suc, ◌+◌, ◌-◌, ◌*◌, ◌^◌, ◌<◌, ◌≤◌, Bool, true, false, ◌&&◌, nat_lt, List, [], ◌∷◌, ◌++◌, length, drop, get_or, Some, None, map, if◌then◌else◌, refl, sym, ap, ap₂, ◌∙◌, subst, arith, append_assoc, append-nil, IsUtf8, encode_utf8, encode_utf8_all, ltb-true, inl, inr}
use Rattle.std.specs.Prelude.{nat_le}
use Rattle.std.specs.Option.{unwrap_or}
use Rattle.std.specs.Str.{IsAscii, all_scalars}
use Rattle.std.specs.Char.Escape.{encode_utf16}
use Rattle.std.specs.Char.Utf16.{lone_unit_char, surrogate_pair_char, utf16_lossy_chars}
use Rattle.std.proofs.Math.Utf8.{scalar}
use Rattle.std.proofs.lemmas.Bool.{and_parts, cases_eq, cases_lt}
use Rattle.std.proofs.lemmas.Bool.Decides.{nat_tests}
use Rattle.std.proofs.lemmas.List.Concat.{flat_map-append}
use Rattle.std.proofs.lemmas.Str.{IsUtf8-append, IsUtf8-encode, IsUtf8-nil, encode_ascii, inside_one}
use Rattle.std.proofs.lemmas.Str.Ascii.{IsAscii-cons, IsAscii-nil}
use Rattle.std.proofs.str.Utf16.{lone_unit_char_high, lone_unit_char_low, one_unit, pair_units, utf16_chars-drop_all}
use Rattle.json.specs.Print.{escape, escape_byte}
use Rattle.json.proofs.Printed.Strings.{escape_byte_plain}
use Rattle.json.proofs.Printed.Utf8.{IsUtf8-are_ascii, are_ascii}
use Rattle.code_units.specs.Utf8.{IsSurrogatePair, units_of, utf8_of}
use Rattle.code_units.proofs.LossyChars.{lossy-lone, lossy-pair}
use Rattle.code_units.proofs.UnitsBack.{AreUnits, scalars-lossy}
use Rattle.code_units.proofs.Utf8Laws.{units_of-append, units_of-ascii, units_of-char}
use Rattle.widget_meaning.specs.JsonTexts.{quoted_text}
use Rattle.json_text.specs.Names.{inside}

-- ## Bytes

-- the escapes of the bytes below n are ASCII
abbrev escapes_below : ℕ → Bool
escapes_below zero = true
escapes_below (suc n) = are_ascii (escape_byte n) && escapes_below n

escape_below : (n : ℕ) → escapes_below n ≡ true → (x : ℕ) → x < n → are_ascii (escape_byte x) ≡ true
escape_below zero e x h = absurd (omega arith)
escape_below (suc n) e x h =
    let p = and_parts _ _ e in
    elim (cases_eq x n) [ inl same ↦ rw same p.0 | inr other ↦ escape_below n p.1 x (omega arith) ]

all_ascii : escapes_below 128 ≡ true
unfolding escape_byte
all_ascii = refl

is_ascii : (xs : List ℕ) → are_ascii xs ≡ true → IsAscii xs
is_ascii [] e = IsAscii-nil
is_ascii (x ∷ xs) e = let p = and_parts _ _ e in IsAscii-cons x xs (ltb-true _ _ p.0) (is_ascii xs p.1)

escaped_ascii : (x : ℕ) → x < 128 → are_ascii (escape_byte x) ≡ true
escaped_ascii x small = escape_below 128 all_ascii x small

one_escaped : (c : ℕ) → c < 128 → escape (encode_utf8 c) ≡ escape_byte c
one_escaped c small = ap escape (encode_ascii c small) ∙ append-nil (escape_byte c)

escape_high : (xs : List ℕ) → ((k : ℕ) → k < length xs → 128 ≤ get_or xs k 0) → escape xs ≡ xs
escape_high [] h = refl
escape_high (x ∷ xs) h =
    let high : 128 ≤ x = h 0 (omega arith) in
    ap₂ (λ (a b : List ℕ). a ++ b) (escape_byte_plain x (λ e. omega arith) (λ e. omega arith) (omega arith)) (escape_high xs (λ k below. h (suc k) (omega arith)))

wide_escaped : (c : ℕ) → 128 ≤ c → escape (encode_utf8 c) ≡ encode_utf8 c
wide_escaped c big = escape_high (encode_utf8 c) high
  where
    high : (k : ℕ) → k < length (encode_utf8 c) → 128 ≤ get_or (encode_utf8 c) k 0
    high k below = elim (cases_lt (get_or (encode_utf8 c) k 0) 128) [
      | inl low ↦ absurd (omega (arith, inside_one c [] (encode_utf8 c) k (sym (append-nil _)) below low, low, big))
      | inr h ↦ h
    ]

one_char : (c : ℕ) → scalar c ≡ true → IsUtf8 (escape (encode_utf8 c))
one_char c ok = elim (cases_lt c 128) [
  | inl small ↦ subst IsUtf8 (sym (one_escaped c small)) (IsUtf8-are_ascii (escape_byte c) (escaped_ascii c small))
  | inr big ↦ subst IsUtf8 (sym (wide_escaped c big)) (IsUtf8-encode c ok)
]

all_chars : (cs : List ℕ) → all_scalars cs ≡ true → IsUtf8 (escape (encode_utf8_all cs))
all_chars [] e = IsUtf8-nil
all_chars (c ∷ cs) e =
    let p = and_parts (scalar c) (all_scalars cs) e in
    subst IsUtf8 (sym (flat_map-append escape_byte (encode_utf8 c) (encode_utf8_all cs))) (IsUtf8-append _ _ (one_char c p.0) (all_chars cs p.1))

quote_ascii : IsAscii (34 ∷ [])
quote_ascii = is_ascii (34 ∷ []) refl

-- a text in quotes is what stands inside, between two of them
pub quoted_is : (us : List ℕ) → AreUnits us → quoted_text us ≡ 34 ∷ (inside us ++ 34 ∷ [])
unfolding utf8_of
quoted_is us h =
    let bytes : List ℕ = escape (encode_utf8_all (utf16_lossy_chars us)) in
    units_of-append (34 ∷ []) (bytes ++ 34 ∷ []) (IsUtf8-are_ascii (34 ∷ []) refl)
    ∙ ap (λ l. l ++ units_of (bytes ++ 34 ∷ [])) (units_of-ascii (34 ∷ []) quote_ascii)
    ∙ ap (λ l. 34 ∷ l) (units_of-append bytes (34 ∷ []) (all_chars (utf16_lossy_chars us) (scalars-lossy us h)))
    ∙ ap (λ l. 34 ∷ (units_of bytes ++ l)) (units_of-ascii (34 ∷ []) quote_ascii)

-- ## A code point

ascii_piece : (c : ℕ) → c < 128 → units_of (escape (encode_utf8 c)) ≡ escape_byte c
ascii_piece c small = ap units_of (one_escaped c small) ∙ units_of-ascii (escape_byte c) (is_ascii (escape_byte c) (escaped_ascii c small))

wide_piece : (c : ℕ) → 128 ≤ c → scalar c ≡ true → units_of (escape (encode_utf8 c)) ≡ encode_utf16 c
wide_piece c big ok =
    ap units_of (wide_escaped c big)
    ∙ units_of-char (encode_utf8 c) [] c (IsUtf8-encode c ok) (sym (append-nil (encode_utf8 c)))
    ∙ ap (λ us. encode_utf16 c ++ us) (units_of-ascii [] IsAscii-nil)
    ∙ append-nil (encode_utf16 c)

-- the first code point, and then the others
char_step : (c : ℕ) (us next : List ℕ) → scalar c ≡ true → utf16_lossy_chars us ≡ c ∷ utf16_lossy_chars next → inside us ≡ units_of (escape (encode_utf8 c)) ++ inside next
unfolding utf8_of
char_step c us next ok e =
    ap (λ cs. units_of (escape (encode_utf8_all cs))) e
    ∙ ap units_of (flat_map-append escape_byte (encode_utf8 c) (encode_utf8_all (utf16_lossy_chars next)))
    ∙ units_of-append (escape (encode_utf8 c)) (escape (encode_utf8_all (utf16_lossy_chars next))) (one_char c ok)

pub inside_end : (us : List ℕ) (at : ℕ) → length us ≤ at → inside (drop at us) ≡ []
unfolding utf8_of
inside_end us at past =
    ap (λ os. units_of (escape (encode_utf8_all (map (λ o. unwrap_or o 0xFFFD) os)))) (utf16_chars-drop_all us at past) ∙ units_of-ascii [] IsAscii-nil

-- ## Units

low_scalar : (c : ℕ) → c < 0xD800 → scalar c ≡ true
low_scalar c h = grind (arith, nat_tests)

high_scalar : (c : ℕ) → 0xE000 ≤ c → c < 0x11_0000 → scalar c ≡ true
high_scalar c low high = grind (arith, nat_tests)

-- what is written for a unit that is in no pair
lone_keeps : (P : ℕ → Type 0) (u : ℕ) → P u → P 0xFFFD → P (unwrap_or (lone_unit_char u) 0xFFFD)
lone_keeps P u own other = by (nat_le 0xD800 u && nat_lt u 0xE000)
  where
    by : (b : Bool) → P (unwrap_or (if b then None else Some u) 0xFFFD)
    by true = other
    by false = own

outside : (u : ℕ) → u < 2 ^ 16 → (nat_le 0xD800 u && nat_lt u 0xE000) ≡ false → scalar u ≡ true
outside u h e = grind (arith, nat_tests)

lone_scalar : (u : ℕ) → u < 2 ^ 16 → scalar (unwrap_or (lone_unit_char u) 0xFFFD) ≡ true
lone_scalar u h = by (nat_le 0xD800 u && nat_lt u 0xE000) refl
  where
    by : (b : Bool) → (nat_le 0xD800 u && nat_lt u 0xE000) ≡ b → scalar (unwrap_or (if b then None else Some u) 0xFFFD) ≡ true
    by true e = refl
    by false e = outside u h e

joined : (old new piece rest next : List ℕ) → new ≡ old ++ piece → rest ≡ piece ++ next → new ++ next ≡ old ++ rest
joined old new piece rest next e f = ap (λ l. l ++ next) e ∙ append_assoc old piece next ∙ ap (λ l. old ++ l) (sym f)

module _ (us : List ℕ) (at : ℕ) (old new : List ℕ) where
  pub ascii_step : (u : ℕ) → at < length us → u ≡ get_or us at 0 → u < 128 → new ≡ old ++ escape_byte u → new ++ inside (drop (at + 1) us) ≡ old ++ inside (drop at us)
  ascii_step u within is small e =
      let this : get_or us at 0 < 128 = omega (arith, is, small) in
      let first = lossy-lone us at u within (λ p. omega (arith, p.0, this)) (is ∙ sym (ap (λ o. unwrap_or o 0xFFFD) (lone_unit_char_low (get_or us at 0) (omega (arith, this))))) in
      joined old new (escape_byte u) (inside (drop at us)) (inside (drop (at + 1) us)) e
      (char_step u (drop at us) (drop (at + 1) us) (low_scalar u (omega (arith, small))) first ∙ ap (λ l. l ++ inside (drop (at + 1) us)) (ascii_piece u small))

  pub lone_step : (u c : ℕ) → at < length us → u ≡ get_or us at 0 → u < 2 ^ 16 → 128 ≤ u → ¬ (IsSurrogatePair (get_or us at 0) (get_or us (at + 1) 0)) → c ≡ unwrap_or (lone_unit_char u) 0xFFFD → new ≡ old ++ c ∷ []
      → new ++ inside (drop (at + 1) us) ≡ old ++ inside (drop at us)
  lone_step u c within is fits big apart made e =
      let ok : scalar c ≡ true = subst (λ n. scalar n ≡ true) (sym made) (lone_scalar u fits) in
      let wide : 128 ≤ c = subst (λ n. 128 ≤ n) (sym made) (lone_keeps (λ n. 128 ≤ n) u big (omega arith)) in
      let narrow : c < 0x1_0000 = subst (λ n. n < 0x1_0000) (sym made) (lone_keeps (λ n. n < 0x1_0000) u (omega (arith, fits)) (omega arith)) in
      let first = lossy-lone us at c within apart (made ∙ ap (λ n. unwrap_or (lone_unit_char n) 0xFFFD) is) in
      joined old new (c ∷ []) (inside (drop at us)) (inside (drop (at + 1) us)) e
      (char_step c (drop at us) (drop (at + 1) us) ok first ∙ ap (λ l. l ++ inside (drop (at + 1) us)) (wide_piece c wide ok ∙ one_unit c narrow))

  pub pair_step : (u v : ℕ) → at + 1 < length us → IsSurrogatePair (get_or us at 0) (get_or us (at + 1) 0) → u ≡ get_or us at 0 → v ≡ get_or us (at + 1) 0 → new ≡ old ++ u ∷ v ∷ []
      → new ++ inside (drop (at + 2) us) ≡ old ++ inside (drop at us)
  pair_step u v within pair high low e =
      let code = surrogate_pair_char (get_or us at 0) (get_or us (at + 1) 0) in
      let from : 0xE000 ≤ code = omega (arith, pair.0, pair.1, pair.2, pair.3) in
      let below : code < 0x11_0000 = omega (arith, pair.0, pair.1, pair.2, pair.3) in
      let ok = high_scalar code from below in
      let first = lossy-pair us at code code within pair refl (sym (ap (λ o. unwrap_or o 0xFFFD) (lone_unit_char_high code from))) in
      let grouped : code ≡ 0x1_0000 + ((get_or us at 0 - 0xD800) * 0x400 + (get_or us (at + 1) 0 - 0xDC00)) = omega arith in
      let both : encode_utf16 code ≡ u ∷ v ∷ [] = ap encode_utf16 grouped ∙ pair_units (get_or us at 0) (get_or us (at + 1) 0) pair.0 pair.2 pair.3 ∙ ap₂ (λ (a b : ℕ). a ∷ b ∷ []) (sym high) (sym low) in
      joined old new (u ∷ v ∷ []) (inside (drop at us)) (inside (drop (at + 2) us)) e
      (char_step code (drop at us) (drop (at + 2) us) ok first ∙ ap (λ l. l ++ inside (drop (at + 2) us)) (wide_piece code (omega (arith, from)) ok ∙ both))
