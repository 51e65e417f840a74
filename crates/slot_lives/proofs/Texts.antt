-- Texts, their characters, and these as they are printed.
use Rattle.std.proofs.Common.{◌≡◌, ℕ, zero, suc, ◌+◌, ◌-◌, ◌/◌, ◌%◌, ◌<◌, ◌≤◌, Bool, true, false, cond, nat_lt, nat_eq, List, [], ◌∷◌, ◌++◌, Some, map, refl, sym, ap, ◌∙◌, arith, lt-ltb, ltb-true, append-nil, encode_utf8_all, inl, inr}
use Rattle.std.specs.Prelude.{not, codes}
use Rattle.std.specs.List.{list_all, flat_map}
use Rattle.std.specs.Option.{unwrap_or}
use Rattle.std.specs.Str.{all_scalars}
use Rattle.std.specs.Char.Escape.{encode_utf16}
use Rattle.std.specs.Char.Utf16.{utf16_lossy_chars, has_unpaired_surrogate}
use Rattle.std.proofs.lemmas.Bool.{cases_lt}
use Rattle.std.proofs.lemmas.Bool.Decides.{nat_tests}
use Rattle.std.proofs.lemmas.List.Concat.{flat_map-append}
use Rattle.std.proofs.lemmas.Str.{encode_ascii}
use Rattle.std.proofs.str.Utf16.{one_unit, two_units}
use Rattle.std.proofs.Math.Utf8.{scalar}
use Rattle.code_units.specs.Utf8.{units_of_chars, utf8_of}
use Rattle.code_units.proofs.Signs.{and_both}
use Rattle.code_units.proofs.RoundTrip.{chars_back}
use Rattle.code_units.proofs.UnitsBack.{AreUnits, scalars-lossy, units_back}
use Rattle.code_units.proofs.Utf8Laws.{units_of_chars-append}
use Rattle.plain_tree.specs.Print.{escape, escape_in_value}
use Rattle.slot_lives.specs.Reading.{is_text}
use Rattle.slot_lives.proofs.Signs.{both}

-- ## ASCII

abbrev pub is_ascii : List ℕ → Bool
is_ascii us = list_all (λ u. nat_lt u 128) us

pub ascii_from : (test : ℕ → Bool) → ((c : ℕ) → test c ≡ true → nat_lt c 128 ≡ true) → (us : List ℕ) → list_all test us ≡ true → is_ascii us ≡ true
ascii_from test h [] e = refl
ascii_from test h (u ∷ us) e = let each = and_both (test u) (list_all test us) e in both (h u each.0) (ascii_from test h us each.1)

scalar_small : (c : ℕ) → c < 128 → scalar c ≡ true
scalar_small c h = grind (arith, nat_tests)

pub scalars_ascii : (us : List ℕ) → is_ascii us ≡ true → all_scalars us ≡ true
scalars_ascii [] e = refl
scalars_ascii (u ∷ us) e = let each = and_both (nat_lt u 128) (is_ascii us) e in both (scalar_small u (ltb-true u 128 each.0)) (scalars_ascii us each.1)

pub scalars_append : (cs ds : List ℕ) → all_scalars cs ≡ true → all_scalars ds ≡ true → all_scalars (cs ++ ds) ≡ true
scalars_append [] ds e f = f
scalars_append (c ∷ cs) ds e f = let each = and_both (scalar c) (all_scalars cs) e in both (each.0) (scalars_append cs ds each.1 f)

pub encodes_ascii : (us rest : List ℕ) → is_ascii us ≡ true → encode_utf8_all (us ++ rest) ≡ us ++ encode_utf8_all rest
encodes_ascii [] rest e = refl
encodes_ascii (u ∷ us) rest e =
    let each = and_both (nat_lt u 128) (is_ascii us) e in
    ap (λ l. l ++ encode_utf8_all (us ++ rest)) (encode_ascii u (ltb-true u 128 each.0)) ∙ ap (λ l. u ∷ l) (encodes_ascii us rest each.1)

units_ascii : (us : List ℕ) → is_ascii us ≡ true → units_of_chars us ≡ us
units_ascii [] e = refl
units_ascii (u ∷ us) e =
    let each = and_both (nat_lt u 128) (is_ascii us) e in
    let small = ltb-true u 128 each.0 in
    λ j. one_unit u (omega (arith, small)) j ++ units_ascii us each.1 j

-- ## Units and characters

lossless : (cs : List ℕ) → map (λ o. unwrap_or o 0xFFFD) (map Some cs) ≡ cs
lossless [] = refl
lossless (c ∷ cs) = ap (λ ds. c ∷ ds) (lossless cs)

pub lossy_units : (cs : List ℕ) → all_scalars cs ≡ true → utf16_lossy_chars (units_of_chars cs) ≡ cs
lossy_units cs s = ap (map (λ o. unwrap_or o 0xFFFD)) (chars_back cs s) ∙ lossless cs

pub utf8_ascii : (us : List ℕ) → is_ascii us ≡ true → utf8_of us ≡ us
unfolding utf8_of
utf8_ascii us e =
    ap (λ l. encode_utf8_all (utf16_lossy_chars l)) (sym (units_ascii us e))
    ∙ ap encode_utf8_all (lossy_units us (scalars_ascii us e) ∙ sym (append-nil us))
    ∙ encodes_ascii us [] e
    ∙ append-nil us

-- 16-bit units without a lone surrogate
pub record IsText (us : List ℕ) : Type 0 where
  pub units : AreUnits us
  pub paired : has_unpaired_surrogate us ≡ false

units_from : (us : List ℕ) → list_all (λ u. nat_lt u 65536) us ≡ true → AreUnits us
units_from [] e i = omega arith
units_from (u ∷ us) e zero = ltb-true u 65536 (and_both (nat_lt u 65536) (list_all (λ v. nat_lt v 65536) us) e).0
units_from (u ∷ us) e (suc i) = units_from us (and_both (nat_lt u 65536) (list_all (λ v. nat_lt v 65536) us) e).1 i

pub not_true : (b : Bool) → not b ≡ true → b ≡ false
not_true true e = cc
not_true false e = refl

pub text_is : (us : List ℕ) → is_text us ≡ true → IsText us
text_is us e =
    let each = and_both (list_all (λ u. nat_lt u 65536) us) (not (has_unpaired_surrogate us)) e in
    record { units = units_from us each.0; paired = not_true (has_unpaired_surrogate us) each.1 }

pub text_back : (us : List ℕ) → IsText us → units_of_chars (utf16_lossy_chars us) ≡ us
text_back us t = units_back us t.units t.paired

pub text_scalars : (us : List ℕ) → IsText us → all_scalars (utf16_lossy_chars us) ≡ true
text_scalars us t = scalars-lossy us t.units

-- ## Characters as they are printed

-- a character is written as itself, or, if it is ASCII, as a word of ASCII
pub record Escapes (e : ℕ → List ℕ) : Type 0 where
  pub wide : (c : ℕ) → 128 ≤ c → e c ≡ c ∷ []
  pub narrow : (c : ℕ) → c < 128 → is_ascii (e c) ≡ true

either_ascii : (b : Bool) (us vs : List ℕ) → is_ascii us ≡ true → is_ascii vs ≡ true → is_ascii (cond b us vs) ≡ true
either_ascii true us vs e f = e
either_ascii false us vs e f = f

one_ascii : (c : ℕ) → c < 128 → is_ascii (c ∷ []) ≡ true
one_ascii c h = both (lt-ltb c 128 h) refl

escape_wide : (c : ℕ) → 128 ≤ c → escape c ≡ c ∷ []
escape_wide c h = grind (arith, nat_tests)

escape_narrow : (c : ℕ) → c < 128 → is_ascii (escape c) ≡ true
escape_narrow c h =
    either_ascii (nat_eq c 38) (codes "&amp;") (cond (nat_eq c 60) (codes "&lt;") (cond (nat_eq c 62) (codes "&gt;") (c ∷ []))) refl
    (either_ascii (nat_eq c 60) (codes "&lt;") (cond (nat_eq c 62) (codes "&gt;") (c ∷ [])) refl
    (either_ascii (nat_eq c 62) (codes "&gt;") (c ∷ []) refl (one_ascii c h)))

pub text_escapes : Escapes escape
text_escapes = record { wide = escape_wide; narrow = escape_narrow }

value_wide : (c : ℕ) → 128 ≤ c → escape_in_value c ≡ c ∷ []
value_wide c h = grind (arith, nat_tests)

pub value_escapes : Escapes escape_in_value
value_escapes = record { wide = value_wide; narrow = λ c h. either_ascii (nat_eq c 34) (codes "&quot;") (escape c) refl (escape_narrow c h) }

-- the units of a character, written one by one, are those of the character as it is written
one_char : (e : ℕ → List ℕ) → Escapes e → (c : ℕ) → flat_map e (encode_utf16 c) ≡ units_of_chars (e c)
one_char e esc c = elim (cases_lt c 128) [
  | inl small ↦ ap (flat_map e) (one_unit c (omega (arith, small))) ∙ append-nil (e c) ∙ sym (units_ascii (e c) (esc.narrow c small))
  | inr large ↦ same large ∙ sym (append-nil (encode_utf16 c)) ∙ ap units_of_chars (sym (esc.wide c large))
]
  where
    two : 0x1_0000 ≤ c → flat_map e (encode_utf16 c) ≡ encode_utf16 c
    two h =
        let high = 0xD800 + (c - 0x1_0000) / 0x400 in
        let low = 0xDC00 + (c - 0x1_0000) % 0x400 in
        ap (flat_map e) (two_units c h) ∙ (λ j. esc.wide high (omega arith) j ++ (esc.wide low (omega arith) j ++ [])) ∙ sym (two_units c h)

    same : 128 ≤ c → flat_map e (encode_utf16 c) ≡ encode_utf16 c
    same large = elim (cases_lt c 0x1_0000) [
      | inl small ↦ ap (flat_map e) (one_unit c small) ∙ append-nil (e c) ∙ esc.wide c large ∙ sym (one_unit c small)
      | inr h ↦ two h
    ]

written_units : (e : ℕ → List ℕ) → Escapes e → (cs : List ℕ) → flat_map e (units_of_chars cs) ≡ units_of_chars (flat_map e cs)
written_units e esc [] = refl
written_units e esc (c ∷ cs) =
    flat_map-append e (encode_utf16 c) (units_of_chars cs)
    ∙ (λ j. one_char e esc c j ++ written_units e esc cs j)
    ∙ sym (units_of_chars-append (e c) (flat_map e cs))

one_scalars : (e : ℕ → List ℕ) → Escapes e → (c : ℕ) → scalar c ≡ true → all_scalars (e c) ≡ true
one_scalars e esc c s = elim (cases_lt c 128) [
  | inl small ↦ scalars_ascii (e c) (esc.narrow c small)
  | inr large ↦ ap all_scalars (esc.wide c large) ∙ both s refl
]

pub written_scalars : (e : ℕ → List ℕ) → Escapes e → (cs : List ℕ) → all_scalars cs ≡ true → all_scalars (flat_map e cs) ≡ true
written_scalars e esc [] s = refl
written_scalars e esc (c ∷ cs) s =
    let each = and_both (scalar c) (all_scalars cs) s in
    scalars_append (e c) (flat_map e cs) (one_scalars e esc c each.0) (written_scalars e esc cs each.1)

-- the bytes of a text as it is written are those of its characters as they are written
pub written_text : (e : ℕ → List ℕ) → Escapes e → (us : List ℕ) → IsText us → utf8_of (flat_map e us) ≡ encode_utf8_all (flat_map e (utf16_lossy_chars us))
unfolding utf8_of
written_text e esc us t =
    let cs = utf16_lossy_chars us in
    ap (λ l. encode_utf8_all (utf16_lossy_chars (flat_map e l))) (sym (text_back us t))
    ∙ ap (λ l. encode_utf8_all (utf16_lossy_chars l)) (written_units e esc cs)
    ∙ ap encode_utf8_all (lossy_units (flat_map e cs) (written_scalars e esc cs (text_scalars us t)))
