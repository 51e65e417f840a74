-- The first code point of the units from a place on, U+FFFD for a lone surrogate.
use Rattle.std.proofs.Common.{◌≡◌, ℕ, ◌+◌, ◌<◌, ◌≤◌, List, [], ◌∷◌, ◌++◌, length, drop, get_or, Option, ap, ◌∙◌, sym, refl, map, append_assoc, encode_utf8, encode_utf8_all, arith, append-nil}
use Rattle.std.specs.Option.{unwrap_or}
use Rattle.std.specs.Char.Utf16.{utf16_lossy_chars, lone_unit_char, surrogate_pair_char}
use Rattle.std.proofs.str.Utf16.{utf16_chars-drop_lone, utf16_chars-drop_pair, utf16_chars-drop_all, lone_unit_char_high}
use Rattle.std.specs.Char.{len_utf8}
use Rattle.std.proofs.lemmas.List.{length-append}
use Rattle.std.proofs.lemmas.Str.{length-encode}
use Rattle.code_units.specs.Utf8.{utf8_of, IsSurrogatePair}

abbrev lossy : List (Option ℕ) → List ℕ
lossy os = map (λ o. unwrap_or o 0xFFFD) os

pub lossy-lone : (us : List ℕ) (at c : ℕ) → at < length us → ¬ (IsSurrogatePair (get_or us at 0) (get_or us (at + 1) 0)) → c ≡ unwrap_or (lone_unit_char (get_or us at 0)) 0xFFFD → utf16_lossy_chars (drop at us) ≡ c ∷ utf16_lossy_chars (drop (at + 1) us)
lossy-lone us at c within apart e = ap lossy (utf16_chars-drop_lone us at within apart) ∙ ap (λ d. d ∷ utf16_lossy_chars (drop (at + 1) us)) (sym e)

pub lossy-pair : (us : List ℕ) (at code c : ℕ) → at + 1 < length us → IsSurrogatePair (get_or us at 0) (get_or us (at + 1) 0) → code ≡ surrogate_pair_char (get_or us at 0) (get_or us (at + 1) 0) → c ≡ unwrap_or (lone_unit_char code) 0xFFFD → utf16_lossy_chars (drop at us) ≡ c ∷ utf16_lossy_chars (drop (at + 2) us)
lossy-pair us at code c within pair made e =
    let alone : c ≡ code = e ∙ ap (λ o. unwrap_or o 0xFFFD) (lone_unit_char_high code (omega arith)) in
    ap lossy (utf16_chars-drop_pair us at within pair) ∙ ap (λ d. d ∷ utf16_lossy_chars (drop (at + 2) us)) (sym (alone ∙ made))

-- the bytes so far, with those of the units that are left, are those of all the units
pub utf8_of-step : (before after rest next all : List ℕ) (c : ℕ) → before ++ utf8_of rest ≡ all → after ≡ before ++ encode_utf8 c → utf16_lossy_chars rest ≡ c ∷ utf16_lossy_chars next → after ++ utf8_of next ≡ all
unfolding utf8_of
utf8_of-step before after rest next all c e f g = rw (f, append_assoc) (rw (ap encode_utf8_all g) at e)

pub utf8_of-end : (before us all : List ℕ) (at : ℕ) → length us ≤ at → before ++ utf8_of (drop at us) ≡ all → before ≡ all
unfolding utf8_of
utf8_of-end before us all at past e = sym (append-nil before) ∙ rw (ap lossy (utf16_chars-drop_all us at past)) at e

-- a code point takes its own bytes
pub utf8_of-len : (rest next : List ℕ) (c : ℕ) → utf16_lossy_chars rest ≡ c ∷ utf16_lossy_chars next → len_utf8 c + length (utf8_of next) ≡ length (utf8_of rest)
unfolding utf8_of
utf8_of-len rest next c e =
    sym (ap (λ cs. length (encode_utf8_all cs)) e
    ∙ length-append (encode_utf8 c) (encode_utf8_all (utf16_lossy_chars next))
    ∙ ap (λ n. n + length (encode_utf8_all (utf16_lossy_chars next))) (length-encode c))

pub utf8_of-none : (us : List ℕ) (at : ℕ) → length us ≤ at → length (utf8_of (drop at us)) ≡ 0
utf8_of-none us at past = sym (ap length (utf8_of-end [] us (utf8_of (drop at us)) at past refl))
