-- The bytes of a stretch of characters.
use Rattle.std.proofs.Common.{◌≡◌, ℕ, zero, suc, ◌+◌, ◌-◌, ◌<◌, List, [], ◌∷◌, ◌++◌, length, take, drop, true, refl, ap, ◌∙◌, arith, sym, length-append, encode_utf8_all}
use Rattle.std.proofs.lemmas.Bool.Decides.{nat_tests}
use Rattle.std.proofs.lemmas.List.{length-drop}
use Rattle.std.proofs.lemmas.Str.{encodes-chars, encode_ascii}
use Rattle.js_tokens.specs.Characters.{is_part}
use Rattle.js_tokens.specs.Lexes.{Run, front, size}
use Rattle.js_tokens.specs.Lexes.Run.{none, more}
use Rattle.js_tokens.specs.Cursor.{from, IsPlace}

take_front : (pre rest : List ℕ) (n : ℕ) → n ≡ length pre → take n (pre ++ rest) ≡ pre
take_front [] rest zero e = refl
take_front [] rest (suc n) e = absurd (omega (arith, e))
take_front (c ∷ pre) rest zero e = absurd (omega (arith, e))
take_front (c ∷ pre) rest (suc n) e = ap (λ l. c ∷ l) (take_front pre rest n (omega (arith, e)))

part_ascii : (c : ℕ) → is_part c ≡ true → c < 128
part_ascii c e = grind (arith, nat_tests)

pub record Stretch (cs rest : List ℕ) : Type 0 where
  pub bytes : List ℕ
  pub in_chars : cs ≡ bytes ++ rest
  pub in_bytes : encode_utf8_all cs ≡ bytes ++ encode_utf8_all rest

run_bytes : {cs rest : List ℕ} → Run is_part cs rest → Stretch cs rest
run_bytes none = record { bytes = []; in_chars = refl; in_bytes = refl }
run_bytes (more {c} {cs} {rest} e r) =
    let s = run_bytes r in
    record {
      bytes = c ∷ s.bytes;
      in_chars = ap (λ l. c ∷ l) s.in_chars;
      in_bytes = ap (λ l. l ++ encode_utf8_all cs) (encode_ascii c (part_ascii c e)) ∙ ap (λ l. c ∷ l) s.in_bytes;
    }

pub bytes_from : (text : List ℕ) (at : ℕ) → IsPlace text at → encode_utf8_all (from text at) ≡ drop at text
unfolding from
bytes_from text at p = encodes-chars (drop at text) p.spelled

pub size_from : (text : List ℕ) (at : ℕ) → IsPlace text at → size (from text at) + at ≡ length text
size_from text at p = let e = ap length (bytes_from text at p) in let d = length-drop at text in let w = p.within in omega (arith, e, d, w)

-- the characters of a name are its bytes
pub front_bytes : (text : List ℕ) (at end : ℕ) → IsPlace text at → IsPlace text end → Run is_part (from text at) (from text end) → front (from text at) (from text end) ≡ take (end - at) (drop at text)
front_bytes text at end p q r =
    let s = run_bytes r in
    let chars_len = ap length s.in_chars ∙ length-append s.bytes (from text end) in
    let bytes_len = ap length s.in_bytes ∙ length-append s.bytes (encode_utf8_all (from text end)) in
    let a = size_from text at p in
    let b = size_from text end q in
    let whole : drop at text ≡ s.bytes ++ encode_utf8_all (from text end) = sym (bytes_from text at p) ∙ s.in_bytes in
    ap (take (length (from text at) - length (from text end))) s.in_chars
    ∙ take_front s.bytes (from text end) (length (from text at) - length (from text end)) (omega (arith, chars_len))
    ∙ sym (ap (take (end - at)) whole ∙ take_front s.bytes (encode_utf8_all (from text end)) (end - at) (omega (arith, bytes_len, a, b)))

-- the place of what follows
pub place_from : (text : List ℕ) (at : ℕ) → IsPlace text at → length text - size (from text at) ≡ at
place_from text at p = let e = size_from text at p in omega (arith, e)
