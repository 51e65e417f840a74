-- Each token of the tidied text, before a space or the line feed, is read as itself.
use Rattle.std.proofs.Common.{◌≡◌, ℕ, zero, suc, ◌+◌, ◌-◌, ◌*◌, ◌/◌, ◌%◌, ◌<◌, ◌≤◌, List, [], ◌∷◌, ◌++◌, length, take, drop, Bool, true, false, refl, ap, sym, subst, ◌∙◌, arith, append-nil, append_assoc, encode_utf8_all, inl, inr}
use Rattle.std.specs.Prelude.{if◌then◌else◌, nat_lt, nat_le, nat_eq, ◌&&◌, ◌||◌, slice_range}
use Rattle.std.specs.List.{list_all, flat_map}
use Rattle.std.specs.Str.{IsUtf8, chars, all_scalars}
use Rattle.std.proofs.Math.Utf8.{scalar}
use Rattle.std.proofs.lemmas.Bool.{and_parts, or_cases, eqb-true, cond_both, both_ways, false_from_ne_true}
use Rattle.std.proofs.lemmas.Bool.Decides.{nat_tests}
use Rattle.std.proofs.lemmas.Str.{chars-encodes, encode_ascii}
use Rattle.std.proofs.str.Utf16.{one_unit}
use Rattle.std.specs.Fmt.{digit_glyph}
use Rattle.js_print.specs.Spelling.{hex_unit, unit_bytes, name_bytes, is_escaped, quoted_unit, quoted_units, string_bytes}
use Rattle.js_tokens.specs.declared.token.TokenKind.{TokenKind}
use Rattle.js_tokens.specs.declared.token.TokenKind.TheVariants as kind
use Rattle.js_tokens.specs.declared.class.Class.TheVariants as class
use Rattle.js_tokens.specs.declared.value.Mode.TheVariants as mode
use Rattle.js_tokens.specs.Characters.{class_of, is_letter, is_digit, is_hex_digit, is_line_end, is_part, Begins}
use Rattle.js_tokens.specs.Words.{is_reserved}
use Rattle.js_tokens.specs.Value.{hex_value, string_value, text_between}
use Rattle.js_tokens.specs.Lexes.{front, Run, Fraction, Plus, Exponent, Number, Inside, part_of, Plain, is_escape, Spelled}
use Rattle.js_tokens.specs.Lexes.Run.{none, more}
use Rattle.js_tokens.specs.Lexes.Fraction.{no_fraction, fraction}
use Rattle.js_tokens.specs.Lexes.Plus.{no_sign, sign}
use Rattle.js_tokens.specs.Lexes.Exponent.{no_exponent, exponent}
use Rattle.js_tokens.specs.Lexes.Number.{hexadecimal, decimal, point}
use Rattle.js_tokens.specs.Lexes.Inside.{close, plain, escape}
use Rattle.js_tokens.specs.Lexes.Spelled.{name, number}
use Rattle.js_tokens.specs.Scan as scan
use Rattle.js_tokens.specs.Scan.{after_run, after_number, after_exponent, word_kind, found, found_string}
use Rattle.js_tokens.proofs.Runs.{suffix_once, run_longest, run_once}
use Rattle.js_tokens.proofs.Numbers.{number_sound, point_sound, number_longest, point_longest, point_digit, number_first, number_suffix}
use Rattle.js_tokens.proofs.Strings.{inside_found}
use Rattle.js_tokens.proofs.Longest.{scan_of, scan_at, scan_point, scanned_longest}
use Rattle.js_tokens.proofs.Fronts.{IsToken, Means, found_means}
use Rattle.tidy_laws.proofs.Solid.{solid, both, run_all, number_runs, name_solid, number_solid, solid_ascii}

-- ## ASCII

abbrev pub is_ascii : List ℕ → Bool
is_ascii us = list_all (λ u. nat_lt u 128) us

pub ascii_append : (us vs : List ℕ) → is_ascii us ≡ true → is_ascii vs ≡ true → is_ascii (us ++ vs) ≡ true
ascii_append [] vs e f = f
ascii_append (u ∷ us) vs e f = let each = and_parts (nat_lt u 128) (is_ascii us) e in both (nat_lt u 128) (is_ascii (us ++ vs)) each.0 (ascii_append us vs each.1 f)

less : (u n : ℕ) → nat_lt u n ≡ true → u < n
less u n e = grind (arith, nat_tests)

scalar_small : (c : ℕ) → c < 128 → scalar c ≡ true
scalar_small c h = grind (arith, nat_tests)

scalars_ascii : (us : List ℕ) → is_ascii us ≡ true → all_scalars us ≡ true
scalars_ascii [] e = refl
scalars_ascii (u ∷ us) e = let each = and_parts (nat_lt u 128) (is_ascii us) e in both (scalar u) (all_scalars us) (scalar_small u (less u 128 each.0)) (scalars_ascii us each.1)

pub encodes_ascii : (us : List ℕ) → is_ascii us ≡ true → encode_utf8_all us ≡ us
encodes_ascii [] e = refl
encodes_ascii (u ∷ us) e =
    let each = and_parts (nat_lt u 128) (is_ascii us) e in
    ap (λ l. l ++ encode_utf8_all us) (encode_ascii u (less u 128 each.0)) ∙ ap (λ l. u ∷ l) (encodes_ascii us each.1)

pub chars_ascii : (us : List ℕ) → is_ascii us ≡ true → chars us ≡ us
chars_ascii us e = ap chars (sym (encodes_ascii us e)) ∙ chars-encodes us (scalars_ascii us e)

pub utf8_ascii : (us : List ℕ) → is_ascii us ≡ true → IsUtf8 us
utf8_ascii us e = (us, (scalars_ascii us e, encodes_ascii us e))

-- ## Parts of lists

pub take_length : (w r : List ℕ) (n : ℕ) → n ≡ length w → take n (w ++ r) ≡ w
take_length [] r n e = rw e refl
take_length (c ∷ w) r zero e = absurd (omega (arith, e))
take_length (c ∷ w) r (suc n) e = ap (λ l. c ∷ l) (take_length w r n (omega (arith, e)))

drop_length : (w r : List ℕ) (n : ℕ) → n ≡ length w → drop n (w ++ r) ≡ r
drop_length [] r n e = rw e refl
drop_length (c ∷ w) r zero e = absurd (omega (arith, e))
drop_length (c ∷ w) r (suc n) e = drop_length w r n (omega (arith, e))

length_append : (w r : List ℕ) → length (w ++ r) ≡ length w + length r
length_append [] r = omega arith
length_append (c ∷ w) r = let e = length_append w r in omega (arith, e)

pub front_append : (w r : List ℕ) → front (w ++ r) r ≡ w
front_append w r = take_length w r (length (w ++ r) - length r) (let e = length_append w r in omega (arith, e))

pub slice_middle : (pre w post : List ℕ) (from to : ℕ) → from ≡ length pre → to ≡ length pre + length w → slice_range (pre ++ (w ++ post)) from to ≡ w
slice_middle pre w post from to e f = ap (take (to - from)) (drop_length pre (w ++ post) from e) ∙ take_length w post (to - from) (omega (arith, e, f))

-- ## What follows a token

abbrev pub gap : Bool → ℕ
gap true = 32
gap false = 10

-- a token of this kind stands before each gap, and is of ASCII
pub record IsWord (k : TokenKind) (w : List ℕ) : Type 0 where
  pub token : (g : Bool) (rest : List ℕ) → IsToken k (w ++ gap g ∷ rest) (gap g ∷ rest)
  pub ascii : is_ascii w ≡ true

-- what is found is a token
from_found : (k : TokenKind) (cs rest : List ℕ) → found cs ≡ scan.Token k rest → IsToken k cs rest
from_found k cs rest e = subst (λ f. Means cs f) e (found_means cs)

-- ## Names and reserved words

run_more : {p : ℕ → Bool} (cs r : List ℕ) → list_all p cs ≡ true → Run p (cs ++ r) r
run_more [] r e = none
run_more {p} (c ∷ cs) r e = let each = and_parts (p c) (list_all p cs) e in more each.0 (run_more cs r each.1)

no_part : (g : Bool) (rest : List ℕ) → Begins is_part (gap g ∷ rest) ≡ false
no_part true rest = refl
no_part false rest = refl

letters_found : (c : ℕ) (cs : List ℕ) (g : Bool) (rest : List ℕ) → class_of c ≡ class.Letter → list_all is_part cs ≡ true → found ((c ∷ cs) ++ gap g ∷ rest) ≡ scan.Token (word_kind (is_reserved (c ∷ cs))) (gap g ∷ rest)
letters_found c cs g rest e f =
    let r = gap g ∷ rest in
    let stop : after_run is_part (cs ++ r) ≡ r = run_once (run_more cs r f) (no_part g rest) in
    ap (λ x. scan.found_at x c (cs ++ r)) e
    ∙ ap (λ l. scan.Token (word_kind (is_reserved (front ((c ∷ cs) ++ r) l))) l) stop
    ∙ ap (λ l. scan.Token (word_kind (is_reserved l)) r) (front_append (c ∷ cs) r)

pub letters_word : (c : ℕ) (cs : List ℕ) → class_of c ≡ class.Letter → list_all is_part cs ≡ true → is_ascii (c ∷ cs) ≡ true → IsWord (word_kind (is_reserved (c ∷ cs))) (c ∷ cs)
letters_word c cs e f a = record { token = λ g rest. from_found _ _ _ (letters_found c cs g rest e f); ascii = a }

pub front_whole : (w : List ℕ) → front w [] ≡ w
front_whole w = ap (λ l. front l []) (sym (append-nil w)) ∙ front_append w []

pub name_word : (w : List ℕ) → Spelled kind.Name w [] → IsWord kind.Name w
name_word [] h = elim h [ ]
name_word (c ∷ cs) (name e r n) =
    let free : is_reserved (c ∷ cs) ≡ false = ap is_reserved (sym (front_whole (c ∷ cs))) ∙ n in
    subst (λ b. IsWord (word_kind b) (c ∷ cs)) free (letters_word c cs e (run_all cs r) (solid_ascii (c ∷ cs) (name_solid (name e r n))))

-- ## Numbers

run_before : {p : ℕ → Bool} {cs ds : List ℕ} (r : List ℕ) → Run p cs ds → Run p (cs ++ r) (ds ++ r)
run_before r none = none
run_before r (more e q) = more e (run_before r q)

fraction_before : {cs ds : List ℕ} (r : List ℕ) → Fraction cs ds → Fraction (cs ++ r) (ds ++ r)
fraction_before r no_fraction = no_fraction
fraction_before r (fraction e q) = fraction e (run_before r q)

plus_before : {cs ds : List ℕ} (r : List ℕ) → Plus cs ds → Plus (cs ++ r) (ds ++ r)
plus_before r no_sign = no_sign
plus_before r (sign e) = sign e

exponent_before : {cs ds : List ℕ} (r : List ℕ) → Exponent cs ds → Exponent (cs ++ r) (ds ++ r)
exponent_before r no_exponent = no_exponent
exponent_before r (exponent e s h q) = exponent e (plus_before r s) h (run_before r q)

number_before : {cs ds : List ℕ} (r : List ℕ) → Number cs ds → Number (cs ++ r) (ds ++ r)
number_before r (hexadecimal a b c q) = hexadecimal a b c (run_before r q)
number_before r (decimal d q f x) = decimal d (run_before r q) (fraction_before r f) (exponent_before r x)
number_before r (point e h q x) = point e h (run_before r q) (exponent_before r x)

no_solid : (g : Bool) (rest : List ℕ) → Begins solid (gap g ∷ rest) ≡ false
no_solid true rest = refl
no_solid false rest = refl

-- a number that goes as far as another before a gap, goes as far
same_end : (cs end r : List ℕ) → Number cs end → Number cs r → Begins solid r ≡ false → length end ≤ length r → end ≡ r
same_end cs end r n m stop le =
    let far : length (after_run solid cs) ≤ length end = run_longest (number_runs n) in
    let here : after_run solid cs ≡ r = run_once (number_runs m) stop in
    let lengths : length (after_run solid cs) ≡ length r = ap length here in
    suffix_once (number_suffix n) (number_suffix m) (omega (arith, le, far, lengths))

no_letter : (c : ℕ) → is_digit c ≡ true → is_letter c ≡ false
no_letter c e = grind (arith, nat_tests)

class_digit : (c : ℕ) → is_digit c ≡ true → class_of c ≡ class.Digit
class_digit c e = let no_l = no_letter c e in rw (no_l, e) refl

number_scanned : (c : ℕ) (cs : List ℕ) (g : Bool) (rest : List ℕ) → Number (c ∷ cs) (gap g ∷ rest) → scan_of (c ∷ cs) ≡ scan.Token kind.Number (gap g ∷ rest)
number_scanned c cs g rest n =
    let r = gap g ∷ rest in
    elim (number_first c cs r n) [
      | inl d ↦
          let same : after_number c cs ≡ r = same_end (c ∷ cs) (after_number c cs) r (number_sound c cs d) n (no_solid g rest) (number_longest c cs r d n) in
          ap (λ x. scan_at x c cs) (class_digit c d) ∙ ap (scan.Token kind.Number) same
      | inr p ↦
          let d : Begins is_digit cs ≡ true = point_digit c cs r p n in
          let same : after_exponent (after_run is_digit cs) ≡ r = same_end (c ∷ cs) (after_exponent (after_run is_digit cs)) r (point_sound c cs p d) n (no_solid g rest) (point_longest c cs r p n) in
          ap (λ x. scan_at (class_of x) c cs) p ∙ ap (λ b. scan_point b cs) d ∙ ap (scan.Token kind.Number) same
    ]

number_token : (w : List ℕ) (g : Bool) (rest : List ℕ) → Number w [] → IsToken kind.Number (w ++ gap g ∷ rest) (gap g ∷ rest)
number_token [] g rest n = elim n [ ]
number_token (c ∷ cs) g rest n =
    let m : Number ((c ∷ cs) ++ gap g ∷ rest) (gap g ∷ rest) = number_before (gap g ∷ rest) n in
    record {
      spelled = number m;
      longest = scanned_longest kind.Number _ _ (number_scanned c (cs ++ gap g ∷ rest) g rest m);
      apart = no_part g rest;
    }

pub number_word : (w : List ℕ) → Spelled kind.Number w [] → IsWord kind.Number w
number_word w (number n) = record { token = λ g rest. number_token w g rest n; ascii = solid_ascii w (number_solid (number n)) }

-- ## Strings

-- what a digit of a `\u` escape is
record IsDigit (d : ℕ) : Type 0 where
  hex : is_hex_digit (digit_glyph false d) ≡ true
  part : part_of 34 (digit_glyph false d) ≡ Plain
  value : hex_value (digit_glyph false d) ≡ d
  small : nat_lt (digit_glyph false d) 128 ≡ true

digit : (d : ℕ) → d < 16 → IsDigit d
digit zero h = record { hex = refl; part = refl; value = refl; small = refl }
digit (suc zero) h = record { hex = refl; part = refl; value = refl; small = refl }
digit (suc (suc zero)) h = record { hex = refl; part = refl; value = refl; small = refl }
digit (suc (suc (suc zero))) h = record { hex = refl; part = refl; value = refl; small = refl }
digit (suc (suc (suc (suc zero)))) h = record { hex = refl; part = refl; value = refl; small = refl }
digit (suc (suc (suc (suc (suc zero))))) h = record { hex = refl; part = refl; value = refl; small = refl }
digit (suc (suc (suc (suc (suc (suc zero)))))) h = record { hex = refl; part = refl; value = refl; small = refl }
digit (suc (suc (suc (suc (suc (suc (suc zero))))))) h = record { hex = refl; part = refl; value = refl; small = refl }
digit (suc (suc (suc (suc (suc (suc (suc (suc zero)))))))) h = record { hex = refl; part = refl; value = refl; small = refl }
digit (suc (suc (suc (suc (suc (suc (suc (suc (suc zero))))))))) h = record { hex = refl; part = refl; value = refl; small = refl }
digit (suc (suc (suc (suc (suc (suc (suc (suc (suc (suc zero)))))))))) h = record { hex = refl; part = refl; value = refl; small = refl }
digit (suc (suc (suc (suc (suc (suc (suc (suc (suc (suc (suc zero))))))))))) h = record { hex = refl; part = refl; value = refl; small = refl }
digit (suc (suc (suc (suc (suc (suc (suc (suc (suc (suc (suc (suc zero)))))))))))) h = record { hex = refl; part = refl; value = refl; small = refl }
digit (suc (suc (suc (suc (suc (suc (suc (suc (suc (suc (suc (suc (suc zero))))))))))))) h = record { hex = refl; part = refl; value = refl; small = refl }
digit (suc (suc (suc (suc (suc (suc (suc (suc (suc (suc (suc (suc (suc (suc zero)))))))))))))) h = record { hex = refl; part = refl; value = refl; small = refl }
digit (suc (suc (suc (suc (suc (suc (suc (suc (suc (suc (suc (suc (suc (suc (suc zero))))))))))))))) h = record { hex = refl; part = refl; value = refl; small = refl }
digit (suc (suc (suc (suc (suc (suc (suc (suc (suc (suc (suc (suc (suc (suc (suc (suc d)))))))))))))))) h = absurd (omega (arith, h))

-- a unit that gets a backslash is a quote, a backslash or a slash
escaped_or : (P : ℕ → Type 0) (before u : ℕ) → P 34 → P 92 → P 47 → is_escaped before u ≡ true → P u
escaped_or P before u a b c e =
    elim (or_cases (nat_eq u 34) (nat_eq u 92 || (nat_eq u 47 && nat_eq before 60)) e) [
      | inl f ↦ subst P (sym (eqb-true u 34 f)) a
      | inr f ↦ elim (or_cases (nat_eq u 92) (nat_eq u 47 && nat_eq before 60) f) [ inl g ↦ subst P (sym (eqb-true u 92 g)) b | inr g ↦ subst P (sym (eqb-true u 47 (and_parts (nat_eq u 47) (nat_eq before 60) g).0)) c ]
    ]

-- the digits of a unit
record Digits (u : ℕ) : Type 0 where
  first : IsDigit (u / 4096)
  second : IsDigit (u / 256 % 16)
  third : IsDigit (u / 16 % 16)
  last : IsDigit (u % 16)

digits : (u : ℕ) → u < 65536 → Digits u
digits u h = record { first = digit (u / 4096) (omega (arith, h)); second = digit (u / 256 % 16) (omega arith); third = digit (u / 16 % 16) (omega arith); last = digit (u % 16) (omega arith) }

-- a plain unit of a string
no_quote : (before u : ℕ) → is_escaped before u ≡ false → nat_eq u 34 ≡ false
no_quote before u e = false_from_ne_true (nat_eq u 34) (λ h. both_ways (is_escaped before u) e (rw h refl))

no_backslash : (before u : ℕ) → is_escaped before u ≡ false → nat_eq u 92 ≡ false
no_backslash before u e = let q = no_quote before u e in false_from_ne_true (nat_eq u 92) (λ h. both_ways (is_escaped before u) e (rw (q, h) refl))

no_line : (u : ℕ) → (nat_le 32 u && nat_le u 126) ≡ true → is_line_end u ≡ false
no_line u e = grind (arith, nat_tests)

plain_part : (before u : ℕ) → is_escaped before u ≡ false → (nat_le 32 u && nat_le u 126) ≡ true → part_of 34 u ≡ Plain
plain_part before u e f =
    let a = no_quote before u e in
    let b = no_line u f in
    let c = no_backslash before u e in
    rw (a, b, c) refl

four : (a b c d : ℕ) (later : List ℕ) → is_hex_digit a ≡ true → is_hex_digit b ≡ true → is_hex_digit c ≡ true → is_hex_digit d ≡ true → is_escape (117 ∷ a ∷ b ∷ c ∷ d ∷ later) ≡ true
four a b c d later x y z w = rw (x, y, z, w) refl

unit_inside : (before u : ℕ) (later rest : List ℕ) → u < 65536 → Inside 34 later rest → Inside 34 (quoted_unit before u ++ later) rest
unit_inside before u later rest small i =
    cond_both (is_escaped before u) (92 ∷ u ∷ []) (unit_bytes u) (λ l. Inside 34 (l ++ later) rest)
    (λ e. escape refl (escaped_or (λ x. is_escape (x ∷ later) ≡ true) before u refl refl refl e) i)
    (λ e. cond_both (nat_le 32 u && nat_le u 126) (u ∷ []) (hex_unit u) (λ l. Inside 34 (l ++ later) rest)
    (λ f. plain (plain_part before u e f) i)
    (λ f.
    let d = digits u small in
    escape refl (four (digit_glyph false (u / 4096)) (digit_glyph false (u / 256 % 16)) (digit_glyph false (u / 16 % 16)) (digit_glyph false (u % 16)) later d.first.hex d.second.hex d.third.hex d.last.hex) (plain d.first.part (plain d.second.part (plain d.third.part (plain d.last.part i))))))

abbrev pub are_units : List ℕ → Bool
are_units us = list_all (λ u. nat_lt u 65536) us

inside : (before : ℕ) (us later rest : List ℕ) → are_units us ≡ true → Inside 34 later rest → Inside 34 (quoted_units before us ++ later) rest
inside before [] later rest e i = i
inside before (u ∷ us) later rest e i =
    let each = and_parts (nat_lt u 65536) (are_units us) e in
    subst (λ l. Inside 34 l rest) (sym (append_assoc (quoted_unit before u) (quoted_units u us) later)) (unit_inside before u (quoted_units u us ++ later) rest (less u 65536 each.0) (inside u us later rest each.1 i))

-- what the characters of a unit say
number_of : (u a b c d : ℕ) → u < 65536 → a ≡ u / 4096 → b ≡ u / 256 % 16 → c ≡ u / 16 % 16 → d ≡ u % 16 → 16 * (16 * (16 * (16 * 0 + a) + b) + c) + d ≡ u
number_of u a b c d small e f g h = omega (arith, small, e, f, g, h)

unit_says : (before u : ℕ) (later : List ℕ) → u < 65536 → string_value mode.Plain (quoted_unit before u ++ later) ≡ u ∷ string_value mode.Plain later
unit_says before u later small =
    cond_both (is_escaped before u) (92 ∷ u ∷ []) (unit_bytes u) (λ l. string_value mode.Plain (l ++ later) ≡ u ∷ string_value mode.Plain later)
    (λ e. escaped_or (λ x. string_value mode.Plain (92 ∷ x ∷ later) ≡ x ∷ string_value mode.Plain later) before u refl refl refl e)
    (λ e. cond_both (nat_le 32 u && nat_le u 126) (u ∷ []) (hex_unit u) (λ l. string_value mode.Plain (l ++ later) ≡ u ∷ string_value mode.Plain later)
    (λ f. let b = no_backslash before u e in rw b (ap (λ l. l ++ string_value mode.Plain later) (one_unit u (omega (arith, small)))))
    (λ f.
    let d = digits u small in
    ap (λ x. x ∷ string_value mode.Plain later) (number_of u _ _ _ _ small d.first.value d.second.value d.third.value d.last.value)))

says : (before : ℕ) (us later : List ℕ) → are_units us ≡ true → string_value mode.Plain (quoted_units before us ++ later) ≡ us ++ string_value mode.Plain later
says before [] later e = refl
says before (u ∷ us) later e =
    let each = and_parts (nat_lt u 65536) (are_units us) e in
    ap (string_value mode.Plain) (append_assoc (quoted_unit before u) (quoted_units u us) later)
    ∙ unit_says before u (quoted_units u us ++ later) (less u 65536 each.0)
    ∙ ap (λ l. u ∷ l) (says u us later each.1)

small_plain : (u : ℕ) → (nat_le 32 u && nat_le u 126) ≡ true → nat_lt u 128 ≡ true
small_plain u e = grind (arith, nat_tests)

unit_ascii : (before u : ℕ) → u < 65536 → is_ascii (quoted_unit before u) ≡ true
unit_ascii before u small =
    cond_both (is_escaped before u) (92 ∷ u ∷ []) (unit_bytes u) (λ l. is_ascii l ≡ true)
    (λ e. escaped_or (λ x. is_ascii (92 ∷ x ∷ []) ≡ true) before u refl refl refl e)
    (λ e. cond_both (nat_le 32 u && nat_le u 126) (u ∷ []) (hex_unit u) (λ l. is_ascii l ≡ true)
    (λ f. both (nat_lt u 128) true (small_plain u f) refl)
    (λ f.
    let d = digits u small in
    let a = d.first.small in
    let b = d.second.small in
    let c = d.third.small in
    let z = d.last.small in
    rw (a, b, c, z) refl))

units_ascii : (before : ℕ) (us : List ℕ) → are_units us ≡ true → is_ascii (quoted_units before us) ≡ true
units_ascii before [] e = refl
units_ascii before (u ∷ us) e =
    let each = and_parts (nat_lt u 65536) (are_units us) e in
    ascii_append (quoted_unit before u) (quoted_units u us) (unit_ascii before u (less u 65536 each.0)) (units_ascii u us each.1)

string_found : (cs rest : List ℕ) → Inside 34 cs rest → found (34 ∷ cs) ≡ scan.Token kind.Str rest
string_found cs rest i = let f = inside_found i in λ j. found_string (34 ∷ cs) (f.0 j) (f.1 j)

pub string_word : (us : List ℕ) → are_units us ≡ true → IsWord kind.Str (string_bytes us)
unfolding string_bytes
string_word us e = record {
  token = λ g rest.
      let r = gap g ∷ rest in
      from_found kind.Str (34 ∷ ((quoted_units 0 us ++ 34 ∷ []) ++ r)) r
      (string_found ((quoted_units 0 us ++ 34 ∷ []) ++ r) r (subst (λ l. Inside 34 l r) (sym (append_assoc (quoted_units 0 us) (34 ∷ []) r)) (inside 0 us (34 ∷ r) r e (close refl))));
  ascii = ascii_append (quoted_units 0 us) (34 ∷ []) (units_ascii 0 us e) refl;
}

-- between its quotes
pub string_text : (us pre post : List ℕ) → are_units us ≡ true → text_between kind.Str (pre ++ (string_bytes us ++ post)) (length pre) (length pre + length (string_bytes us)) ≡ us
unfolding string_bytes
string_text us pre post e =
    let q = quoted_units 0 us in
    let apart : pre ++ (34 ∷ ((q ++ 34 ∷ []) ++ post)) ≡ (pre ++ 34 ∷ []) ++ (q ++ (34 ∷ post)) = ap (λ l. pre ++ (34 ∷ l)) (append_assoc q (34 ∷ []) post) ∙ sym (append_assoc pre (34 ∷ []) (q ++ 34 ∷ post)) in
    let a = length_append pre (34 ∷ []) in
    let b = length_append q (34 ∷ []) in
    ap (λ l. string_value mode.Plain (chars (slice_range l (length pre + 1) (length pre + length (34 ∷ (q ++ 34 ∷ [])) - 1)))) apart
    ∙ ap (λ l. string_value mode.Plain (chars l)) (slice_middle (pre ++ 34 ∷ []) q (34 ∷ post) (length pre + 1) (length pre + length (34 ∷ (q ++ 34 ∷ [])) - 1) (omega (arith, a)) (omega (arith, a, b)))
    ∙ ap (string_value mode.Plain) (chars_ascii q (units_ascii 0 us e) ∙ sym (append-nil q))
    ∙ says 0 us [] e
    ∙ append-nil us

-- ## Names as they are

solid_bytes : (us : List ℕ) → list_all solid us ≡ true → name_bytes us ≡ us
unfolding name_bytes
solid_bytes [] e = refl
solid_bytes (u ∷ us) e =
    let each = and_parts (solid u) (list_all solid us) e in
    let plain_unit : (nat_le 32 u && nat_le u 126) ≡ true = printed u each.0 in
    ap (λ b. (if b then u ∷ [] else hex_unit u) ++ flat_map unit_bytes us) plain_unit ∙ ap (λ l. u ∷ l) (solid_bytes us each.1)
  where
    printed : (c : ℕ) → solid c ≡ true → (nat_le 32 c && nat_le c 126) ≡ true
    printed c h = grind (arith, nat_tests)

pub name_stands : (us : List ℕ) → Spelled kind.Name us [] → name_bytes us ≡ us
name_stands us n = solid_bytes us (name_solid n)

pub number_stands : (us : List ℕ) → Spelled kind.Number us [] → name_bytes us ≡ us
number_stands us n = solid_bytes us (number_solid n)

-- ## Marks

pub mark_word : (w : List ℕ) → ((rest : List ℕ) → found (w ++ 32 ∷ rest) ≡ scan.Token kind.Mark (32 ∷ rest)) → ((rest : List ℕ) → found (w ++ 10 ∷ rest) ≡ scan.Token kind.Mark (10 ∷ rest)) → is_ascii w ≡ true → IsWord kind.Mark w
mark_word w space line a = record { token = λ g rest. from_found kind.Mark (w ++ gap g ∷ rest) (gap g ∷ rest) (at g rest); ascii = a }
  where
    at : (g : Bool) (rest : List ℕ) → found (w ++ gap g ∷ rest) ≡ scan.Token kind.Mark (gap g ∷ rest)
    at true rest = space rest
    at false rest = line rest
