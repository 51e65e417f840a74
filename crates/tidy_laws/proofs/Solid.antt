-- Names and numbers stand in printed ASCII characters other than the space.
use Rattle.std.proofs.Common.{◌≡◌, ℕ, List, [], ◌∷◌, Bool, true, refl, ap, ◌∙◌, arith}
use Rattle.std.specs.Prelude.{nat_lt, nat_le, nat_eq, ◌&&◌, ◌||◌}
use Rattle.std.specs.List.{list_all}
use Rattle.std.proofs.lemmas.Bool.{and_parts}
use Rattle.std.proofs.lemmas.Bool.Decides.{nat_tests}
use Rattle.js_tokens.specs.declared.class.Class.TheVariants as class
use Rattle.js_tokens.specs.declared.token.TokenKind.TheVariants as kind
use Rattle.js_tokens.specs.Characters.{is_letter, is_digit, is_hex_digit, is_part}
use Rattle.js_tokens.specs.Lexes.{Run, Fraction, Plus, Exponent, Number, Spelled}
use Rattle.js_tokens.specs.Lexes.Run.{none, more}
use Rattle.js_tokens.specs.Lexes.Fraction.{no_fraction, fraction}
use Rattle.js_tokens.specs.Lexes.Plus.{no_sign, sign}
use Rattle.js_tokens.specs.Lexes.Exponent.{no_exponent, exponent}
use Rattle.js_tokens.specs.Lexes.Number.{hexadecimal, decimal, point}
use Rattle.js_tokens.specs.Lexes.Spelled.{name, number}
use Rattle.js_tokens.proofs.Longest.{at_class}

-- printed, and no space
abbrev pub solid : ℕ → Bool
solid c = nat_le 33 c && nat_le c 126

pub both : (a b : Bool) → a ≡ true → b ≡ true → (a && b) ≡ true
both a b e f = rw (e, f) refl

letter_solid : (c : ℕ) → is_letter c ≡ true → solid c ≡ true
letter_solid c e = grind (arith, nat_tests)

digit_solid : (c : ℕ) → is_digit c ≡ true → solid c ≡ true
digit_solid c e = grind (arith, nat_tests)

hex_solid : (c : ℕ) → is_hex_digit c ≡ true → solid c ≡ true
hex_solid c e = grind (arith, nat_tests)

part_solid : (c : ℕ) → is_part c ≡ true → solid c ≡ true
part_solid c e = grind (arith, nat_tests)

hex_mark_solid : (c : ℕ) → (nat_eq c 120 || nat_eq c 88) ≡ true → solid c ≡ true
hex_mark_solid c e = grind (arith, nat_tests)

exponent_solid : (c : ℕ) → (nat_eq c 101 || nat_eq c 69) ≡ true → solid c ≡ true
exponent_solid c e = grind (arith, nat_tests)

sign_solid : (c : ℕ) → (nat_eq c 43 || nat_eq c 45) ≡ true → solid c ≡ true
sign_solid c e = grind (arith, nat_tests)

solid_is : (c d : ℕ) → c ≡ d → solid d ≡ true → solid c ≡ true
solid_is c d e h = ap solid e ∙ h

run_up : {p q : ℕ → Bool} {cs rest : List ℕ} → ((c : ℕ) → p c ≡ true → q c ≡ true) → Run p cs rest → Run q cs rest
run_up h none = none
run_up h (more {c} e r) = more (h c e) (run_up h r)

run_join : {p : ℕ → Bool} {cs ds rest : List ℕ} → Run p cs ds → Run p ds rest → Run p cs rest
run_join none r = r
run_join (more e q) r = more e (run_join q r)

fraction_runs : {cs rest : List ℕ} → Fraction cs rest → Run solid cs rest
fraction_runs no_fraction = none
fraction_runs (fraction {c} e r) = more (solid_is c 46 e refl) (run_up digit_solid r)

plus_runs : {cs rest : List ℕ} → Plus cs rest → Run solid cs rest
plus_runs no_sign = none
plus_runs (sign {c} e) = more (sign_solid c e) none

exponent_runs : {cs rest : List ℕ} → Exponent cs rest → Run solid cs rest
exponent_runs no_exponent = none
exponent_runs (exponent {c} {d} e s h r) = more (exponent_solid c e) (run_join (plus_runs s) (more (digit_solid d h) (run_up digit_solid r)))

pub number_runs : {cs rest : List ℕ} → Number cs rest → Run solid cs rest
number_runs (hexadecimal {a} {b} {c} e f h r) = more (solid_is a 48 e refl) (more (hex_mark_solid b f) (more (hex_solid c h) (run_up hex_solid r)))
number_runs (decimal {c} e r f x) = more (digit_solid c e) (run_join (run_up digit_solid r) (run_join (fraction_runs f) (exponent_runs x)))
number_runs (point {c} {d} e h r x) = more (solid_is c 46 e refl) (more (digit_solid d h) (run_join (run_up digit_solid r) (exponent_runs x)))

pub run_all : {p : ℕ → Bool} (cs : List ℕ) → Run p cs [] → list_all p cs ≡ true
run_all [] r = refl
run_all {p} (c ∷ cs) (more e r) = both (p c) (list_all p cs) e (run_all cs r)

pub name_solid : {cs : List ℕ} → Spelled kind.Name cs [] → list_all solid cs ≡ true
name_solid (name {c} {cs} e r n) = both (solid c) (list_all solid cs) (letter_solid c (at_class c class.Letter e)) (run_all cs (run_up part_solid r))

pub number_solid : {cs : List ℕ} → Spelled kind.Number cs [] → list_all solid cs ≡ true
number_solid (number {cs} n) = run_all cs (number_runs n)

all_up : (p q : ℕ → Bool) → ((c : ℕ) → p c ≡ true → q c ≡ true) → (cs : List ℕ) → list_all p cs ≡ true → list_all q cs ≡ true
all_up p q h [] e = refl
all_up p q h (c ∷ cs) e = let each = and_parts (p c) (list_all p cs) e in both (q c) (list_all q cs) (h c each.0) (all_up p q h cs each.1)

small_unit : (c : ℕ) → solid c ≡ true → nat_lt c 65536 ≡ true
small_unit c e = grind (arith, nat_tests)

small_ascii : (c : ℕ) → solid c ≡ true → nat_lt c 128 ≡ true
small_ascii c e = grind (arith, nat_tests)

pub solid_units : (cs : List ℕ) → list_all solid cs ≡ true → list_all (λ u. nat_lt u 65536) cs ≡ true
solid_units cs e = all_up solid (λ u. nat_lt u 65536) small_unit cs e

pub solid_ascii : (cs : List ℕ) → list_all solid cs ≡ true → list_all (λ u. nat_lt u 128) cs ≡ true
solid_ascii cs e = all_up solid (λ u. nat_lt u 128) small_ascii cs e
