-- A few digits alone are a number within range.
use Rattle.std.proofs.Common.{◌≡◌, ℕ, ◌^◌, ◌<◌, ◌≤◌, List, [], ◌∷◌, ◌++◌, length, get_or, true, false, ◌&&◌, is_some, refl, sym, ap, ◌∙◌, arith, append-nil, lt-ltb, ne_eqb}
use Rattle.std.specs.Char.{is_ascii_digit}
use Rattle.std.specs.List.{list_all}
use Rattle.std.specs.Str.{all_ascii_digits}
use Rattle.std.specs.Str.Parse.{digits_value}
use Rattle.std.proofs.lemmas.Str.Parse.{IsNumeralModel, digits_value_short, not_in_digits, numerals_by_value, tells_all_ascii_digits}
use Rattle.fast_float.specs.Text.{IsWellFormed, Parts, scan}
use Rattle.fast_float.proofs.Writing.{scan-text_of}
use Rattle.serde_json.specs.Read.{number_of}

-- the two ways to say that all are digits
all_digits : (ds : List ℕ) → list_all is_ascii_digit ds ≡ all_ascii_digits ds
all_digits [] = refl
all_digits (d ∷ ds) = ap (λ b. is_ascii_digit d && b) (all_digits ds)

abbrev digits : List ℕ → Parts
digits ds = record { whole = ds; point = false; fraction = []; exponent_negative = false; exponent = []; len = length (ds ++ []) }

own : IsNumeralModel (λ ds. all_ascii_digits ds ≡ true) (digits_value 10)
own = numerals_by_value (λ ds. all_ascii_digits ds ≡ true) tells_all_ascii_digits

pub few_digits : (ds : List ℕ) → 0 < length ds → length ds ≤ 18 → list_all is_ascii_digit ds ≡ true → is_some (number_of ds) ≡ true
unfolding number_of
few_digits ds some few each =
    let all : all_ascii_digits ds ≡ true = sym (all_digits ds) ∙ each in
    let formed : IsWellFormed (digits ds) = record { whole_digits = own.to ds all; fraction_digits = tt; exponent_digits = tt; no_point = λ _. refl; no_exponent = λ _. refl; len_is = refl } in
    let scanned : scan ds ≡ digits ds = ap scan (sym (append-nil ds)) ∙ scan-text_of (digits ds) formed in
    let plain = not_in_digits own ds 45 all (λ r. omega (arith, r.0)) 0 some in
    let short = digits_value_short own ds 18 all few in
    let fits : digits_value 10 (ds ++ []) < 2 ^ 64 = rw (append-nil ds) (omega (arith, short)) in
    rw (ne_eqb (get_or ds 0 0) 45 plain) (rw scanned (rw (lt-ltb _ _ some, lt-ltb _ _ fits)))
