-- The scripts of a widget file.
use Rattle.std.proofs.Common.{◌≡◌, ℕ, ◌-◌, ◌<◌, ◌≤◌, ◌^◌, min, max, List, length, take, drop, ap, sym, ◌∙◌, arith, length-drop, length-take}
use Rattle.std.proofs.lemmas.List.{take_min, drop_min}
use Rattle.code_units.specs.declared.place.Place.{Place}
use Rattle.code_units.specs.Places.{line_of, column_of}
use Rattle.widget_form.specs.declared.form.Span.{Span}
use Rattle.code_units.specs.Places.{place_at as place}
use Rattle.code_units.proofs.Within.{line_within, column_within}
use Rattle.slot_check.specs.Sources.{script_text}

-- the text of a script by bounds within its file
pub within_file : (bytes : List ℕ) (from to : ℕ) → take (max (min to (length bytes)) (min from (length bytes)) - min from (length bytes)) (drop (min from (length bytes)) bytes) ≡ take (to - from) (drop from bytes)
within_file bytes from to =
    let count : max (min to (length bytes)) (min from (length bytes)) - min from (length bytes) ≡ min (to - from) (length (drop from bytes)) = omega (arith, length-drop from bytes) in
    ap (λ n. take n (drop (min from (length bytes)) bytes)) count ∙ ap (λ xs. take (min (to - from) (length (drop from bytes))) xs) (drop_min from bytes) ∙ take_min (to - from) (drop from bytes)

-- it is no longer than the file
pub shorter : (bytes : List ℕ) (span : Span) → length (script_text bytes span) ≤ length bytes
shorter bytes span = omega (arith, length-take (span.to - span.from) (drop span.from bytes), length-drop span.from bytes)

-- bytes past the end have the place of the end
same_place : (file : List ℕ) (n k : ℕ) → min n (length file) ≡ min k (length file) → place file n ≡ place file k
same_place file n k same =
    let line : line_of file n ≡ line_of file k = sym (line_within file n) ∙ ap (line_of file) same ∙ line_within file k in
    let column : column_of file n ≡ column_of file k = sym (column_within file n) ∙ ap (column_of file) same ∙ column_within file k in
    let on_line : ℕ → Place = λ l. record { line = l; column = column_of file n } in
    let in_column : ℕ → Place = λ c. record { line = line_of file k; column = c } in
    ap on_line line ∙ ap in_column column

pub place_far : (file : List ℕ) (n k : ℕ) (at : Place) → length file < 2 ^ 31 → k ≡ min n (2 ^ 64 - 1) → at ≡ place file k → at ≡ place file n
place_far file n k at small far is = is ∙ same_place file k n (omega (arith, small, far))
