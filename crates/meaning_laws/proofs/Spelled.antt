-- UTF-8 spells 16-bit units.
use Rattle.std.proofs.Common.{◌≡◌, ℕ, zero, suc, ◌+◌, ◌-◌, ◌/◌, ◌%◌, ◌<◌, Bool, true, false, cond, List, [], ◌∷◌, refl, arith, nat_lt, ltb-true, IsUtf8, ⊎_elim}
use Rattle.std.specs.Prelude.{slice_index}
use Rattle.std.specs.List.{AllByRecursion}
use Rattle.std.specs.Str.{chars, all_scalars}
use Rattle.std.specs.Char.Escape.{encode_utf16}
use Rattle.std.proofs.Math.Utf8.{scalar, scalar_cases}
use Rattle.std.proofs.lemmas.Bool.{and_parts}
use Rattle.std.proofs.lemmas.Str.{scalars-chars}
use Rattle.code_units.specs.Utf8.{units_of, units_of_chars, utf8_of}
use Rattle.code_units.proofs.UnitsBack.{IsUtf8-utf8_of}
use Rattle.json.specs.Print.{quoted}
use Rattle.json.proofs.Printed.Utf8.{IsUtf8-quoted}
use Rattle.widget_meaning.specs.Limits.{past_units}
use Rattle.widget_meaning.specs.JsonTexts.{quoted_text}
use Rattle.meaning_laws.specs.Texts.{AreUnits}
use Rattle.meaning_laws.proofs.Each.{each_piece}

-- ## Characters

low_scalars : (cs : List ℕ) → all_scalars cs ≡ true → AllByRecursion (λ c. c < 1114112) cs
low_scalars [] e = tt
low_scalars (c ∷ cs) e = let p = and_parts (scalar c) (all_scalars cs) e in (⊎_elim (λ l. below c l) (λ l. l.1) (scalar_cases c p.0), low_scalars cs p.1)
  where
    below : (x : ℕ) → x < 55296 → x < 1114112
    below x l = omega (arith, l)

char_units : (c : ℕ) → c < 1114112 → AreUnits (encode_utf16 c)
char_units c h = by (nat_lt c 0x1_0000) refl
  where
    by : (b : Bool) → nat_lt c 0x1_0000 ≡ b → AreUnits (cond b (c ∷ []) ((0xD800 + (c - 0x1_0000) / 0x400) ∷ (0xDC00 + (c - 0x1_0000) % 0x400) ∷ []))
    by true e = (omega (arith, ltb-true c 0x1_0000 e), tt)
    by false e = (omega (arith, h), (omega arith, tt))

chars_units : (cs : List ℕ) → AllByRecursion (λ c. c < 1114112) cs → AreUnits (units_of_chars cs)
chars_units cs h = each_piece (λ c. c < 1114112) (λ u. u < past_units) encode_utf16 char_units cs h

pub utf8_units : (bs : List ℕ) → IsUtf8 bs → AreUnits (units_of bs)
unfolding units_of
utf8_units bs u = chars_units (chars bs) (low_scalars (chars bs) (scalars-chars bs u))

-- ## Texts

-- as the laws of JSON say it
pub unit_at : (t : List ℕ) → AreUnits t → (i : ℕ) → slice_index t i < past_units
unit_at [] h i = omega arith
unit_at (u ∷ us) h zero = h.0
unit_at (u ∷ us) h (suc i) = unit_at us h.1 i

pub quoted_is : (t : List ℕ) → AreUnits t → AreUnits (quoted_text t)
quoted_is t h = utf8_units (quoted (utf8_of t)) (IsUtf8-quoted (utf8_of t) (IsUtf8-utf8_of t (unit_at t h)))
