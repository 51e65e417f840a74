-- The forms of a text that spells a number, and what each gives: a law above `number_of`.
use Rattle.std.specs.Prelude.{◌≡◌, ℕ, ◌^◌, ◌<◌, ◌≤◌, ◌⊎◌, Bool, true, false, ℤ, pos, neg_ℤ, unsigned_abs, List, [], ◌∷◌, ◌++◌, if◌then◌else◌, codes}
use Rattle.std.specs.Str.{byte}
use Rattle.std.specs.Str.Parse.{IsNumeral, digits_value}
use Rattle.code_units.specs.declared.whole.WholeRead.{WholeRead}
use Rattle.code_units.specs.declared.whole.WholeRead.TheVariants.{Whole, NotNumber, Left}
use Rattle.code_units.specs.Whole.{is_e, is_x}

-- us is ds after an optional sign, which makes it negative or not
pub data IsSigned (us ds : List ℕ) : Bool → Type 0 where
  bare : us ≡ ds → IsSigned us ds false
  plus : us ≡ codes "+" ++ ds → IsSigned us ds false
  minus : us ≡ codes "-" ++ ds → IsSigned us ds true

abbrev pub signed : Bool → ℕ → ℤ
signed negative n = if negative then neg_ℤ (pos n) else pos n

-- nothing is 0; else an optional sign and digits, or `0x` and hexadecimal digits
pub data SpellsWhole (us : List ℕ) : ℤ → Type 0 where
  nothing : us ≡ [] → SpellsWhole us (pos 0)
  decimal : (negative : Bool) (ds : List ℕ) → IsSigned us ds negative → IsNumeral 10 ds → SpellsWhole us (signed negative (digits_value 10 ds))
  hexadecimal : (x : ℕ) (ds : List ℕ) → is_x x ≡ true → us ≡ byte "0" ∷ x ∷ ds → IsNumeral 16 ds → SpellsWhole us (pos (digits_value 16 ds))

-- `e` or `E`, an optional sign and digits
pub data IsExponent (us : List ℕ) : Type 0 where
  exponent : (negative : Bool) (e : ℕ) (rest ds : List ℕ) → is_e e ≡ true → us ≡ e ∷ rest → IsSigned rest ds negative → IsNumeral 10 ds → IsExponent us

-- a decimal literal that has a point or an exponent
pub data IsDecimalFraction (us : List ℕ) : Type 0 where
  point : (whole part : List ℕ) → us ≡ whole ++ (byte "." ∷ part) → IsNumeral 10 (whole ++ part) → IsDecimalFraction us
  point_power : (whole part rest : List ℕ) → us ≡ (whole ++ (byte "." ∷ part)) ++ rest → IsNumeral 10 (whole ++ part) → IsExponent rest → IsDecimalFraction us
  power : (whole rest : List ℕ) → us ≡ whole ++ rest → IsNumeral 10 whole → IsExponent rest → IsDecimalFraction us

-- an optional sign with `Infinity` or with such a literal
pub data SpellsOther (us : List ℕ) : Type 0 where
  infinity : (negative : Bool) → IsSigned us (codes "Infinity") negative → SpellsOther us
  fraction : (negative : Bool) (ds : List ℕ) → IsSigned us ds negative → IsDecimalFraction ds → SpellsOther us

-- a whole number within the numbers; one past them, or no whole number; or no number
abbrev pub Gives : List ℕ → WholeRead → Type 0
Gives us (Whole z) = SpellsWhole us z × (unsigned_abs z < 2 ^ 53)
Gives us Left = ((z : ℤ) × SpellsWhole us z × (2 ^ 53 ≤ unsigned_abs z)) ⊎ SpellsOther us
Gives us NotNumber = ((z : ℤ) → ¬ (SpellsWhole us z)) × ¬ (SpellsOther us)
