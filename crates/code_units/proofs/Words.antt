-- Texts of equal units, and words that begin with units.
use Rattle.std.proofs.Common.{◌≡◌, ℕ, ◌<◌, ◌≤◌, Bool, true, false, List, [], ◌∷◌, length, take, get_or, refl, sym, ap, arith}
use Rattle.std.specs.Prelude.{◌&&◌, nat_eq}
use Rattle.std.specs.Str.{bytes_eq}
use Rattle.std.proofs.lemmas.List.{ext_get_or}
use Rattle.std.proofs.lemmas.Slice.Eq.{bytes_eq-Decides}
use Rattle.code_units.specs.Words.{begins_with}

pub same_units : (xs ys : List ℕ) → length xs ≡ length ys → ((k : ℕ) → k < length xs → get_or xs k 0 ≡ get_or ys k 0) → true ≡ bytes_eq xs ys
same_units xs ys e same = sym ((bytes_eq-Decides xs ys).1 (ext_get_or 0 xs ys e same))

-- a word that begins with some units is as long, and has them as its front
pub begins_within : (word front : List ℕ) → length front ≤ length word → bytes_eq front (take (length front) word) ≡ begins_with word front
begins_within [] [] le = refl
begins_within (letter ∷ word) [] le = refl
begins_within [] (u ∷ us) le = absurd (omega (arith, le))
begins_within (letter ∷ word) (u ∷ us) le = ap (λ b. nat_eq u letter && b) (begins_within word us (omega (arith, le)))

pub begins_past : (word front : List ℕ) → length word < length front → begins_with word front ≡ false
begins_past word [] lt = absurd (omega (arith, lt))
begins_past [] (u ∷ us) lt = refl
begins_past (letter ∷ word) (u ∷ us) lt = by (nat_eq u letter) (begins_past word us (omega (arith, lt)))
  where
    by : (b : Bool) → begins_with word us ≡ false → (b && begins_with word us) ≡ false
    by true e = e
    by false e = refl
