-- ASCII words and units.
use Rattle.std.specs.Prelude.{ℕ, Bool, true, false, ◌&&◌, List, [], ◌∷◌, nat_eq}

-- the word begins with the units
abbrev pub begins_with : List ℕ → List ℕ → Bool
begins_with word [] = true
begins_with [] (u ∷ us) = false
begins_with (letter ∷ word) (u ∷ us) = nat_eq u letter && begins_with word us
