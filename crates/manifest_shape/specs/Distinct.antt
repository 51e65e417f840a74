-- Lists of which no two are the same.
use Rattle.std.specs.Prelude.{List, [], ◌∷◌, Bool, true, not, ◌&&◌}
use Rattle.std.specs.List.{list_any}

-- no two of the list are the same, by a test
abbrev pub distinct : {X : Type 0} → (X → X → Bool) → List X → Bool
distinct same [] = true
distinct same (x ∷ xs) = not (list_any (same x) xs) && distinct same xs
