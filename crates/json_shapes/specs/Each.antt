-- Two lists side by side.
use Rattle.std.specs.Prelude.{List, [], ◌∷◌}

-- the lists are equally long, and the relation holds of the elements at each place
pub data Each {X Y : Type 0} (R : X → Y → Type 0) : List X → List Y → Type 0 where
  none_left : Each R [] []
  one_each : {x : X} {y : Y} {xs : List X} {ys : List Y} → R x y → Each R xs ys → Each R (x ∷ xs) (y ∷ ys)
