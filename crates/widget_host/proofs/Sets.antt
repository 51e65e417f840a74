-- Lists with another element at a place.
use Rattle.std.proofs.Common.{◌≡◌, ◌≢◌, ℕ, zero, suc, ◌<◌, List, [], ◌∷◌, map, length, refl, sym, ap, ◌∙◌, arith, Some, None}
use Rattle.std.specs.Prelude.{Err, Ok, OnErr, Result, slice_get, slice_set, slice_index_or}
use Rattle.life_laws.specs.Journal.{on_at}

pub some_is : {A : Type 0} (x y : A) → Some x ≡ Some y → x ≡ y
some_is x y e = cc

module _ {X : Type 0} where
  pub get_here : (xs : List X) (n : ℕ) (x : X) → n < length xs → slice_get (slice_set xs n x) n ≡ Some x
  get_here [] n x lt = absurd (omega (arith, lt))
  get_here (y ∷ xs) zero x lt = refl
  get_here (y ∷ xs) (suc n) x lt = get_here xs n x (omega (arith, lt))

  pub get_else : (xs : List X) (n m : ℕ) (x : X) → m ≢ n → slice_get (slice_set xs n x) m ≡ slice_get xs m
  get_else [] n m x ne = refl
  get_else (y ∷ xs) zero zero x ne = absurd (ne refl)
  get_else (y ∷ xs) zero (suc m) x ne = refl
  get_else (y ∷ xs) (suc n) zero x ne = refl
  get_else (y ∷ xs) (suc n) (suc m) x ne = get_else xs n m x (λ e. ne (ap suc e))

  pub index_here : (xs : List X) (n : ℕ) (x d : X) → n < length xs → slice_index_or (slice_set xs n x) n d ≡ x
  index_here [] n x d lt = absurd (omega (arith, lt))
  index_here (y ∷ xs) zero x d lt = refl
  index_here (y ∷ xs) (suc n) x d lt = index_here xs n x d (omega (arith, lt))

  pub index_else : (xs : List X) (n m : ℕ) (x d : X) → m ≢ n → slice_index_or (slice_set xs n x) m d ≡ slice_index_or xs m d
  index_else [] n m x d ne = refl
  index_else (y ∷ xs) zero zero x d ne = absurd (ne refl)
  index_else (y ∷ xs) zero (suc m) x d ne = refl
  index_else (y ∷ xs) (suc n) zero x d ne = refl
  index_else (y ∷ xs) (suc n) (suc m) x d ne = index_else xs n m x d (λ e. ne (ap suc e))

  -- what is there already
  pub set_same : (xs : List X) (n : ℕ) (x d : X) → n < length xs → slice_index_or xs n d ≡ x → slice_set xs n x ≡ xs
  set_same [] n x d lt e = absurd (omega (arith, lt))
  set_same (y ∷ xs) zero x d lt e = ap (λ z. z ∷ xs) (sym e)
  set_same (y ∷ xs) (suc n) x d lt e = ap (λ zs. y ∷ zs) (set_same xs n x d (omega (arith, lt)) e)

  pub set_long : (xs : List X) (n : ℕ) (x : X) → length (slice_set xs n x) ≡ length xs
  set_long [] n x = refl
  set_long (y ∷ xs) zero x = refl
  set_long (y ∷ xs) (suc n) x = ap suc (set_long xs n x)

pub map_set : {X Y : Type 0} (f : X → Y) (xs : List X) (n : ℕ) (x : X) → map f (slice_set xs n x) ≡ slice_set (map f xs) n (f x)
map_set f [] n x = refl
map_set f (y ∷ xs) zero x = refl
map_set f (y ∷ xs) (suc n) x = ap (λ zs. f y ∷ zs) (map_set f xs n x)

pub none_some : {A : Type 0} {a : A} → None ≡ Some a → ⊥
none_some e = cc

pub within : {X : Type 0} (xs : List X) (n : ℕ) (x : X) → slice_get xs n ≡ Some x → n < length xs
within [] n x at = absurd (none_some at)
within (y ∷ xs) zero x at = omega arith
within (y ∷ xs) (suc n) x at = omega (arith, within xs n x at)

pub there : {X : Type 0} (xs : List X) (n : ℕ) → n < length xs → (x : X) × (slice_get xs n ≡ Some x)
there [] n lt = absurd (omega (arith, lt))
there (x ∷ xs) zero lt = (x, refl)
there (x ∷ xs) (suc n) lt = there xs n (omega (arith, lt))

-- of two lists of which a map is the same
pub same_map : {X Y : Type 0} (f : X → Y) (xs ys : List X) (n : ℕ) (y : X) → map f ys ≡ map f xs → slice_get ys n ≡ Some y → (x : X) × (slice_get xs n ≡ Some x) × (f x ≡ f y)
same_map f xs [] n y e at = absurd (none_some at)
same_map f [] (z ∷ ys) n y e at = absurd (let g = ap length e in omega (arith, g))
same_map f (x ∷ xs) (z ∷ ys) zero y e at = (x, refl, sym (head e) ∙ ap f (some_is z y at))
  where
    head : f z ∷ map f ys ≡ f x ∷ map f xs → f z ≡ f x
    head g = cc
same_map f (x ∷ xs) (z ∷ ys) (suc n) y e at = same_map f xs ys n y (tail e) at
  where
    tail : f z ∷ map f ys ≡ f x ∷ map f xs → map f ys ≡ map f xs
    tail g = cc

-- a map that the element leaves
pub map_still : {X Y : Type 0} (f : X → Y) (xs : List X) (n : ℕ) (x y : X) → slice_get xs n ≡ Some y → f x ≡ f y → map f (slice_set xs n x) ≡ map f xs
map_still f [] n x y at e = refl
map_still f (z ∷ xs) zero x y at e = ap (λ w. w ∷ map f xs) (e ∙ ap f (sym (some_is z y at)))
map_still f (z ∷ xs) (suc n) x y at e = ap (λ ws. f z ∷ ws) (map_still f xs n x y at e)

-- or changes
pub map_on : {X Y : Type 0} (f : X → Y) (g : Y → Y) (xs : List X) (n : ℕ) (x y : X) → slice_get xs n ≡ Some y → f x ≡ g (f y) → map f (slice_set xs n x) ≡ on_at n g (map f xs)
map_on f g [] n x y at e = refl
map_on f g (z ∷ xs) zero x y at e = ap (λ w. w ∷ map f xs) (e ∙ ap (λ w. g (f w)) (sym (some_is z y at)))
map_on f g (z ∷ xs) (suc n) x y at e = ap (λ ws. f z ∷ ws) (map_on f g xs n x y at e)

-- what holds anyhow
pub on_err : {T E P : Type 0} (r : Result T E) → P → OnErr r P
on_err (Ok t) p = tt
on_err (Err e) p = p
