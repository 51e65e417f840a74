-- What stands in a list.
use Rattle.std.proofs.Common.{◌≡◌, ℕ, zero, suc, ◌<◌, Bool, true, false, cond, List, [], ◌∷◌, ◌++◌, map, length, get_or, refl, sym, ◌∙◌, ap, subst, ◌⊎◌, inl, inr, arith}
use Rattle.std.specs.List.{Contains, filter}

-- x stands in the list
abbrev pub In : {X : Type 0} → X → List X → Type 0
In x [] = ⊥
In x (y ∷ ys) = (y ≡ x) ⊎ In x ys

pub in_from_contains : {X : Type 0} (x : X) (xs : List X) → Contains xs x → In x xs
in_from_contains x [] at = absurd (omega (arith, at.1))
in_from_contains x (y ∷ ys) at = by_place x y ys at.0 at.1 at.2 (λ h. in_from_contains x ys h)
  where
    by_place : {X : Type 0} (x y : X) (ys : List X) (k : ℕ) → k < length (y ∷ ys) → get_or (y ∷ ys) k x ≡ x → (Contains ys x → In x ys) → In x (y ∷ ys)
    by_place x y ys zero lt is later = inl is
    by_place x y ys (suc k) lt is later = inr (later (k, omega arith, is))

pub contains_from_in : {X : Type 0} (x : X) (xs : List X) → In x xs → Contains xs x
contains_from_in x [] h = elim h [ ]
contains_from_in x (y ∷ ys) (inl is) = (0, omega arith, is)
contains_from_in x (y ∷ ys) (inr later) = let h = contains_from_in x ys later in (suc h.0, omega (arith, h.1), h.2)

pub in_left : {X : Type 0} (x : X) (xs ys : List X) → In x xs → In x (xs ++ ys)
in_left x [] ys h = elim h [ ]
in_left x (y ∷ xs) ys (inl is) = inl is
in_left x (y ∷ xs) ys (inr later) = inr (in_left x xs ys later)

pub in_right : {X : Type 0} (x : X) (xs ys : List X) → In x ys → In x (xs ++ ys)
in_right x [] ys h = h
in_right x (y ∷ xs) ys h = inr (in_right x xs ys h)

pub in_append : {X : Type 0} (x : X) (xs ys : List X) → In x (xs ++ ys) → In x xs ⊎ In x ys
in_append x [] ys h = inr h
in_append x (y ∷ xs) ys (inl is) = inl (inl is)
in_append x (y ∷ xs) ys (inr later) = elim (in_append x xs ys later) as (λ _. In x (y ∷ xs) ⊎ In x ys) [ inl here ↦ inl (inr here) | inr there ↦ inr there ]

pub in_map : {X Y : Type 0} (f : X → Y) (x : X) (xs : List X) → In x xs → In (f x) (map f xs)
in_map f x [] h = elim h [ ]
in_map f x (y ∷ xs) (inl is) = inl (ap f is)
in_map f x (y ∷ xs) (inr later) = inr (in_map f x xs later)

pub in_map_back : {X Y : Type 0} (f : X → Y) (v : Y) (xs : List X) → In v (map f xs) → (x : X) × In x xs × (f x ≡ v)
in_map_back f v [] h = elim h [ ]
in_map_back f v (y ∷ xs) (inl is) = (y, inl refl, is)
in_map_back f v (y ∷ xs) (inr later) = let h = in_map_back f v xs later in (h.0, inr h.1, h.2)

-- an element that passes stands in the filter, by the outcome of its test
pub in_filter : {X : Type 0} (t : X → Bool) (x : X) (xs : List X) → t x ≡ true → In x xs → In x (filter t xs)
in_filter t x [] passes h = elim h [ ]
in_filter t x (y ∷ ys) passes (inl is) = let same : t y ≡ true = ap t is ∙ passes in subst (λ b. In x (cond b (y ∷ filter t ys) (filter t ys))) (sym same) (inl is)
in_filter t x (y ∷ ys) passes (inr later) = by_test (t y) x y (filter t ys) (in_filter t x ys passes later)
  where
    by_test : {X : Type 0} (b : Bool) (x y : X) (rest : List X) → In x rest → In x (cond b (y ∷ rest) rest)
    by_test true x y rest h = inr h
    by_test false x y rest h = h

pub in_filter_back : {X : Type 0} (t : X → Bool) (x : X) (xs : List X) → In x (filter t xs) → In x xs × (t x ≡ true)
in_filter_back t x [] h = elim h [ ]
in_filter_back t x (y ∷ ys) h = by_test t x y ys (t y) refl h (λ g. in_filter_back t x ys g)
  where
    by_test : {X : Type 0} (t : X → Bool) (x y : X) (ys : List X) (b : Bool) → t y ≡ b → In x (cond b (y ∷ filter t ys) (filter t ys)) → (In x (filter t ys) → In x ys × (t x ≡ true)) → In x (y ∷ ys) × (t x ≡ true)
    by_test t x y ys true at (inl is) later = (inl is, sym (ap t is) ∙ at)
    by_test t x y ys true at (inr h) later = let g = later h in (inr g.0, g.1)
    by_test t x y ys false at h later = let g = later h in (inr g.0, g.1)

-- a list in which nothing stands is empty
pub empty : {X : Type 0} (xs : List X) → ((x : X) → In x xs → ⊥) → xs ≡ []
empty [] no_one = refl
empty (x ∷ xs) no_one = absurd (no_one x (inl refl))
