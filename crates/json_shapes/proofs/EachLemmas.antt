-- Laws on two lists side by side.
use Rattle.std.proofs.Common.{◌≡◌, ℕ, zero, suc, ◌+◌, ◌<◌, List, [], ◌∷◌, ◌++◌, length, take, map, get_or, refl, sym, ap, subst, ◌∙◌, arith}
use Rattle.std.proofs.lemmas.Grind.{common_steps}
use Rattle.std.proofs.lemmas.List.{length-map, take_more, map-append}
use Rattle.std.proofs.Math.ListN.{get_or-map}
use Rattle.serde_json.specs.Data.{Data}
use Rattle.serde_json.specs.View.{view}
use Rattle.serde_json.specs.declared.value.Value.{Value}
use Rattle.json_shapes.specs.Each.{Each, none_left, one_each}

-- one more of each
pub each_more : {X Y : Type 0} (R : X → Y → Type 0) (xs : List X) (ys : List Y) (x : X) (y : Y) → Each R xs ys → R x y → Each R (xs ++ x ∷ []) (ys ++ y ∷ [])
each_more R [] [] x y none_left here = one_each here none_left
each_more R [] (b ∷ ys) x y each here = elim each [ ]
each_more R (a ∷ xs) [] x y each here = elim each [ ]
each_more R (a ∷ xs) (b ∷ ys) x y (one_each first rest) here = one_each first (each_more R xs ys x y rest here)

-- they are equally long
pub each_length : {X Y : Type 0} (R : X → Y → Type 0) (xs : List X) (ys : List Y) → Each R xs ys → length xs ≡ length ys
each_length R [] [] none_left = refl
each_length R [] (b ∷ ys) each = elim each [ ]
each_length R (a ∷ xs) [] each = elim each [ ]
each_length R (a ∷ xs) (b ∷ ys) (one_each first rest) = ap suc (each_length R xs ys rest)

-- what stands beside one
pub each_at : {X Y : Type 0} (R : X → Y → Type 0) (xs : List X) (ys : List Y) (i : ℕ) (d : X) → Each R xs ys → i < length xs → (y : Y) × R (get_or xs i d) y
each_at R [] [] i d none_left within = absurd (omega arith)
each_at R [] (b ∷ ys) i d each within = elim each [ ]
each_at R (a ∷ xs) [] i d each within = elim each [ ]
each_at R (a ∷ xs) (b ∷ ys) zero d (one_each first rest) within = (b, first)
each_at R (a ∷ xs) (b ∷ ys) (suc i) d (one_each first rest) within = each_at R xs ys i d rest (omega arith)

-- the first of each
pub each_take : {X Y : Type 0} (R : X → Y → Type 0) (xs : List X) (ys : List Y) (n : ℕ) → Each R xs ys → Each R (take n xs) (take n ys)
each_take R xs ys zero each = none_left
each_take R [] [] (suc n) none_left = none_left
each_take R [] (b ∷ ys) (suc n) each = elim each [ ]
each_take R (a ∷ xs) [] (suc n) each = elim each [ ]
each_take R (a ∷ xs) (b ∷ ys) (suc n) (one_each first rest) = one_each first (each_take R xs ys n rest)

-- what stands beside them is one list where it is one value for each
pub each_same : {X Y : Type 0} (R : X → Y → Type 0) (xs : List X) (ys zs : List Y) → ((x : X) (y z : Y) → R x y → R x z → y ≡ z) → Each R xs ys → Each R xs zs → ys ≡ zs
each_same R [] [] [] one none_left none_left = refl
each_same R [] [] (c ∷ zs) one each other = elim other [ ]
each_same R [] (b ∷ ys) zs one each other = elim each [ ]
each_same R (a ∷ xs) [] zs one each other = elim each [ ]
each_same R (a ∷ xs) (b ∷ ys) [] one each other = elim other [ ]
each_same R (a ∷ xs) (b ∷ ys) (c ∷ zs) one (one_each first rest) (one_each here later) =
    ap (λ y. y ∷ ys) (one a b c first here) ∙ ap (λ tail. c ∷ tail) (each_same R xs ys zs one rest later)

-- nothing stands beside them where nothing stands beside one of them
pub no_each : {X Y : Type 0} (R : X → Y → Type 0) (xs : List X) (ys : List Y) (i : ℕ) (d : X) → i < length xs → ((y : Y) → R (get_or xs i d) y → ⊥) → Each R xs ys → ⊥
no_each R xs ys i d within none each = let found = each_at R xs ys i d each within in none found.0 found.1

-- the same as a walk over values goes on
pub taken_more : {Y : Type 0} (R : Data → Y → Type 0) (vs : List Value) (i : ℕ) (v : Value) (ys : List Y) (y : Y) → i < length vs → v ≡ get_or vs i v → Each R (map view (take i vs)) ys → R (view v) y → Each R (map view (take (i + 1) vs)) (ys ++ y ∷ [])
taken_more {Y} R vs i v ys y within is so_far here =
    let more : take (i + 1) vs ≡ take i vs ++ v ∷ [] = take_more vs i v within ∙ ap (λ w. take i vs ++ w ∷ []) (sym is) in
    let seen : map view (take (i + 1) vs) ≡ map view (take i vs) ++ view v ∷ [] = ap (map view) more ∙ map-append view (take i vs) (v ∷ []) in
    subst (λ ds. Each R ds (ys ++ y ∷ [])) (sym seen) (each_more R (map view (take i vs)) ys (view v) y so_far here)

-- nothing stands beside values where nothing stands beside one of them
pub no_each_value : {Y : Type 0} (R : Data → Y → Type 0) (vs : List Value) (ys : List Y) (i : ℕ) (v : Value) → i < length vs → v ≡ get_or vs i v → ((y : Y) → R (view v) y → ⊥) → Each R (map view vs) ys → ⊥
no_each_value {Y} R vs ys i v within is none each =
    let same : get_or (map view vs) i (view v) ≡ view v = get_or-map view vs i v ∙ ap view (sym is) in
    no_each R (map view vs) ys i (view v) (subst (λ n. i < n) (sym (length-map vs view)) within) (λ y here. none y (subst (λ d. R d y) same here)) each

-- the first of some values, as they are seen
pub taken_map : (i : ℕ) (vs : List Value) → take i (map view vs) ≡ map view (take i vs)
taken_map zero vs = refl
taken_map (suc i) [] = refl
taken_map (suc i) (v ∷ vs) = ap (λ rest. view v ∷ rest) (taken_map i vs)

pub first_of_more : (ds : List Data) (i m : ℕ) (d : Data) → i < m → get_or (take m ds) i d ≡ get_or ds i d
first_of_more ds i m d lt = grind (arith, common_steps)
