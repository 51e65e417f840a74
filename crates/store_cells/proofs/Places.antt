-- The first element that passes a test.
use Rattle.std.proofs.Common.{◌≡◌, ℕ, suc, ◌+◌, List, [], ◌∷◌, ◌++◌, length, position, refl, sym, ap, ◌∙◌, Option, Some, None, arith, Bool, true, false, not, cond, if◌then◌else◌, slice_get}
use Rattle.std.specs.Prelude.{nat_lt}
use Rattle.std.specs.List.{position_or_len}
use Rattle.std.specs.Option.{option_map, option_map_or}
use Rattle.std.proofs.lemmas.Bool.Decides.{nat_tests}
use Rattle.store_cells.proofs.Lists.{none_some, some_same}

-- it is the first of all, or comes later
pub position_step : {X : Type 0} (p : X → Bool) (x : X) (xs : List X) → position p (x ∷ xs) ≡ (if p x then Some 0 else option_map suc (position p xs))
position_step p x xs = by (p x)
  where
    later : (m l : ℕ) → nat_lt (1 + m) (suc l) ≡ nat_lt m l
    later m l = pick (nat_lt m l) refl
      where
        pick : (b : Bool) → nat_lt m l ≡ b → nat_lt (1 + m) (suc l) ≡ b
        pick true e = grind (arith, nat_tests, e)
        pick false e = grind (arith, nat_tests, e)

    first : (l : ℕ) → nat_lt 0 (suc l) ≡ true
    first l = grind (arith, nat_tests)

    moved : (b : Bool) (m : ℕ) → cond b (Some (1 + m)) None ≡ option_map suc (cond b (Some m) None)
    moved true m = ap Some (omega arith)
    moved false m = refl

    by : (b : Bool) → cond (nat_lt (cond (not b) (1 + position_or_len p xs) 0) (suc (length xs))) (Some (cond (not b) (1 + position_or_len p xs) 0)) None ≡ (if b then Some 0 else option_map suc (cond (nat_lt (position_or_len p xs) (length xs)) (Some (position_or_len p xs)) None))
    by true = ap (λ b. cond b (Some 0) None) (first (length xs))
    by false = ap (λ b. cond b (Some (1 + position_or_len p xs)) None) (later (position_or_len p xs) (length xs)) ∙ moved (nat_lt (position_or_len p xs) (length xs)) (position_or_len p xs)

-- a new last element is the first only where no other is
pub position_push : {X : Type 0} (p : X → Bool) (xs : List X) (x : X) → position p (xs ++ x ∷ []) ≡ option_map_or (λ i. Some i) (position p xs) (if p x then Some (length xs) else None)
position_push p [] x = position_step p x []
position_push p (y ∷ xs) x =
    position_step p y (xs ++ x ∷ []) ∙ ap (λ (o : Option ℕ). if p y then Some 0 else option_map suc o) (position_push p xs x) ∙ turned (p y) (position p xs) (p x)
    ∙ sym (ap (λ (o : Option ℕ). option_map_or (λ i. Some i) o (if p x then Some (suc (length xs)) else None)) (position_step p y xs))
  where
    turned : (b : Bool) (o : Option ℕ) (d : Bool) → (if b then Some 0 else option_map suc (option_map_or (λ i. Some i) o (if d then Some (length xs) else None))) ≡ option_map_or (λ i. Some i) (if b then Some 0 else option_map suc o) (if d then Some (suc (length xs)) else None)
    turned true o d = refl
    turned false None true = refl
    turned false None false = refl
    turned false (Some i) d = refl

-- it stands there and passes
pub position_at : {X : Type 0} (p : X → Bool) (xs : List X) (i : ℕ) → position p xs ≡ Some i → (x : X) × (slice_get xs i ≡ Some x) × (p x ≡ true)
position_at {X = X} p [] i e = absurd (none_some e)
position_at {X = X} p (x ∷ xs) i e = by (p x) refl (position p xs) refl (λ j g. position_at p xs j g) (sym (position_step p x xs) ∙ e)
  where
    by : (b : Bool) → p x ≡ b → (o : Option ℕ) → position p xs ≡ o → ((j : ℕ) → position p xs ≡ Some j → (y : X) × (slice_get xs j ≡ Some y) × (p y ≡ true)) → (if b then Some 0 else option_map suc o) ≡ Some i → (y : X) × (slice_get (x ∷ xs) i ≡ Some y) × (p y ≡ true)
    by true g o h rest e = (x, ap (slice_get (x ∷ xs)) (sym (some_same 0 i e)), g)
    by false g None h rest e = absurd (none_some e)
    by false g (Some j) h rest e = let r = rest j h in (r.0, ap (slice_get (x ∷ xs)) (sym (some_same (suc j) i e)) ∙ r.1, r.2)
