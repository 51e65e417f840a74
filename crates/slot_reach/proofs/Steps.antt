-- Loops, one item more at a time.
use Rattle.std.proofs.Common.{◌≡◌, ℕ, zero, suc, ◌+◌, ◌<◌, ◌≤◌, List, [], ◌∷◌, ◌++◌, map, length, take, filter, get_or, refl, sym, ap, ◌∙◌, append_assoc, append-nil, add-one, arith, Bool, true, false, Option, Some, None, if◌then◌else◌, slice_get}
use Rattle.std.specs.Prelude.{IfSome}
use Rattle.std.specs.List.{flat_map}
use Rattle.std.specs.Option.{option_map}
use Rattle.std.proofs.lemmas.List.{take_all, map-append}
use Rattle.std.proofs.lemmas.List.Concat.{flat_map-append}
use Rattle.store_cells.proofs.Lists.{none_some, some_same}
use Rattle.store_cells.specs.declared.value.Value.{Value}
use Rattle.store_cells.specs.Cells.{PlainCell}

-- one item more of a list
pub flat_more : {X R : Type 0} (f : X → List R) (xs : List X) (k : ℕ) (x : X) → slice_get xs k ≡ Some x → flat_map f (take (suc k) xs) ≡ flat_map f (take k xs) ++ f x
flat_more f [] k x e = absurd (none_some e)
flat_more f (y ∷ xs) zero x e = append-nil (f y) ∙ ap f (some_same y x e)
flat_more f (y ∷ xs) (suc k) x e = ap (λ l. f y ++ l) (flat_more f xs k x e) ∙ sym (append_assoc (f y) (flat_map f (take k xs)) (f x))

pub map_more : {X R : Type 0} (f : X → R) (xs : List X) (k : ℕ) (x : X) → slice_get xs k ≡ Some x → map f (take (suc k) xs) ≡ map f (take k xs) ++ f x ∷ []
map_more f [] k x e = absurd (none_some e)
map_more f (y ∷ xs) zero x e = ap (λ z. f z ∷ []) (some_same y x e)
map_more f (y ∷ xs) (suc k) x e = ap (λ l. f y ∷ l) (map_more f xs k x e)

-- a list of which nothing is left
pub take_none : {X : Type 0} (xs : List X) (k : ℕ) → slice_get xs k ≡ None → take k xs ≡ xs
take_none [] zero e = refl
take_none [] (suc k) e = refl
take_none (x ∷ xs) zero e = absurd (none_some (sym e))
take_none (x ∷ xs) (suc k) e = ap (λ l. x ∷ l) (take_none xs k e)

-- an item that is there
pub get_not : {X : Type 0} (xs : List X) (k : ℕ) → k < length xs → slice_get xs k ≡ None → ⊥
get_not [] k lt e = omega (arith, lt)
get_not (x ∷ xs) zero lt e = none_some (sym e)
get_not (x ∷ xs) (suc k) lt e = get_not xs k (omega (arith, lt)) e

-- an item that is kept or not
abbrev pub kept_one : {X : Type 0} → (X → Bool) → X → List X
kept_one p x = if p x then x ∷ [] else []

pub filter_more : {X : Type 0} (p : X → Bool) (xs : List X) (k : ℕ) (x : X) → slice_get xs k ≡ Some x → filter p (take (suc k) xs) ≡ filter p (take k xs) ++ kept_one p x
filter_more p [] k x e = absurd (none_some e)
filter_more p (y ∷ xs) zero x e = ap (kept_one p) (some_same y x e)
filter_more p (y ∷ xs) (suc k) x e = by (p y) (filter_more p xs k x e)
  where
    by : (b : Bool) → filter p (take (suc k) xs) ≡ filter p (take k xs) ++ kept_one p x → (if b then y ∷ filter p (take (suc k) xs) else filter p (take (suc k) xs)) ≡ (if b then y ∷ filter p (take k xs) else filter p (take k xs)) ++ kept_one p x
    by true rest = ap (λ l. y ∷ l) rest
    by false rest = rest

-- ## Pairs of a cell

abbrev pub Pair : Type 0
Pair = List ℕ × Value

pub one_pair : {R : Type 0} (f : Pair → List R) (ps : List Pair) (k : ℕ) (v : Value) (old mid new : List R) → Some v ≡ option_map (λ (p : Pair). p.1) (slice_get ps k) → mid ≡ old ++ flat_map f (take k ps) → IfSome (slice_get ps k) (λ p. new ≡ mid ++ f p) → new ≡ old ++ flat_map f (take (k + 1) ps)
one_pair f ps k v old mid new found front more = by (slice_get ps k) refl found more
  where
    by : (x : Option Pair) → slice_get ps k ≡ x → Some v ≡ option_map (λ (p : Pair). p.1) x → IfSome x (λ p. new ≡ mid ++ f p) → new ≡ old ++ flat_map f (take (k + 1) ps)
    by None e g m = absurd (none_some (sym g))
    by (Some p) e g m = rw add-one (m ∙ ap (λ l. l ++ f p) front ∙ append_assoc old (flat_map f (take k ps)) (f p) ∙ ap (λ l. old ++ l) (sym (flat_more f ps k p e)))

pub more_pairs : {R : Type 0} (f : Pair → List R) (x : Option PlainCell) (k : ℕ) (v : Value) (old mid new : List R) → IfSome x (λ c. Some v ≡ option_map (λ (p : Pair). p.1) (slice_get c.pairs k)) → IfSome x (λ c. mid ≡ old ++ flat_map f (take k c.pairs)) → IfSome x (λ c. IfSome (slice_get c.pairs k) (λ p. new ≡ mid ++ f p)) → IfSome x (λ c. new ≡ old ++ flat_map f (take (k + 1) c.pairs))
more_pairs f None k v old mid new found front more = tt
more_pairs f (Some c) k v old mid new found front more = one_pair f c.pairs k v old mid new found front more

-- a value at a place of a cell is that of its pair
pub pair_of_value : {R : Type 0} (g : Value → List R) (x : Option PlainCell) (k : ℕ) (v : Value) (mid new : List R) → IfSome x (λ c. Some v ≡ option_map (λ (p : Pair). p.1) (slice_get c.pairs k)) → new ≡ mid ++ g v → IfSome x (λ c. IfSome (slice_get c.pairs k) (λ p. new ≡ mid ++ g p.1))
pair_of_value g None k v mid new found more = tt
pair_of_value g (Some c) k v mid new found more = by (slice_get c.pairs k) found
  where
    by : (y : Option Pair) → Some v ≡ option_map (λ (p : Pair). p.1) y → IfSome y (λ p. new ≡ mid ++ g p.1)
    by None e = tt
    by (Some p) e = more ∙ ap (λ w. mid ++ g w) (some_same v p.1 e)

pub all_pairs : {R : Type 0} (f : Pair → List R) (x : Option PlainCell) (k : ℕ) (old new : List R) → IfSome x (λ c. None ≡ option_map (λ (p : Pair). p.1) (slice_get c.pairs k)) → IfSome x (λ c. new ≡ old ++ flat_map f (take k c.pairs)) → IfSome x (λ c. new ≡ old ++ flat_map f c.pairs)
all_pairs f None k old new none front = tt
all_pairs f (Some c) k old new none front = front ∙ ap (λ l. old ++ flat_map f l) (take_none c.pairs k (is (slice_get c.pairs k) none))
  where
    is : (y : Option Pair) → None ≡ option_map (λ (p : Pair). p.1) y → y ≡ None
    is None e = refl
    is (Some p) e = absurd (none_some e)

-- ## Cells that pass a test

pub more_rows : {R : Type 0} (p : PlainCell → Bool) (g : PlainCell → R) (cells : List PlainCell) (k : ℕ) (mid new : List R) → k < length cells → mid ≡ map g (filter p (take k cells)) → IfSome (slice_get cells k) (λ c. new ≡ mid ++ (if p c then g c ∷ [] else [])) → new ≡ map g (filter p (take (k + 1) cells))
more_rows {R} p g cells k mid new lt front more = by (slice_get cells k) refl more
  where
    one : (c : PlainCell) (b : Bool) (front : List PlainCell) → map g front ++ (if b then g c ∷ [] else []) ≡ map g (front ++ (if b then c ∷ [] else []))
    one c true front = sym (map-append g front (c ∷ []))
    one c false front = append-nil (map g front) ∙ ap (map g) (sym (append-nil front))

    by : (x : Option PlainCell) → slice_get cells k ≡ x → IfSome x (λ c. new ≡ mid ++ (if p c then g c ∷ [] else [])) → new ≡ map g (filter p (take (k + 1) cells))
    by None e m = absurd (get_not cells k lt e)
    by (Some c) e m = rw add-one (m ∙ ap (λ l. l ++ (if p c then g c ∷ [] else [])) front ∙ one c (p c) (filter p (take k cells)) ∙ ap (map g) (sym (filter_more p cells k c e)))

pub more_scopes : {R : Type 0} (p : PlainCell → Bool) (g : PlainCell → List R) (cells : List PlainCell) (k : ℕ) (old mid new : List R) → k < length cells → mid ≡ old ++ flat_map g (filter p (take k cells)) → IfSome (slice_get cells k) (λ c. new ≡ mid ++ (if p c then g c else [])) → new ≡ old ++ flat_map g (filter p (take (k + 1) cells))
more_scopes {R} p g cells k old mid new lt front more = by (slice_get cells k) refl more
  where
    one : (c : PlainCell) (b : Bool) (front : List PlainCell) → flat_map g front ++ (if b then g c else []) ≡ flat_map g (front ++ (if b then c ∷ [] else []))
    one c true front = ap (λ l. flat_map g front ++ l) (sym (append-nil (g c))) ∙ sym (flat_map-append g front (c ∷ []))
    one c false front = append-nil (flat_map g front) ∙ ap (flat_map g) (sym (append-nil front))

    by : (x : Option PlainCell) → slice_get cells k ≡ x → IfSome x (λ c. new ≡ mid ++ (if p c then g c else [])) → new ≡ old ++ flat_map g (filter p (take (k + 1) cells))
    by None e m = absurd (get_not cells k lt e)
    by (Some c) e m = rw add-one (m ∙ ap (λ l. l ++ (if p c then g c else [])) front ∙ append_assoc old (flat_map g (filter p (take k cells))) (if p c then g c else []) ∙ ap (λ l. old ++ l) (one c (p c) (filter p (take k cells)) ∙ ap (flat_map g) (sym (filter_more p cells k c e))))

-- ## Items that are told one by one

pub more_items : {X R : Type 0} (f : X → R) (xs : List X) (k : ℕ) (x : X) (old mid new : List R) (y : R) → slice_get xs k ≡ Some x → mid ≡ old ++ map f (take k xs) → y ≡ f x → new ≡ mid ++ y ∷ [] → new ≡ old ++ map f (take (k + 1) xs)
more_items f xs k x old mid new y at front is more =
    rw add-one (more ∙ ap (λ l. l ++ y ∷ []) front ∙ append_assoc old (map f (take k xs)) (y ∷ []) ∙ ap (λ l. old ++ l) (ap (λ z. map f (take k xs) ++ z ∷ []) is ∙ sym (map_more f xs k x at)))

pub all_items : {X R : Type 0} (f : X → R) (xs : List X) (k : ℕ) (old new : List R) → slice_get xs k ≡ None → new ≡ old ++ map f (take k xs) → new ≡ old ++ map f xs
all_items f xs k old new none front = front ∙ ap (λ l. old ++ map f l) (take_none xs k none)

get_or_at : {X : Type 0} (xs : List X) (k : ℕ) (x : X) → k < length xs → x ≡ get_or xs k x → slice_get xs k ≡ Some x
get_or_at [] k x lt e = absurd (omega (arith, lt))
get_or_at (y ∷ xs) zero x lt e = ap Some (sym e)
get_or_at (y ∷ xs) (suc k) x lt e = get_or_at xs k x (omega (arith, lt)) e

pub next_items : {X R : Type 0} (f : X → R) (xs : List X) (k : ℕ) (x : X) (old mid new : List R) (y : R) → k < length xs → x ≡ get_or xs k x → mid ≡ old ++ map f (take k xs) → y ≡ f x → new ≡ mid ++ y ∷ [] → new ≡ old ++ map f (take (k + 1) xs)
next_items f xs k x old mid new y lt e = more_items f xs k x old mid new y (get_or_at xs k x lt e)

pub past_items : {X R : Type 0} (f : X → R) (xs : List X) (k : ℕ) (old new : List R) → length xs ≤ k → new ≡ old ++ map f (take k xs) → new ≡ old ++ map f xs
past_items f xs k old new past front = front ∙ ap (λ l. old ++ map f l) (take_all k xs past)

-- ## Items of which each gives several

pub next_flat : {X R : Type 0} (f : X → List R) (xs : List X) (k : ℕ) (x : X) (old mid new : List R) → k < length xs → x ≡ get_or xs k x → mid ≡ old ++ flat_map f (take k xs) → new ≡ mid ++ f x → new ≡ old ++ flat_map f (take (k + 1) xs)
next_flat f xs k x old mid new lt e front more =
    rw add-one (more ∙ ap (λ l. l ++ f x) front ∙ append_assoc old (flat_map f (take k xs)) (f x) ∙ ap (λ l. old ++ l) (sym (flat_more f xs k x (get_or_at xs k x lt e))))

pub past_flat : {X R : Type 0} (f : X → List R) (xs : List X) (k : ℕ) (old new : List R) → length xs ≤ k → new ≡ old ++ flat_map f (take k xs) → new ≡ old ++ flat_map f xs
past_flat f xs k old new past front = front ∙ ap (λ l. old ++ flat_map f l) (take_all k xs past)
