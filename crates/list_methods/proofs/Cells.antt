-- Objects of a state, and what is changed of them.
use Rattle.std.proofs.Common.{◌≡◌, ℕ, zero, suc, ◌+◌, ◌<◌, List, [], ◌∷◌, ◌++◌, length, refl, sym, ap, ◌∙◌, Option, Some, None, true, filter, arith, append_assoc, length-append}
use Rattle.std.specs.Prelude.{is_none, nat_lt, slice_index_or, slice_set}
use Rattle.std.specs.Option.{option_map_or}
use Rattle.code_units.specs.Indices.{index_of}
use Rattle.widget_meaning.specs.Values.{Value, Own}
use Rattle.widget_meaning.specs.OwnState as state
use Rattle.widget_meaning.specs.OwnState.{Array, Cell, Kind, State, array_length, cell_at, kind_of, plain_object, with_cell, with_own}
use Rattle.widget_meaning.specs.Properties.{cut_to, index_name, is_below}
use Rattle.widget_meaning.specs.NativeForms.{numbered_pairs}
use Rattle.widget_meaning.specs.ListChanges.{pushed, with_elements}
use Rattle.native_common.proofs.Loops.{over_no}

none_some : {A : Type 0} {a : A} → None ≡ Some a → ⊥
none_some h = cc

-- an Array is one of the objects
pub array_there : (s : State) (n len : ℕ) → array_length (kind_of s (Own n)) ≡ Some len → n < length s.own.heap
array_there s n len h = by s.own.heap n h
  where
    by : (cs : List Cell) (n : ℕ) → array_length (Some (slice_index_or cs n (plain_object [])).kind) ≡ Some len → n < length cs
    by [] n h = absurd (none_some h)
    by (c ∷ cs) zero h = omega arith
    by (c ∷ cs) (suc n) h = omega (arith, by cs n h)

-- what was put in is there
set_here : {X : Type 0} (xs : List X) (n : ℕ) (x d : X) → n < length xs → slice_index_or (slice_set xs n x) n d ≡ x
set_here [] n x d h = absurd (omega (arith, h))
set_here (y ∷ xs) zero x d h = refl
set_here (y ∷ xs) (suc n) x d h = set_here xs n x d (omega (arith, h))

set_twice : {X : Type 0} (xs : List X) (n : ℕ) (x y : X) → slice_set (slice_set xs n x) n y ≡ slice_set xs n y
set_twice [] n x y = refl
set_twice (z ∷ xs) zero x y = refl
set_twice (z ∷ xs) (suc n) x y = ap (λ l. z ∷ l) (set_twice xs n x y)

set_same : {X : Type 0} (xs : List X) (n : ℕ) (d : X) → n < length xs → slice_set xs n (slice_index_or xs n d) ≡ xs
set_same [] n d h = absurd (omega (arith, h))
set_same (x ∷ xs) zero d h = refl
set_same (x ∷ xs) (suc n) d h = ap (λ l. x ∷ l) (set_same xs n d (omega (arith, h)))

pub cell_put : (s : State) (n : ℕ) (c : Cell) → n < length s.own.heap → cell_at (with_cell s n c) n ≡ c
cell_put s n c h = set_here s.own.heap n c (plain_object []) h

pub put_twice : (s : State) (n : ℕ) (a b : Cell) → with_cell (with_cell s n a) n b ≡ with_cell s n b
put_twice s n a b = ap (λ h. with_own s (record s.own { heap = h })) (set_twice s.own.heap n a b)

pub put_same : (s : State) (n : ℕ) → n < length s.own.heap → with_cell s n (cell_at s n) ≡ s
put_same s n h = ap (λ l. with_own s (record s.own { heap = l })) (set_same s.own.heap n (plain_object []) h)

-- elements behind others
numbered_more : (i : ℕ) (xs ys : List Value) → numbered_pairs i (xs ++ ys) ≡ numbered_pairs i xs ++ numbered_pairs (i + length xs) ys
numbered_more i [] ys = let e : i ≡ i + 0 = omega arith in ap (λ k. numbered_pairs k ys) e
numbered_more i (x ∷ xs) ys =
    let e : (i + 1) + length xs ≡ i + suc (length xs) = omega arith in
    ap (λ l. (index_name i, x) ∷ l) (numbered_more (i + 1) xs ys ∙ ap (λ k. numbered_pairs (i + 1) xs ++ numbered_pairs k ys) e)

none_behind : {X : Type 0} (xs : List X) → xs ++ [] ≡ xs
none_behind [] = refl
none_behind (x ∷ xs) = ap (λ l. x ∷ l) (none_behind xs)

pub pushed_more : (c : Cell) (len : ℕ) (xs ys : List Value) → pushed (pushed c len xs) (len + length xs) ys ≡ pushed c len (xs ++ ys)
pushed_more c len xs ys =
    let size : (len + length xs) + length ys ≡ len + length (xs ++ ys) = omega (arith, length-append xs ys) in
    let pairs : (c.pairs ++ numbered_pairs len xs) ++ numbered_pairs (len + length xs) ys ≡ c.pairs ++ numbered_pairs len (xs ++ ys) = append_assoc c.pairs (numbered_pairs len xs) (numbered_pairs (len + length xs) ys) ∙ ap (λ l. c.pairs ++ l) (sym (numbered_more len xs ys)) in
    λ j. record c { kind = Array (size j); pairs = pairs j }

-- nothing is put behind an Array
pub pushed_none : (s : State) (n len : ℕ) → array_length (kind_of s (Own n)) ≡ Some len → with_cell s n (pushed (cell_at s n) len []) ≡ s
pushed_none s n len h = ap (with_cell s n) (same (cell_at s n) h) ∙ put_same s n (array_there s n len h)
  where
    some_same : {A : Type 0} (a b : A) → Some a ≡ Some b → a ≡ b
    some_same a b e = cc

    by : (k : Kind) → array_length (Some k) ≡ Some len → Array (len + 0) ≡ k
    by (Array m) h = let e : len + 0 ≡ m = omega (arith, some_same m len h) in ap Array e
    by (state.Object) h = absurd (none_some h)
    by (state.Function f o) h = absurd (none_some h)
    by (state.Bunch ns) h = absurd (none_some h)

    same : (c : Cell) → array_length (Some c.kind) ≡ Some len → pushed c len [] ≡ c
    same c h = λ j. record c { kind = by c.kind h j; pairs = none_behind c.pairs j }

-- an Array of no elements, and then of these
below_none : (x : List ℕ) → is_below 0 true x ≡ is_none (index_of x)
below_none x = by (index_of x)
  where
    by : (o : Option ℕ) → option_map_or (λ i. nat_lt i 0) o true ≡ is_none o
    by None = refl
    by (Some i) = over_no i 0 (omega arith)

pub emptied_pushed : (c : Cell) (vs : List Value) → pushed (cut_to c 0) 0 vs ≡ with_elements c vs
emptied_pushed c vs =
    let size : 0 + length vs ≡ length vs = omega arith in
    λ j. record c { kind = Array (size j); pairs = filter (λ p. below_none p.0 j) c.pairs ++ numbered_pairs 0 vs }
