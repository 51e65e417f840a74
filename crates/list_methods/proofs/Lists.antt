-- Lists of values that a widget may hold, and as it sees them.
use Rattle.std.proofs.Common.{◌≡◌, ℕ, ℤ, zero, suc, pos, negsuc, ◌+◌, ◌<◌, ◌≤◌, List, [], ◌∷◌, ◌++◌, length, refl, sym, ap, ◌∙◌, subst, arith, append_assoc, append-nil, Some, None, Bool, true, false, if◌then◌else◌, take, drop, slice_get, map, reverse}
use Rattle.std.specs.Prelude.{◌-◌, ◌^◌, get_or, min, slice_range, sum_by, unwrap_or}
use Rattle.std.proofs.lemmas.List.{drop-map, length-map, map-append, reverse-append, take-map, take_more}
use Rattle.std.proofs.lemmas.List.FromFn.{length-map-range_with_len}
use Rattle.std.proofs.lemmas.List.Sums.{sum_by_push}
use Rattle.std.specs.List.{All, AllByRecursion, flat_map}
use Rattle.std.specs.Option.{option_map_or}
use Rattle.std.proofs.lemmas.List.Concat.{flat_map-append}
use Rattle.store_cells.specs.declared.value.Value.{Value}
use Rattle.store_cells.specs.declared.value.Value.TheVariants as value
use Rattle.store_cells.specs.declared.value.Number.{Number}
use Rattle.store_cells.specs.declared.value.Number.TheVariants as number
use Rattle.store_cells.specs.Cells.{PlainCell, own_count}
use Rattle.object_store.specs.Owned as store
use Rattle.object_store.specs.Owned.{visible_at}
use Rattle.object_store.specs.Grows.{Grows}
use Rattle.widget_meaning.specs.Values.{Value as Meant, Undefined, Null, Truth, NaN, Num, Text, Own, Host}
use Rattle.widget_meaning.specs.ListChanges.{array_elements}
use Rattle.widget_meaning.specs.OwnState.{State, array_length, cell_at, kind_of}
use Rattle.widget_meaning.specs.NativeForms.{clamped, element, elements, from_end}
use Rattle.js_image.specs.Held.{AreFine, IsFine}
use Rattle.js_image.specs.Elements.{own_place}
use Rattle.js_image.specs.Image.{all_seen, meant, seen}
use Rattle.js_image.proofs.Grown.{fine_stays, seen_stays}
use Rattle.native_common.specs.Numbers.{counted}

module _ {X : Type 0} (P : X → Type 0) where
  pub all_more : (xs ys : List X) → AllByRecursion P xs → AllByRecursion P ys → AllByRecursion P (xs ++ ys)
  all_more [] ys h g = g
  all_more (x ∷ xs) ys h g = (h.0, all_more xs ys h.1 g)

  pub all_taken : (n : ℕ) (xs : List X) → AllByRecursion P xs → AllByRecursion P (take n xs)
  all_taken zero xs h = tt
  all_taken (suc n) [] h = tt
  all_taken (suc n) (x ∷ xs) h = (h.0, all_taken n xs h.1)

  pub all_left : (n : ℕ) (xs : List X) → AllByRecursion P xs → AllByRecursion P (drop n xs)
  all_left zero xs h = h
  all_left (suc n) [] h = tt
  all_left (suc n) (x ∷ xs) h = all_left n xs h.1

  pub all_at : (xs : List X) (n : ℕ) (d : X) → AllByRecursion P xs → P d → P (unwrap_or (slice_get xs n) d)
  all_at [] n d h g = g
  all_at (x ∷ xs) zero d h g = h.0
  all_at (x ∷ xs) (suc n) d h g = all_at xs n d h.1 g

-- as the store grows
module _ (w : ℕ) (old new : List PlainCell) (g : Grows w old new) where
  pub all_stay : (vs : List Value) → AreFine w old vs → AreFine w new vs
  all_stay [] h = tt
  all_stay (v ∷ vs) h = (fine_stays w old new g v h.0, all_stay vs h.1)

  pub all_seen_stay : (vs : List Value) → AreFine w old vs → all_seen w new vs ≡ all_seen w old vs
  all_seen_stay [] h = refl
  all_seen_stay (v ∷ vs) h = λ j. seen_stays w old new g v h.0 j ∷ all_seen_stay vs h.1 j

-- at every place, and one after the other
pub at_places : {X : Type 0} (P : X → Type 0) (xs : List X) → AllByRecursion P xs → All P xs
at_places P [] h k d lt = absurd (omega (arith, lt))
at_places P (x ∷ xs) h zero d lt = h.0
at_places P (x ∷ xs) h (suc k) d lt = at_places P xs h.1 k d (omega (arith, lt))

pub one_by_one : {X : Type 0} (P : X → Type 0) (xs : List X) → All P xs → AllByRecursion P xs
one_by_one P [] h = tt
one_by_one P (x ∷ xs) h = (h 0 x (omega arith), one_by_one P xs (λ k d lt. h (suc k) d (omega (arith, lt))))

-- how long a front is
pub length_taken : {X : Type 0} (xs : List X) (i : ℕ) → i ≤ length xs → length (take i xs) ≡ i
length_taken xs zero h = refl
length_taken [] (suc i) h = absurd (omega (arith, h))
length_taken (x ∷ xs) (suc i) h = ap suc (length_taken xs i (omega (arith, h)))

-- one more element of a list, as the widget sees it
pub seen_more : (w : ℕ) (cells : List PlainCell) (xs : List Value) (i : ℕ) (v : Value) → i < length xs → v ≡ get_or xs i v → all_seen w cells (take (i + 1) xs) ≡ all_seen w cells (take i xs) ++ seen w cells v ∷ []
seen_more w cells xs i v lt is = ap (all_seen w cells) (take_more xs i v lt ∙ ap (λ x. take i xs ++ x ∷ []) (sym is)) ∙ map-append (seen w cells) (take i xs) (v ∷ [])

pub one_fine : (w : ℕ) (cells : List PlainCell) (xs : List Value) (i : ℕ) (v : Value) → i < length xs → v ≡ get_or xs i v → AreFine w cells xs → IsFine w cells v
one_fine w cells xs i v lt is h = subst (IsFine w cells) (sym is) (at_places (IsFine w cells) xs h i v lt)

-- how many elements there are
pub elements_length : (w : ℕ) (cells : List PlainCell) (vs : List Value) (st : State) (n len : ℕ) → all_seen w cells vs ≡ elements st n len → length vs ≡ len
elements_length w cells vs st n len h = sym (length-map vs (seen w cells)) ∙ ap length h ∙ length-map-range_with_len (element (cell_at st n).pairs) 0 len

-- a length as it is counted, with more
pub counted_more : (a b : ℕ) → min (counted a + b) (2 ^ 64 - 1) ≡ counted (a + b)
counted_more a b = by (2 ^ 64 - 1)
  where
    by : (m : ℕ) → min (min a m + b) m ≡ min (a + b) m
    by m = omega arith

pub counted_small : (a : ℕ) → a < 2 ^ 64 → counted a ≡ a
counted_small a h = omega (arith, h)

-- the charge, one argument after the other
module _ (st : State) (len : ℕ) where
  abbrev pub length_in : Meant → ℕ
  length_in v = unwrap_or (array_length (kind_of st v)) 0

  pub extra_none : (sum : ℕ) → sum ≡ counted len → sum ≡ counted (len + sum_by length_in [])
  extra_none sum h = let e : len ≡ len + 0 = omega arith in h ∙ ap counted e

  pub extra_more : (vs : List Meant) (v : Meant) (sum : ℕ) → sum ≡ counted (len + sum_by length_in vs) → min (sum + length_in v) (2 ^ 64 - 1) ≡ counted (len + sum_by length_in (vs ++ v ∷ []))
  extra_more vs v sum h =
      let e : (len + sum_by length_in vs) + length_in v ≡ len + sum_by length_in (vs ++ v ∷ []) = omega (arith, sum_by_push length_in vs v) in
      ap (λ s. min (s + length_in v) (2 ^ 64 - 1)) h ∙ counted_more (len + sum_by length_in vs) (length_in v) ∙ ap counted e

  pub extra_all : (vs : List Meant) (sum count : ℕ) → sum ≡ counted (len + sum_by length_in vs) → count ≡ length vs → min (sum + count) (2 ^ 64 - 1) ≡ counted (len + (sum_by length_in vs + length vs))
  extra_all vs sum count h c =
      let e : (len + sum_by length_in vs) + count ≡ len + (sum_by length_in vs + length vs) = omega (arith, c) in
      ap (λ s. min (s + count) (2 ^ 64 - 1)) h ∙ counted_more (len + sum_by length_in vs) count ∙ ap counted e

-- what an argument of `concat` adds
pub no_array_adds : (s : State) (v : Meant) → array_length (kind_of s v) ≡ None → array_elements s v ≡ v ∷ []
no_array_adds s (Own n) h = ap (λ o. option_map_or (elements s n) o (Own n ∷ [])) h
no_array_adds s Undefined h = refl
no_array_adds s Null h = refl
no_array_adds s (Truth b) h = refl
no_array_adds s NaN h = refl
no_array_adds s (Num z) h = refl
no_array_adds s (Text t) h = refl
no_array_adds s (Host e) h = refl

none_some : {A : Type 0} {a : A} → None ≡ Some a → ⊥
none_some h = cc

pub array_adds : (w : ℕ) (cells : List PlainCell) (s : State) (v : Value) (len : ℕ) → array_length (kind_of s (seen w cells v)) ≡ Some len → array_elements s (seen w cells v) ≡ elements s (own_place w cells v) len
array_adds w cells s (value.Ref i) len h = by (visible_at w cells i) h
  where
    by : (b : Bool) → array_length (kind_of s (meant (if b then store.Own (own_count w cells i) else store.Other i))) ≡ Some len → array_elements s (meant (if b then store.Own (own_count w cells i) else store.Other i)) ≡ elements s (own_count w cells i) len
    by true g = ap (λ o. option_map_or (elements s (own_count w cells i)) o (Own (own_count w cells i) ∷ [])) g
    by false g = absurd (none_some g)
array_adds w cells s value.Undefined len h = absurd (none_some h)
array_adds w cells s value.Null len h = absurd (none_some h)
array_adds w cells s (value.Bool b) len h = absurd (none_some h)
array_adds w cells s (value.Num n) len h = by n h
  where
    by : (n : Number) → array_length (kind_of s (seen w cells (value.Num n))) ≡ Some len → array_elements s (seen w cells (value.Num n)) ≡ elements s 0 len
    by number.NaN g = absurd (none_some g)
    by (number.Whole z) g = absurd (none_some g)
array_adds w cells s (value.Text t) len h = absurd (none_some h)

-- one more argument
pub flat_more : (f : Meant → List Meant) (first now : List Meant) (xs : List Meant) (y : Meant) → now ≡ first ++ flat_map f xs → now ++ f y ≡ first ++ flat_map f (xs ++ y ∷ [])
flat_more f first now xs y h =
    ap (λ l. l ++ f y) h ∙ append_assoc first (flat_map f xs) (f y) ∙ ap (λ l. first ++ l) (ap (λ l. flat_map f xs ++ l) (sym (append-nil (f y))) ∙ sym (flat_map-append f xs (y ∷ [])))

-- positions from the end are within
pub from_end_within : (len : ℕ) (z : ℤ) → from_end len z ≤ len
from_end_within len (pos n) = omega arith
from_end_within len (negsuc n) = omega arith

-- the number of arguments as it is counted
pub counted_args : (w : ℕ) (cells : List PlainCell) (vs : List Value) (n : ℕ) → n ≡ length vs → n < 2 ^ 64 → n ≡ counted (length (all_seen w cells vs))
counted_args w cells vs n is small = sym (counted_small n small) ∙ ap counted (is ∙ sym (length-map vs (seen w cells)))

-- a part of a list
pub part_seen : (w : ℕ) (cells : List PlainCell) (all part : List Value) (a b : ℕ) → part ≡ slice_range all a b → all_seen w cells part ≡ slice_range (all_seen w cells all) a b
part_seen w cells all part a b is = ap (all_seen w cells) is ∙ sym (take-map (seen w cells) (b - a) (drop a all)) ∙ ap (take (b - a)) (sym (drop-map (seen w cells) a all))

pub part_fine : (w : ℕ) (cells : List PlainCell) (all part : List Value) (a b : ℕ) → part ≡ slice_range all a b → AreFine w cells all → AreFine w cells part
part_fine w cells all part a b is h = subst (AreFine w cells) (sym is) (all_taken (IsFine w cells) (b - a) (drop a all) (all_left (IsFine w cells) a all h))

-- the last first
pub reverse_map : {X Y : Type 0} (f : X → Y) (xs : List X) → reverse (map f xs) ≡ map f (reverse xs)
reverse_map f [] = refl
reverse_map f (x ∷ xs) =
    reverse-append (f x ∷ []) (map f xs)
    ∙ ap (λ l. l ++ f x ∷ []) (reverse_map f xs)
    ∙ sym (map-append f (reverse xs) (x ∷ []))
    ∙ ap (map f) (sym (reverse-append (x ∷ []) xs))

pub all_reversed : {X : Type 0} (P : X → Type 0) (xs : List X) → AllByRecursion P xs → AllByRecursion P (reverse xs)
all_reversed P [] h = tt
all_reversed P (x ∷ xs) h = subst (AllByRecursion P) (sym (reverse-append (x ∷ []) xs)) (all_more P (reverse xs) (x ∷ []) (all_reversed P xs h.1) (h.0, tt))

-- a position is within
pub clamped_within : (len : ℕ) (z : ℤ) → clamped len z ≤ len
clamped_within len (pos n) = omega arith
clamped_within len (negsuc n) = omega arith
