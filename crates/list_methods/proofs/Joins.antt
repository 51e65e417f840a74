-- The texts of elements, one behind the other.
use Rattle.std.proofs.Common.{◌≡◌, ℕ, zero, suc, ◌+◌, ◌<◌, ◌≤◌, List, [], ◌∷◌, ◌++◌, length, take, get_or, Bool, true, false, if◌then◌else◌, refl, sym, ap, ◌∙◌, arith, append_assoc, append-nil, length-append}
use Rattle.std.specs.List.{flat_map, join_by}
use Rattle.std.proofs.lemmas.List.Concat.{flat_map-append}
use Rattle.std.proofs.lemmas.List.{length-map, take-map}
use Rattle.store_cells.specs.declared.value.Value.{Value as StoreValue}
use Rattle.store_cells.specs.declared.value.Value.TheVariants as value
use Rattle.store_cells.specs.declared.value.Number.TheVariants as number
use Rattle.store_cells.specs.Cells.{PlainCell, own_count}
use Rattle.object_store.specs.Owned as store
use Rattle.object_store.specs.Owned.{visible_at}
use Rattle.widget_meaning.specs.Values.{Value, to_text}
use Rattle.widget_meaning.specs.ListNatives.{joined_text, separator}
use Rattle.js_image.specs.Image.{all_seen, meant, seen}
use Rattle.list_methods.specs.Parts.{joined_next}
use Rattle.list_methods.proofs.Lists.{length_taken, seen_more}

-- one more element
module _ (between : List ℕ) where
  next_is : (vs : List Value) (v : Value) → join_by joined_text between vs ++ joined_next between (length vs) v ≡ join_by joined_text between (vs ++ v ∷ [])
  next_is [] v = sym (append-nil (joined_text v))
  next_is (x ∷ xs) v =
      append_assoc (joined_text x) (flat_map (λ y. between ++ joined_text y) xs) (between ++ joined_text v)
      ∙ ap (λ l. joined_text x ++ l) (ap (λ l. flat_map (λ y. between ++ joined_text y) xs ++ l) (sym (append-nil (between ++ joined_text v))) ∙ sym (flat_map-append (λ y. between ++ joined_text y) xs (v ∷ [])))

  -- a front has no more units
  front_behind : (n : ℕ) (vs : List Value) → length (flat_map (λ v. between ++ joined_text v) (take n vs)) ≤ length (flat_map (λ v. between ++ joined_text v) vs)
  front_behind zero vs = omega arith
  front_behind (suc n) [] = omega arith
  front_behind (suc n) (x ∷ xs) = omega (arith, front_behind n xs, length-append (between ++ joined_text x) (flat_map (λ v. between ++ joined_text v) (take n xs)), length-append (between ++ joined_text x) (flat_map (λ v. between ++ joined_text v) xs))

  front_joined : (n : ℕ) (vs : List Value) → length (join_by joined_text between (take n vs)) ≤ length (join_by joined_text between vs)
  front_joined zero vs = omega arith
  front_joined (suc n) [] = omega arith
  front_joined (suc n) (x ∷ xs) = omega (arith, front_behind n xs, length-append (joined_text x) (flat_map (λ v. between ++ joined_text v) (take n xs)), length-append (joined_text x) (flat_map (λ v. between ++ joined_text v) xs))

-- the same, as a widget sees values
module _ (between : List ℕ) (w : ℕ) (cells : List PlainCell) (vs : List StoreValue) where
  pub joined_more : (i : ℕ) (v : StoreValue) (units : List ℕ) → i < length vs → v ≡ get_or vs i v → units ≡ join_by joined_text between (all_seen w cells (take i vs))
      → units ++ joined_next between i (seen w cells v) ≡ join_by joined_text between (all_seen w cells (take (i + 1) vs))
  joined_more i v units lt is h =
      let many : length (all_seen w cells (take i vs)) ≡ i = length-map (take i vs) (seen w cells) ∙ length_taken vs i (omega (arith, lt)) in
      (λ j. h j ++ joined_next between (sym many j) (seen w cells v))
      ∙ next_is between (all_seen w cells (take i vs)) (seen w cells v)
      ∙ ap (join_by joined_text between) (sym (seen_more w cells vs i v lt is))

  pub joined_front : (i : ℕ) → length (join_by joined_text between (all_seen w cells (take i vs))) ≤ length (join_by joined_text between (all_seen w cells vs))
  joined_front i = let e : all_seen w cells (take i vs) ≡ take i (all_seen w cells vs) = sym (take-map (seen w cells) i vs) in omega (arith, front_joined between i (all_seen w cells vs), ap (λ l. length (join_by joined_text between l)) e)

-- a value that is not absent, as a separator and as an element
ref_separator : (w : ℕ) (cells : List PlainCell) (i : ℕ) → separator (seen w cells (value.Ref i)) ≡ to_text (seen w cells (value.Ref i))
ref_separator w cells i = by (visible_at w cells i)
  where
    by : (b : Bool) → separator (meant (if b then store.Own (own_count w cells i) else store.Other i)) ≡ to_text (meant (if b then store.Own (own_count w cells i) else store.Other i))
    by true = refl
    by false = refl

pub separator_is : (w : ℕ) (cells : List PlainCell) (v : StoreValue) → (v ≡ value.Undefined → ⊥) → separator (seen w cells v) ≡ to_text (seen w cells v)
separator_is w cells value.Undefined h = absurd (h refl)
separator_is w cells value.Null h = refl
separator_is w cells (value.Bool b) h = refl
separator_is w cells (value.Num number.NaN) h = refl
separator_is w cells (value.Num (number.Whole z)) h = refl
separator_is w cells (value.Text t) h = refl
separator_is w cells (value.Ref i) h = ref_separator w cells i

ref_joined : (w : ℕ) (cells : List PlainCell) (i : ℕ) → joined_text (seen w cells (value.Ref i)) ≡ to_text (seen w cells (value.Ref i))
ref_joined w cells i = by (visible_at w cells i)
  where
    by : (b : Bool) → joined_text (meant (if b then store.Own (own_count w cells i) else store.Other i)) ≡ to_text (meant (if b then store.Own (own_count w cells i) else store.Other i))
    by true = refl
    by false = refl

pub joined_is : (w : ℕ) (cells : List PlainCell) (v : StoreValue) → (v ≡ value.Undefined → ⊥) → (v ≡ value.Null → ⊥) → joined_text (seen w cells v) ≡ to_text (seen w cells v)
joined_is w cells value.Undefined h g = absurd (h refl)
joined_is w cells value.Null h g = absurd (g refl)
joined_is w cells (value.Bool b) h g = refl
joined_is w cells (value.Num number.NaN) h g = refl
joined_is w cells (value.Num (number.Whole z)) h g = refl
joined_is w cells (value.Text t) h g = refl
joined_is w cells (value.Ref i) h g = ref_joined w cells i
