-- Values as the widget has them.
use Rattle.std.proofs.Common.{◌≡◌, ℕ, zero, suc, List, [], ◌∷◌, Bool, true, false, refl, ap, map, slice_get, unwrap_or, if◌then◌else◌}
use Rattle.store_cells.specs.declared.value.Value.{Value}
use Rattle.store_cells.specs.declared.value.Value.TheVariants as value
use Rattle.store_cells.specs.Cells.{PlainCell, own_count}
use Rattle.object_store.specs.Owned as store
use Rattle.object_store.specs.Owned.{visible_at}
use Rattle.widget_meaning.specs.Values as meaning
use Rattle.js_image.specs.Image.{all_seen, meant, seen}
use Rattle.js_image.specs.Held.{AreFine}

-- what refers to a cell is an object
pub ref_is_object : (w : ℕ) (cells : List PlainCell) (i : ℕ) → meaning.is_object (seen w cells (value.Ref i)) ≡ true
ref_is_object w cells i = by (visible_at w cells i)
  where
    by : (b : Bool) → meaning.is_object (meant (if b then store.Own (own_count w cells i) else store.Other i)) ≡ true
    by true = refl
    by false = refl

-- the argument at a place
pub nth_seen : (w : ℕ) (cells : List PlainCell) (vs : List Value) (n : ℕ) → meaning.nth n (all_seen w cells vs) ≡ seen w cells (unwrap_or (slice_get vs n) value.Undefined)
nth_seen w cells [] n = refl
nth_seen w cells (v ∷ vs) zero = refl
nth_seen w cells (v ∷ vs) (suc n) = nth_seen w cells vs n

-- texts as values
pub texts_seen : (w : ℕ) (cells : List PlainCell) (ts : List (List ℕ)) → all_seen w cells (map value.Text ts) ≡ map meaning.Text ts
texts_seen w cells [] = refl
texts_seen w cells (t ∷ ts) = ap (λ vs. meaning.Text t ∷ vs) (texts_seen w cells ts)

-- a widget may hold them
pub texts_fine : (w : ℕ) (cells : List PlainCell) (ts : List (List ℕ)) → AreFine w cells (map value.Text ts)
texts_fine w cells [] = tt
texts_fine w cells (t ∷ ts) = (tt, texts_fine w cells ts)
