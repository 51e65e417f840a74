-- The first values of the scope of a call, as the widget has them.
use Rattle.std.proofs.Common.{◌≡◌, ℕ, zero, suc, List, [], ◌∷◌, ◌++◌, refl, ap, subst, Option, None, Some, map}
use Rattle.std.specs.Prelude.{option_to_list, slice_get, unwrap_or}
use Rattle.std.specs.Option.{option_map}
use Rattle.js_tree.specs.declared.nodes.ScopeName.{ScopeName}
use Rattle.store_cells.specs.declared.value.Value.{Value}
use Rattle.store_cells.specs.declared.value.Value.TheVariants as value
use Rattle.store_cells.specs.declared.kind.FunParts.{FunParts}
use Rattle.store_cells.specs.Cells.{PlainCell}
use Rattle.store_cells.specs.First.{first_value, own_value, placed_values}
use Rattle.object_store.specs.Owned.{scope_number}
use Rattle.widget_meaning.specs.Values.{nth}
use Rattle.js_image.specs.Image.{all_seen, seen, seen_pairs}
use Rattle.js_image.specs.Held.{AreFine, ArePairs, IsFine}
use Rattle.js_names.specs.declared.names.FunNames.{FunNames}
use Rattle.js_names.specs.Names.{argument_at, first_pairs, own_pairs}
use Rattle.js_calls.specs.declared.invoking.Called.{Called}
use Rattle.js_calls.specs.Called.{named_scope, own_called}

-- a value among what the widget may hold
pub fine_at : (w : ℕ) (cells : List PlainCell) (vs : List Value) (k : ℕ) (v : Value) → slice_get vs k ≡ Some v → AreFine w cells vs → IsFine w cells v
fine_at w cells [] k v h f = absurd (none_some h)
  where
    none_some : {A : Type 0} {a : A} → None ≡ Some a → ⊥
    none_some e = cc
fine_at w cells (x ∷ vs) zero v h f = subst (IsFine w cells) (same x v h) f.0
  where
    same : {A : Type 0} (a b : A) → Some a ≡ Some b → a ≡ b
    same a b e = cc
fine_at w cells (x ∷ vs) (suc k) v h f = fine_at w cells vs k v h f.1

module _ (w : ℕ) (cells : List PlainCell) where
  -- the argument at a place
  seen_at : (vs : List Value) (k : ℕ) → seen w cells (unwrap_or (slice_get vs k) value.Undefined) ≡ nth k (all_seen w cells vs)
  seen_at [] k = refl
  seen_at (v ∷ vs) zero = refl
  seen_at (v ∷ vs) (suc k) = seen_at vs k

  fine_or : (vs : List Value) (k : ℕ) → AreFine w cells vs → IsFine w cells (unwrap_or (slice_get vs k) value.Undefined)
  fine_or [] k h = tt
  fine_or (v ∷ vs) zero h = h.0
  fine_or (v ∷ vs) (suc k) h = fine_or vs k h.1

  seen_value : (place : Option ℕ) (vs : List Value) → seen w cells (first_value place vs) ≡ argument_at place (all_seen w cells vs)
  seen_value None vs = refl
  seen_value (Some k) vs = seen_at vs k

  fine_value : (place : Option ℕ) (vs : List Value) → AreFine w cells vs → IsFine w cells (first_value place vs)
  fine_value None vs h = tt
  fine_value (Some k) vs h = fine_or vs k h

  -- the names with their first values
  pub seen_first : (names : List ScopeName) (vs : List Value) (own : Option (List ℕ)) (f : Value)
      → seen_pairs w cells (placed_values names vs ++ own_value own f) ≡ first_pairs names (all_seen w cells vs) ++ own_pairs own (seen w cells f)
  seen_first [] vs None f = refl
  seen_first [] vs (Some x) f = refl
  seen_first (n ∷ names) vs own f = λ i. (n.text, seen_value n.argument vs i) ∷ seen_first names vs own f i

  pub fine_first : (names : List ScopeName) (vs : List Value) (own : Option (List ℕ)) (f : Value)
      → AreFine w cells vs → IsFine w cells f → ArePairs w cells (placed_values names vs ++ own_value own f)
  fine_first [] vs None f h g = tt
  fine_first [] vs (Some x) f h g = (g, tt)
  fine_first (n ∷ names) vs own f h g = (fine_value n.argument vs h, fine_first names vs own f h g)

-- their names
pub first_texts : (names : List ScopeName) (vs : List Value) (own : Option (List ℕ)) (f : Value)
    → map (λ (p : List ℕ × Value). p.0) (placed_values names vs ++ own_value own f) ≡ map (λ (n : ScopeName). n.text) names ++ option_to_list own
first_texts [] vs None f = refl
first_texts [] vs (Some x) f = refl
first_texts (n ∷ names) vs own f = ap (λ l. n.text ∷ l) (first_texts names vs own f)

-- the scope by an own name that is known to be the one of its calls
pub named_by : (w : ℕ) (cells : List PlainCell) (n : FunNames) (p : FunParts) (c : Called) (own : Option (List ℕ)) → own ≡ own_called p.declared n.own
    → (record { outer = option_map (scope_number w cells) p.scope; pairs = first_pairs n.names.items (all_seen w cells c.args.now) ++ own_pairs own (seen w cells c.func.now) }) ≡ named_scope w cells n p c
named_by w cells n p c own same = λ i. record { outer = option_map (scope_number w cells) p.scope; pairs = first_pairs n.names.items (all_seen w cells c.args.now) ++ own_pairs (same i) (seen w cells c.func.now) }
