-- Values stay the same as the store grows.
use Rattle.std.proofs.Common.{◌≡◌, ℕ, zero, suc, ◌<◌, List, [], ◌∷◌, ◌++◌, length, refl, sym, ap, ◌∙◌, subst, Option, Some, None, arith, Bool, true, false, if◌then◌else◌, slice_get}
use Rattle.std.specs.Prelude.{IfSome, ◌&&◌, ◌||◌, nat_eq}
use Rattle.std.specs.List.{AllByRecursion}
use Rattle.std.specs.Option.{option_map, option_map_or}
use Rattle.js_tree.specs.Forest.{Forest}
use Rattle.store_cells.specs.declared.value.Value.{Value}
use Rattle.store_cells.specs.declared.value.Value.TheVariants as value
use Rattle.store_cells.specs.declared.kind.FunParts.{FunParts}
use Rattle.store_cells.specs.declared.counts.StoreFault.{StoreFault}
use Rattle.store_cells.specs.Cells.{Cells, PlainCell, function_in, is_scope, is_visible_form, widget_of}
use Rattle.store_cells.specs.Host.{is_permitted_cell}
use Rattle.object_store.specs.Owned as store
use Rattle.object_store.specs.Owned.{Owned, is_of, own_link, own_paid, own_value, owned, scope_number}
use Rattle.object_store.specs.Calls.{IsCharged}
use Rattle.object_store.specs.Grows.{Grows}
use Rattle.object_store.proofs.Growth.{grows_same}
use Rattle.js_image.specs.Image.{meant, seen}
use Rattle.js_image.specs.Held.{ArePairs, IsConfined, IsFine, IsFineFor, IsFunOf, IsHeld, IsOwnScope, IsPlaceScope, Kept}
use Rattle.js_image.proofs.Nodes.{hold_same, rise_same, rise_to}

module _ (w : ℕ) (old new : List PlainCell) (g : Grows w old new) where
  link_stays : (i : ℕ) → i < length old → own_link w new i ≡ own_link w old i
  link_stays i lt = λ j. if g.visible i lt j then store.Own (g.count i lt j) else store.Other i

  value_stays : (v : Value) → IsFine w old v → own_value w new v ≡ own_value w old v
  value_stays value.Undefined h = refl
  value_stays value.Null h = refl
  value_stays (value.Bool b) h = refl
  value_stays (value.Num n) h = refl
  value_stays (value.Text t) h = refl
  value_stays (value.Ref i) h = link_stays i h.0

  -- a value that the widget holds stays the same value
  pub seen_stays : (v : Value) → IsFine w old v → seen w new v ≡ seen w old v
  seen_stays v h = ap meant (value_stays v h)

  pub scope_stays : (o : Option ℕ) → IsPlaceScope w old o → option_map (scope_number w new) o ≡ option_map (scope_number w old) o
  scope_stays None h = refl
  scope_stays (Some i) h = ap Some (g.scope i h.0)

  longer : (i : ℕ) → i < length old → i < length new
  longer i lt = omega (arith, lt, g.size)

  pub held_stays : (i : ℕ) → IsHeld w old i → IsHeld w new i
  held_stays i h = (longer i h.0, ap (λ b. b || is_permitted_cell i) (g.visible i h.0) ∙ h.1)

  pub fine_stays : (v : Value) → IsFine w old v → IsFine w new v
  fine_stays value.Undefined h = tt
  fine_stays value.Null h = tt
  fine_stays (value.Bool b) h = tt
  fine_stays (value.Num n) h = tt
  fine_stays (value.Text t) h = tt
  fine_stays (value.Ref i) h = held_stays i h

  own_scope_stays : (i : ℕ) → IsOwnScope w old i → IsOwnScope w new i
  own_scope_stays i h = (longer i h.0, g.own_scope i h.0 ∙ h.1)

  pub place_stays : (o : Option ℕ) → IsPlaceScope w old o → IsPlaceScope w new o
  place_stays None h = tt
  place_stays (Some i) h = own_scope_stays i h

  pub pairs_stay : (ps : List (List ℕ × Value)) → ArePairs w old ps → ArePairs w new ps
  pairs_stay [] h = tt
  pairs_stay (p ∷ ps) h = (fine_stays p.1 h.0, pairs_stay ps h.1)

  up_stays : (o : Option ℕ) → IfSome o (IsHeld w old) → IfSome o (IsHeld w new)
  up_stays None h = tt
  up_stays (Some i) h = held_stays i h

  fun_stays : (fs : List Forest) (o : Option FunParts) → IfSome o (λ p. IsFunOf fs p × IsPlaceScope w old p.scope) → IfSome o (λ p. IsFunOf fs p × IsPlaceScope w new p.scope)
  fun_stays fs None h = tt
  fun_stays fs (Some p) h = (h.0, place_stays p.scope h.1)

  -- what a cell leads to stays what the widget may hold
  pub cell_stays : (fs : List Forest) (c : PlainCell) → IsFineFor fs w old c → IsFineFor fs w new c
  cell_stays fs c h = record {
    cell = λ v. record {
      up = up_stays c.up (h.cell v).up;
      pairs = λ b. pairs_stay c.pairs ((h.cell v).pairs b);
      names = (h.cell v).names;
      fun = fun_stays fs (function_in c.form) (h.cell v).fun;
    };
    scope = λ v. record { outer = place_stays c.up (h.scope v).outer; pairs = pairs_stay c.pairs (h.scope v).pairs };
  }

no_both : false ≡ true → ⊥
no_both e = cc

first_of : (a b : Bool) → (a && b) ≡ true → a ≡ true
first_of true b h = refl
first_of false b h = h

visible_of : (v : ℕ) (o : Option ℕ) (b : Bool) → option_map_or (λ u. nat_eq u v && b) o false ≡ true → option_map_or (λ u. nat_eq u v) o false ≡ true
visible_of v None b h = h
visible_of v (Some u) b h = first_of (nat_eq u v) b h

-- nothing is asked of a cell that is another's
pub passed_over : (fs : List Forest) (v : ℕ) (cells : List PlainCell) (c : PlainCell) → is_of v c.owner ≡ false → IsFineFor fs v cells c
passed_over fs v cells c h = record {
  cell = λ k. absurd (no_both (sym h ∙ visible_of v (widget_of c.owner) (is_visible_form c.form) k));
  scope = λ k. absurd (no_both (sym h ∙ first_of (is_of v c.owner) (is_scope c.form) k));
}

pub all_passed_over : (fs : List Forest) (v : ℕ) (cells cs : List PlainCell) → AllByRecursion (λ (c : PlainCell). is_of v c.owner ≡ false) cs → AllByRecursion (IsFineFor fs v cells) cs
all_passed_over fs v cells [] h = tt
all_passed_over fs v cells (c ∷ cs) h = (passed_over fs v cells c h.0, all_passed_over fs v cells cs h.1)

-- nothing changed
pub kept_same : (fs : List Forest) (w : ℕ) (old new : Cells) → new ≡ old → Kept fs w old new
kept_same fs w old new same = subst (λ (t : Cells). Kept fs w old t) (sym same) (record { confined = λ h. h; grows = grows_same w old.cells; others = λ v h. refl; others_grow = λ v h. grows_same v old.cells; others_confined = λ gs v h k. k; nodes = λ p h. h; counts = rise_same (owned w old).paid })

-- counts alone changed
pub kept_paid : (fs : List Forest) (w : ℕ) (old new : Cells) (n u : ℕ) (refusal : Option StoreFault) → IsCharged old new w n u refusal → owned w new ≡ own_paid 0 n u (owned w old) → ((v : ℕ) → Grows v old.cells new.cells) → ((v : ℕ) → (w ≡ v → ⊥) → owned v new ≡ owned v old) → Kept fs w old new
kept_paid fs w old new n u refusal charged own grows others = let same : new.cells ≡ old.cells = ap (λ (t : Cells). t.cells) charged.done in record {
  confined = λ h. subst (λ (l : List PlainCell). IsConfined fs w (record { cells = l; kept = new.kept })) (sym same) (record { each = h.each });
  grows = grows w;
  others_grow = λ v apart. grows v;
  others_confined = λ gs v apart h. subst (λ (l : List PlainCell). IsConfined gs v (record { cells = l; kept = new.kept })) (sym same) (record { each = h.each });
  others = others;
  nodes = λ p h. hold_same p w old new (ap (λ (o : Owned). o.heap) own) h;
  counts = rise_to 0 n u (owned w old).paid (owned w new).paid (ap (λ (o : Owned). o.paid) own);
}

-- an element of two lists one after the other
all_at : {X : Type 0} (P : X → Type 0) (xs : List X) → AllByRecursion P xs → (i : ℕ) (x : X) → slice_get xs i ≡ Some x → P x
all_at P [] h i x at = absurd (none_some at)
  where
    none_some : {A : Type 0} {a : A} → None ≡ Some a → ⊥
    none_some e = cc
all_at P (y ∷ xs) h zero x at = subst P (same y x at) h.0
  where
    same : {A : Type 0} (a b : A) → Some a ≡ Some b → a ≡ b
    same a b e = cc
all_at P (y ∷ xs) h (suc i) x at = all_at P xs h.1 i x at

by_append : {X : Type 0} (P : X → Type 0) (xs ys : List X) → ((i : ℕ) (x : X) → slice_get xs i ≡ Some x → P x) → AllByRecursion P ys → (i : ℕ) (x : X) → slice_get (xs ++ ys) i ≡ Some x → P x
by_append P [] ys h all i x at = all_at P ys all i x at
by_append P (y ∷ xs) ys h all zero x at = h zero x at
by_append P (y ∷ xs) ys h all (suc i) x at = by_append P xs ys (λ k z e. h (suc k) z e) all i x at

-- more cells, which lead to what the widget may hold
pub confined_more : (fs : List Forest) (w : ℕ) (s t : Cells) (more : List PlainCell) → t.cells ≡ s.cells ++ more → Grows w s.cells t.cells → AllByRecursion (IsFineFor fs w t.cells) more → IsConfined fs w s → IsConfined fs w t
confined_more fs w s t more is grows fine h = record {
  each = λ i c at. by_append (IsFineFor fs w t.cells) s.cells more (λ k d e. cell_stays w s.cells t.cells grows fs d (h.each k d e)) fine i c (ap (λ (l : List PlainCell). slice_get l i) (sym is) ∙ at);
}
