-- What passes a test stands, among all that pass, at the number of those before it.
use Rattle.std.proofs.Common.{◌≡◌, ℕ, zero, suc, Bool, true, false, List, [], ◌∷◌, ap, ◌∙◌, map, filter, take, slice_get, Some, if◌then◌else◌}
use Rattle.std.specs.List.{count_by}
use Rattle.store_cells.specs.Lists.{count_before}
use Rattle.store_cells.specs.Cells.{Cells, PlainCell, is_visible, own_count}
use Rattle.store_cells.proofs.Lists.{count_step, none_some, some_same}
use Rattle.object_store.specs.Owned.{is_own_scope, own_cell, own_scope, owned, scope_number}

pub passed_at : {X Y : Type 0} (p : X → Bool) (h : X → Y) (xs : List X) (i : ℕ) (x : X) → slice_get xs i ≡ Some x → p x ≡ true
    → slice_get (map h (filter p xs)) (count_before p xs i) ≡ Some (h x)
passed_at p h [] i x e px = absurd (none_some e)
passed_at p h (y ∷ xs) zero x e px =
    let s : y ≡ x = some_same y x e in
    ap (λ b. slice_get (map h (if b then y ∷ filter p xs else filter p xs)) 0) (ap p s ∙ px) ∙ ap (λ z. Some (h z)) s
passed_at p h (y ∷ xs) (suc i) x e px =
    ap (λ n. slice_get (map h (filter p (y ∷ xs))) n) (count_step p y (take i xs)) ∙ by_test (p y) (passed_at p h xs i x e px)
  where
    by_test : (b : Bool) → slice_get (map h (filter p xs)) (count_by p (take i xs)) ≡ Some (h x)
        → slice_get (map h (if b then y ∷ filter p xs else filter p xs)) (if b then suc (count_by p (take i xs)) else count_by p (take i xs)) ≡ Some (h x)
    by_test true q = q
    by_test false q = q

pub cell_at : (w i : ℕ) (s : Cells) (c : PlainCell) → slice_get s.cells i ≡ Some c → is_visible w c ≡ true
    → slice_get (owned w s).heap (own_count w s.cells i) ≡ Some (own_cell w s.cells c)
unfolding owned
cell_at w i s c at mine = passed_at (is_visible w) (own_cell w s.cells) s.cells i c at mine

pub scope_at : (w i : ℕ) (s : Cells) (c : PlainCell) → slice_get s.cells i ≡ Some c → is_own_scope w c ≡ true
    → slice_get (owned w s).scopes (scope_number w s.cells i) ≡ Some (own_scope w s.cells c)
unfolding owned
scope_at w i s c at mine = passed_at (is_own_scope w) (own_scope w s.cells) s.cells i c at mine
