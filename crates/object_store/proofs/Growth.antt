-- Each call leaves what was there under its numbers.
use Rattle.std.proofs.Common.{◌≡◌, ℕ, zero, suc, List, [], ◌∷◌, ◌++◌, length, refl, sym, ap, ◌∙◌, subst, Option, Some, None, arith, Bool, true, false, slice_get, length-append}
use Rattle.std.specs.Prelude.{Result, Ok, Err, OnOk, OnErr, IfOk, MatchOption, ◌&&◌, if◌then◌else◌}
use Rattle.std.specs.Option.{option_map, option_map_or}
use Rattle.store_cells.specs.declared.value.Value.{Value}
use Rattle.store_cells.specs.declared.counts.StoreFault.{StoreFault}
use Rattle.store_cells.specs.Lists.{changed}
use Rattle.store_cells.specs.Cells.{Cells, PlainCell, holder, is_bunch, is_raw, is_scope, raw_cell}
use Rattle.store_cells.specs.Arrays.{stored, without, written}
use Rattle.store_cells.specs.Born.{raw_place}
use Rattle.object_store.specs.Calls.{Adds, IsCharged, IsMade, IsPut, IsRemoved, born, cells_for, put_done, remove_done, slots_of, unit_cost, var_done}
use Rattle.object_store.specs.Owned.{is_of, is_own_scope}
use Rattle.object_store.specs.Grows.{Grows}
use Rattle.object_store.specs.declared.store.NewCell.{NewCell}
use Rattle.store_cells.proofs.Lists.{get_first, length-changed, none_some}
use Rattle.store_cells.proofs.Places.{position_step}
use Rattle.object_store.proofs.Others.{stored_form, stored_owner, without_form, without_owner}
use Rattle.object_store.proofs.Views.{numbers_kept, numbers_older}

pub grows_same : (w : ℕ) (cells : List PlainCell) → Grows w cells cells
grows_same w cells = record {
  size = omega arith;
  visible = λ k lt. refl;
  count = λ k lt. refl;
  scope = λ k lt. refl;
  own_scope = λ k lt. refl;
  bunch = λ k lt. refl;
  raws = λ n i e. e;
}

-- a cell is changed, but not whose it is nor what it is
module _ (w : ℕ) (f : PlainCell → PlainCell) (same_owner : (c : PlainCell) → (f c).owner ≡ c.owner) (same_form : (c : PlainCell) → (f c).form ≡ c.form) where
  test_kept : (p : PlainCell → Bool) → ((c : PlainCell) → p (f c) ≡ p c) → (cs : List PlainCell) (i k : ℕ) → option_map_or p (slice_get (changed cs i f) k) false ≡ option_map_or p (slice_get cs k) false
  test_kept p h [] i k = refl
  test_kept p h (c ∷ cs) zero zero = h c
  test_kept p h (c ∷ cs) zero (suc k) = refl
  test_kept p h (c ∷ cs) (suc i) zero = refl
  test_kept p h (c ∷ cs) (suc i) (suc k) = test_kept p h cs i k

  -- a page node keeps its cell
  raw_kept : (n : ℕ) (cs : List PlainCell) (i : ℕ) → raw_place n (changed cs i f) ≡ raw_place n cs
  raw_kept n [] i = refl
  raw_kept n (c ∷ cs) zero =
      position_step (λ (d : PlainCell). is_raw n d.form) (f c) cs
      ∙ ap (λ b. if b then Some 0 else option_map suc (raw_place n cs)) (ap (is_raw n) (same_form c))
      ∙ sym (position_step (λ (d : PlainCell). is_raw n d.form) c cs)
  raw_kept n (c ∷ cs) (suc i) =
      position_step (λ (d : PlainCell). is_raw n d.form) c (changed cs i f)
      ∙ ap (λ (o : Option ℕ). if is_raw n c.form then Some 0 else option_map suc o) (raw_kept n cs i)
      ∙ sym (position_step (λ (d : PlainCell). is_raw n d.form) c cs)

  pub grows_changed : (cells : List PlainCell) (i : ℕ) → Grows w cells (changed cells i f)
  grows_changed cells i =
      let same = numbers_kept w f same_owner same_form cells i (length cells) in
      record {
        size = omega (arith, length-changed cells i f);
        visible = same.visible;
        count = same.count;
        scope = same.scope;
        own_scope = λ k lt. test_kept (is_own_scope w) (λ c j. is_of w (same_owner c j) && is_scope (same_form c j)) cells i k;
        bunch = λ k lt. test_kept (λ c. is_bunch c.form) (λ c. ap is_bunch (same_form c)) cells i k;
        raws = λ n k e. raw_kept n cells i ∙ e;
      }

-- the first cell of a page node stays where it is as cells are added
raw_first : (n i : ℕ) (cs more : List PlainCell) → raw_place n cs ≡ Some i → raw_place n (cs ++ more) ≡ Some i
raw_first n i [] more e = absurd (none_some e)
raw_first n i (c ∷ cs) more e =
    position_step (λ (d : PlainCell). is_raw n d.form) c (cs ++ more)
    ∙ by (is_raw n c.form) (raw_place n cs) (λ k h. raw_first n k cs more h) (sym (position_step (λ (d : PlainCell). is_raw n d.form) c cs) ∙ e)
  where
    by : (b : Bool) (o : Option ℕ) → ((k : ℕ) → o ≡ Some k → raw_place n (cs ++ more) ≡ Some k) → (if b then Some 0 else option_map suc o) ≡ Some i → (if b then Some 0 else option_map suc (raw_place n (cs ++ more))) ≡ Some i
    by true o h g = g
    by false None h g = absurd (none_some g)
    by false (Some k) h g = ap (option_map suc) (h k refl) ∙ g

-- more cells
pub grows_more : (w : ℕ) (cells more : List PlainCell) → Grows w cells (cells ++ more)
grows_more w cells more =
    let same = numbers_older w cells more in
    record {
      size = omega (arith, length-append cells more);
      visible = same.visible;
      count = same.count;
      scope = same.scope;
      own_scope = λ k lt. ap (λ (o : Option PlainCell). option_map_or (is_own_scope w) o false) (get_first cells more k lt);
      bunch = λ k lt. ap (λ (o : Option PlainCell). option_map_or (λ c. is_bunch c.form) o false) (get_first cells more k lt);
      raws = λ n i e. raw_first n i cells more e;
    }

pub grows_to : (w : ℕ) (s t u : Cells) → t ≡ u → Grows w s.cells u.cells → Grows w s.cells t.cells
grows_to w s t u e g = subst (λ (d : Cells). Grows w s.cells d.cells) (sym e) g

pub grows_back : (w : ℕ) (s t : Cells) → t ≡ s → Grows w s.cells t.cells
grows_back w s t e = grows_to w s t s e (grows_same w s.cells)

module _ (s : Cells) (w : ℕ) where
  pub put_grows : {E : Type 0} (i : ℕ) (name : List ℕ) (u : Value) (r : Result (Unit {0}) E) (t : Cells) → OnOk r (IsPut s t i name u) → OnErr r (t ≡ s) → Grows w s.cells t.cells
  put_grows i name u (Ok x) t ok err = grows_to w s t (put_done s i name u) ok.done (grows_changed w (stored name u) (stored_owner name u) (stored_form name u) s.cells i)
  put_grows i name u (Err x) t ok err = grows_back w s t err

  pub remove_grows : {E : Type 0} (i : ℕ) (name : List ℕ) (u : Value) (r : Result Bool E) (t : Cells) → IfOk r (λ b. IsRemoved s t i name b) → OnErr r (t ≡ s) → Grows w s.cells t.cells
  remove_grows i name u (Ok x) t ok err = grows_to w s t (remove_done s i name) ok.done (grows_changed w (without name) (without_owner name u) (without_form name u) s.cells i)
  remove_grows i name u (Err x) t ok err = grows_back w s t err

  pub var_grows : (from : ℕ) (name : List ℕ) (u : Value) (t : Cells) → t ≡ var_done s from name u → Grows w s.cells t.cells
  var_grows from name u t done = grows_to w s t (var_done s from name u) done (by (holder s.cells from name))
    where
      by : (o : Option ℕ) → Grows w s.cells (option_map_or (λ h. changed s.cells h (written name u)) o s.cells)
      by None = grows_same w s.cells
      by (Some h) = grows_changed w (written name u) (λ c. refl) (λ c. refl) s.cells h

  pub adds_grow : {E : Type 0} (v : ℕ) (more : List PlainCell) (c n : ℕ) (r : Result ℕ E) (t : Cells) → IfOk r (λ id. Adds s t v id more c n) → OnErr r (t ≡ s) → Grows w s.cells t.cells
  adds_grow v more c n (Ok id) t ok err = subst (λ (d : Cells). Grows w s.cells d.cells) (sym ok.done) (grows_more w s.cells more)
  adds_grow v more c n (Err x) t ok err = grows_back w s t err

  pub make_grows : {E : Type 0} (v : ℕ) (n : NewCell) (r : Result ℕ E) (t : Cells) → IfOk r (λ id. IsMade s t v id n) → OnErr r (t ≡ s) → Grows w s.cells t.cells
  make_grows v n r t ok err = adds_grow v (born s.cells v n) (cells_for n) (slots_of n) r t ok err

  pub node_grows : {E : Type 0} (node : ℕ) (r : Result ℕ E) (t : Cells) → IfOk r (λ id. MatchOption (raw_place node s.cells) ((id ≡ length s.cells) × (t ≡ record { cells = s.cells ++ raw_cell node ∷ []; kept = s.kept })) (λ i. (id ≡ i) × (t ≡ s))) → OnErr r (t ≡ s) → Grows w s.cells t.cells
  node_grows node (Ok id) t ok err = by (raw_place node s.cells) ok
    where
      by : (o : Option ℕ) → MatchOption o ((id ≡ length s.cells) × (t ≡ record { cells = s.cells ++ raw_cell node ∷ []; kept = s.kept })) (λ i. (id ≡ i) × (t ≡ s)) → Grows w s.cells t.cells
      by None h = subst (λ (d : Cells). Grows w s.cells d.cells) (sym h.1) (grows_more w s.cells (raw_cell node ∷ []))
      by (Some i) h = grows_back w s t h.1
  node_grows node (Err x) t ok err = grows_back w s t err

  pub cost_grows : {E : Type 0} (r : Result (Unit {0}) E) (o : Option StoreFault) (v slots units : ℕ) (t : Cells) → OnOk r (IsCharged s t v slots units o) → OnErr r (t ≡ s) → Grows w s.cells t.cells
  cost_grows (Ok x) o v slots units t ok err = grows_to w s t (unit_cost s v slots units) ok.done (grows_same w s.cells)
  cost_grows (Err x) o v slots units t ok err = grows_back w s t err
