-- A call of one widget is not seen by the others.
use Rattle.std.proofs.Common.{◌≡◌, ℕ, zero, suc, ◌<◌, List, [], ◌∷◌, ◌++◌, length, refl, sym, ap, ◌∙◌, Option, Some, None, arith, Bool, true, false, eqb, if◌then◌else◌, true≢false, slice_get, not, is_some}
use Rattle.std.specs.Prelude.{Result, Ok, Err, OnOk, OnErr, IfOk, IfSome, MatchOption, ◌&&◌, nat_lt}
use Rattle.std.specs.List.{list_all}
use Rattle.std.specs.Map.{remove_entry}
use Rattle.std.specs.Option.{option_map_or}
use Rattle.std.specs.Str.{bytes_eq}
use Rattle.std.proofs.lemmas.Bool.Decides.{nat_tests}
use Rattle.code_units.specs.declared.owner.Owner.{Owner}
use Rattle.code_units.specs.declared.owner.Owner.TheVariants as whose
use Rattle.store_cells.specs.declared.value.Value.{Value}
use Rattle.store_cells.specs.declared.value.Value.TheVariants as value
use Rattle.store_cells.specs.declared.kind.Form.{Form}
use Rattle.store_cells.specs.declared.kind.Form.TheVariants as form
use Rattle.store_cells.specs.declared.counts.Counts.{Counts}
use Rattle.object_store.specs.declared.store.NewCell.{NewCell}
use Rattle.object_store.specs.declared.store.NewCell.TheVariants as new
use Rattle.store_cells.specs.declared.counts.StoreFault.{StoreFault}
use Rattle.store_cells.specs.declared.counts.StoreFault.TheVariants as fault
use Rattle.store_cells.specs.Lists.{changed, climb}
use Rattle.code_units.specs.Indices.{index_of}
use Rattle.store_cells.specs.Cells.{Cells, PlainCell, form_at, has_own, holder, is_array, is_bunch, is_raw, is_scope, is_scope_at, raw_cell, widget_of, writer_in}
use Rattle.store_cells.specs.Arrays.{cut, extended, is_bad_length, length_in, length_name, length_of, placed, resized, stored, written}
use Rattle.store_cells.specs.Host.{array_prototype, function_prototype}
use Rattle.store_cells.specs.Bunches.{AreBunches, IsBunch}
use Rattle.store_cells.specs.Shape.{IsLinked}
use Rattle.object_store.specs.Calls.{Adds, IsCharged, IsMade, IsPut, IsRemoved, born, cells_for, kept_after, make_done, put_done, put_refusal, remove_done, remove_refusal, slots_for, slots_of, unit_cost, var_done}
use Rattle.store_cells.specs.Born.{array_cell, made, new_cell, object_cell, raw_place, scope_cell, unset}
use Rattle.store_cells.specs.Costs.{cost_refusal, paid}
use Rattle.store_cells.specs.Arrays.{is_length_of, without}
use Rattle.object_store.specs.Owned.{is_of, is_of_at, own_cells, own_scopes, owned}
use Rattle.store_cells.proofs.Lists.{changed_past, none_some, some_same}
use Rattle.store_cells.proofs.Places.{position_push}
use Rattle.store_cells.proofs.Heads.{scope_no_bunch}
use Rattle.store_cells.proofs.Hosts.{changed_apart}
use Rattle.store_cells.proofs.Closed.{bunch_stays}
use Rattle.object_store.proofs.Views.{others_changed, others_grown}

-- a write changes neither whose a cell is nor what it is
module _ (name : List ℕ) (v : Value) (c : PlainCell) where
  resized_owner : (o : Option ℕ) → (option_map_or (λ n. cut n (written length_name v c)) o c).owner ≡ c.owner
  resized_owner None = refl
  resized_owner (Some n) = refl

  resized_form : (o : Option ℕ) → (option_map_or (λ n. cut n (written length_name v c)) o c).form ≡ c.form
  resized_form None = refl
  resized_form (Some n) = refl

  placed_owner : (o : Option ℕ) → (placed name v c o).owner ≡ c.owner
  placed_owner None = refl
  placed_owner (Some i) = by (nat_lt i (length_of c.pairs))
    where
      by : (b : Bool) → (if b then written name v c else extended name v i c).owner ≡ c.owner
      by true = refl
      by false = refl

  placed_form : (o : Option ℕ) → (placed name v c o).form ≡ c.form
  placed_form None = refl
  placed_form (Some i) = by (nat_lt i (length_of c.pairs))
    where
      by : (b : Bool) → (if b then written name v c else extended name v i c).form ≡ c.form
      by true = refl
      by false = refl

  pub stored_owner : (stored name v c).owner ≡ c.owner
  stored_owner = by (is_array c.form) (bytes_eq name length_name)
    where
      by : (a b : Bool) → (if a then (if b then resized v c else placed name v c (index_of name)) else written name v c).owner ≡ c.owner
      by true true = resized_owner (length_in v)
      by true false = placed_owner (index_of name)
      by false b = refl

  pub stored_form : (stored name v c).form ≡ c.form
  stored_form = by (is_array c.form) (bytes_eq name length_name)
    where
      by : (a b : Bool) → (if a then (if b then resized v c else placed name v c (index_of name)) else written name v c).form ≡ c.form
      by true true = resized_form (length_in v)
      by true false = placed_form (index_of name)
      by false b = refl

  pub without_owner : (without name c).owner ≡ c.owner
  without_owner = by (is_length_of name c)
    where
      by : (b : Bool) → (if b then c else record c { pairs = remove_entry (bytes_eq name) c.pairs }).owner ≡ c.owner
      by true = refl
      by false = refl

  pub without_form : (without name c).form ≡ c.form
  without_form = by (is_length_of name c)
    where
      by : (b : Bool) → (if b then c else record c { pairs = remove_entry (bytes_eq name) c.pairs }).form ≡ c.form
      by true = refl
      by false = refl

form_changed : (f : PlainCell → PlainCell) → ((c : PlainCell) → (f c).form ≡ c.form) → (cells : List PlainCell) (i k : ℕ) → form_at (changed cells i f) k ≡ form_at cells k
form_changed f same [] i k = refl
form_changed f same (c ∷ cells) zero zero = ap Some (same c)
form_changed f same (c ∷ cells) zero (suc k) = refl
form_changed f same (c ∷ cells) (suc i) zero = refl
form_changed f same (c ∷ cells) (suc i) (suc k) = form_changed f same cells i k

differs : (w v : ℕ) → eqb w v ≡ false → w ≡ v → ⊥
differs w v e f = grind (arith, nat_tests, e, f)

-- the widget that writes
writer_is : (o : Owner) (f : Form) (w v : ℕ) → writer_in o f ≡ Some w → is_of v o ≡ false → w ≡ v → ⊥
writer_is o f w v e g = by (is_bunch f) e
  where
    owner : (p : Option ℕ) → widget_of o ≡ p → p ≡ Some w → w ≡ v → ⊥
    owner p h k = differs w v (sym (ap (λ (q : Option ℕ). option_map_or (λ u. eqb u v) q false) (h ∙ k)) ∙ g)

    by : (b : Bool) → (if b then None else widget_of o) ≡ Some w → w ≡ v → ⊥
    by true h = absurd (none_some h)
    by false h = owner (widget_of o) refl h

module _ (s : Cells) (links : (i : ℕ) (c : PlainCell) → slice_get s.cells i ≡ Some c → IsLinked s.cells i c) (bunches_each : (i : ℕ) (c : PlainCell) → slice_get s.cells i ≡ Some c → is_bunch c.form ≡ true → IsBunch s.cells c) where
  pub bunches : AreBunches s.cells
  bunches = record { each = bunches_each }

  -- a cell that a widget may write to
  module _ (i w : ℕ) (c : PlainCell) (at : slice_get s.cells i ≡ Some c) (writer : writer_in c.owner c.form ≡ Some w) (f : PlainCell → PlainCell) (same_owner : (d : PlainCell) → (f d).owner ≡ d.owner) (same_form : (d : PlainCell) → (f d).form ≡ d.form) where
    pub stays : (d : PlainCell) (h : IsBunch s.cells d) → (g : IsBunch (changed s.cells i f) d) × (g.nodes ≡ h.nodes)
    stays d h = (bunch_stays s.cells (changed s.cells i f) i w c at writer (λ k e. changed_apart s.cells i k f e) (form_changed f same_form s.cells i) d h, refl)

    pub others_written : (counts : List Counts) (v : ℕ) → is_of v c.owner ≡ false → slice_get counts v ≡ slice_get s.kept v → owned v (record { cells = changed s.cells i f; kept = counts }) ≡ owned v s
    others_written counts v other paid_same = others_changed v f same_owner same_form s.cells i links bunches stays s.kept counts (ap (λ (o : Option PlainCell). option_map_or (λ (d : PlainCell). is_of v d.owner) o false) at ∙ other) paid_same

  -- who may write
  pub put_writer : (i : ℕ) (name : List ℕ) (u : Value) (c : PlainCell) → slice_get s.cells i ≡ Some c → put_refusal s i name u ≡ None → (x : ℕ) × (writer_in c.owner c.form ≡ Some x)
  put_writer i name u c at none = by (writer_in c.owner c.form) refl
    where
      some_none : Some fault.Closed ≡ None → ⊥
      some_none e = cc

      by : (o : Option ℕ) → writer_in c.owner c.form ≡ o → (x : ℕ) × (writer_in c.owner c.form ≡ Some x)
      by None e = absurd (some_none (sym (ap (λ (p : Option PlainCell). option_map_or (λ (d : PlainCell). option_map_or (λ w. if is_bad_length name u d then Some fault.BadLength else cost_refusal s.kept w 0 (slots_for name d)) (writer_in d.owner d.form) (Some fault.Closed)) p None) at ∙ ap (λ (p : Option ℕ). option_map_or (λ w. if is_bad_length name u c then Some fault.BadLength else cost_refusal s.kept w 0 (slots_for name c)) p (Some fault.Closed)) e) ∙ none))
      by (Some x) e = (x, e)

  pub remove_writer : (i : ℕ) (c : PlainCell) → slice_get s.cells i ≡ Some c → remove_refusal s i ≡ None → (x : ℕ) × (writer_in c.owner c.form ≡ Some x)
  remove_writer i c at none = by (writer_in c.owner c.form) refl
    where
      some_none : Some fault.Closed ≡ None → ⊥
      some_none e = cc

      by : (o : Option ℕ) → writer_in c.owner c.form ≡ o → (x : ℕ) × (writer_in c.owner c.form ≡ Some x)
      by None e = absurd (some_none (sym (ap (λ (p : Option PlainCell). option_map_or (λ (d : PlainCell). if not (is_some (writer_in d.owner d.form)) then Some fault.Closed else None) p None) at ∙ ap (λ (p : Option ℕ). if not (is_some p) then Some fault.Closed else None) e) ∙ none))
      by (Some x) e = (x, e)

  -- `put`
  module _ (i : ℕ) (name : List ℕ) (u : Value) (v : ℕ) (other : is_of_at v s.cells i ≡ false) where
    put_open : (c : PlainCell) → slice_get s.cells i ≡ Some c → put_refusal s i name u ≡ None → (o : Option ℕ) → writer_in c.owner c.form ≡ o → owned v (put_done s i name u) ≡ owned v s
    put_open c at none None e =
        absurd (some_none (sym (ap (λ (p : Option PlainCell). option_map_or (λ (d : PlainCell). option_map_or (λ w. if is_bad_length name u d then Some fault.BadLength else cost_refusal s.kept w 0 (slots_for name d)) (writer_in d.owner d.form) (Some fault.Closed)) p None) at ∙ ap (λ (p : Option ℕ). option_map_or (λ w. if is_bad_length name u c then Some fault.BadLength else cost_refusal s.kept w 0 (slots_for name c)) p (Some fault.Closed)) e) ∙ none))
      where
        some_none : Some fault.Closed ≡ None → ⊥
        some_none e = cc
    put_open c at none (Some w) e = others_written i w c at e (stored name u) (stored_owner name u) (stored_form name u) (put_done s i name u).kept v mine counts
      where
        mine : is_of v c.owner ≡ false
        mine = sym (ap (λ (o : Option PlainCell). option_map_or (λ (d : PlainCell). is_of v d.owner) o false) at) ∙ other

        counts : slice_get (put_done s i name u).kept v ≡ slice_get s.kept v
        counts = ap (λ (o : Option PlainCell). slice_get (option_map_or (kept_after s.kept name) o s.kept) v) at ∙ ap (λ (o : Option ℕ). slice_get (option_map_or (λ x. changed s.kept x (paid 0 (slots_for name c) 0)) o s.kept) v) e ∙ changed_apart s.kept w v (paid 0 (slots_for name c) 0) (writer_is c.owner c.form w v e mine)

    put_others : put_refusal s i name u ≡ None → (o : Option PlainCell) → slice_get s.cells i ≡ o → owned v (put_done s i name u) ≡ owned v s
    put_others none None at = ap (owned v) (λ j. record { cells = changed_past s.cells i (stored name u) at j; kept = ap (λ (o : Option PlainCell). option_map_or (kept_after s.kept name) o s.kept) at j })
    put_others none (Some c) at = put_open c at none (writer_in c.owner c.form) refl

    pub put_seen : {E : Type 0} (r : Result (Unit {0}) E) (t : Cells) → OnOk r (IsPut s t i name u) → OnErr r (t ≡ s) → owned v t ≡ owned v s
    put_seen (Ok x) t ok err = ap (owned v) ok.done ∙ put_others ok.allowed (slice_get s.cells i) refl
    put_seen (Err x) t ok err = ap (owned v) err

  -- `remove`
  module _ (i : ℕ) (name : List ℕ) (v : ℕ) (other : is_of_at v s.cells i ≡ false) where
    remove_open : (c : PlainCell) → slice_get s.cells i ≡ Some c → remove_refusal s i ≡ None → (o : Option ℕ) → writer_in c.owner c.form ≡ o → owned v (remove_done s i name) ≡ owned v s
    remove_open c at none None e = absurd (some_none (sym (ap (λ (p : Option PlainCell). option_map_or (λ (d : PlainCell). if not (is_some (writer_in d.owner d.form)) then Some fault.Closed else None) p None) at ∙ ap (λ (p : Option ℕ). if not (is_some p) then Some fault.Closed else None) e) ∙ none))
      where
        some_none : Some fault.Closed ≡ None → ⊥
        some_none e = cc
    remove_open c at none (Some w) e = others_written i w c at e (without name) (without_owner name value.Undefined) (without_form name value.Undefined) s.kept v (sym (ap (λ (o : Option PlainCell). option_map_or (λ (d : PlainCell). is_of v d.owner) o false) at) ∙ other) refl

    remove_others : remove_refusal s i ≡ None → (o : Option PlainCell) → slice_get s.cells i ≡ o → owned v (remove_done s i name) ≡ owned v s
    remove_others none None at = ap (owned v) (λ j. record { cells = changed_past s.cells i (without name) at j; kept = s.kept })
    remove_others none (Some c) at = remove_open c at none (writer_in c.owner c.form) refl

    pub remove_seen : {E : Type 0} (r : Result Bool E) (t : Cells) → IfOk r (λ b. IsRemoved s t i name b) → OnErr r (t ≡ s) → owned v t ≡ owned v s
    remove_seen (Ok x) t ok err = ap (owned v) ok.done ∙ remove_others ok.allowed (slice_get s.cells i) refl
    remove_seen (Err x) t ok err = ap (owned v) err

  -- `var_set`
  module _ (from : ℕ) (name : List ℕ) (u : Value) (scope : is_scope_at s.cells from ≡ true) where
    is_scope_here : (i : ℕ) (c : PlainCell) → slice_get s.cells i ≡ Some c → is_scope_at s.cells i ≡ true → is_scope c.form ≡ true
    is_scope_here i c at e = sym (ap (λ (o : Option PlainCell). option_map_or (λ (d : PlainCell). is_scope d.form) o false) at) ∙ e

    climb_scopes : (f : ℕ) (o : Option ℕ) → IfSome o (λ i. is_scope_at s.cells i ≡ true) → (h : ℕ) → climb (has_own name) (λ c. c.up) f s.cells o ≡ Some h → (c : PlainCell) × (slice_get s.cells h ≡ Some c) × (is_scope c.form ≡ true)
    climb_scopes zero o e h g = absurd (none_some g)
    climb_scopes (suc f) None e h g = absurd (none_some g)
    climb_scopes (suc f) (Some i) e h g = by (slice_get s.cells i) refl g (λ o k l. climb_scopes f o k h l)
      where
        up_scope : (c : PlainCell) → is_scope c.form ≡ true → (o : Option ℕ) → IfSome o (λ j. (j < i) × (is_scope_at s.cells j ≡ is_scope c.form)) → IfSome o (λ j. is_scope_at s.cells j ≡ true)
        up_scope c is None k = tt
        up_scope c is (Some j) k = k.1 ∙ is

        by : (o : Option PlainCell) → slice_get s.cells i ≡ o → option_map_or (λ x. if has_own name x then Some i else climb (has_own name) (λ c. c.up) f s.cells x.up) o None ≡ Some h → ((o : Option ℕ) → IfSome o (λ i. is_scope_at s.cells i ≡ true) → climb (has_own name) (λ c. c.up) f s.cells o ≡ Some h → (c : PlainCell) × (slice_get s.cells h ≡ Some c) × (is_scope c.form ≡ true))
            → (c : PlainCell) × (slice_get s.cells h ≡ Some c) × (is_scope c.form ≡ true)
        by None at g rest = absurd (none_some g)
        by (Some c) at g rest = pick (has_own name c) g
          where
            is : is_scope c.form ≡ true
            is = is_scope_here i c at e

            pick : (b : Bool) → (if b then Some i else climb (has_own name) (λ c. c.up) f s.cells c.up) ≡ Some h → (c : PlainCell) × (slice_get s.cells h ≡ Some c) × (is_scope c.form ≡ true)
            pick true g = (c, ap (slice_get s.cells) (sym (some_same i h g)) ∙ at, is)
            pick false g = rest c.up (up_scope c is c.up (links i c at).up) g

    scope_writer : (c : PlainCell) → is_scope c.form ≡ true → is_some (widget_of c.owner) ≡ true → (w : ℕ) × (writer_in c.owner c.form ≡ Some w)
    scope_writer c is owned = by (widget_of c.owner) refl owned
      where
        by : (o : Option ℕ) → widget_of c.owner ≡ o → is_some o ≡ true → (w : ℕ) × (writer_in c.owner c.form ≡ Some w)
        by None e g = absurd (true≢false (sym g))
        by (Some w) e g = (w, ap (λ b. if b then None else widget_of c.owner) (scope_no_bunch c.form is) ∙ e)

    pub var_writer : (h : ℕ) → holder s.cells from name ≡ Some h → (x : ℕ) × (c : PlainCell) × (slice_get s.cells h ≡ Some c) × (writer_in c.owner c.form ≡ Some x)
    var_writer h e =
        let k = climb_scopes (length s.cells) (Some from) scope h e in
        let w = scope_writer k.0 k.2 ((links h k.0 k.1).owned k.2) in
        (w.0, k.0, k.1, w.1)

    pub var_seen : (t : Cells) (v : ℕ) → t ≡ var_done s from name u → option_map_or (is_of_at v s.cells) (holder s.cells from name) false ≡ false → owned v t ≡ owned v s
    var_seen t v done other = ap (owned v) done ∙ by (holder s.cells from name) refl other
      where
        by : (o : Option ℕ) → holder s.cells from name ≡ o → option_map_or (is_of_at v s.cells) o false ≡ false → owned v (record s { cells = option_map_or (λ h. changed s.cells h (written name u)) o s.cells }) ≡ owned v s
        by None e g = refl
        by (Some h) e g =
            let k = climb_scopes (length s.cells) (Some from) scope h e in
            let w = scope_writer k.0 k.2 ((links h k.0 k.1).owned k.2) in
            others_written h w.0 k.0 k.1 w.1 (written name u) (λ d. refl) (λ d. refl) s.kept v (sym (ap (λ (o : Option PlainCell). option_map_or (λ (d : PlainCell). is_of v d.owner) o false) k.1) ∙ g) refl

  -- `make`
  module _ (w v : ℕ) (apart : w ≡ v → ⊥) where
    not_own : eqb w v ≡ false
    not_own = by (eqb w v) refl
      where
        equal : eqb w v ≡ true → w ≡ v
        equal e = grind (arith, nat_tests, e)

        by : (b : Bool) → eqb w v ≡ b → b ≡ false
        by false e = refl
        by true e = absurd (apart (equal e))

    one_other : (c : PlainCell) → c.owner ≡ whose.Widget w → list_all (λ (c : PlainCell). not (is_of v c.owner)) (c ∷ []) ≡ true
    one_other c e = ap (λ o. not (is_of v o) && true) e ∙ ap (λ b. not b && true) not_own

    born_others : (n : NewCell) → list_all (λ (c : PlainCell). not (is_of v c.owner)) (born s.cells w n) ≡ true
    born_others (new.Object proto) = one_other (new_cell w form.Object proto) refl
    born_others new.Array = one_other (new_cell w form.Array array_prototype) refl
    born_others (new.Function code fun declared scope) = one_other (new_cell w (form.Function (record { code = code; fun = fun; declared = declared; scope = scope })) function_prototype) refl
    born_others (new.Scope outer list) = one_other (scope_cell w outer (unset list.items)) refl
    born_others (new.Bunch nodes) = ap (λ b. not b && true) not_own
    born_others (new.ObjectWith proto pairs) = one_other (object_cell w proto pairs.items) refl
    born_others (new.ArrayWith values) = one_other (array_cell w values.items) refl
    born_others (new.ScopeWith outer pairs) = one_other (scope_cell w outer pairs.items) refl

    pub make_others : (n : NewCell) → owned v (make_done s w n) ≡ owned v s
    make_others n = others_grown v s.cells (born s.cells w n) links bunches s.kept (make_done s w n).kept (born_others n) (changed_apart s.kept w v (paid (cells_for n) (slots_of n) 0) apart)

    -- a scope with its first pairs
    pub scope_others : {E : Type 0} (outer : Option ℕ) (ps : List (List ℕ × Value)) (n : ℕ) (r : Result ℕ E) (t : Cells) → IfOk r (λ id. Adds s t w id (scope_cell w outer ps ∷ []) 0 n) → OnErr r (t ≡ s) → owned v t ≡ owned v s
    scope_others outer ps n (Ok id) t ok err = ap (owned v) ok.done ∙ others_grown v s.cells (scope_cell w outer ps ∷ []) links bunches s.kept (made s w (scope_cell w outer ps ∷ []) 0 n).kept (one_other (scope_cell w outer ps) refl) (changed_apart s.kept w v (paid 0 n 0) apart)
    scope_others outer ps n (Err x) t ok err = ap (owned v) err

    pub make_seen : {E : Type 0} (n : NewCell) (r : Result ℕ E) (t : Cells) → IfOk r (λ id. IsMade s t w id n) → OnErr r (t ≡ s) → owned v t ≡ owned v s
    make_seen n (Ok id) t ok err = ap (owned v) ok.done ∙ make_others n
    make_seen n (Err x) t ok err = ap (owned v) err

  -- `add_raw`
  node_others : (node v : ℕ) → owned v (record { cells = s.cells ++ raw_cell node ∷ []; kept = s.kept }) ≡ owned v s
  node_others node v = others_grown v s.cells (raw_cell node ∷ []) links bunches s.kept s.kept refl refl

  pub node_seen : {E : Type 0} (node : ℕ) (r : Result ℕ E) (t : Cells) → IfOk r (λ id. MatchOption (raw_place node s.cells) ((id ≡ length s.cells) × (t ≡ record { cells = s.cells ++ raw_cell node ∷ []; kept = s.kept })) (λ i. (id ≡ i) × (t ≡ s))) → OnErr r (t ≡ s) → (v : ℕ) → owned v t ≡ owned v s
  node_seen node (Ok id) t ok err v = by (raw_place node s.cells) ok
    where
      by : (o : Option ℕ) → MatchOption o ((id ≡ length s.cells) × (t ≡ record { cells = s.cells ++ raw_cell node ∷ []; kept = s.kept })) (λ i. (id ≡ i) × (t ≡ s)) → owned v t ≡ owned v s
      by None h = ap (owned v) h.1 ∙ node_others node v
      by (Some i) h = ap (owned v) h.1
  node_seen node (Err x) t ok err v = ap (owned v) err

-- `charge_units` and `charge_slots`
module _ (s : Cells) (w v : ℕ) (apart : w ≡ v → ⊥) where
  cost_others : (slots units : ℕ) → owned v (unit_cost s w slots units) ≡ owned v s
  unfolding owned
  cost_others slots units = λ j. record { heap = own_cells v s.cells s.cells; scopes = own_scopes v s.cells s.cells; paid = changed_apart s.kept w v (paid 0 slots units) apart j }

  pub cost_seen : {E : Type 0} (r : Result (Unit {0}) E) (o : Option StoreFault) (slots units : ℕ) (t : Cells) → OnOk r (IsCharged s t w slots units o) → OnErr r (t ≡ s) → owned v t ≡ owned v s
  cost_seen (Ok x) o slots units t ok err = ap (owned v) ok.done ∙ cost_others slots units
  cost_seen (Err x) o slots units t ok err = ap (owned v) err

-- `add_raw` gives the cell of the node
place_push : (node : ℕ) (cells : List PlainCell) → raw_place node cells ≡ None → raw_place node (cells ++ raw_cell node ∷ []) ≡ Some (length cells)
place_push node cells e =
    position_push (λ (c : PlainCell). is_raw node c.form) cells (raw_cell node) ∙ ap (λ (o : Option ℕ). option_map_or (λ i. Some i) o (if eqb node node then Some (length cells) else None)) e ∙ ap (λ b. if b then Some (length cells) else None) (self node)
  where
    self : (n : ℕ) → eqb n n ≡ true
    self n = grind (arith, nat_tests)

pub place_seen : {E : Type 0} (s : Cells) (node : ℕ) (r : Result ℕ E) (t : Cells) → IfOk r (λ id. MatchOption (raw_place node s.cells) ((id ≡ length s.cells) × (t ≡ record { cells = s.cells ++ raw_cell node ∷ []; kept = s.kept })) (λ i. (id ≡ i) × (t ≡ s))) → IfOk r (λ id. raw_place node t.cells ≡ Some id)
place_seen s node (Ok id) t ok = by (raw_place node s.cells) refl ok
  where
    by : (o : Option ℕ) → raw_place node s.cells ≡ o → MatchOption o ((id ≡ length s.cells) × (t ≡ record { cells = s.cells ++ raw_cell node ∷ []; kept = s.kept })) (λ i. (id ≡ i) × (t ≡ s)) → raw_place node t.cells ≡ Some id
    by None e h = ap (λ (c : Cells). raw_place node c.cells) h.1 ∙ place_push node s.cells e ∙ ap Some (sym h.0)
    by (Some i) e h = ap (λ (c : Cells). raw_place node c.cells) h.1 ∙ e ∙ ap Some (sym h.0)
place_seen s node (Err x) t ok = tt
