-- What a widget makes and pays, as it sees it.
use Rattle.std.proofs.Common.{◌≡◌, ℕ, zero, suc, ◌+◌, ◌<◌, ◌≤◌, List, [], ◌∷◌, ◌++◌, length, map, refl, sym, ap, ◌∙◌, subst, Option, Some, None, arith, Bool, true, false, eqb, cond, if◌then◌else◌, slice_get, filter, not}
use Rattle.std.specs.Prelude.{Result, Ok, Err, OnOk, IfOk, IfSome, ◌&&◌, nat_lt}
use Rattle.std.specs.Fmt.{decimal}
use Rattle.std.specs.List.{IsDistinct, list_all, count_by}
use Rattle.std.specs.Map.{lookup}
use Rattle.std.specs.Option.{option_map, option_map_or, option_and_then}
use Rattle.std.specs.Str.{bytes_eq}
use Rattle.std.proofs.lemmas.List.{length-map}
use Rattle.std.proofs.lemmas.List.Sums.{length-filter}
use Rattle.std.proofs.lemmas.Bool.Decides.{nat_tests}
use Rattle.std.proofs.lemmas.Slice.Eq.{bytes_eq-Decides}
use Rattle.js_tree.specs.declared.nodes.FunId.{FunId}
use Rattle.code_units.specs.declared.owner.Owner.{Owner}
use Rattle.code_units.specs.declared.owner.Owner.TheVariants as whose
use Rattle.store_cells.specs.declared.value.Value.{Value}
use Rattle.store_cells.specs.declared.value.Value.TheVariants as value
use Rattle.store_cells.specs.declared.kind.Form.{Form}
use Rattle.store_cells.specs.declared.kind.Form.TheVariants as form
use Rattle.object_store.specs.declared.store.NewCell.{NewCell}
use Rattle.object_store.specs.declared.store.NewCell.TheVariants as fresh
use Rattle.store_cells.specs.declared.counts.Counts.{Counts}
use Rattle.store_cells.specs.declared.counts.StoreFault.{StoreFault}
use Rattle.store_cells.specs.declared.counts.StoreFault.TheVariants as fault
use Rattle.store_cells.specs.declared.counts.TheConstants.{CELL_LIMIT, SLOT_LIMIT}
use Rattle.store_cells.specs.Cells.{Cells, PlainCell, is_bunch, is_own, is_scope, is_scope_at, is_visible, is_visible_form, kept_cells, own_count}
use Rattle.store_cells.specs.Arrays.{count_value, length_in, length_name, length_of}
use Rattle.store_cells.specs.Bunches.{IsBunch, array_pairs, bunch_cell, elements, hidden_array}
use Rattle.store_cells.specs.Host.{array_prototype, bunch_prototype, function_prototype, is_frozen_form, is_host_owner, is_permitted_cell, is_permitted_value, leads_on}
use Rattle.store_cells.specs.Shape.{AreElements, AreRefs, IsLinked}
use Rattle.store_cells.specs.Costs.{cost_refusal, kept_slots, paid}
use Rattle.store_cells.specs.Born.{HaveCells, IsScopeOf, array_cell, bunch_cells, made, new_cell, node_place, object_cell, scope_cell, unset}
use Rattle.object_store.specs.Calls.{Adds, IsCharged, IsMade, IsMakeable, born, cells_for, make_done, slots_of, unit_cost}
use Rattle.object_store.specs.Owned.{Made, OwnCell, OwnKind, OwnValue, ScopeMade, filled_own, first_cell, first_scope, is_own_scope, made_cells, made_scopes, own_cell, own_cells, own_link, own_made, own_paid, own_pairs, own_scope, own_scoped, own_scopes, owned, scope_number, visible_at}
use Rattle.store_cells.proofs.Lists.{changed_here, count_before-all, count_before-append}
use Rattle.store_table.proofs.Births.{places_lead}
use Rattle.store_cells.proofs.Closed.{cells_of_older}
use Rattle.store_cells.proofs.Elements.{element_length, refs_elements}
use Rattle.store_cells.proofs.Writes.{count_length}
use Rattle.object_store.proofs.Others.{bunches}
use Rattle.object_store.proofs.Views.{append_none, nodes_are, numbers_older, owned_grown, pairs_same, scope_same, value_same}

false_true : false ≡ true → ⊥
false_true g = cc

eqb_self : (w : ℕ) → eqb w w ≡ true
eqb_self w = grind (arith, nat_tests)

same_is : (a b : List ℕ) → a ≡ b → bytes_eq a b ≡ true
same_is a b e = (bytes_eq-Decides a b).1 e

-- the host's cells are no widget's
host_unseen : (w : ℕ) (cells : List PlainCell) (i : ℕ) → IfSome (slice_get cells i) (λ c. leads_on c ≡ true) → visible_at w cells i ≡ false
host_unseen w cells i h = by (slice_get cells i) h
  where
    owner : (o : Owner) (f : Form) (b : Bool) → (is_host_owner o && b) ≡ true → is_own w o f ≡ false
    owner whose.Host f b e = refl
    owner (whose.Widget v) f b e = absurd (false_true e)

    by : (o : Option PlainCell) → IfSome o (λ c. leads_on c ≡ true) → option_map_or (is_visible w) o false ≡ false
    by None h = refl
    by (Some c) h = owner c.owner c.form (is_frozen_form c.form && (option_map_or is_permitted_cell c.up true && list_all (λ p. is_permitted_value p.1) c.pairs)) h

host_link : (w : ℕ) (all : List PlainCell) (i : ℕ) → IfSome (slice_get all i) (λ c. leads_on c ≡ true) → own_link w all i ≡ OwnValue.Other i
host_link w all i h = ap (λ b. if b then OwnValue.Own (own_count w all i) else OwnValue.Other i) (host_unseen w all i h)

empty_length : length_of ((length_name, count_value 0) ∷ []) ≡ 0
empty_length = by (bytes_eq length_name length_name)
  where
    by : (b : Bool) → option_map_or (λ n. n) (option_and_then length_in (cond b (Some (count_value 0)) None)) 0 ≡ 0
    by true = refl
    by false = refl

empty_shown : filter (λ (p : List ℕ × Value). not (bytes_eq p.0 length_name)) ((length_name, count_value 0) ∷ []) ≡ []
empty_shown = ap (λ b. cond (not b) ((length_name, count_value 0) ∷ []) []) (same_is length_name length_name refl)

-- the length and the elements of a whole Array
whole_length : (vs : List Value) → length vs ≤ 4294967295 → length_of (array_pairs vs) ≡ length vs
whole_length vs le = ap (λ b. option_map_or (λ n. n) (option_and_then length_in (cond b (Some (count_value (length vs))) (lookup (bytes_eq length_name) (elements 0 vs)))) 0) (same_is length_name length_name refl) ∙ ap (λ (o : Option ℕ). option_map_or (λ n. n) o 0) (count_length (length vs) le)

elements_shown : (k : ℕ) (vs : List Value) → k + length vs ≤ 4294967295 → filter (λ (p : List ℕ × Value). not (bytes_eq p.0 length_name)) (elements k vs) ≡ elements k vs
elements_shown k [] le = refl
elements_shown k (v ∷ vs) le = ap (λ b. cond (not b) ((decimal k, v) ∷ filter (λ (p : List ℕ × Value). not (bytes_eq p.0 length_name)) (elements (suc k) vs)) (filter (λ (p : List ℕ × Value). not (bytes_eq p.0 length_name)) (elements (suc k) vs))) (element_length k (omega (arith, le))) ∙ ap (λ es. (decimal k, v) ∷ es) (elements_shown (suc k) vs (omega (arith, le)))

whole_shown : (vs : List Value) → length vs ≤ 4294967295 → filter (λ (p : List ℕ × Value). not (bytes_eq p.0 length_name)) (array_pairs vs) ≡ elements 0 vs
whole_shown vs le = ap (λ b. cond (not b) ((length_name, count_value (length vs)) ∷ filter (λ (p : List ℕ × Value). not (bytes_eq p.0 length_name)) (elements 0 vs)) (filter (λ (p : List ℕ × Value). not (bytes_eq p.0 length_name)) (elements 0 vs))) (same_is length_name length_name refl) ∙ elements_shown 0 vs (omega (arith, le))

second_at : {X : Type 0} (xs : List X) (x y : X) (n : ℕ) → n ≡ length xs + 1 → slice_get (xs ++ x ∷ y ∷ []) n ≡ Some y
second_at [] x y n e = ap (λ k. slice_get (x ∷ y ∷ []) k) e
second_at (z ∷ xs) x y zero e = absurd (omega (arith, e))
second_at (z ∷ xs) x y (suc n) e = second_at xs x y n (omega (arith, e))

-- a new cell, as its widget sees it
module _ (w : ℕ) (cells : List PlainCell) where
  object_seen : (more : List PlainCell) (proto : ℕ) → proto < length cells → own_cell w (cells ++ more) (new_cell w form.Object proto) ≡ first_cell OwnKind.Object (own_link w cells proto)
  object_seen more proto lt = ap (first_cell OwnKind.Object) (value_same w (length cells) (cells ++ more) cells (numbers_older w cells more) (value.Ref proto) lt)

  array_seen : (all : List PlainCell) → own_link w all array_prototype ≡ OwnValue.Other array_prototype → own_cell w all (new_cell w form.Array array_prototype) ≡ first_cell (OwnKind.Array 0) (OwnValue.Other array_prototype)
  array_seen all link = λ j. record { kind = OwnKind.Array (empty_length j); prototype = Some (link j); pairs = own_pairs w all (empty_shown j) }

  function_seen : (more : List PlainCell) (code : ℕ) (fun : FunId) (declared : Bool) (scope : Option ℕ) → IfSome scope (λ k. k < length cells) → own_link w (cells ++ more) function_prototype ≡ OwnValue.Other function_prototype
      → own_cell w (cells ++ more) (new_cell w (form.Function (record { code = code; fun = fun; declared = declared; scope = scope })) function_prototype) ≡ first_cell (OwnKind.Function code fun declared (option_map (scope_number w cells) scope)) (OwnValue.Other function_prototype)
  function_seen more code fun declared scope lt link = λ j. first_cell (OwnKind.Function code fun declared (scope_same w (length cells) (cells ++ more) cells (numbers_older w cells more) scope lt j)) (link j)

  abbrev new_bunch : (nodes : List ℕ) → IsDistinct eqb nodes → HaveCells cells nodes → IsBunch (cells ++ bunch_cells cells w nodes) (bunch_cell w (length cells + 1))
  new_bunch nodes distinct have = record {
    array = length cells + 1;
    refs = map (node_place cells) nodes;
    nodes = nodes;
    pairs = refl;
    hidden = second_at cells (bunch_cell w (length cells + 1)) (hidden_array (map (node_place cells) nodes)) (length cells + 1) refl;
    lead = cells_of_older cells (bunch_cells cells w nodes) (map (node_place cells) nodes) nodes (places_lead cells nodes have);
    distinct = distinct;
  }

  bunch_seen : (nodes : List ℕ) → IsDistinct eqb nodes → HaveCells cells nodes → own_link w (cells ++ bunch_cells cells w nodes) bunch_prototype ≡ OwnValue.Other bunch_prototype
      → own_cell w (cells ++ bunch_cells cells w nodes) (bunch_cell w (length cells + 1)) ≡ first_cell (OwnKind.Bunch nodes) (OwnValue.Other bunch_prototype)
  bunch_seen nodes distinct have link = λ j. first_cell (OwnKind.Bunch (nodes_are (cells ++ bunch_cells cells w nodes) (bunch_cell w (length cells + 1)) (new_bunch nodes distinct have) j)) (link j)

  unset_seen : (all : List PlainCell) (names : List (List ℕ)) → own_pairs w all (unset names) ≡ map (λ name. (name, OwnValue.Is value.Undefined)) names
  unset_seen all [] = refl
  unset_seen all (x ∷ xs) = ap (λ l. (x, OwnValue.Is value.Undefined) ∷ l) (unset_seen all xs)

  scope_seen : (more : List PlainCell) (outer : Option ℕ) (names : List (List ℕ)) → IfSome outer (λ k. k < length cells) → own_scope w (cells ++ more) (scope_cell w outer (unset names)) ≡ first_scope (option_map (scope_number w cells) outer) names
  scope_seen more outer names lt = λ j. record { outer = scope_same w (length cells) (cells ++ more) cells (numbers_older w cells more) outer lt j; pairs = unset_seen (cells ++ more) names j }

  -- first pairs
  pairs_seen : (more : List PlainCell) (ps : List (List ℕ × Value)) → AreRefs (length cells) ps → own_pairs w (cells ++ more) ps ≡ own_pairs w cells ps
  pairs_seen more ps refs = pairs_same w (length cells) (cells ++ more) cells (numbers_older w cells more) ps refs

  filled_seen : (more : List PlainCell) (proto : ℕ) (ps : List (List ℕ × Value)) → proto < length cells → AreRefs (length cells) ps → own_cell w (cells ++ more) (object_cell w proto ps) ≡ filled_own OwnKind.Object (own_link w cells proto) (own_pairs w cells ps)
  filled_seen more proto ps lt refs = λ j. filled_own OwnKind.Object (value_same w (length cells) (cells ++ more) cells (numbers_older w cells more) (value.Ref proto) lt j) (pairs_seen more ps refs j)

  bound_seen : (more : List PlainCell) (outer : Option ℕ) (ps : List (List ℕ × Value)) → IfSome outer (λ k. k < length cells) → AreRefs (length cells) ps → own_scope w (cells ++ more) (scope_cell w outer ps) ≡ record { outer = option_map (scope_number w cells) outer; pairs = own_pairs w cells ps }
  bound_seen more outer ps lt refs = λ j. record { outer = scope_same w (length cells) (cells ++ more) cells (numbers_older w cells more) outer lt j; pairs = pairs_seen more ps refs j }

  within : (o : Option ℕ) → IfSome o (λ k. (k < length cells) × (is_scope_at cells k ≡ true)) → IfSome o (λ k. k < length cells)
  within None h = tt
  within (Some k) h = h.0

  -- a scope with its first pairs is no visible cell, and one of the scopes
  bound_cells : (outer : Option ℕ) (ps : List (List ℕ × Value)) → own_cells w (cells ++ scope_cell w outer ps ∷ []) (scope_cell w outer ps ∷ []) ≡ []
  bound_cells outer ps = ap (λ b. map (own_cell w (cells ++ scope_cell w outer ps ∷ [])) (if b && false then (scope_cell w outer ps) ∷ [] else [])) (eqb_self w)

  bound_scopes : (outer : Option ℕ) (ps : List (List ℕ × Value)) → IsScopeOf cells outer → AreRefs (length cells) ps → own_scopes w (cells ++ scope_cell w outer ps ∷ []) (scope_cell w outer ps ∷ []) ≡ (record { outer = option_map (scope_number w cells) outer; pairs = own_pairs w cells ps }) ∷ []
  bound_scopes outer ps scope refs =
      let c = scope_cell w outer ps in
      ap (λ b. map (own_scope w (cells ++ c ∷ [])) (if b && true then c ∷ [] else [])) (eqb_self w) ∙ ap (λ x. x ∷ []) (bound_seen (c ∷ []) outer ps (within outer scope) refs)

  elements_seen : (more : List PlainCell) (vs : List Value) → AreElements (length cells) vs → length vs ≤ 4294967295 → own_link w (cells ++ more) array_prototype ≡ OwnValue.Other array_prototype → own_cell w (cells ++ more) (array_cell w vs) ≡ filled_own (OwnKind.Array (length vs)) (OwnValue.Other array_prototype) (own_pairs w cells (elements 0 vs))
  elements_seen more vs refs few link = λ j. filled_own (OwnKind.Array (whole_length vs few j)) (link j) ((ap (own_pairs w (cells ++ more)) (whole_shown vs few) ∙ pairs_seen more (elements 0 vs) (refs_elements (length cells) 0 vs refs)) j)

  -- it counts for its widget, as a visible cell or as a scope
  visible_seen : (all : List PlainCell) (f : Form) (up : ℕ) (d : OwnCell) → is_visible_form f ≡ true → own_cell w all (new_cell w f up) ≡ d → own_cells w all (new_cell w f up ∷ []) ≡ d ∷ []
  visible_seen all f up d v e = ap (λ b. map (own_cell w all) (if b && is_visible_form f then (new_cell w f up) ∷ [] else [])) (eqb_self w) ∙ ap (λ b. map (own_cell w all) (if b then (new_cell w f up) ∷ [] else [])) v ∙ ap (λ x. x ∷ []) e

  whole_seen : (all : List PlainCell) (c : PlainCell) (d : OwnCell) → is_visible w c ≡ true → own_cell w all c ≡ d → own_cells w all (c ∷ []) ≡ d ∷ []
  whole_seen all c d v e = ap (λ b. map (own_cell w all) (if b then c ∷ [] else [])) v ∙ ap (λ x. x ∷ []) e

  mine : (f : Form) → is_visible_form f ≡ true → is_own w (whose.Widget w) f ≡ true
  mine f v = ap (λ b. b && is_visible_form f) (eqb_self w) ∙ v

  unscoped : (all : List PlainCell) (c : PlainCell) → is_own_scope w c ≡ false → own_scopes w all (c ∷ []) ≡ []
  unscoped all c v = ap (λ b. map (own_scope w all) (if b then c ∷ [] else [])) v

  not_scope : (eqb w w && false) ≡ false
  not_scope = ap (λ b. b && false) (eqb_self w)

  no_scope_seen : (all : List PlainCell) (f : Form) (up : ℕ) → is_scope f ≡ false → own_scopes w all (new_cell w f up ∷ []) ≡ []
  no_scope_seen all f up v = ap (λ b. map (own_scope w all) (if b && is_scope f then (new_cell w f up) ∷ [] else [])) (eqb_self w) ∙ ap (λ b. map (own_scope w all) (if b then (new_cell w f up) ∷ [] else [])) v

  abbrev AreHosts : List PlainCell → Type 0
  AreHosts all = (i : ℕ) → is_permitted_cell i ≡ true → IfSome (slice_get all i) (λ c. leads_on c ≡ true)

  pub cells_born : (n : NewCell) → IsMakeable cells n → slots_of n ≤ 4294967295 → AreHosts (cells ++ born cells w n) → own_cells w (cells ++ born cells w n) (born cells w n) ≡ made_cells w cells n
  cells_born (fresh.Object proto) fit few hosts = visible_seen (cells ++ new_cell w form.Object proto ∷ []) form.Object proto (first_cell OwnKind.Object (own_link w cells proto)) refl (object_seen (new_cell w form.Object proto ∷ []) proto fit.within)
  cells_born fresh.Array fit few hosts =
      let all = cells ++ new_cell w form.Array array_prototype ∷ [] in
      visible_seen all form.Array array_prototype (first_cell (OwnKind.Array 0) (OwnValue.Other array_prototype)) refl (array_seen all (host_link w all array_prototype (hosts array_prototype refl)))
  cells_born (fresh.Function code fun declared scope) fit few hosts =
      let f : Form = form.Function (record { code = code; fun = fun; declared = declared; scope = scope }) in
      let more = new_cell w f function_prototype ∷ [] in
      visible_seen (cells ++ more) f function_prototype (first_cell (OwnKind.Function code fun declared (option_map (scope_number w cells) scope)) (OwnValue.Other function_prototype)) refl (function_seen more code fun declared scope (within scope fit) (host_link w (cells ++ more) function_prototype (hosts function_prototype refl)))
  cells_born (fresh.Scope outer names) fit few hosts = ap (λ b. map (own_cell w (cells ++ scope_cell w outer (unset names.items) ∷ [])) (if b && false then (scope_cell w outer (unset names.items)) ∷ [] else [])) (eqb_self w)
  cells_born (fresh.ObjectWith proto pairs) fit few hosts =
      let c = object_cell w proto pairs.items in
      whole_seen (cells ++ c ∷ []) c _ (mine form.Object refl) (filled_seen (c ∷ []) proto pairs.items fit.0.within fit.1.refs)
  cells_born (fresh.ArrayWith values) fit few hosts =
      let c = array_cell w values.items in
      whole_seen (cells ++ c ∷ []) c _ (mine form.Array refl) (elements_seen (c ∷ []) values.items fit few (host_link w (cells ++ c ∷ []) array_prototype (hosts array_prototype refl)))
  cells_born (fresh.ScopeWith outer pairs) fit few hosts = bound_cells outer pairs.items
  cells_born (fresh.Bunch nodes) fit few hosts =
      let all = cells ++ bunch_cells cells w nodes.items in
      ap (λ b. map (own_cell w all) (if b && true then (bunch_cell w (length cells + 1)) ∷ [] else [])) (eqb_self w) ∙ ap (λ x. x ∷ []) (bunch_seen nodes.items fit.0 fit.1 (host_link w all bunch_prototype (hosts bunch_prototype refl)))

  pub scopes_born : (n : NewCell) → IsMakeable cells n → own_scopes w (cells ++ born cells w n) (born cells w n) ≡ made_scopes w cells n
  scopes_born (fresh.Object proto) fit = no_scope_seen (cells ++ new_cell w form.Object proto ∷ []) form.Object proto refl
  scopes_born fresh.Array fit = no_scope_seen (cells ++ new_cell w form.Array array_prototype ∷ []) form.Array array_prototype refl
  scopes_born (fresh.Function code fun declared scope) fit =
      let f : Form = form.Function (record { code = code; fun = fun; declared = declared; scope = scope }) in
      no_scope_seen (cells ++ new_cell w f function_prototype ∷ []) f function_prototype refl
  scopes_born (fresh.Scope outer names) fit =
      let c = scope_cell w outer (unset names.items) in
      ap (λ b. map (own_scope w (cells ++ c ∷ [])) (if b && true then c ∷ [] else [])) (eqb_self w) ∙ ap (λ x. x ∷ []) (scope_seen (c ∷ []) outer names.items (within outer fit.0))
  scopes_born (fresh.ObjectWith proto pairs) fit = let c = object_cell w proto pairs.items in unscoped (cells ++ c ∷ []) c not_scope
  scopes_born (fresh.ArrayWith values) fit = let c = array_cell w values.items in unscoped (cells ++ c ∷ []) c not_scope
  scopes_born (fresh.ScopeWith outer pairs) fit = bound_scopes outer pairs.items fit.0 fit.1.refs
  scopes_born (fresh.Bunch nodes) fit = ap (λ b. map (own_scope w (cells ++ bunch_cells cells w nodes.items)) (if b && false then (bunch_cell w (length cells + 1)) ∷ [] else [])) (eqb_self w)

-- how many a widget has
count_own : (w : ℕ) (all cs : List PlainCell) → length (own_cells w all cs) ≡ count_by (is_visible w) cs
count_own w all cs = length-map (filter (is_visible w) cs) (own_cell w all) ∙ length-filter (is_visible w) cs

count_scopes : (w : ℕ) (all cs : List PlainCell) → length (own_scopes w all cs) ≡ count_by (is_own_scope w) cs
count_scopes w all cs = length-map (filter (is_own_scope w) cs) (own_scope w all) ∙ length-filter (is_own_scope w) cs

-- what can be paid is small
slots_few : (kept : List Counts) (w c n : ℕ) → cost_refusal kept w c n ≡ None → n ≤ 4294967295
slots_few kept w c n none = by (nat_lt CELL_LIMIT (kept_cells kept w + c)) (nat_lt SLOT_LIMIT (kept_slots kept w + n)) refl none
  where
    some_none : {X : Type 0} (x : X) → Some x ≡ None → ⊥
    some_none x e = cc

    not_lt : nat_lt SLOT_LIMIT (kept_slots kept w + n) ≡ false → n ≤ 4294967295
    not_lt e = grind (arith, nat_tests, e)

    by : (a b : Bool) → nat_lt SLOT_LIMIT (kept_slots kept w + n) ≡ b → (if a then Some (fault.Cells (kept_cells kept w)) else (if b then Some (fault.Slots (kept_slots kept w)) else None)) ≡ None → n ≤ 4294967295
    by true b e h = absurd (some_none _ h)
    by false true e h = absurd (some_none _ h)
    by false false e h = not_lt e

-- `make`
module _ (s : Cells) (links : (i : ℕ) (c : PlainCell) → slice_get s.cells i ≡ Some c → IsLinked s.cells i c) (bunches_each : (i : ℕ) (c : PlainCell) → slice_get s.cells i ≡ Some c → is_bunch c.form ≡ true → IsBunch s.cells c) (w : ℕ) (n : NewCell) (fit : IsMakeable s.cells n) where
  make_seen_own : slots_of n ≤ 4294967295 → AreHosts w s.cells (s.cells ++ born s.cells w n) → owned w (make_done s w n) ≡ own_made w s n
  unfolding owned
  make_seen_own few hosts =
      let p = ap (λ l. own_cells w s.cells s.cells ++ l) (cells_born w s.cells n fit few hosts) in
      let q = ap (λ l. own_scopes w s.cells s.cells ++ l) (scopes_born w s.cells n fit) in
      owned_grown w s.cells (born s.cells w n) links (bunches s links bunches_each) s.kept (make_done s w n).kept ∙ (λ j. record { heap = p j; scopes = q j; paid = changed_here s.kept w (paid (cells_for n) (slots_of n) 0) j })

  make_own : slots_of n ≤ 4294967295 → AreHosts w s.cells (s.cells ++ born s.cells w n) → Made w s (make_done s w n) (length s.cells) n
  unfolding owned
  make_own few hosts = record {
    seen = make_seen_own few hosts;
    number = count_before-append (is_visible w) s.cells (born s.cells w n) (length s.cells) (omega arith) ∙ count_before-all (is_visible w) s.cells ∙ sym (count_own w s.cells s.cells);
    scope = count_before-append (is_own_scope w) s.cells (born s.cells w n) (length s.cells) (omega arith) ∙ count_before-all (is_own_scope w) s.cells ∙ sym (count_scopes w s.cells s.cells);
  }

  pub make_own_seen : {E : Type 0} (r : Result ℕ E) (t : Cells) → ((i : ℕ) → is_permitted_cell i ≡ true → IfSome (slice_get t.cells i) (λ c. leads_on c ≡ true)) → IfOk r (λ id. IsMade s t w id n) → IfOk r (λ id. Made w s t id n)
  make_own_seen (Ok id) t hosts ok =
      let m = make_own (slots_few s.kept w (cells_for n) (slots_of n) ok.paid) (subst (λ (d : Cells). AreHosts w s.cells d.cells) ok.done hosts) in
      subst (λ (d : Cells). Made w s d id n) (sym ok.done) (subst (λ k. Made w s (make_done s w n) k n) (sym ok.place) m)
  make_own_seen (Err x) t hosts ok = tt

-- `make_call_scope`
module _ (s : Cells) (links : (i : ℕ) (c : PlainCell) → slice_get s.cells i ≡ Some c → IsLinked s.cells i c) (bunches_each : (i : ℕ) (c : PlainCell) → slice_get s.cells i ≡ Some c → is_bunch c.form ≡ true → IsBunch s.cells c) (w : ℕ) (outer : Option ℕ) (ps : List (List ℕ × Value)) (scope : IsScopeOf s.cells outer) (refs : AreRefs (length s.cells) ps) where
  abbrev more : List PlainCell
  more = scope_cell w outer ps ∷ []

  abbrev done : Cells
  done = made s w more 0 (length ps + 1)

  scope_own : owned w done ≡ own_scoped w s outer ps
  unfolding owned
  scope_own =
      let p = ap (λ l. own_cells w s.cells s.cells ++ l) (bound_cells w s.cells outer ps) ∙ append_none (own_cells w s.cells s.cells) in
      let q = ap (λ l. own_scopes w s.cells s.cells ++ l) (bound_scopes w s.cells outer ps scope refs) in
      owned_grown w s.cells more links (bunches s links bunches_each) s.kept done.kept ∙ (λ j. record { heap = p j; scopes = q j; paid = changed_here s.kept w (paid 0 (length ps + 1) 0) j })

  scope_number_own : scope_number w done.cells (length s.cells) ≡ length (owned w s).scopes
  unfolding owned
  scope_number_own = count_before-append (is_own_scope w) s.cells more (length s.cells) (omega arith) ∙ count_before-all (is_own_scope w) s.cells ∙ sym (count_scopes w s.cells s.cells)

  pub scope_own_seen : {E : Type 0} (r : Result ℕ E) (t : Cells) → IfOk r (λ id. Adds s t w id (scope_cell w outer ps ∷ []) 0 (length ps + 1)) → IfOk r (λ id. ScopeMade w s t id outer ps)
  scope_own_seen (Ok id) t ok = record {
    seen = ap (owned w) ok.done ∙ scope_own;
    scope = (λ j. scope_number w (ok.done j).cells (ok.place j)) ∙ scope_number_own;
  }
  scope_own_seen (Err x) t ok = tt

-- `charge_units` and `charge_slots`
module _ (s : Cells) (w slots units : ℕ) where
  cost_own : owned w (unit_cost s w slots units) ≡ own_paid 0 slots units (owned w s)
  unfolding owned
  cost_own = λ j. record { heap = own_cells w s.cells s.cells; scopes = own_scopes w s.cells s.cells; paid = changed_here s.kept w (paid 0 slots units) j }

  pub cost_own_seen : {E : Type 0} (r : Result (Unit {0}) E) (o : Option StoreFault) (t : Cells) → OnOk r (IsCharged s t w slots units o) → OnOk r (owned w t ≡ own_paid 0 slots units (owned w s))
  cost_own_seen (Ok x) o t ok = ap (owned w) ok.done ∙ cost_own
  cost_own_seen (Err x) o t ok = tt
