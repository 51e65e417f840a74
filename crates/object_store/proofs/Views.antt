-- What a widget has, where the store changed elsewhere.
use Rattle.std.proofs.Common.{◌≡◌, ℕ, zero, suc, ◌<◌, List, [], ◌∷◌, ◌++◌, length, refl, sym, ap, ◌∙◌, Option, Some, None, arith, Bool, true, false, eqb, cond, if◌then◌else◌, slice_get, filter, map, not, take}
use Rattle.std.specs.Prelude.{IfSome, ◌&&◌}
use Rattle.std.specs.List.{cons_option, list_all}
use Rattle.std.specs.Option.{option_map, option_map_or}
use Rattle.std.specs.Str.{bytes_eq}
use Rattle.std.proofs.lemmas.List.{map-append}
use Rattle.std.proofs.lemmas.List.Elements.{filter-append}
use Rattle.store_cells.specs.declared.value.Value.{Value}
use Rattle.store_cells.specs.declared.value.Value.TheVariants as value
use Rattle.store_cells.specs.declared.kind.Form.{Form}
use Rattle.store_cells.specs.declared.kind.Form.TheVariants as form
use Rattle.store_cells.specs.declared.counts.Counts.{Counts}
use Rattle.store_cells.specs.Lists.{changed, count_before}
use Rattle.store_cells.specs.Cells.{Cells, PlainCell, is_array, is_bunch, is_own, is_scope, is_visible, is_visible_form, own_count, widget_of}
use Rattle.store_cells.specs.Arrays.{length_name}
use Rattle.store_cells.specs.Bunches.{AreBunches, AreCellsOf, IsBunch, elements}
use Rattle.store_cells.specs.Shape.{AreRefs, IsLinked, IsRefWithin, scope_in}
use Rattle.object_store.specs.Owned.{OwnKind, OwnValue, is_of, is_of_at, is_own_scope, nodes_in, nodes_of, own_cell, own_cells, own_kind, own_link, own_pairs, own_scope, own_scopes, own_value, owned, scope_number, shown, visible_at}
use Rattle.store_cells.proofs.Lists.{get_first, get_within, count_more, count_before-append, same_rest}
use Rattle.store_cells.proofs.Closed.{bunch_older}

false_true : false ≡ true → ⊥
false_true g = cc

-- the nodes of a Bunch are those that it was made of
nodes_elements : (cells : List PlainCell) (k : ℕ) (refs nodes : List ℕ) → AreCellsOf cells refs nodes → nodes_in cells (elements k (map value.Ref refs)) ≡ nodes
nodes_elements cells k [] [] h = refl
nodes_elements cells k [] (n ∷ nodes) h = absurd h
nodes_elements cells k (r ∷ refs) [] h = absurd h
nodes_elements cells k (r ∷ refs) (n ∷ nodes) h = λ j. cons_option (h.0 j) (nodes_elements cells (suc k) refs nodes h.1 j)

pub nodes_are : (cells : List PlainCell) (d : PlainCell) (h : IsBunch cells d) → nodes_of cells d ≡ h.nodes
nodes_are cells d h =
    ap (λ (ps : List (List ℕ × Value)). nodes_of cells (record d { pairs = ps })) h.pairs ∙ ap (λ (o : Option PlainCell). option_map_or (λ (a : PlainCell). nodes_in cells a.pairs) o []) h.hidden ∙ nodes_elements cells 0 h.refs h.nodes h.lead

-- numbers that stay, of cells before a place
pub record SameNumbers (v n : ℕ) (after before : List PlainCell) : Type 0 where
  pub visible : (k : ℕ) → k < n → visible_at v after k ≡ visible_at v before k
  pub count : (k : ℕ) → k < n → own_count v after k ≡ own_count v before k
  pub scope : (k : ℕ) → k < n → scope_number v after k ≡ scope_number v before k

module _ (v n : ℕ) (after before : List PlainCell) (same : SameNumbers v n after before) where
  link_same : (k : ℕ) → k < n → own_link v after k ≡ own_link v before k
  link_same k lt = λ j. if same.visible k lt j then OwnValue.Own (same.count k lt j) else OwnValue.Other k

  pub value_same : (u : Value) → IsRefWithin n u → own_value v after u ≡ own_value v before u
  value_same value.Undefined h = refl
  value_same value.Null h = refl
  value_same (value.Bool b) h = refl
  value_same (value.Num m) h = refl
  value_same (value.Text t) h = refl
  value_same (value.Ref k) h = link_same k h

  pub pairs_same : (ps : List (List ℕ × Value)) → AreRefs n ps → own_pairs v after ps ≡ own_pairs v before ps
  pairs_same [] h = refl
  pairs_same (p ∷ ps) h = λ j. (p.0, value_same p.1 h.0 j) ∷ pairs_same ps h.1 j

  refs_filter : (p : List ℕ × Value → Bool) (ps : List (List ℕ × Value)) → AreRefs n ps → AreRefs n (filter p ps)
  refs_filter p [] h = tt
  refs_filter p (x ∷ ps) h = by (p x) (refs_filter p ps h.1)
    where
      by : (b : Bool) → AreRefs n (filter p ps) → AreRefs n (cond b (x ∷ filter p ps) (filter p ps))
      by true r = (h.0, r)
      by false r = r

  refs_shown : (c : PlainCell) → AreRefs n c.pairs → AreRefs n (shown c)
  refs_shown c h = by (is_bunch c.form) (is_array c.form)
    where
      by : (a b : Bool) → AreRefs n (if a then [] else (if b then filter (λ p. not (bytes_eq p.0 length_name)) c.pairs else c.pairs))
      by true b = tt
      by false true = refs_filter (λ p. not (bytes_eq p.0 length_name)) c.pairs h
      by false false = h

  up_same : (o : Option ℕ) → IfSome o (λ k. k < n) → option_map (own_link v after) o ≡ option_map (own_link v before) o
  up_same None h = refl
  up_same (Some k) h = ap Some (link_same k h)

  pub scope_same : (o : Option ℕ) → IfSome o (λ k. k < n) → option_map (scope_number v after) o ≡ option_map (scope_number v before) o
  scope_same None h = refl
  scope_same (Some k) h = ap Some (same.scope k h)

  module _ (c : PlainCell) (refs : AreRefs n c.pairs) (up : IfSome c.up (λ k. k < n)) (scope : IfSome (scope_in c.form) (λ k. k < n)) (nodes : is_bunch c.form ≡ true → nodes_of after c ≡ nodes_of before c) where
    kind_same : (f : Form) → IfSome (scope_in f) (λ k. k < n) → (is_bunch f ≡ true → nodes_of after c ≡ nodes_of before c) → own_kind v after c f ≡ own_kind v before c f
    kind_same form.Object s b = refl
    kind_same form.Array s b = refl
    kind_same (form.Function p) s b = ap (OwnKind.Function p.code p.fun p.declared) (scope_same p.scope s)
    kind_same (form.Native p) s b = refl
    kind_same form.Scope s b = refl
    kind_same form.Bunch s b = ap OwnKind.Bunch (b refl)
    kind_same (form.RawNode p) s b = refl
    kind_same form.Global s b = refl

    pub cell_same : own_cell v after c ≡ own_cell v before c
    cell_same = λ j. record { kind = kind_same c.form scope nodes j; prototype = up_same c.up up j; pairs = pairs_same (shown c) (refs_shown c refs) j }

    pub scope_cell_same : own_scope v after c ≡ own_scope v before c
    scope_cell_same = λ j. record { outer = scope_same c.up up j; pairs = pairs_same c.pairs refs j }

-- what a cell of a store refers to is born before
module _ (before after : List PlainCell) (linked : (i : ℕ) (c : PlainCell) → slice_get before i ≡ Some c → IsLinked before i c) (bunches : AreBunches before) (stays : (c : PlainCell) (h : IsBunch before c) → (g : IsBunch after c) × (g.nodes ≡ h.nodes)) (v : ℕ) (same : SameNumbers v (length before) after before) where
  older : (i : ℕ) (P : ℕ → Type 0) (o : Option ℕ) → i < length before → IfSome o (λ j. (j < i) × P j) → IfSome o (λ j. j < length before)
  older i P None lt h = tt
  older i P (Some j) lt h = omega (arith, lt, h.0)

  nodes_same : (i : ℕ) (c : PlainCell) → slice_get before i ≡ Some c → is_bunch c.form ≡ true → nodes_of after c ≡ nodes_of before c
  nodes_same i c at b =
      let h = bunches.each i c at b in
      let g = stays c h in
      nodes_are after c g.0 ∙ g.1 ∙ sym (nodes_are before c h)

  each_cell : (i : ℕ) (c : PlainCell) → slice_get before i ≡ Some c → own_cell v after c ≡ own_cell v before c
  each_cell i c at =
      let l = linked i c at in
      let lt = get_within before i c at in
      cell_same v (length before) after before same c l.refs (older i _ c.up lt l.up) (older i _ (scope_in c.form) lt l.scope) (nodes_same i c at)

  each_scope : (i : ℕ) (c : PlainCell) → slice_get before i ≡ Some c → own_scope v after c ≡ own_scope v before c
  each_scope i c at =
      let l = linked i c at in
      let lt = get_within before i c at in
      scope_cell_same v (length before) after before same c l.refs (older i _ c.up lt l.up) (older i _ (scope_in c.form) lt l.scope) (nodes_same i c at)

  heap_same : (cs : List PlainCell) → ((i : ℕ) (c : PlainCell) → slice_get cs i ≡ Some c → own_cell v after c ≡ own_cell v before c) → own_cells v after cs ≡ own_cells v before cs
  heap_same [] h = refl
  heap_same (c ∷ cs) h = by (is_visible v c) (h 0 c refl) (heap_same cs (λ i d at. h (suc i) d at))
    where
      by : (b : Bool) → own_cell v after c ≡ own_cell v before c → own_cells v after cs ≡ own_cells v before cs → map (own_cell v after) (if b then c ∷ filter (is_visible v) cs else filter (is_visible v) cs) ≡ map (own_cell v before) (if b then c ∷ filter (is_visible v) cs else filter (is_visible v) cs)
      by true p q = λ j. p j ∷ q j
      by false p q = q

  scopes_same : (cs : List PlainCell) → ((i : ℕ) (c : PlainCell) → slice_get cs i ≡ Some c → own_scope v after c ≡ own_scope v before c) → own_scopes v after cs ≡ own_scopes v before cs
  scopes_same [] h = refl
  scopes_same (c ∷ cs) h = by (is_own_scope v c) (h 0 c refl) (scopes_same cs (λ i d at. h (suc i) d at))
    where
      by : (b : Bool) → own_scope v after c ≡ own_scope v before c → own_scopes v after cs ≡ own_scopes v before cs → map (own_scope v after) (if b then c ∷ filter (is_own_scope v) cs else filter (is_own_scope v) cs) ≡ map (own_scope v before) (if b then c ∷ filter (is_own_scope v) cs else filter (is_own_scope v) cs)
      by true p q = λ j. p j ∷ q j
      by false p q = q

  pub heap_stays : own_cells v after before ≡ own_cells v before before
  heap_stays = heap_same before each_cell

  pub scopes_stay : own_scopes v after before ≡ own_scopes v before before
  scopes_stay = scopes_same before each_scope

-- a cell of another is no own cell and no own scope
own_false : (v : ℕ) (c : PlainCell) → is_of v c.owner ≡ false → is_visible v c ≡ false
own_false v c e = by (widget_of c.owner) e
  where
    by : (o : Option ℕ) → option_map_or (λ u. eqb u v) o false ≡ false → option_map_or (λ u. eqb u v && is_visible_form c.form) o false ≡ false
    by None e = refl
    by (Some u) e = ap (λ b. b && is_visible_form c.form) e

scope_false : (v : ℕ) (c : PlainCell) → is_of v c.owner ≡ false → is_own_scope v c ≡ false
scope_false v c e = ap (λ b. b && is_scope c.form) e

-- a cell is changed, but not whose it is nor what it is
module _ (v : ℕ) (f : PlainCell → PlainCell) (same_owner : (c : PlainCell) → (f c).owner ≡ c.owner) (same_form : (c : PlainCell) → (f c).form ≡ c.form) where
  visible_kept : (c : PlainCell) → is_visible v (f c) ≡ is_visible v c
  visible_kept c = λ j. is_own v (same_owner c j) (same_form c j)

  scope_kept : (c : PlainCell) → is_own_scope v (f c) ≡ is_own_scope v c
  scope_kept c = λ j. is_of v (same_owner c j) && is_scope (same_form c j)

  count_kept : (p : PlainCell → Bool) → ((c : PlainCell) → p (f c) ≡ p c) → (cs : List PlainCell) (i k : ℕ) → count_before p (changed cs i f) k ≡ count_before p cs k
  count_kept p h [] i k = refl
  count_kept p h (c ∷ cs) zero zero = refl
  count_kept p h (c ∷ cs) zero (suc k) = count_more p p (f c) c (take k cs) (take k cs) (h c) refl
  count_kept p h (c ∷ cs) (suc i) zero = refl
  count_kept p h (c ∷ cs) (suc i) (suc k) = count_more p p c c (take k (changed cs i f)) (take k cs) refl (count_kept p h cs i k)

  at_kept : (cs : List PlainCell) (i k : ℕ) → visible_at v (changed cs i f) k ≡ visible_at v cs k
  at_kept [] i k = refl
  at_kept (c ∷ cs) zero zero = visible_kept c
  at_kept (c ∷ cs) zero (suc k) = refl
  at_kept (c ∷ cs) (suc i) zero = refl
  at_kept (c ∷ cs) (suc i) (suc k) = at_kept cs i k

  pub numbers_kept : (cs : List PlainCell) (i n : ℕ) → SameNumbers v n (changed cs i f) cs
  numbers_kept cs i n = record {
    visible = λ k lt. at_kept cs i k;
    count = λ k lt. count_kept (is_visible v) visible_kept cs i k;
    scope = λ k lt. count_kept (is_own_scope v) scope_kept cs i k;
  }

  heap_other : (all cs : List PlainCell) (i : ℕ) → is_of_at v cs i ≡ false → own_cells v all (changed cs i f) ≡ own_cells v all cs
  heap_other all [] i h = refl
  heap_other all (c ∷ cs) zero h = ap (λ b. map (own_cell v all) (if b then f c ∷ filter (is_visible v) cs else filter (is_visible v) cs)) (visible_kept c ∙ own_false v c h) ∙ ap (λ b. map (own_cell v all) (if b then c ∷ filter (is_visible v) cs else filter (is_visible v) cs)) (sym (own_false v c h))
  heap_other all (c ∷ cs) (suc i) h = same_rest (own_cell v all) (is_visible v) c (changed cs i f) cs (heap_other all cs i h)

  scopes_other : (all cs : List PlainCell) (i : ℕ) → is_of_at v cs i ≡ false → own_scopes v all (changed cs i f) ≡ own_scopes v all cs
  scopes_other all [] i h = refl
  scopes_other all (c ∷ cs) zero h = ap (λ b. map (own_scope v all) (if b then f c ∷ filter (is_own_scope v) cs else filter (is_own_scope v) cs)) (scope_kept c ∙ scope_false v c h) ∙ ap (λ b. map (own_scope v all) (if b then c ∷ filter (is_own_scope v) cs else filter (is_own_scope v) cs)) (sym (scope_false v c h))
  scopes_other all (c ∷ cs) (suc i) h = same_rest (own_scope v all) (is_own_scope v) c (changed cs i f) cs (scopes_other all cs i h)

  -- the others see nothing of it
  module _ (cells : List PlainCell) (i : ℕ) (linked : (k : ℕ) (c : PlainCell) → slice_get cells k ≡ Some c → IsLinked cells k c) (bunches : AreBunches cells) (stays : (c : PlainCell) (h : IsBunch cells c) → (g : IsBunch (changed cells i f) c) × (g.nodes ≡ h.nodes)) where
    pub others_changed : (kept counts : List Counts) → is_of_at v cells i ≡ false → slice_get counts v ≡ slice_get kept v → (let a : Cells = record { cells = changed cells i f; kept = counts } in owned v a) ≡ (let b : Cells = record { cells = cells; kept = kept } in owned v b)
    unfolding owned
    others_changed kept counts other paid =
        let n = numbers_kept cells i (length cells) in
        let p = heap_other (changed cells i f) cells i other ∙ heap_stays cells (changed cells i f) linked bunches stays v n in
        let q = scopes_other (changed cells i f) cells i other ∙ scopes_stay cells (changed cells i f) linked bunches stays v n in
        λ j. record { heap = p j; scopes = q j; paid = paid j }

-- more cells
module _ (v : ℕ) (cells more : List PlainCell) where
  pub numbers_older : SameNumbers v (length cells) (cells ++ more) cells
  numbers_older = record {
    visible = λ k lt. ap (λ (o : Option PlainCell). option_map_or (is_visible v) o false) (get_first cells more k lt);
    count = λ k lt. count_before-append (is_visible v) cells more k (omega (arith, lt));
    scope = λ k lt. count_before-append (is_own_scope v) cells more k (omega (arith, lt));
  }

  heap_append : (all cs : List PlainCell) → own_cells v all (cs ++ more) ≡ own_cells v all cs ++ own_cells v all more
  heap_append all cs = ap (map (own_cell v all)) (filter-append (is_visible v) cs more) ∙ map-append (own_cell v all) (filter (is_visible v) cs) (filter (is_visible v) more)

  scopes_append : (all cs : List PlainCell) → own_scopes v all (cs ++ more) ≡ own_scopes v all cs ++ own_scopes v all more
  scopes_append all cs = ap (map (own_scope v all)) (filter-append (is_own_scope v) cs more) ∙ map-append (own_scope v all) (filter (is_own_scope v) cs) (filter (is_own_scope v) more)

  module _ (linked : (k : ℕ) (c : PlainCell) → slice_get cells k ≡ Some c → IsLinked cells k c) (bunches : AreBunches cells) where
    stays_older : (c : PlainCell) (h : IsBunch cells c) → (g : IsBunch (cells ++ more) c) × (g.nodes ≡ h.nodes)
    stays_older c h = (bunch_older cells more c h, refl)

    -- the new cells come last
    pub owned_grown : (kept counts : List Counts) → (let a : Cells = record { cells = cells ++ more; kept = counts } in owned v a) ≡ record { heap = own_cells v cells cells ++ own_cells v (cells ++ more) more; scopes = own_scopes v cells cells ++ own_scopes v (cells ++ more) more; paid = slice_get counts v }
    unfolding owned
    owned_grown kept counts =
        let p = heap_append (cells ++ more) cells ∙ ap (λ l. l ++ own_cells v (cells ++ more) more) (heap_stays cells (cells ++ more) linked bunches stays_older v numbers_older) in
        let q = scopes_append (cells ++ more) cells ∙ ap (λ l. l ++ own_scopes v (cells ++ more) more) (scopes_stay cells (cells ++ more) linked bunches stays_older v numbers_older) in
        λ j. record { heap = p j; scopes = q j; paid = slice_get counts v }

pub append_none : {X : Type 0} (xs : List X) → xs ++ [] ≡ xs
append_none [] = refl
append_none (y ∷ xs) = ap (λ l. y ∷ l) (append_none xs)

-- cells of others
heap_none : (v : ℕ) (all more : List PlainCell) → list_all (λ (c : PlainCell). not (is_of v c.owner)) more ≡ true → own_cells v all more ≡ []
heap_none v all [] h = refl
heap_none v all (c ∷ more) h = by (is_of v c.owner) refl h (λ g. heap_none v all more g)
  where
    by : (b : Bool) → is_of v c.owner ≡ b → (not b && list_all (λ (c : PlainCell). not (is_of v c.owner)) more) ≡ true → (list_all (λ (c : PlainCell). not (is_of v c.owner)) more ≡ true → own_cells v all more ≡ []) → own_cells v all (c ∷ more) ≡ []
    by true e h rest = absurd (false_true h)
    by false e h rest = ap (λ b. map (own_cell v all) (if b then c ∷ filter (is_visible v) more else filter (is_visible v) more)) (own_false v c e) ∙ rest h

scopes_none : (v : ℕ) (all more : List PlainCell) → list_all (λ (c : PlainCell). not (is_of v c.owner)) more ≡ true → own_scopes v all more ≡ []
scopes_none v all [] h = refl
scopes_none v all (c ∷ more) h = by (is_of v c.owner) refl h (λ g. scopes_none v all more g)
  where
    by : (b : Bool) → is_of v c.owner ≡ b → (not b && list_all (λ (c : PlainCell). not (is_of v c.owner)) more) ≡ true → (list_all (λ (c : PlainCell). not (is_of v c.owner)) more ≡ true → own_scopes v all more ≡ []) → own_scopes v all (c ∷ more) ≡ []
    by true e h rest = absurd (false_true h)
    by false e h rest = ap (λ b. map (own_scope v all) (if b then c ∷ filter (is_own_scope v) more else filter (is_own_scope v) more)) (scope_false v c e) ∙ rest h

pub others_grown : (v : ℕ) (cells more : List PlainCell) → ((k : ℕ) (c : PlainCell) → slice_get cells k ≡ Some c → IsLinked cells k c) → AreBunches cells → (kept counts : List Counts) → list_all (λ (c : PlainCell). not (is_of v c.owner)) more ≡ true → slice_get counts v ≡ slice_get kept v → (let a : Cells = record { cells = cells ++ more; kept = counts } in owned v a) ≡ (let b : Cells = record { cells = cells; kept = kept } in owned v b)
unfolding owned
others_grown v cells more linked bunches kept counts none paid =
    let p = ap (λ l. own_cells v cells cells ++ l) (heap_none v (cells ++ more) more none) ∙ append_none (own_cells v cells cells) in
    let q = ap (λ l. own_scopes v cells cells ++ l) (scopes_none v (cells ++ more) more none) ∙ append_none (own_scopes v cells cells) in
    owned_grown v cells more linked bunches kept counts ∙ (λ j. record { heap = p j; scopes = q j; paid = paid j })
