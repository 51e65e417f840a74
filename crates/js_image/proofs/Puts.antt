-- A write of a property, as the widget sees it.
use Rattle.std.proofs.Common.{◌≡◌, ℕ, ◌+◌, ◌≤◌, List, [], ◌∷◌, ◌++◌, refl, sym, ap, ◌∙◌, subst, Option, Some, None, arith, Bool, true, false, cond, if◌then◌else◌, slice_get, filter, map, is_some}
use Rattle.std.specs.Prelude.{◌&&◌, ◌||◌, pos, negsuc, nat_eq, nat_le, nat_lt, slice_set}
use Rattle.std.specs.List.{AllByRecursion}
use Rattle.std.specs.Option.{option_and_then, option_map, option_map_or}
use Rattle.std.specs.Str.{bytes_eq}
use Rattle.std.proofs.lemmas.Bool.Decides.{nat_tests}
use Rattle.std.proofs.lemmas.Option.{get_or_from_slice_get, slice_get-map}
use Rattle.std.proofs.lemmas.Slice.Eq.{bytes_eq-Decides}
use Rattle.indexmap.specs.IndexMap.{insert_entry}
use Rattle.code_units.specs.Indices.{index_of}
use Rattle.code_units.specs.Permitted.{IsPermitted}
use Rattle.code_units.specs.declared.owner.Owner.{Owner}
use Rattle.code_units.specs.declared.owner.Owner.TheVariants as whose
use Rattle.js_tree.specs.Forest.{Forest}
use Rattle.store_cells.specs.declared.value.Value.{Value}
use Rattle.store_cells.specs.declared.value.Value.TheVariants as value
use Rattle.store_cells.specs.declared.value.Number.TheVariants as number
use Rattle.store_cells.specs.declared.kind.Form.{Form}
use Rattle.store_cells.specs.declared.kind.Form.TheVariants as form
use Rattle.store_cells.specs.declared.counts.Counts.{Counts}
use Rattle.store_cells.specs.declared.counts.StoreFault.{StoreFault}
use Rattle.store_cells.specs.declared.counts.StoreFault.TheVariants as fault
use Rattle.store_cells.specs.declared.counts.TheConstants.{CELL_LIMIT, SLOT_LIMIT, UNIT_LIMIT}
use Rattle.store_cells.specs.Lists.{changed}
use Rattle.store_cells.specs.Arrays.{count_value, cut, is_below, is_no_length, length_in, length_name, length_of, placed, resized, stored, written}
use Rattle.store_cells.specs.Cells.{Cells, PlainCell, has_own, is_array, is_bunch, is_visible, is_visible_form, kept_cells, own_count, value_of, widget_of}
use Rattle.store_cells.specs.Costs.{Refuses, cost_refusal, kept_slots, paid}
use Rattle.store_cells.specs.Host.{is_host_owner, is_permitted_cell}
use Rattle.store_cells.proofs.Lists.{changed-set, map-changed}
use Rattle.object_store.specs.Calls.{HasLength, IsPut, put_refusal, put_refusal_of, slots_at, slots_for, write_refusal}
use Rattle.object_store.specs.Grows.{Grows}
use Rattle.object_store.specs.Owned as store
use Rattle.object_store.specs.Owned.{Changed, OwnCell, OwnValue, Owned, SeesPut, but_length, is_of, is_of_at, own_cell, own_cells, own_kind, own_length, own_link, own_pairs, own_put, own_raised, own_resized, own_value, owned, visible_at}
use Rattle.widget_meaning.specs.Values as meaning
use Rattle.widget_meaning.specs.OwnState as state
use Rattle.widget_meaning.specs.OwnState.{Cell, Kind, State, cell_at, with_cell}
use Rattle.widget_meaning.specs.Plan.{Plan, Halt}
use Rattle.widget_meaning.specs.Costs.{pay, slots_cost, throw, want, with_counts}
use Rattle.widget_meaning.specs.Properties as properties
use Rattle.widget_meaning.specs.Properties.{cut_to, put, put_index, put_length, put_own, put_pair}
use Rattle.js_image.specs.declared.outcome.Written.{Written}
use Rattle.js_image.specs.Image.{Rest, image, meant, meant_cell, meant_counts, meant_pairs, seen, state_of}
use Rattle.js_image.specs.Held.{ArePairs, ArePermitted, CountsRise, HoldNodes, IsFine, IsFineFor, IsHeld, Kept}
use Rattle.js_image.proofs.Named.{insert_permitted, length_permitted}
use Rattle.js_image.proofs.Nodes.{hold_changed, hold_same, pass_put, rise_same, rise_to}
use Rattle.js_image.specs.Laws.{AreLawful}
use Rattle.js_image.specs.Plans.{IsRefusalOf, put_plan}
use Rattle.js_image.specs.Reads.{cell_in}
use Rattle.js_image.proofs.Chains.{heap_at, looked, looked_apart, visible_form}
use Rattle.js_image.proofs.Grown.{cell_stays, fine_stays}
use Rattle.js_image.proofs.Hosts.{get_there, host_link, leads_at}
use Rattle.js_image.proofs.Pays.{cost_plan, not_over, pay_is, plus_none}
use Rattle.js_image.proofs.Writes.{confined_apart, confined_changed, insert_fine, insert_has, insert_new, none_at, not_anothers}

false_true : false ≡ true → ⊥
false_true h = cc

none_some : {A : Type 0} {a : A} → None ≡ Some a → ⊥
none_some h = cc

some_same : {A : Type 0} (a b : A) → Some a ≡ Some b → a ≡ b
some_same a b e = cc

-- what is done where no write is refused, or what is thrown, or else the stop
abbrev pub refusal_plan : Option StoreFault → State → Plan → Plan
refusal_plan None s p = p
refusal_plan (Some fault.Closed) s p = throw meaning.E5 s
refusal_plan (Some fault.BadLength) s p = throw meaning.E7 s
refusal_plan (Some (fault.Cells k)) s p = Halt meaning.Cells s
refusal_plan (Some (fault.Slots k)) s p = Halt meaning.Slots s
refusal_plan (Some (fault.Units k)) s p = Halt meaning.Units s
refusal_plan (Some fault.Memory) s p = p

-- a refusal is thrown or stops by its cause
refuses : (e : StoreFault) (p : Written) (o : Option StoreFault) (s : State) (q : Plan) (go : State → Plan) → IsRefusalOf e p → Refuses e o → refusal_plan o s q ≡ put_plan p go s
refuses fault.Closed p o s q go is h = (λ j. refusal_plan (h j) s q) ∙ sym (ap (λ d. put_plan d go s) is)
refuses fault.BadLength p o s q go is h = (λ j. refusal_plan (h j) s q) ∙ sym (ap (λ d. put_plan d go s) is)
refuses (fault.Cells k) p o s q go is h = (λ j. refusal_plan (h j) s q) ∙ sym (ap (λ d. put_plan d go s) is)
refuses (fault.Slots k) p o s q go is h = (λ j. refusal_plan (h j) s q) ∙ sym (ap (λ d. put_plan d go s) is)
refuses (fault.Units k) p o s q go is h = (λ j. refusal_plan (h j) s q) ∙ sym (ap (λ d. put_plan d go s) is)
refuses fault.Memory p o s q go is h = absurd is

cost_refuses : (b d : Bool) (x y : ℕ) (s : State) (p : Plan) → cost_plan (if b then Some (fault.Cells x) else (if d then Some (fault.Slots y) else None)) s p ≡ refusal_plan (if b then Some (fault.Cells x) else (if d then Some (fault.Slots y) else None)) s p
cost_refuses true d x y s p = refl
cost_refuses false true x y s p = refl
cost_refuses false false x y s p = refl

-- whose a visible cell is
pub owner_is : (w : ℕ) (c : PlainCell) → is_visible w c ≡ true → widget_of c.owner ≡ Some w
owner_is w c = by (widget_of c.owner)
  where
    same : (u : ℕ) (b : Bool) → (nat_eq u w && b) ≡ true → u ≡ w
    same u b h = by (nat_eq u w) refl h
      where
        by : (d : Bool) → nat_eq u w ≡ d → (d && b) ≡ true → u ≡ w
        by true e h = grind (arith, nat_tests, e)
        by false e h = absurd (false_true h)

    by : (o : Option ℕ) → option_map_or (λ v. nat_eq v w && is_visible_form c.form) o false ≡ true → o ≡ Some w
    by None h = absurd (false_true h)
    by (Some u) h = ap Some (same u (is_visible_form c.form) h)

-- a cell of the host is no widget's
pub host_owner : (o : Owner) → is_host_owner o ≡ true → widget_of o ≡ None
host_owner whose.Host h = refl
host_owner (whose.Widget w) h = absurd (false_true h)

first_is : (a b : Bool) → (a && b) ≡ true → a ≡ true
first_is true b h = refl
first_is false b h = h

-- whether the widget sees the cell at a place
pub shows : (w : ℕ) (cells : List PlainCell) (i : ℕ) (c : PlainCell) → slice_get cells i ≡ Some c → is_visible w c ≡ visible_at w cells i
shows w cells i c at = sym (ap (λ (o : Option PlainCell). option_map_or (is_visible w) o false) at)

pub permitted_else : (w : ℕ) (cells : List PlainCell) (i : ℕ) → IsHeld w cells i → visible_at w cells i ≡ false → is_permitted_cell i ≡ true
permitted_else w cells i held e = sym (ap (λ b. b || is_permitted_cell i) e) ∙ held.1

-- a cell of the table is no widget's
pub hosts_cell : (w : ℕ) (cells : List PlainCell) → AreLawful cells → (i : ℕ) (c : PlainCell) → slice_get cells i ≡ Some c → is_permitted_cell i ≡ true → widget_of c.owner ≡ None
hosts_cell w cells laws i c at p = host_owner c.owner (first_is (is_host_owner c.owner) _ (leads_at w cells laws i c at p))

-- a cell that a widget holds and does not have is the host's
pub hosts_of : (w : ℕ) (cells : List PlainCell) → AreLawful cells → (i : ℕ) → IsHeld w cells i → visible_at w cells i ≡ false → (v : ℕ) → is_of_at v cells i ≡ false
hosts_of w cells laws i held e v =
    let c = get_there cells i held.0 in
    ap (λ (o : Option PlainCell). option_map_or (λ (d : PlainCell). is_of v d.owner) o false) c.1
    ∙ ap (λ o. option_map_or (λ u. nat_eq u v) o false) (hosts_cell w cells laws i c.0 c.1 (permitted_else w cells i held e))

-- a cell that a widget holds is no other's
pub not_others : (w v : ℕ) (cells : List PlainCell) → AreLawful cells → (i : ℕ) → IsHeld w cells i → (w ≡ v → ⊥) → is_of_at v cells i ≡ false
not_others w v cells laws i held apart =
    let c = get_there cells i held.0 in
    ap (λ (o : Option PlainCell). option_map_or (λ (d : PlainCell). is_of v d.owner) o false) c.1 ∙ by c (visible_at w cells i) refl
  where
    equal : (u : ℕ) → nat_eq u u ≡ true
    equal u = grind (arith, nat_tests)

    by : (c : (d : PlainCell) × (slice_get cells i ≡ Some d)) (b : Bool) → visible_at w cells i ≡ b → is_of v c.0.owner ≡ false
    by c true e = not_anothers v w apart c.0 (ap (λ o. option_map_or (λ u. nat_eq u w) o false) (owner_is w c.0 (shows w cells i c.0 c.1 ∙ e)) ∙ equal w)
    by c false e = ap (λ o. option_map_or (λ u. nat_eq u v) o false) (hosts_cell w cells laws i c.0 c.1 (permitted_else w cells i held e))

mapped : {A B : Type 0} (f : A → B) (o : Option A) → is_some (option_map f o) ≡ is_some o
mapped f None = refl
mapped f (Some a) = refl

-- elements below a length
filter_meant : (m : ℕ) (ps : List (List ℕ × OwnValue)) → meant_pairs (filter (λ p. is_below m p.0) ps) ≡ filter (λ p. properties.is_below m true p.0) (meant_pairs ps)
filter_meant m [] = refl
filter_meant m (p ∷ ps) = by (is_below m p.0) (filter_meant m ps)
  where
    by : (b : Bool) → meant_pairs (filter (λ p. is_below m p.0) ps) ≡ filter (λ p. properties.is_below m true p.0) (meant_pairs ps)
        → meant_pairs (cond b (p ∷ filter (λ p. is_below m p.0) ps) (filter (λ p. is_below m p.0) ps)) ≡ cond b ((p.0, meant p.1) ∷ filter (λ p. properties.is_below m true p.0) (meant_pairs ps)) (filter (λ p. properties.is_below m true p.0) (meant_pairs ps))
    by true g = ap (λ l. (p.0, meant p.1) ∷ l) g
    by false g = g

unpaid : (o : Option Counts) → option_map (paid 0 0 0) o ≡ o
unpaid None = refl
unpaid (Some k) = λ j. Some (record { cells = sym (plus_none k.cells) j; slots = sym (plus_none k.slots) j; units = sym (plus_none k.units) j })

module _ (fs : List Forest) (r : Rest) (w : ℕ) (old : Cells) where
  abbrev st : State
  st = image fs r w old

  -- the state after slots were paid
  abbrev pub spent : ℕ → State
  spent n = with_counts (image fs r w old) (meant_counts r.state.own.counts.nodes (option_map (paid 0 n 0) (slice_get old.kept w)))

  pub same_counts : spent 0 ≡ st
  unfolding owned
  same_counts = ap (λ o. with_counts st (meant_counts r.state.own.counts.nodes o)) (unpaid (slice_get old.kept w))

  -- the cell at a number
  pub cell_there : (i : ℕ) (c : PlainCell) → slice_get old.cells i ≡ Some c → is_visible w c ≡ true → cell_at st (own_count w old.cells i) ≡ meant_cell fs r.nodes (own_cell w old.cells c)
  unfolding owned
  cell_there i c at mine =
      get_or_from_slice_get (map (meant_cell fs r.nodes) (own_cells w old.cells old.cells)) (own_count w old.cells i) (meant_cell fs r.nodes (own_cell w old.cells c)) _
      (slice_get-map (meant_cell fs r.nodes) (own_cells w old.cells old.cells) (own_count w old.cells i) ∙ ap (option_map (meant_cell fs r.nodes)) (heap_at (is_visible w) (own_cell w old.cells) old.cells i c at mine))

  -- the state after a change of one cell
  pub after_change : (new : Cells) (i slots : ℕ) (c : PlainCell) (g : OwnCell → OwnCell) → slice_get old.cells i ≡ Some c → is_visible w c ≡ true → Changed w old new i slots g
      → image fs r w new ≡ with_cell (spent slots) (own_count w old.cells i) (meant_cell fs r.nodes (g (own_cell w old.cells c)))
  unfolding owned
  after_change new i slots c g at mine a =
      let n = own_count w old.cells i in
      let d = own_cell w old.cells c in
      let here : slice_get (own_cells w old.cells old.cells) n ≡ Some d = heap_at (is_visible w) (own_cell w old.cells) old.cells i c at mine in
      let list : map (meant_cell fs r.nodes) (changed (own_cells w old.cells old.cells) n g) ≡ slice_set (map (meant_cell fs r.nodes) (own_cells w old.cells old.cells)) n (meant_cell fs r.nodes (g d)) =
      map-changed (meant_cell fs r.nodes) (own_cells w old.cells old.cells) n g (λ q. meant_cell fs r.nodes (g d)) (λ q e. ap (λ (y : OwnCell). meant_cell fs r.nodes (g y)) (some_same q d (sym e ∙ here)))
      ∙ sym (changed-set (map (meant_cell fs r.nodes) (own_cells w old.cells old.cells)) n (meant_cell fs r.nodes d) (λ q. meant_cell fs r.nodes (g d)) (slice_get-map (meant_cell fs r.nodes) (own_cells w old.cells old.cells) n ∙ ap (option_map (meant_cell fs r.nodes)) here)) in
      (λ j. state_of fs r (record { heap = a.heap j; scopes = a.scopes j; paid = a.paid j }))
      ∙ (λ j. record (spent slots) { own = record (spent slots).own { heap = list j } })

  module _ (k : Counts) (at : slice_get old.kept w ≡ Some k) (units : k.units ≤ UNIT_LIMIT) (cells : k.cells ≤ CELL_LIMIT) (slots : k.slots ≤ SLOT_LIMIT) where
    -- what costs nothing is not refused
    free : cost_refusal old.kept w 0 0 ≡ None
    free = λ j. if low_cells j then Some (fault.Cells (kept_cells old.kept w)) else (if low_slots j then Some (fault.Slots (kept_slots old.kept w)) else None)
      where
        low_cells : nat_lt CELL_LIMIT (kept_cells old.kept w + 0) ≡ false
        low_cells = (λ j. nat_lt CELL_LIMIT (option_map_or (λ (q : Counts). q.cells) (at j) 0 + 0)) ∙ (λ j. nat_lt CELL_LIMIT (sym (plus_none k.cells) j)) ∙ not_over CELL_LIMIT k.cells cells

        low_slots : nat_lt SLOT_LIMIT (kept_slots old.kept w + 0) ≡ false
        low_slots = (λ j. nat_lt SLOT_LIMIT (option_map_or (λ (q : Counts). q.slots) (at j) 0 + 0)) ∙ (λ j. nat_lt SLOT_LIMIT (sym (plus_none k.slots) j)) ∙ not_over SLOT_LIMIT k.slots slots

    -- a slot
    pay_one : (go : State → Plan) → pay (slots_cost 1) st go ≡ refusal_plan (cost_refusal old.kept w 0 1) st (go (spent 1))
    pay_one go =
        pay_is fs r w old k at units 0 1 go
        ∙ (λ j. cost_plan (cost_refusal old.kept w 0 1) st (go (with_counts st (meant_counts r.state.own.counts.nodes (option_map (paid 0 1 0) (sym at j))))))
        ∙ cost_refuses (nat_lt CELL_LIMIT (kept_cells old.kept w + 0)) (nat_lt SLOT_LIMIT (kept_slots old.kept w + 1)) (kept_cells old.kept w) (kept_slots old.kept w) st (go (spent 1))

    module _ (c : PlainCell) (x : List ℕ) (n : ℕ) (go : State → Plan) where
      -- a change that costs nothing, as of a name that is there
      no_slot : has_own x c ≡ true → (q : Cell) → go (with_cell st n q) ≡ refusal_plan (cost_refusal old.kept w 0 (slots_for x c)) st (go (with_cell (spent (slots_for x c)) n q))
      no_slot has q =
          ap (λ s. go (with_cell s n q)) (sym same_counts)
          ∙ (λ j. refusal_plan (sym free j) st (go (with_cell (spent 0) n q)))
          ∙ (λ j. refusal_plan (cost_refusal old.kept w 0 (if sym has j then 0 else 1)) st (go (with_cell (spent (if sym has j then 0 else 1)) n q)))

      -- a write of a pair
      module _ (kind : Kind) (proto : meaning.Value) (qs : List (List ℕ × OwnValue)) (u : OwnValue) where
        abbrev with_pairs : state.Pairs → Cell
        with_pairs ps = record { kind = kind; prototype = proto; pairs = ps }

        abbrev over : State → Plan
        over s = go (with_cell s n (with_pairs (state.replaced (meant_pairs qs) x (meant u))))

        abbrev behind : State → Plan
        behind s = go (with_cell s n (with_pairs (meant_pairs qs ++ (x, meant u) ∷ [])))

        abbrev inserted : Plan
        inserted = refusal_plan (cost_refusal old.kept w 0 (slots_for x c)) st (go (with_cell (spent (slots_for x c)) n (with_pairs (meant_pairs (insert_entry bytes_eq qs x u)))))

        pair_is : is_some (state.lookup (meant_pairs qs) x) ≡ has_own x c → put_pair (with_pairs (meant_pairs qs)) n x (meant u) st go ≡ inserted
        pair_is same = by (has_own x c) refl
          where
            by : (b : Bool) → has_own x c ≡ b → (if is_some (state.lookup (meant_pairs qs) x) then over st else pay (slots_cost 1) st behind) ≡ inserted
            by true e =
                (λ j. if (same ∙ e) j then over st else pay (slots_cost 1) st behind)
                ∙ ap (λ ps. go (with_cell st n (with_pairs ps))) (sym (insert_has qs x u (same ∙ e)))
                ∙ no_slot e (with_pairs (meant_pairs (insert_entry bytes_eq qs x u)))
            by false e =
                (λ j. if (same ∙ e) j then over st else pay (slots_cost 1) st behind)
                ∙ pay_one behind
                ∙ ap (λ ps. refusal_plan (cost_refusal old.kept w 0 1) st (go (with_cell (spent 1) n (with_pairs ps)))) (sym (insert_new qs x u (same ∙ e)))
                ∙ (λ j. refusal_plan (cost_refusal old.kept w 0 (if sym e j then 0 else 1)) st (go (with_cell (spent (if sym e j then 0 else 1)) n (with_pairs (meant_pairs (insert_entry bytes_eq qs x u))))))

      -- the cell, were it of a form
      abbrev own_at : Form → OwnCell
      own_at f = record { kind = own_kind w old.cells c f; prototype = option_map (own_link w old.cells) c.up; pairs = own_pairs w old.cells (if is_bunch f then [] else (if is_array f then but_length c.pairs else c.pairs)) }

      abbrev mine_at : Form → Cell
      mine_at f = meant_cell fs r.nodes (own_at f)

      abbrev up_at : meaning.Value
      up_at = option_map_or meant (option_map (own_link w old.cells) c.up) meaning.Undefined

      -- why a write to it is refused
      abbrev form_refusal : Value → Form → Option StoreFault
      form_refusal v f = if is_bunch f then Some fault.Closed else (if (if is_array f then (if bytes_eq x length_name then is_no_length v else false) else false) then Some fault.BadLength else cost_refusal old.kept w 0 (slots_for x c))

      -- what is done after a write
      abbrev done_with : OwnCell → Plan
      done_with d = go (with_cell (spent (slots_for x c)) n (meant_cell fs r.nodes d))

      abbrev size : ℕ
      size = length_of c.pairs

      -- a write of a length
      length_is : has_own x c ≡ true → (v : Value) → put_length (seen w old.cells v) (mine_at form.Array) n st go ≡ refusal_plan (if is_no_length v then Some fault.BadLength else cost_refusal old.kept w 0 (slots_for x c)) st (done_with (own_resized (own_at form.Array) (own_length (own_value w old.cells v))))
      length_is has value.Undefined = refl
      length_is has value.Null = refl
      length_is has (value.Bool b) = refl
      length_is has (value.Num number.NaN) = refl
      length_is has (value.Num (number.Whole (negsuc z))) = refl
      length_is has (value.Text t) = refl
      length_is has (value.Ref i) = by (visible_at w old.cells i)
        where
          by : (b : Bool) → put_length (meant (if b then store.Own (own_count w old.cells i) else store.Other i)) (mine_at form.Array) n st go ≡ throw meaning.E7 st
          by true = refl
          by false = refl
      length_is has (value.Num (number.Whole (pos z))) = by (nat_le z 4294967295)
        where
          by : (b : Bool) → want meaning.E7 b st (go (with_cell st n (cut_to (mine_at form.Array) z))) ≡ refusal_plan (if option_map_or (λ l. false) (if b then Some z else None) true then Some fault.BadLength else cost_refusal old.kept w 0 (slots_for x c)) st (done_with (own_resized (own_at form.Array) (if b then Some z else None)))
          by true =
              ap (λ ps. go (with_cell st n (record { kind = state.Array z; prototype = up_at; pairs = ps }))) (sym (filter_meant z (own_pairs w old.cells (but_length c.pairs))))
              ∙ no_slot has (record { kind = state.Array z; prototype = up_at; pairs = meant_pairs (filter (λ p. is_below z p.0) (own_pairs w old.cells (but_length c.pairs))) })
          by false = refl

      has_length : HasLength c → bytes_eq x length_name ≡ true → has_own x c ≡ true
      has_length h e = ap (λ y. is_some (value_of c.pairs y)) ((bytes_eq-Decides x length_name).0 e) ∙ by (value_of c.pairs length_name) h
        where
          by : (o : Option Value) → is_some (option_and_then length_in o) ≡ true → is_some o ≡ true
          by None g = g
          by (Some u) g = refl

      -- a write to an Array
      array_put : HasLength c → (v : Value) → put_own (state.Array size) (mine_at form.Array) n x (seen w old.cells v) st go ≡ refusal_plan (form_refusal v form.Array) st (done_with (own_put x (own_value w old.cells v) (own_at form.Array)))
      array_put h v = by (bytes_eq x length_name) refl
        where
          indexed : (o : Option ℕ) → put_index o (mine_at form.Array) size n x (seen w old.cells v) st go ≡ put_pair (record { kind = state.Array (own_raised size o); prototype = up_at; pairs = meant_pairs (own_pairs w old.cells (but_length c.pairs)) }) n x (seen w old.cells v) st go
          indexed None = refl
          indexed (Some i) = refl

          by : (b : Bool) → bytes_eq x length_name ≡ b
              → (if b then put_length (seen w old.cells v) (mine_at form.Array) n st go else put_index (index_of x) (mine_at form.Array) size n x (seen w old.cells v) st go)
              ≡ refusal_plan (if (if b then is_no_length v else false) then Some fault.BadLength else cost_refusal old.kept w 0 (slots_for x c)) st
              (done_with (if b then own_resized (own_at form.Array) (own_length (own_value w old.cells v)) else store.own_placed x (own_value w old.cells v) (own_at form.Array) size))
          by true e = length_is (has_length h e) v
          by false e =
              indexed (index_of x)
              ∙ pair_is (state.Array (own_raised size (index_of x))) up_at (own_pairs w old.cells (but_length c.pairs)) (own_value w old.cells v)
              (ap is_some (looked w old.cells (but_length c.pairs) x) ∙ mapped (seen w old.cells) (value_of (but_length c.pairs) x) ∙ ap is_some (looked_apart c.pairs x e))

      -- a write to a cell of any form
      by_form : (f : Form) → (is_array f ≡ true → HasLength c) → is_visible_form f ≡ true → (v : Value) → put_own (mine_at f).kind (mine_at f) n x (seen w old.cells v) st go ≡ refusal_plan (form_refusal v f) st (done_with (own_put x (own_value w old.cells v) (own_at f)))
      by_form form.Object a seen_form v = pair_is state.Object up_at (own_pairs w old.cells c.pairs) (own_value w old.cells v) (ap is_some (looked w old.cells c.pairs x) ∙ mapped (seen w old.cells) (value_of c.pairs x))
      by_form form.Array a seen_form v = array_put (a refl) v
      by_form (form.Function p) a seen_form v = pair_is (mine_at (form.Function p)).kind up_at (own_pairs w old.cells c.pairs) (own_value w old.cells v) (ap is_some (looked w old.cells c.pairs x) ∙ mapped (seen w old.cells) (value_of c.pairs x))
      by_form form.Bunch a seen_form v = refl
      by_form (form.Native m) a seen_form v = absurd (false_true seen_form)
      by_form form.Scope a seen_form v = absurd (false_true seen_form)
      by_form (form.RawNode m) a seen_form v = absurd (false_true seen_form)
      by_form form.Global a seen_form v = absurd (false_true seen_form)

      refusal_is : (i : ℕ) (v : Value) → slice_get old.cells i ≡ Some c → is_visible w c ≡ true → put_refusal old i x v ≡ form_refusal v c.form
      refusal_is i v there mine =
          ap (λ (o : Option PlainCell). option_map_or (put_refusal_of old.kept x v) o None) there
          ∙ (λ j. option_map_or (write_refusal old.kept x v c) (if is_bunch c.form then None else owner_is w c mine j) (Some fault.Closed))
          ∙ by (is_bunch c.form)
        where
          by : (b : Bool) → option_map_or (write_refusal old.kept x v c) (if b then None else Some w) (Some fault.Closed) ≡ (if b then Some fault.Closed else write_refusal old.kept x v c w)
          by true = refl
          by false = refl

    module _ (laws : AreLawful old.cells) (x : List ℕ) (v : Value) (i : ℕ) (held : IsHeld w old.cells i) (go : State → Plan) where
      abbrev putting : Plan
      putting = put (seen w old.cells (value.Ref i)) x (seen w old.cells v) st go

      -- a write to a cell of the widget
      own_put_is : (c : PlainCell) → slice_get old.cells i ≡ Some c → visible_at w old.cells i ≡ true → is_visible w c ≡ true → putting ≡ refusal_plan (put_refusal old i x v) st (done_with c x (own_count w old.cells i) go (own_put x (own_value w old.cells v) (own_cell w old.cells c)))
      own_put_is c there e mine =
          ap (λ b. put (meant (if b then store.Own (own_count w old.cells i) else store.Other i)) x (seen w old.cells v) st go) e
          ∙ ap (λ (d : Cell). put_own d.kind d (own_count w old.cells i) x (seen w old.cells v) st go) (cell_there i c there mine)
          ∙ by_form c x (own_count w old.cells i) go c.form (laws.lengths i c there) (visible_form w c mine) v
          ∙ ap (λ o. refusal_plan o st (done_with c x (own_count w old.cells i) go (own_put x (own_value w old.cells v) (own_cell w old.cells c)))) (sym (refusal_is c x (own_count w old.cells i) go i v there mine))

      -- a write to a cell of the table
      table_closed : (c : PlainCell) → slice_get old.cells i ≡ Some c → is_permitted_cell i ≡ true → put_refusal old i x v ≡ Some fault.Closed
      table_closed c there p =
          ap (λ (o : Option PlainCell). option_map_or (put_refusal_of old.kept x v) o None) there
          ∙ (λ j. option_map_or (write_refusal old.kept x v c) (if is_bunch c.form then None else hosts_cell w old.cells laws i c there p j) (Some fault.Closed))
          ∙ by (is_bunch c.form)
        where
          by : (b : Bool) → option_map_or (write_refusal old.kept x v c) (if b then None else None) (Some fault.Closed) ≡ Some fault.Closed
          by true = refl
          by false = refl

      -- what was put
      pub put_done : (new : Cells) → put_refusal old i x v ≡ None → SeesPut w old new i x v → putting ≡ go (image fs r w new)
      put_done new allowed sees = by (get_there old.cells i held.0) (visible_at w old.cells i) refl
        where
          by : (there : (c : PlainCell) × (slice_get old.cells i ≡ Some c)) (b : Bool) → visible_at w old.cells i ≡ b → putting ≡ go (image fs r w new)
          by there true e =
              let c = there.0 in
              let mine = shows w old.cells i c there.1 ∙ e in
              let change : Changed w old new i (slots_for x c) (own_put x (own_value w old.cells v)) = subst (λ l. Changed w old new i l (own_put x (own_value w old.cells v))) (ap (λ (o : Option PlainCell). option_map_or (slots_for x) o 0) there.1) (sees e) in
              own_put_is c there.1 e mine
              ∙ (λ j. refusal_plan (allowed j) st (done_with c x (own_count w old.cells i) go (own_put x (own_value w old.cells v) (own_cell w old.cells c))))
              ∙ ap go (sym (after_change new i (slots_for x c) c (own_put x (own_value w old.cells v)) there.1 mine change))
          by there false e = absurd (none_some (sym allowed ∙ table_closed there.0 there.1 (permitted_else w old.cells i held e)))

      -- what was refused
      pub put_refused : (new : Cells) (e : StoreFault) (p : Written) → IsRefusalOf e p → Refuses e (put_refusal old i x v) → new ≡ old → putting ≡ put_plan p go (image fs r w new)
      put_refused new e p is refused same = by (get_there old.cells i held.0) (visible_at w old.cells i) refl ∙ ap (λ s. put_plan p go (image fs r w s)) (sym same)
        where
          by : (there : (c : PlainCell) × (slice_get old.cells i ≡ Some c)) (b : Bool) → visible_at w old.cells i ≡ b → putting ≡ put_plan p go st
          by there true seen_here =
              let c = there.0 in
              own_put_is c there.1 seen_here (shows w old.cells i c there.1 ∙ seen_here)
              ∙ refuses e p (put_refusal old i x v) st (done_with c x (own_count w old.cells i) go (own_put x (own_value w old.cells v) (own_cell w old.cells c))) go is refused
          by there false unseen =
              let q = permitted_else w old.cells i held unseen in
              ap (λ a. put a x (seen w old.cells v) st go) (host_link w old.cells laws i q)
              ∙ (λ j. refusal_plan (sym (table_closed there.0 there.1 q) j) st (go st))
              ∙ refuses e p (put_refusal old i x v) st (go st) go is refused

-- what holds of pairs, after some were taken out
filter_each : (P : List ℕ × Value → Type 0) (keep : List ℕ → Bool) (ps : List (List ℕ × Value)) → AllByRecursion P ps → AllByRecursion P (filter (λ p. keep p.0) ps)
filter_each P keep [] h = tt
filter_each P keep (p ∷ ps) h = by (keep p.0) (filter_each P keep ps h.1)
  where
    by : (b : Bool) → AllByRecursion P (filter (λ p. keep p.0) ps) → AllByRecursion P (cond b (p ∷ filter (λ p. keep p.0) ps) (filter (λ p. keep p.0) ps))
    by true g = (h.0, g)
    by false g = g

-- a cell with other pairs leads to what the widget may hold, if these do and their names are permitted
pub other_pairs : (fs : List Forest) (w : ℕ) (cells : List PlainCell) (d : PlainCell) (ps : List (List ℕ × Value)) → (ArePairs w cells d.pairs → ArePairs w cells ps) → (ArePermitted d.pairs → ArePermitted ps) → IsFineFor fs w cells d → IsFineFor fs w cells (record d { pairs = ps })
other_pairs fs w cells d ps fine named m = record {
  cell = λ b. record { up = (m.cell b).up; pairs = λ p. fine ((m.cell b).pairs p); names = λ p. named ((m.cell b).names p); fun = (m.cell b).fun };
  scope = λ b. record { outer = (m.scope b).outer; pairs = fine (m.scope b).pairs };
}

-- what a write makes of a cell: its pairs alone change, to what the widget may hold under names that are permitted
module _ (w : ℕ) (cells : List PlainCell) (x : List ℕ) (v : Value) (fine : IsFine w cells v) (named : IsPermitted x) (d : PlainCell) where
  abbrev Repaired : PlainCell → Type 0
  Repaired e = (ps : List (List ℕ × Value)) × (e ≡ record d { pairs = ps }) × (ArePairs w cells d.pairs → ArePairs w cells ps) × (ArePermitted d.pairs → ArePermitted ps)

  written_fine : Repaired (written x v d)
  written_fine = (insert_entry bytes_eq d.pairs x v, refl, λ h. insert_fine w cells d.pairs x v h fine, λ h. insert_permitted d.pairs x v h named)

  resized_fine : (o : Option ℕ) → Repaired (option_map_or (λ n. cut n (written length_name v d)) o d)
  resized_fine None = (d.pairs, refl, λ h. h, λ h. h)
  resized_fine (Some n) =
      let ps = insert_entry bytes_eq d.pairs length_name v in (
        filter (λ p. is_below n p.0) ps,
        refl,
        λ h. filter_each (λ p. IsFine w cells p.1) (is_below n) ps (insert_fine w cells d.pairs length_name v h fine),
        λ h. filter_each (λ p. IsPermitted p.0) (is_below n) ps (insert_permitted d.pairs length_name v h length_permitted),
      )

  placed_fine : (o : Option ℕ) → Repaired (placed x v d o)
  placed_fine None = written_fine
  placed_fine (Some i) = by (nat_lt i (length_of d.pairs))
    where
      by : (b : Bool) → Repaired (if b then written x v d else written length_name (count_value (i + 1)) (written x v d))
      by true = written_fine
      by false =
          let ps = insert_entry bytes_eq d.pairs x v in (
            insert_entry bytes_eq ps length_name (count_value (i + 1)),
            refl,
            λ h. insert_fine w cells ps length_name (count_value (i + 1)) (insert_fine w cells d.pairs x v h fine) tt,
            λ h. insert_permitted ps length_name (count_value (i + 1)) (insert_permitted d.pairs x v h named) length_permitted,
          )

  pub stored_fine : Repaired (stored x v d)
  stored_fine = by (is_array d.form) (bytes_eq x length_name)
    where
      by : (a b : Bool) → Repaired (if a then (if b then resized v d else placed x v d (index_of x)) else written x v d)
      by true true = resized_fine (length_in v)
      by true false = placed_fine (index_of x)
      by false b = written_fine

-- what a write keeps
pub put_kept : (fs : List Forest) (w : ℕ) (old new : Cells) → AreLawful old.cells → (x : List ℕ) (v : Value) (i : ℕ) → IsHeld w old.cells i → IsFine w old.cells v → IsPermitted x → IsPut old new i x v → SeesPut w old new i x v → ((v : ℕ) → Grows v old.cells new.cells) → ((u : ℕ) → is_of_at u old.cells i ≡ false → owned u new ≡ owned u old) → Kept fs w old new
put_kept fs w old new laws x v i held fine named is sees grows others = record {
  confined = λ h. confined_changed fs w old new i (stored x v) (ap (λ (t : Cells). t.cells) is.done) (grows w) h (λ d at. after d (h.each i d at));
  grows = grows w;
  others_grow = λ v apart. grows v;
  others_confined = λ gs u apart. confined_apart gs u old new i (stored x v) (ap (λ (t : Cells). t.cells) is.done) (grows u) (λ d at. ap (λ (e : PlainCell). is_of u e.owner) (stored_fine w old.cells x v fine named d).1 ∙ none_at u old.cells i (not_others w u old.cells laws i held apart) d at);
  others = λ u apart. others u (not_others w u old.cells laws i held apart);
  nodes = λ p. seen_nodes p (visible_at w old.cells i) refl;
  counts = seen_counts (visible_at w old.cells i) refl;
}
  where
    stays : visible_at w old.cells i ≡ false → owned w new ≡ owned w old
    stays e = others w (hosts_of w old.cells laws i held e w)

    seen_nodes : (p : ℕ → Bool) (b : Bool) → visible_at w old.cells i ≡ b → HoldNodes p w old → HoldNodes p w new
    seen_nodes p true e h = hold_changed p w old new i (slots_at old.cells i x) (own_put x (own_value w old.cells v)) (pass_put p x (own_value w old.cells v)) (sees e) h
    seen_nodes p false e h = hold_same p w old new (ap (λ (o : Owned). o.heap) (stays e)) h

    seen_counts : (b : Bool) → visible_at w old.cells i ≡ b → CountsRise (owned w old).paid (owned w new).paid
    seen_counts true e = rise_to 0 (slots_at old.cells i x) 0 (owned w old).paid (owned w new).paid (sees e).paid
    seen_counts false e = subst (CountsRise (owned w old).paid) (sym (ap (λ (o : Owned). o.paid) (stays e))) (rise_same (owned w old).paid)

    after : (d : PlainCell) → IsFineFor fs w old.cells d → IsFineFor fs w new.cells (stored x v d)
    after d h =
        let s = stored_fine w new.cells x v (fine_stays w old.cells new.cells (grows w) v fine) named d in
        subst (IsFineFor fs w new.cells) (sym s.1) (other_pairs fs w new.cells d s.0 s.2 s.3 (cell_stays w old.cells new.cells (grows w) fs d h))

-- ## Values that are no cells

-- a write to a primitive does nothing
pub put_primitive : (w : ℕ) (cells : List PlainCell) (b : Value) → cell_in b ≡ None → (x : List ℕ) (u : meaning.Value) (s : State) (go : State → Plan) → put (seen w cells b) x u s go ≡ go s
put_primitive w cells value.Undefined h x u s go = refl
put_primitive w cells value.Null h x u s go = refl
put_primitive w cells (value.Bool b) h x u s go = refl
put_primitive w cells (value.Num number.NaN) h x u s go = refl
put_primitive w cells (value.Num (number.Whole z)) h x u s go = refl
put_primitive w cells (value.Text t) h x u s go = refl
put_primitive w cells (value.Ref i) h x u s go = absurd (none_some (sym h))

-- a value with a cell is a reference to it
pub refers : (b : Value) (i : ℕ) → cell_in b ≡ Some i → b ≡ value.Ref i
refers value.Undefined i h = absurd (none_some h)
refers value.Null i h = absurd (none_some h)
refers (value.Bool b) i h = absurd (none_some h)
refers (value.Num n) i h = absurd (none_some h)
refers (value.Text t) i h = absurd (none_some h)
refers (value.Ref j) i h = ap value.Ref (some_same j i h)

pub held_cell : (w : ℕ) (cells : List PlainCell) (b : Value) (i : ℕ) → cell_in b ≡ Some i → IsFine w cells b → IsHeld w cells i
held_cell w cells b i e h = subst (IsFine w cells) (refers b i e) h
