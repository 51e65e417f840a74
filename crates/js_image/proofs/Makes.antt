-- What is made, as the widget sees it.
use Rattle.std.proofs.Common.{◌≡◌, ℕ, Global, Vec, suc, ◌+◌, ◌<◌, ◌≤◌, List, [], ◌∷◌, ◌++◌, length, refl, sym, ap, ◌∙◌, subst, Option, Some, None, arith, Bool, true, false, eqb, if◌then◌else◌, slice_get, map}
use Rattle.std.specs.Prelude.{◌||◌, ◌&&◌}
use Rattle.std.specs.Fmt.{decimal}
use Rattle.std.specs.List.{AllByRecursion}
use Rattle.std.specs.Option.{option_map, option_map_or}
use Rattle.std.proofs.lemmas.List.{length-map, map-append}
use Rattle.std.proofs.lemmas.Bool.Decides.{nat_tests}
use Rattle.js_tree.specs.Forest.{Forest}
use Rattle.store_cells.specs.declared.value.Value.{Value as StoreValue}
use Rattle.store_cells.specs.declared.value.Value.TheVariants as value
use Rattle.store_cells.specs.declared.kind.Form.{Form}
use Rattle.store_cells.specs.declared.kind.Form.TheVariants as form
use Rattle.store_cells.specs.declared.counts.Counts.{Counts}
use Rattle.store_cells.specs.declared.counts.StoreFault.{StoreFault}
use Rattle.store_cells.specs.declared.counts.TheConstants.{UNIT_LIMIT}
use Rattle.store_cells.specs.Bunches.{bunch_cell, elements, hidden_array}
use Rattle.store_cells.specs.Born.{IsScopeOf, array_cell, new_cell, node_place, object_cell, scope_cell}
use Rattle.store_cells.specs.Cells.{Cells, PlainCell, is_scope, is_scope_at, is_visible, is_visible_form, own_count}
use Rattle.store_cells.specs.Costs.{Refuses, cost_refusal, paid}
use Rattle.store_cells.specs.Host.{array_prototype, bunch_prototype, function_prototype, host_count, is_permitted_cell}
use Rattle.store_cells.specs.Shape.{AreElements, AreRefs, IsRefWithin}
use Rattle.object_store.specs.declared.store.NewCell.{NewCell}
use Rattle.object_store.specs.declared.store.NewCell.TheVariants as fresh
use Rattle.object_store.specs.Calls.{Adds, IsMade, IsMakeable, born, cells_for, make_refusal, slots_of}
use Rattle.object_store.specs.Grows.{Grows}
use Rattle.object_store.specs.Owned as store
use Rattle.object_store.specs.Owned.{Made, OwnCell, Owned, ScopeMade, filled_own, first_cell, is_of, is_own_scope, is_own_scope_at, made_cells, made_scopes, own_link, own_made, own_paid, own_pairs, own_scoped, own_value, owned, scope_number, visible_at}
use Rattle.object_store.proofs.Views.{append_none}
use Rattle.widget_meaning.specs.Values as meaning
use Rattle.widget_meaning.specs.OwnState.{Cell, Scope, State, new_array, with_new_cell, with_new_scope}
use Rattle.widget_meaning.specs.Plan.{Plan, Halt}
use Rattle.widget_meaning.specs.Costs.{make, pay, scope_cost, slots_cost, with_counts}
use Rattle.widget_meaning.specs.NativeForms.{numbered_pairs}
use Rattle.js_image.specs.declared.outcome.StopCause.{StopCause}
use Rattle.js_image.specs.Image.{Rest, all_seen, image, meant, meant_cell, meant_counts, meant_scope, seen, seen_pairs, state_of}
use Rattle.js_image.specs.Held.{AreFine, ArePairs, IsConfined, IsFine, IsFineCell, IsFineFor, IsFunOf, IsHeld, IsOwnScope, IsPlaceScope, Kept}
use Rattle.js_image.specs.Plans.{IsNew, IsNewOf, IsStopOf, begins_permitted, meant_cause, meant_new, scope_of}
use Rattle.js_image.proofs.Named.{all_permitted, elements_permitted, length_permitted}
use Rattle.js_image.proofs.Nodes.{hold_more, hold_same, pass_made, rise_to}
use Rattle.js_image.proofs.Pays.{cost_plan, pay_is, stops}
use Rattle.js_image.proofs.Grown.{all_passed_over, confined_more, fine_stays, held_stays, pairs_stay, place_stays}

false_true : false ≡ true → ⊥
false_true h = cc

-- a new function is of one of the trees
abbrev pub HasTree : List Forest → NewCell → Type 0
HasTree fs (fresh.Function code fun declared scope) = IsFunOf fs (record { code = code; fun = fun; declared = declared; scope = scope })
HasTree fs n = Unit {0}

has_tree : (fs : List Forest) (n : NewCell) → IsNewOf fs n → HasTree fs n
has_tree fs (fresh.Function code fun declared scope) h = h
has_tree fs (fresh.Bunch nodes) h = tt
has_tree fs n h = tt

no_both : (a : Bool) → (a && false) ≡ true → ⊥
no_both true h = false_true h
no_both false h = false_true h

either : (a : Bool) {b : Bool} → b ≡ true → (a || b) ≡ true
either true h = refl
either false h = h

eqb_self : (w : ℕ) → eqb w w ≡ true
eqb_self w = grind (arith, nat_tests)

-- a scope of the widget is a scope of the store
scope_there : (w : ℕ) (cells : List PlainCell) (i : ℕ) → is_own_scope_at w cells i ≡ true → is_scope_at cells i ≡ true
scope_there w cells i = by (slice_get cells i)
  where
    second : (a b : Bool) → (a && b) ≡ true → b ≡ true
    second true b h = h
    second false b h = cc

    by : (o : Option PlainCell) → option_map_or (is_own_scope w) o false ≡ true → option_map_or (λ c. is_scope c.form) o false ≡ true
    by None h = h
    by (Some c) h = second (is_of w c.owner) (is_scope c.form) h

pub scope_of_store : (w : ℕ) (cells : List PlainCell) (o : Option ℕ) → IsPlaceScope w cells o → IsScopeOf cells o
scope_of_store w cells None h = tt
scope_of_store w cells (Some i) h = (h.0, scope_there w cells i h.1)

-- what is held is there
pub within_of : (w : ℕ) (cells : List PlainCell) (v : StoreValue) → IsFine w cells v → IsRefWithin (length cells) v
within_of w cells value.Undefined h = tt
within_of w cells value.Null h = tt
within_of w cells (value.Bool b) h = tt
within_of w cells (value.Num n) h = tt
within_of w cells (value.Text t) h = tt
within_of w cells (value.Ref i) h = h.0

pub refs_of : (w : ℕ) (cells : List PlainCell) (ps : List (List ℕ × StoreValue)) → ArePairs w cells ps → AreRefs (length cells) ps
refs_of w cells [] h = tt
refs_of w cells (p ∷ ps) h = (within_of w cells p.1 h.0, refs_of w cells ps h.1)

module _ (w : ℕ) (cells : List PlainCell) where
  elements_of : (vs : List StoreValue) → AreFine w cells vs → AreElements (length cells) vs
  elements_of [] h = tt
  elements_of (v ∷ vs) h = (within_of w cells v h.0, elements_of vs h.1)

  -- what the store asks of a new cell
  pub makeable : (n : NewCell) → IsNew w cells n → IsMakeable cells n
  makeable (fresh.Object proto) h = h.1
  makeable fresh.Array h = tt
  makeable (fresh.Function code fun declared scope) h = scope_of_store w cells scope h
  makeable (fresh.Scope outer names) h = absurd h
  makeable (fresh.Bunch nodes) h = h
  makeable (fresh.ObjectWith proto pairs) h = (h.1, record { distinct = h.2; refs = refs_of w cells pairs.items h.3 })
  makeable (fresh.ArrayWith values) h = elements_of values.items h
  makeable (fresh.ScopeWith outer pairs) h = absurd h

  -- the elements of an Array
  numbered : (k : ℕ) (vs : List StoreValue) → seen_pairs w cells (elements k vs) ≡ numbered_pairs k (all_seen w cells vs)
  numbered k [] = refl
  numbered k (v ∷ vs) = ap (λ ps. (decimal k, seen w cells v) ∷ ps) (numbered (suc k) vs ∙ ap (λ n. numbered_pairs n (all_seen w cells vs)) (next k))
    where
      next : (k : ℕ) → suc k ≡ k + 1
      next k = omega arith

  -- the one own cell of what is made
  one : (fs : List Forest) (nodes : List ℕ) (n : NewCell) → IsNew w cells n → (d : OwnCell) × (made_cells w cells n ≡ d ∷ []) × (made_scopes w cells n ≡ []) × (cells_for n ≡ 1) × (meant_cell fs nodes d ≡ meant_new w cells fs nodes n)
  one fs nodes (fresh.Object proto) h = (first_cell store.Object (own_link w cells proto), refl, refl, refl, refl)
  one fs nodes fresh.Array h = (first_cell (store.Array 0) (store.Other array_prototype), refl, refl, refl, refl)
  one fs nodes (fresh.Function code fun declared scope) h = (first_cell (store.Function code fun declared (option_map (scope_number w cells) scope)) (store.Other function_prototype), refl, refl, refl, refl)
  one fs nodes (fresh.Scope outer names) h = absurd h
  one fs nodes (fresh.Bunch ns) h = (first_cell (store.Bunch ns.items) (store.Other bunch_prototype), refl, refl, refl, refl)
  one fs nodes (fresh.ObjectWith proto pairs) h = (filled_own store.Object (own_link w cells proto) (own_pairs w cells pairs.items), refl, refl, refl, refl)
  one fs nodes (fresh.ArrayWith values) h = (filled_own (store.Array (length values.items)) (store.Other array_prototype) (own_pairs w cells (elements 0 values.items)), refl, refl, refl, ap (new_array (length values.items)) (numbered 0 values.items))
  one fs nodes (fresh.ScopeWith outer pairs) h = absurd h

  mine : (f : Form) → is_visible_form f ≡ true → (eqb w w && is_visible_form f) ≡ true
  mine f v = ap (λ b. b && is_visible_form f) (eqb_self w) ∙ v

  -- the first new cell is the widget's
  first_born : (n : NewCell) → IsNew w cells n → (b : PlainCell) × (rest : List PlainCell) × (born cells w n ≡ b ∷ rest) × (is_visible w b ≡ true)
  first_born (fresh.Object proto) h = (new_cell w form.Object proto, [], refl, mine form.Object refl)
  first_born fresh.Array h = (new_cell w form.Array array_prototype, [], refl, mine form.Array refl)
  first_born (fresh.Function code fun declared scope) h = (new_cell w (form.Function (record { code = code; fun = fun; declared = declared; scope = scope })) function_prototype, [], refl, mine (form.Function (record { code = code; fun = fun; declared = declared; scope = scope })) refl)
  first_born (fresh.Scope outer names) h = absurd h
  first_born (fresh.Bunch ns) h = (bunch_cell w (length cells + 1), hidden_array (map (node_place cells) ns.items) ∷ [], refl, mine form.Bunch refl)
  first_born (fresh.ObjectWith proto pairs) h = (object_cell w proto pairs.items, [], refl, mine form.Object refl)
  first_born (fresh.ArrayWith values) h = (array_cell w values.items, [], refl, mine form.Array refl)
  first_born (fresh.ScopeWith outer pairs) h = absurd h

  module _ (fs : List Forest) (all : List PlainCell) (g : Grows w cells all) where
    -- a cell of the widget that is no scope
    fine_cell : (b : PlainCell) → is_scope b.form ≡ false → IsFineCell fs w all b → IsFineFor fs w all b
    fine_cell b e h = record { cell = λ v. h; scope = λ s. absurd (no_both (is_of w b.owner) (sym (ap (λ x. is_of w b.owner && x) e) ∙ s)) }

    elements_fine : (k : ℕ) (vs : List StoreValue) → AreFine w cells vs → ArePairs w all (elements k vs)
    elements_fine k [] h = tt
    elements_fine k (v ∷ vs) h = (fine_stays w cells all g v h.0, elements_fine (suc k) vs h.1)

    -- what is made leads to what the widget may hold
    fine_born : host_count ≤ length cells → (n : NewCell) → IsNew w cells n → HasTree fs n → begins_permitted n ≡ true → AllByRecursion (IsFineFor fs w all) (born cells w n)
    fine_born enough = by
      where
        host : (i : ℕ) → i < host_count → is_permitted_cell i ≡ true → IsHeld w all i
        host i lt p = (omega (arith, lt, enough, g.size), either (visible_at w all i) p)

        array : IsHeld w all array_prototype
        array = host array_prototype (omega arith) refl

        by : (n : NewCell) → IsNew w cells n → HasTree fs n → begins_permitted n ≡ true → AllByRecursion (IsFineFor fs w all) (born cells w n)
        by (fresh.Object proto) h o a = (fine_cell (new_cell w form.Object proto) refl (record { up = held_stays w cells all g proto h.0; pairs = λ b. tt; names = λ b. tt; fun = tt }), tt)
        by fresh.Array h o a = (fine_cell (new_cell w form.Array array_prototype) refl (record { up = array; pairs = λ b. (tt, tt); names = λ b. (length_permitted, tt); fun = tt }), tt)
        by (fresh.Function code fun declared scope) h o a = (fine_cell (new_cell w (form.Function (record { code = code; fun = fun; declared = declared; scope = scope })) function_prototype) refl (record { up = host function_prototype (omega arith) refl; pairs = λ b. tt; names = λ b. tt; fun = (o, place_stays w cells all g scope h) }), tt)
        by (fresh.Scope outer names) h o a = absurd h
        by (fresh.Bunch ns) h o a = (fine_cell (bunch_cell w (length cells + 1)) refl (record { up = host bunch_prototype (omega arith) refl; pairs = λ b. absurd (false_true (sym b)); names = λ b. absurd (false_true (sym b)); fun = tt }), (record { cell = λ v. absurd (false_true v); scope = λ s. absurd (false_true s) }, tt))
        by (fresh.ObjectWith proto pairs) h o a = (fine_cell (object_cell w proto pairs.items) refl (record { up = held_stays w cells all g proto h.0; pairs = λ b. pairs_stay w cells all g pairs.items h.3; names = λ b. all_permitted pairs.items a; fun = tt }), tt)
        by (fresh.ArrayWith values) h o a = (fine_cell (array_cell w values.items) refl (record { up = array; pairs = λ b. (tt, elements_fine 0 values.items h); names = λ b. (length_permitted, elements_permitted 0 values.items); fun = tt }), tt)
        by (fresh.ScopeWith outer pairs) h o a = absurd h

-- what is made is no other widget's
apart_test : (v w : ℕ) → (w ≡ v → ⊥) → eqb w v ≡ false
apart_test v w apart = grind (arith, nat_tests, apart)

born_apart : (v w : ℕ) (cells : List PlainCell) → (w ≡ v → ⊥) → (n : NewCell) → AllByRecursion (λ (c : PlainCell). is_of v c.owner ≡ false) (born cells w n)
born_apart v w cells apart (fresh.Object proto) = (apart_test v w apart, tt)
born_apart v w cells apart fresh.Array = (apart_test v w apart, tt)
born_apart v w cells apart (fresh.Function code fun declared scope) = (apart_test v w apart, tt)
born_apart v w cells apart (fresh.Scope outer names) = (apart_test v w apart, tt)
born_apart v w cells apart (fresh.Bunch ns) = (apart_test v w apart, (refl, tt))
born_apart v w cells apart (fresh.ObjectWith proto pairs) = (apart_test v w apart, tt)
born_apart v w cells apart (fresh.ArrayWith values) = (apart_test v w apart, tt)
born_apart v w cells apart (fresh.ScopeWith outer pairs) = (apart_test v w apart, tt)

-- so another widget stays confined
pub made_apart : (v w : ℕ) (old new : Cells) (id : ℕ) (n : NewCell) → (w ≡ v → ⊥) → IsMade old new w id n → Grows v old.cells new.cells → (fs : List Forest) → IsConfined fs v old → IsConfined fs v new
made_apart v w old new id n apart made grows fs = confined_more fs v old new (born old.cells w n) (ap (λ (t : Cells). t.cells) made.done) grows (all_passed_over fs v new.cells (born old.cells w n) (born_apart v w old.cells apart n))

get_last : {X : Type 0} (xs : List X) (x : X) (ys : List X) → slice_get (xs ++ x ∷ ys) (length xs) ≡ Some x
get_last [] x ys = refl
get_last (y ∷ xs) x ys = get_last xs x ys

longer : {X : Type 0} (xs : List X) (x : X) (ys : List X) → length xs < length (xs ++ x ∷ ys)
longer [] x ys = omega arith
longer (y ∷ xs) x ys = omega (arith, longer xs x ys)

-- a visible cell that is made
module _ (w : ℕ) (old new : Cells) (n : NewCell) (h : IsNew w old.cells n) where
  cells_are : (id : ℕ) → IsMade old new w id n → new.cells ≡ old.cells ++ born old.cells w n
  cells_are id made = ap (λ (t : Cells). t.cells) made.done

  visible : (id : ℕ) → IsMade old new w id n → (id < length new.cells) × (visible_at w new.cells id ≡ true)
  visible id made =
      let b = first_born w old.cells n h in
      let e : new.cells ≡ old.cells ++ b.0 ∷ b.1 = cells_are id made ∙ ap (λ l. old.cells ++ l) b.2 in (
        subst (λ (l : List PlainCell). id < length l) (sym e) (subst (λ i. i < length (old.cells ++ b.0 ∷ b.1)) (sym made.place) (longer old.cells b.0 b.1)),
        (λ j. visible_at w (e j) (made.place j)) ∙ ap (λ (o : Option PlainCell). option_map_or (is_visible w) o false) (get_last old.cells b.0 b.1) ∙ b.3,
      )

  pub new_held : (id : ℕ) → IsMade old new w id n → IsHeld w new.cells id
  new_held id made = ((visible id made).0, ap (λ b. b || is_permitted_cell id) (visible id made).1)

  pub new_confined : (id : ℕ) → host_count ≤ length old.cells → IsMade old new w id n → Grows w old.cells new.cells → (fs : List Forest) → HasTree fs n → begins_permitted n ≡ true → IsConfined fs w old → IsConfined fs w new
  new_confined id enough made grows fs o a = confined_more fs w old new (born old.cells w n) (cells_are id made) grows (fine_born w old.cells fs new.cells grows enough n h o a)

  pub new_kept : (id : ℕ) → host_count ≤ length old.cells → IsMade old new w id n → Made w old new id n → ((v : ℕ) → Grows v old.cells new.cells) → ((v : ℕ) → (w ≡ v → ⊥) → owned v new ≡ owned v old) → (fs : List Forest) → IsNewOf fs n → begins_permitted n ≡ true → Kept fs w old new
  new_kept id enough made own grows others fs o a = record {
    confined = new_confined id enough made (grows w) fs (has_tree fs n o) a;
    grows = grows w;
    others = others;
    others_grow = λ v apart. grows v;
    others_confined = λ gs v apart. made_apart v w old new id n apart made (grows v) gs;
    nodes = λ p held. hold_more p w old new (made_cells w old.cells n) (ap (λ (q : Owned). q.heap) own.seen) (pass_made p fs w old.cells n o) held;
    counts = rise_to (cells_for n) (slots_of n) 0 (owned w old).paid (owned w new).paid (ap (λ (q : Owned). q.paid) own.seen);
  }

  module _ (fs : List Forest) (r : Rest) (k : Counts) (at : slice_get old.kept w ≡ Some k) (units : k.units ≤ UNIT_LIMIT) where
    abbrev st : State
    st = image fs r w old

    abbrev m : ℕ
    m = r.state.own.counts.nodes

    abbrev cell : Cell
    cell = meant_new w old.cells fs r.nodes n

    -- the state with a new cell
    state_made : state_of fs r (own_made w old n) ≡ with_new_cell (with_counts st (meant_counts m (Some (paid 1 (slots_of n) 0 k)))) cell
    unfolding owned
    state_made =
        let o = one w old.cells fs r.nodes n h in
        (λ j. state_of fs r (record { heap = (owned w old).heap ++ o.1 j; scopes = (owned w old).scopes ++ o.2 j; paid = option_map (paid (o.3 j) (slots_of n) 0) (at j) }))
        ∙ (λ j. state_of fs r (record { heap = (owned w old).heap ++ o.0 ∷ []; scopes = append_none (owned w old).scopes j; paid = Some (paid 1 (slots_of n) 0 k) }))
        ∙ ap (λ l. with_counts (record st { own = record st.own { heap = l } }) (meant_counts m (Some (paid 1 (slots_of n) 0 k)))) (map-append (meant_cell fs r.nodes) (owned w old).heap (o.0 ∷ []))
        ∙ ap (λ c. with_new_cell (with_counts st (meant_counts m (Some (paid 1 (slots_of n) 0 k)))) c) o.4

    one_cell : cost_refusal old.kept w 1 (slots_of n) ≡ make_refusal old w n
    one_cell = λ j. cost_refusal old.kept w (sym (one w old.cells fs r.nodes n h).3 j) (slots_of n)

    paid_first : (go : meaning.Value → State → Plan) → make cell (slots_of n) st go ≡ cost_plan (make_refusal old w n) st (go (meaning.Own (length st.own.heap)) (with_new_cell (with_counts st (meant_counts m (Some (paid 1 (slots_of n) 0 k)))) cell))
    paid_first go =
        pay_is fs r w old k at units 1 (slots_of n) (λ t. go (meaning.Own (length t.own.heap)) (with_new_cell t cell))
        ∙ ap (λ o. cost_plan o st (go (meaning.Own (length st.own.heap)) (with_new_cell (with_counts st (meant_counts m (Some (paid 1 (slots_of n) 0 k)))) cell))) one_cell

    pub new_made : (id : ℕ) → IsMade old new w id n → Made w old new id n → (go : meaning.Value → State → Plan) → make cell (slots_of n) st go ≡ go (seen w new.cells (value.Ref id)) (image fs r w new)
    new_made id made own go =
        let t = with_counts st (meant_counts m (Some (paid 1 (slots_of n) 0 k))) in
        let number : meaning.Own (length st.own.heap) ≡ seen w new.cells (value.Ref id) =
        ap meaning.Own (length-map (owned w old).heap (meant_cell fs r.nodes) ∙ sym own.number) ∙ sym (ap (λ b. meant (if b then store.Own (own_count w new.cells id) else store.Other id)) (visible id made).1) in
        let after : with_new_cell t cell ≡ image fs r w new = sym (ap (state_of fs r) own.seen ∙ state_made) in
        paid_first go
        ∙ ap (λ o. cost_plan o st (go (meaning.Own (length st.own.heap)) (with_new_cell t cell))) made.paid
        ∙ (λ j. go (number j) (after j))

    pub new_refused : (e : StoreFault) (c : StopCause) → IsStopOf e c → Refuses e (make_refusal old w n) → new ≡ old → (go : meaning.Value → State → Plan) → make cell (slots_of n) st go ≡ Halt (meant_cause c) (image fs r w new)
    new_refused e c is refused same go =
        paid_first go ∙ stops e c (make_refusal old w n) st _ is refused ∙ ap (λ s. Halt (meant_cause c) (image fs r w s)) (sym same)

-- a scope that is made with its first pairs
module _ (w : ℕ) (old new : Cells) (outer : Option ℕ) (ps : List (List ℕ × StoreValue)) where
  abbrev pub IsAdded : ℕ → Type 0
  IsAdded id = Adds old new w id (scope_cell w outer ps ∷ []) 0 (length ps + 1)

  scope_fine : (fs : List Forest) → Grows w old.cells new.cells → IsPlaceScope w old.cells outer → ArePairs w old.cells ps → AllByRecursion (IsFineFor fs w new.cells) (scope_cell w outer ps ∷ [])
  scope_fine fs g o h = (
    record {
      cell = λ v. absurd (no_both (eqb w w) v);
      scope = λ s. record { outer = place_stays w old.cells new.cells g outer o; pairs = pairs_stay w old.cells new.cells g ps h };
    },
    tt,
  )

  scope_cells : (id : ℕ) → IsAdded id → new.cells ≡ old.cells ++ scope_cell w outer ps ∷ []
  scope_cells id added = ap (λ (t : Cells). t.cells) added.done

  pub scope_held : (id : ℕ) → IsAdded id → IsOwnScope w new.cells id
  scope_held id added =
      let e = scope_cells id added in (
        subst (λ (l : List PlainCell). id < length l) (sym e) (subst (λ i. i < length (old.cells ++ scope_cell w outer ps ∷ [])) (sym added.place) (longer old.cells (scope_cell w outer ps) [])),
        (λ j. is_own_scope_at w (e j) (added.place j)) ∙ ap (λ (o : Option PlainCell). option_map_or (is_own_scope w) o false) (get_last old.cells (scope_cell w outer ps) []) ∙ ap (λ b. b && true) (eqb_self w),
      )

  -- so another widget stays confined
  scope_apart : (v : ℕ) (id : ℕ) → (w ≡ v → ⊥) → IsAdded id → Grows v old.cells new.cells → (fs : List Forest) → IsConfined fs v old → IsConfined fs v new
  scope_apart v id apart added grows fs = confined_more fs v old new (scope_cell w outer ps ∷ []) (scope_cells id added) grows (all_passed_over fs v new.cells (scope_cell w outer ps ∷ []) (apart_test v w apart, tt))

  pub scope_kept : (id : ℕ) → IsAdded id → ScopeMade w old new id outer ps → ((v : ℕ) → Grows v old.cells new.cells) → ((v : ℕ) → (w ≡ v → ⊥) → owned v new ≡ owned v old) → IsPlaceScope w old.cells outer → ArePairs w old.cells ps → (fs : List Forest) → Kept fs w old new
  scope_kept id added own grows others o h fs = record {
    confined = confined_more fs w old new (scope_cell w outer ps ∷ []) (scope_cells id added) (grows w) (scope_fine fs (grows w) o h);
    grows = grows w;
    others = others;
    others_grow = λ v apart. grows v;
    others_confined = λ gs v apart. scope_apart v id apart added (grows v) gs;
    nodes = λ p. hold_same p w old new (ap (λ (q : Owned). q.heap) own.seen);
    counts = rise_to 0 (length ps + 1) 0 (owned w old).paid (owned w new).paid (ap (λ (q : Owned). q.paid) own.seen);
  }

  -- what `make` says of it
  pub scope_seen : (id : ℕ) (pairs : Vec (List ℕ × StoreValue) Global) → pairs.items ≡ ps → Made w old new id (fresh.ScopeWith outer pairs) → ScopeMade w old new id outer ps
  scope_seen id pairs same made = record {
    seen = made.seen ∙ (λ j. own_paid 0 (length (same j) + 1) 0 (record {
      heap = append_none (owned w old).heap j;
      scopes = (owned w old).scopes ++ (record { outer = option_map (scope_number w old.cells) outer; pairs = own_pairs w old.cells (same j) }) ∷ [];
      paid = (owned w old).paid;
    }));
    scope = made.scope;
  }

  module _ (fs : List Forest) (r : Rest) (k : Counts) (at : slice_get old.kept w ≡ Some k) (units : k.units ≤ UNIT_LIMIT) where
    abbrev scope_st : State
    scope_st = image fs r w old

    abbrev nodes_paid : ℕ
    nodes_paid = r.state.own.counts.nodes

    abbrev new_scope : Scope
    new_scope = scope_of w old.cells outer ps

    abbrev after_paid : State
    after_paid = with_counts scope_st (meant_counts nodes_paid (Some (paid 0 (length ps + 1) 0 k)))

    scope_state : state_of fs r (own_scoped w old outer ps) ≡ with_new_scope after_paid new_scope
    unfolding owned
    scope_state =
        (λ j. state_of fs r (record { heap = (owned w old).heap; scopes = (owned w old).scopes ++ (record { outer = option_map (scope_number w old.cells) outer; pairs = own_pairs w old.cells ps }) ∷ []; paid = option_map (paid 0 (length ps + 1) 0) (at j) }))
        ∙ ap (λ l. with_counts (record scope_st { own = record scope_st.own { scopes = l } }) (meant_counts nodes_paid (Some (paid 0 (length ps + 1) 0 k)))) (map-append meant_scope (owned w old).scopes ((record { outer = option_map (scope_number w old.cells) outer; pairs = own_pairs w old.cells ps }) ∷ []))

    same_slots : 1 + length new_scope.pairs ≡ length ps + 1
    same_slots = ap (λ l. 1 + l) (length-map (own_pairs w old.cells ps) (λ p. (p.0, meant p.1)) ∙ length-map ps (λ p. (p.0, own_value w old.cells p.1))) ∙ turned (length ps)
      where
        turned : (l : ℕ) → 1 + l ≡ l + 1
        turned l = omega arith

    scope_paid : (go : ℕ → State → Plan) → pay (scope_cost new_scope) scope_st (λ t. go (length t.own.scopes) (with_new_scope t new_scope)) ≡ cost_plan (cost_refusal old.kept w 0 (length ps + 1)) scope_st (go (length scope_st.own.scopes) (with_new_scope after_paid new_scope))
    scope_paid go =
        ap (λ l. pay (slots_cost l) scope_st (λ t. go (length t.own.scopes) (with_new_scope t new_scope))) same_slots
        ∙ pay_is fs r w old k at units 0 (length ps + 1) (λ t. go (length t.own.scopes) (with_new_scope t new_scope))

    pub scope_made : (id : ℕ) → IsAdded id → ScopeMade w old new id outer ps → (go : ℕ → State → Plan) → pay (scope_cost new_scope) scope_st (λ t. go (length t.own.scopes) (with_new_scope t new_scope)) ≡ go (scope_number w new.cells id) (image fs r w new)
    scope_made id added own go =
        let number : length scope_st.own.scopes ≡ scope_number w new.cells id = length-map (owned w old).scopes meant_scope ∙ sym own.scope in
        let after : with_new_scope after_paid new_scope ≡ image fs r w new = sym (ap (state_of fs r) own.seen ∙ scope_state) in
        scope_paid go
        ∙ ap (λ o. cost_plan o scope_st (go (length scope_st.own.scopes) (with_new_scope after_paid new_scope))) added.paid
        ∙ (λ j. go (number j) (after j))

    pub scope_refused : (e : StoreFault) (c : StopCause) → IsStopOf e c → Refuses e (cost_refusal old.kept w 0 (length ps + 1)) → new ≡ old → (go : ℕ → State → Plan) → pay (scope_cost new_scope) scope_st (λ t. go (length t.own.scopes) (with_new_scope t new_scope)) ≡ Halt (meant_cause c) (image fs r w new)
    scope_refused e c is refused same go =
        scope_paid go ∙ stops e c (cost_refusal old.kept w 0 (length ps + 1)) scope_st _ is refused ∙ ap (λ s. Halt (meant_cause c) (image fs r w s)) (sym same)
