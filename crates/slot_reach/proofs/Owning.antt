-- What a widget holds that is confined to its own leads to its own lines alone.
use Rattle.std.proofs.Common.{◌≡◌, ℕ, zero, suc, ◌<◌, List, [], ◌∷◌, ◌++◌, map, length, filter, refl, sym, ap, subst, ◌∙◌, arith, Bool, true, false, ◌&&◌, ◌||◌, not, Option, Some, None, if◌then◌else◌, slice_get, nat_lt, nat_eq, nat_le, eq-eqb}
use Rattle.std.specs.Prelude.{IfSome, option_to_list, slice_index_or}
use Rattle.std.specs.List.{AllByRecursion, flat_map, list_any}
use Rattle.std.specs.Option.{option_and_then, option_map_or}
use Rattle.code_units.specs.Permitted.{is_permitted}
use Rattle.std.proofs.lemmas.Bool.Decides.{nat_tests}
use Rattle.code_units.specs.declared.owner.Owner.{Owner}
use Rattle.code_units.specs.declared.owner.Owner.TheVariants as whose
use Rattle.js_tree.specs.Forest.{Forest}
use Rattle.store_cells.specs.declared.kind.Form.{Form}
use Rattle.store_cells.specs.declared.kind.Form.TheVariants as form
use Rattle.store_cells.specs.declared.value.Value.{Value}
use Rattle.store_cells.specs.declared.value.Value.TheVariants as value
use Rattle.store_cells.specs.Arrays.{nodes_name}
use Rattle.store_cells.specs.Bunches.{IsBunch}
use Rattle.store_cells.specs.Cells.{Cells, PlainCell, form_at, is_bunch, is_own, is_scope, is_visible, is_visible_form, own_count, proto_in, widget_of}
use Rattle.store_cells.specs.Host.{is_permitted_cell}
use Rattle.store_cells.proofs.Lists.{none_some, some_same}
use Rattle.object_store.specs.Owned.{is_own_scope, visible_at}
use Rattle.object_store.proofs.Stands.{passed_at}
use Rattle.js_image.specs.Held.{ArePairs, IsConfined, IsFine, IsFineCell, IsHeld}
use Rattle.event_loop.specs.declared.around.Loop.{Loop}
use Rattle.event_loop.specs.declared.timers.Timer.{Timer}
use Rattle.event_loop.specs.Around.{kept, timers}
use Rattle.event_loop.specs.Timers.{by_due, put_by_due}
use Rattle.native_image.specs.Sound.{HoldsOwn, IsOwnCell}
use Rattle.page_tree.specs.declared.page.Page.{Page}
use Rattle.page_image.specs.Image.{own}
use Rattle.reach_cert.specs.declared.cert.Ref.{Ref}
use Rattle.reach_cert.specs.declared.cert.Ref.TheVariants as ref
use Rattle.reach_cert.specs.Certs.{Row}
use Rattle.reach_cert.specs.Walks.{KeepsIn, leaves, some_leaves}
use Rattle.slot_reach.specs.Reads.{cell_row, cell_rows, handler_refs, held_refs, is_global, lined, name_of, open_refs, other_ref, pair_refs, read_slot, ref_at, scope_refs, timer_refs, value_refs}
use Rattle.slot_reach.specs.Telling.{TellsCell}
use Rattle.slot_reach.proofs.Named.{bytes_same, hidden_name}
use Rattle.slot_reach.proofs.Steps.{Pair}

-- ## Lists

module _ {X : Type 0} (P : X → Type 0) where
  pub all_filter : (p : X → Bool) (xs : List X) → ((i : ℕ) (x : X) → slice_get xs i ≡ Some x → p x ≡ true → P x) → AllByRecursion P (filter p xs)
  all_filter p [] h = tt
  all_filter p (x ∷ xs) h = by (p x) refl (all_filter p xs (λ i y e t. h (suc i) y e t))
    where
      by : (b : Bool) → p x ≡ b → AllByRecursion P (filter p xs) → AllByRecursion P (if b then x ∷ filter p xs else filter p xs)
      by true e rest = (h 0 x refl e, rest)
      by false e rest = rest

  pub all_append : (xs ys : List X) → AllByRecursion P xs → AllByRecursion P ys → AllByRecursion P (xs ++ ys)
  all_append [] ys h g = g
  all_append (x ∷ xs) ys h g = (h.0, all_append xs ys h.1 g)

  pub all_map : {Y : Type 0} (f : Y → X) (ys : List Y) → AllByRecursion (λ y. P (f y)) ys → AllByRecursion P (map f ys)
  all_map f [] h = tt
  all_map f (y ∷ ys) h = (h.0, all_map f ys h.1)

  pub all_flat : {Y : Type 0} (f : Y → List X) (ys : List Y) → AllByRecursion (λ y. AllByRecursion P (f y)) ys → AllByRecursion P (flat_map f ys)
  all_flat f [] h = tt
  all_flat f (y ∷ ys) h = all_append (f y) (flat_map f ys) h.0 (all_flat f ys h.1)

  pub all_each : (xs : List X) → ((x : X) → P x) → AllByRecursion P xs
  all_each [] h = tt
  all_each (x ∷ xs) h = (h x, all_each xs h)

none_any : {X : Type 0} (test : X → Bool) (xs : List X) → AllByRecursion (λ x. test x ≡ false) xs → list_any test xs ≡ false
none_any test [] h = refl
none_any test (x ∷ xs) h = ap (λ b. b || list_any test xs) h.0 ∙ none_any test xs h.1

put_all : (P : Timer → Type 0) (t : Timer) (ts : List Timer) → P t → AllByRecursion P ts → AllByRecursion P (put_by_due t ts)
put_all P t [] h g = (h, tt)
put_all P t (u ∷ us) h g = by (nat_le t.at u.at) (put_all P t us h g.1)
  where
    by : (b : Bool) → AllByRecursion P (put_by_due t us) → AllByRecursion P (if b then t ∷ u ∷ us else u ∷ put_by_due t us)
    by true rest = (h, g)
    by false rest = (g.0, rest)

due_all : (P : Timer → Type 0) (ts : List Timer) → AllByRecursion P ts → AllByRecursion P (by_due ts)
due_all P [] h = tt
due_all P (t ∷ ts) h = put_all P t (by_due ts) h.0 (due_all P ts h.1)

-- ## References

-- the same by an owner and a form
abbrev pub number_by : List PlainCell → ℕ → Owner → Form → Option ℕ
number_by cells i o f = option_and_then (λ w. if is_visible_form f then Some (own_count w cells i) else None) (widget_of o)

abbrev pub told_by : List (Option (List ℕ)) → List PlainCell → ℕ → Owner → Form → Ref
told_by names cells i o f = if is_global f then ref.Global else lined (name_of names o) (number_by cells i o f)

below : {X : Type 0} (xs : List X) (k : ℕ) (x : X) → slice_get xs k ≡ Some x → k < length xs
below [] k x e = absurd (none_some e)
below (y ∷ xs) zero x e = omega arith
below (y ∷ xs) (suc k) x e = let rest = below xs k x e in omega (arith, rest)

left_true : (a b : Bool) → (a && b) ≡ true → a ≡ true
left_true true b e = refl
left_true false b e = e

right_true : (a b : Bool) → (a && b) ≡ true → b ≡ true
right_true true b e = e
right_true false b e = cc

left_or : (a b : Bool) → (a || b) ≡ true → b ≡ false → a ≡ true
left_or true b e f = refl
left_or false b e f = sym f ∙ e

not_true : {P : Type 0} → false ≡ true → P
not_true e = cc

module _ (names : List (Option (List ℕ))) (name : List ℕ) (w : ℕ) (named : slice_index_or names w None ≡ Some name) (cells : List PlainCell) where
  -- a reference that leads to the widget's own lines or to the host
  abbrev pub Stays : Ref → Type 0
  Stays r = leaves name (length (cell_rows names cells w cells)) r ≡ false

  own_stays : (i n : ℕ) → n ≡ own_count w cells i → (c : PlainCell) → slice_get cells i ≡ Some c → is_visible w c ≡ true → Stays (ref.Cell name n)
  own_stays i n is c at mine =
      let lt : own_count w cells i < length (cell_rows names cells w cells) = below (cell_rows names cells w cells) (own_count w cells i) (cell_row names cells c) (passed_at (is_visible w) (cell_row names cells) cells i c at mine) in
      let test : nat_lt n (length (cell_rows names cells w cells)) ≡ true = grind (arith, nat_tests, is, lt) in
      (λ j. not (bytes_same name j && test j))

  one_stays : (i v : ℕ) (c : PlainCell) → slice_get cells i ≡ Some c → is_visible w c ≡ true → nat_eq v w ≡ true → Stays (lined (slice_index_or names v None) (Some (own_count v cells i)))
  one_stays i v c at mine same =
      let is : v ≡ w = grind (arith, nat_tests, same) in
      let told : lined (slice_index_or names v None) (Some (own_count v cells i)) ≡ ref.Cell name (own_count v cells i) = ap (λ x. lined x (Some (own_count v cells i))) (ap (λ u. slice_index_or names u None) is ∙ named) in
      subst Stays (sym told) (own_stays i (own_count v cells i) (ap (λ u. own_count u cells i) is) c at mine)

  -- a visible cell of the widget, by its owner and its form
  visible_stays : (i : ℕ) (c : PlainCell) → slice_get cells i ≡ Some c → is_visible w c ≡ true → Stays (other_ref names cells i c)
  visible_stays i c at mine = by c.owner c.form mine
    where
      by : (o : Owner) (f : Form) → is_own w o f ≡ true → Stays (told_by names cells i o f)
      by whose.Host f m = not_true m
      by (whose.Widget v) form.Object m = one_stays i v c at mine (left_true (nat_eq v w) true m)
      by (whose.Widget v) form.Array m = one_stays i v c at mine (left_true (nat_eq v w) true m)
      by (whose.Widget v) (form.Function p) m = one_stays i v c at mine (left_true (nat_eq v w) true m)
      by (whose.Widget v) form.Bunch m = one_stays i v c at mine (left_true (nat_eq v w) true m)
      by (whose.Widget v) (form.Native n) m = not_true (right_true (nat_eq v w) false m)
      by (whose.Widget v) form.Scope m = not_true (right_true (nat_eq v w) false m)
      by (whose.Widget v) (form.RawNode n) m = not_true (right_true (nat_eq v w) false m)
      by (whose.Widget v) form.Global m = not_true (right_true (nat_eq v w) false m)

  -- what the widget may hold
  held_stays : (i : ℕ) → IsHeld w cells i → Stays (ref_at names cells i)
  held_stays i h = by (is_permitted_cell i) refl (slice_get cells i) refl
    where
      seen : (x : Option PlainCell) → slice_get cells i ≡ x → is_permitted_cell i ≡ false → option_map_or (is_visible w) x false ≡ true
      seen x e p = ap (λ y. option_map_or (is_visible w) y false) (sym e) ∙ left_or (visible_at w cells i) (is_permitted_cell i) h.1 p

      by : (b : Bool) → is_permitted_cell i ≡ b → (x : Option PlainCell) → slice_get cells i ≡ x → Stays (if b then ref.Host else option_map_or (other_ref names cells i) x ref.Raw)
      by true p x e = refl
      by false p None e = not_true (seen None e p)
      by false p (Some c) e = visible_stays i c e (seen (Some c) e p)

  value_stays : (v : Value) → IsFine w cells v → AllByRecursion Stays (value_refs names cells v)
  value_stays value.Undefined h = tt
  value_stays value.Null h = tt
  value_stays (value.Bool b) h = tt
  value_stays (value.Num n) h = tt
  value_stays (value.Text t) h = tt
  value_stays (value.Ref i) h = (held_stays i h, tt)

  pairs_stay : (ps : List Pair) → ArePairs w cells ps → AllByRecursion Stays (pair_refs names cells ps)
  pairs_stay [] h = tt
  pairs_stay (p ∷ ps) h = all_append Stays (value_refs names cells p.1) (pair_refs names cells ps) (value_stays p.1 h.0) (pairs_stay ps h.1)

  open_stays : (ps : List Pair) → ArePairs w cells ps → AllByRecursion Stays (flat_map (open_refs names cells) ps)
  open_stays [] h = tt
  open_stays (p ∷ ps) h = all_append Stays (open_refs names cells p) (flat_map (open_refs names cells) ps) (by (is_permitted p.0)) (open_stays ps h.1)
    where
      by : (b : Bool) → AllByRecursion Stays (if b then value_refs names cells p.1 else [])
      by true = value_stays p.1 h.0
      by false = tt

  proto_stays : (b : Bool) (x : Option ℕ) → IfSome x (IsHeld w cells) → AllByRecursion Stays (map (ref_at names cells) (option_to_list (if b then None else x)))
  proto_stays true x h = tt
  proto_stays false None h = tt
  proto_stays false (Some j) h = (held_stays j h, tt)

  hidden_stays : (a : ℕ) → AllByRecursion Stays (flat_map (open_refs names cells) ((nodes_name, value.Ref a) ∷ []))
  hidden_stays a = subst (λ b. AllByRecursion Stays ((if b then value_refs names cells (value.Ref a) else []) ++ [])) (sym hidden_name) tt

  row_stays : (fs : List Forest) (c : PlainCell) → IsFineCell fs w cells c → (is_bunch c.form ≡ true → IsBunch cells c) → AllByRecursion Stays (cell_row names cells c).refs
  row_stays fs c fine bunch = all_append Stays (map (ref_at names cells) (option_to_list (proto_in c))) (flat_map (open_refs names cells) c.pairs) (proto_stays (is_scope c.form) c.up fine.up) (by (is_bunch c.form) refl)
    where
      by : (b : Bool) → is_bunch c.form ≡ b → AllByRecursion Stays (flat_map (open_refs names cells) c.pairs)
      by true e = subst (λ ps. AllByRecursion Stays (flat_map (open_refs names cells) ps)) (sym (bunch e).pairs) (hidden_stays (bunch e).array)
      by false e = open_stays c.pairs (fine.pairs e)

  own_held : (i : ℕ) → IsOwnCell w cells i → IsHeld w cells i
  own_held i h = (h.0, ap (λ b. b || is_permitted_cell i) h.1)

  listeners_stay : (hs : List (List ℕ × ℕ)) → AllByRecursion (λ h. IsOwnCell w cells h.1) hs → AllByRecursion Stays (map (λ h. ref_at names cells h.1) hs)
  listeners_stay [] all = tt
  listeners_stay (h ∷ hs) all = (held_stays h.1 (own_held h.1 all.0), listeners_stay hs all.1)

  handlers_stay : (l : Loop) (ns : List ℕ) → ((n : ℕ) → AllByRecursion (λ h. IsOwnCell w cells h.1) (kept l n).handlers) → AllByRecursion Stays (handler_refs names cells l ns)
  handlers_stay l [] all = tt
  handlers_stay l (n ∷ ns) all = all_append Stays (map (λ h. ref_at names cells h.1) (kept l n).handlers) (handler_refs names cells l ns) (listeners_stay (kept l n).handlers (all n)) (handlers_stay l ns all)

  timers_stay : (ts : List Timer) → AllByRecursion (λ t. IsOwnCell w cells t.func) ts → AllByRecursion Stays (map (λ t. ref_at names cells t.func) ts)
  timers_stay [] all = tt
  timers_stay (t ∷ ts) all = (held_stays t.func (own_held t.func all.0), timers_stay ts all.1)

module _ (names : List (Option (List ℕ))) (name : List ℕ) (w : ℕ) (named : slice_index_or names w None ≡ Some name) (s : Cells) (fs : List Forest) (confined : IsConfined fs w s) (p : Page) (l : Loop) (holds : HoldsOwn w s p l) (bunches : (i : ℕ) (c : PlainCell) → slice_get s.cells i ≡ Some c → is_bunch c.form ≡ true → IsBunch s.cells c) where
  abbrev here : Ref → Type 0
  here = Stays names name w named s.cells

  abbrev IsKept : List Ref → Type 0
  IsKept refs = some_leaves name (length (cell_rows names s.cells w s.cells)) refs ≡ false

  rows_stay : AllByRecursion (λ (row : Row). IsKept row.refs) (cell_rows names s.cells w s.cells)
  rows_stay = all_map (λ (row : Row). IsKept row.refs) (cell_row names s.cells) (filter (is_visible w) s.cells) (all_filter (λ c. IsKept (cell_row names s.cells c).refs) (is_visible w) s.cells
      (λ i c at mine. none_any (leaves name (length (cell_rows names s.cells w s.cells))) (cell_row names s.cells c).refs (row_stays names name w named s.cells fs c ((confined.each i c at).cell mine) (bunches i c at))))

  scopes_stay : AllByRecursion here (scope_refs names s.cells w s.cells)
  scopes_stay = all_flat here (λ (c : PlainCell). pair_refs names s.cells c.pairs) (filter (is_own_scope w) s.cells) (all_filter (λ c. AllByRecursion here (pair_refs names s.cells c.pairs)) (is_own_scope w) s.cells
      (λ i c at mine. pairs_stay names name w named s.cells c.pairs ((confined.each i c at).scope mine).pairs))

  held_stay : IsKept (held_refs names s.cells w p l)
  held_stay = none_any (leaves name (length (cell_rows names s.cells w s.cells))) (held_refs names s.cells w p l)
      (all_append here (scope_refs names s.cells w s.cells) (handler_refs names s.cells l (own p w) ++ timer_refs names s.cells l) scopes_stay
      (all_append here (handler_refs names s.cells l (own p w)) (timer_refs names s.cells l) (handlers_stay names name w named s.cells l (own p w) holds.handlers)
      (timers_stay names name w named s.cells (by_due (timers l)) (due_all (λ t. IsOwnCell w s.cells t.func) (timers l) holds.timers))))

  pub slot_stays : KeepsIn (read_slot names s.cells name w p l)
  unfolding read_slot
  slot_stays = (rows_stay, held_stay)

-- ## What a reference tells

module _ (names : List (Option (List ℕ))) (cells : List PlainCell) (i : ℕ) where
  abbrev Told : ℕ → ℕ → Owner → Form → Type 0
  Told number v o f = (is_own v o f ≡ true) × (number ≡ own_count v cells i)

  abbrev Widget : List ℕ → ℕ → Owner → Form → Type 0
  Widget name number o f = (v : ℕ) × (slice_index_or names v None ≡ Some name) × Told number v o f

  same_widget : (v : ℕ) (f : Form) → is_visible_form f ≡ true → is_own v (whose.Widget v) f ≡ true
  same_widget v f e = (λ j. eq-eqb v v refl j && e j)

  told_at : (name : List ℕ) (number : ℕ) (v : ℕ) (f : Form) (x : Option (List ℕ)) (b : Bool) → slice_index_or names v None ≡ x → is_visible_form f ≡ b → lined x (if b then Some (own_count v cells i) else None) ≡ ref.Cell name number → Widget name number (whose.Widget v) f
  told_at name number v f None b e g is = cc
  told_at name number v f (Some other) false e g is = cc
  told_at name number v f (Some other) true e g is =
      let same : other ≡ name = cc in
      let numbers : own_count v cells i ≡ number = cc in
      (v, e ∙ ap Some same, (same_widget v f g, sym numbers))

  told_cell : (name : List ℕ) (number : ℕ) (o : Owner) (f : Form) (b : Bool) → (if b then ref.Global else lined (name_of names o) (number_by cells i o f)) ≡ ref.Cell name number → Widget name number o f
  told_cell name number o f true is = cc
  told_cell name number whose.Host f false is = cc
  told_cell name number (whose.Widget v) f false is = told_at name number v f (slice_index_or names v None) (is_visible_form f) refl refl is

  pub tells_cell : (name : List ℕ) (number : ℕ) → ref_at names cells i ≡ ref.Cell name number → TellsCell names cells i name number
  tells_cell name number is = by (is_permitted_cell i) (slice_get cells i) refl is
    where
      by : (b : Bool) (x : Option PlainCell) → slice_get cells i ≡ x → (if b then ref.Host else option_map_or (other_ref names cells i) x ref.Raw) ≡ ref.Cell name number → TellsCell names cells i name number
      by true x e is = cc
      by false None e is = cc
      by false (Some c) e is =
          let told = told_cell name number c.owner c.form (is_global c.form) is in
          record { widget = told.0; named = told.1; visible = ap (λ y. option_map_or (is_visible told.0) y false) e ∙ told.2.0; number_is = told.2.1 }

  pub tells_form : (f : Form) → is_permitted_cell i ≡ false → form_at cells i ≡ Some f → is_visible_form f ≡ false → ref_at names cells i ≡ (if is_global f then ref.Global else ref.Raw)
  tells_form f out at hidden = by (slice_get cells i) refl at
    where
      plain : (o : Owner) → (if is_global f then ref.Global else lined (name_of names o) (number_by cells i o f)) ≡ (if is_global f then ref.Global else ref.Raw)
      plain whose.Host = refl
      plain (whose.Widget v) = ap (λ b. if is_global f then ref.Global else lined (slice_index_or names v None) (if b then Some (own_count v cells i) else None)) hidden ∙ ap (λ r. if is_global f then ref.Global else r) (none (slice_index_or names v None))
        where
          none : (x : Option (List ℕ)) → lined x None ≡ ref.Raw
          none None = refl
          none (Some other) = refl

      by : (x : Option PlainCell) → slice_get cells i ≡ x → option_and_then (λ (c : PlainCell). Some c.form) x ≡ Some f → ref_at names cells i ≡ (if is_global f then ref.Global else ref.Raw)
      by None e g = absurd (none_some g)
      by (Some c) e g =
          (λ j. if out j then ref.Host else option_map_or (other_ref names cells i) (e j) ref.Raw)
          ∙ ap (λ (h : Form). if is_global h then ref.Global else lined (name_of names c.owner) (number_by cells i c.owner h)) (some_same c.form f g) ∙ plain c.owner
