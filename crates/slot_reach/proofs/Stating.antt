-- What is read of a widget that keeps to its own is told by its own state.
use Rattle.std.proofs.Common.{◌≡◌, ℕ, List, [], ◌∷◌, ◌++◌, map, filter, refl, sym, ap, subst, ◌∙◌, arith, Bool, true, false, ◌&&◌, ◌||◌, not, cond, Option, Some, None, if◌then◌else◌, slice_get, nat_eq, nat_le}
use Rattle.std.specs.Prelude.{IfSome, is_some, option_to_list, slice_index_or}
use Rattle.std.specs.List.{AllByRecursion, IsDistinct, flat_map}
use Rattle.std.specs.Option.{option_and_then, option_map, option_map_or}
use Rattle.std.specs.Str.{bytes_eq}
use Rattle.std.proofs.lemmas.Bool.Decides.{nat_tests}
use Rattle.std.proofs.lemmas.Slice.Eq.{bytes_eq-Decides}
use Rattle.code_units.specs.Permitted.{is_banned, has_edge_underscore, is_permitted}
use Rattle.code_units.specs.declared.owner.Owner.{Owner}
use Rattle.code_units.specs.declared.owner.Owner.TheVariants as whose
use Rattle.js_tree.specs.Forest.{Forest}
use Rattle.store_cells.specs.declared.kind.Form.{Form}
use Rattle.store_cells.specs.declared.kind.Form.TheVariants as form
use Rattle.store_cells.specs.declared.value.Number.TheVariants as number
use Rattle.store_cells.specs.declared.value.Value.{Value as StoreValue}
use Rattle.store_cells.specs.declared.value.Value.TheVariants as value
use Rattle.store_cells.specs.Arrays.{length_in, length_name, nodes_name}
use Rattle.store_cells.specs.Bunches.{IsBunch}
use Rattle.store_cells.specs.Cells.{Cells, PlainCell, is_array, is_bunch, is_own, is_scope, is_visible, own_count, value_of}
use Rattle.store_cells.specs.Host.{is_permitted_cell, leads_on}
use Rattle.object_store.specs.Calls.{HasLength}
use Rattle.object_store.specs.Owned as store
use Rattle.object_store.specs.Owned.{but_length, is_own_scope, own_cell, own_kind, own_link, own_pairs, own_scope, own_value, owned, shown, visible_at}
use Rattle.js_image.specs.Held.{ArePairs, IsConfined, IsFine, IsFineCell, IsHeld}
use Rattle.js_image.specs.Image.{meant, meant_cell, meant_kind, meant_pairs, meant_scope}
use Rattle.js_image.proofs.Hosts.{host_invisible}
use Rattle.event_loop.specs.declared.around.Loop.{Loop}
use Rattle.event_loop.specs.declared.timers.Timer.{Timer}
use Rattle.event_loop.specs.Around.{kept, timers}
use Rattle.event_loop.specs.Timers as waiting
use Rattle.page_image.specs.Around.{by_due, handler_of, kept_of, put_by_due, timer_of}
use Rattle.native_image.specs.Image.{Outside, beside, image}
use Rattle.native_image.specs.Sound.{HoldsOwn, IsOwnCell}
use Rattle.page_tree.specs.declared.page.Page.{Page}
use Rattle.page_image.specs.Image.{own}
use Rattle.widget_meaning.specs.OwnState as meaning
use Rattle.widget_meaning.specs.Values as values
use Rattle.reach_cert.specs.declared.cert.Ref.TheVariants as ref
use Rattle.reach_cert.specs.Certs.{Shown}
use Rattle.slot_reach.specs.Reads.{cell_row, handler_refs, lined, open_refs, other_ref, pair_refs, read_slot, ref_at, row_kind, value_refs}
use Rattle.slot_reach.proofs.Owning.{all_filter, told_by}
use Rattle.slot_reach.specs.Differ.{AllDiffer}
use Rattle.slot_reach.specs.States.{kind_of_state, own_listeners, own_open_refs, own_pair_refs, own_refs, state_row, state_slot}

abbrev Pair : Type 0
Pair = List ℕ × StoreValue

false_true : {P : Type 0} → false ≡ true → P
false_true e = cc

left_true : (a b : Bool) → (a && b) ≡ true → a ≡ true
left_true true b e = refl
left_true false b e = e

right_true : (a b : Bool) → (a && b) ≡ true → b ≡ true
right_true true b e = e
right_true false b e = false_true e

other_or : (a b : Bool) → (a || b) ≡ true → a ≡ false → b ≡ true
other_or true b e f = false_true (sym f)
other_or false b e f = e

hidden_name : is_permitted nodes_name ≡ false
unfolding has_edge_underscore is_banned
hidden_name = refl

-- ## The `length` of an Array

-- no pair under `length` has a reference
abbrev NoRefs : List Pair → Type 0
NoRefs ps = AllByRecursion (λ (p : Pair). bytes_eq p.0 length_name ≡ true → (i : ℕ) → p.1 ≡ value.Ref i → ⊥) ps

same_name : (a b : List ℕ) → bytes_eq a b ≡ true → a ≡ b
same_name a b e = (bytes_eq-Decides a b).0 e

name_same : (a b : List ℕ) → a ≡ b → bytes_eq a b ≡ true
name_same a b e = (bytes_eq-Decides a b).1 e

others_differ : (ps : List Pair) → AllByRecursion (λ y. bytes_eq length_name y ≡ false) (map (λ (p : Pair). p.0) ps) → NoRefs ps
others_differ [] h = tt
others_differ (p ∷ ps) h = ((λ e i is. false_true (sym h.0 ∙ name_same length_name p.0 (sym (same_name p.0 length_name e)))), others_differ ps h.1)

-- a number is no reference
no_number : (v : StoreValue) → is_some (length_in v) ≡ true → (i : ℕ) → v ≡ value.Ref i → ⊥
no_number v h i e = false_true (ap (λ x. is_some (length_in x)) (sym e) ∙ h)

length_alone : (ps : List Pair) → IsDistinct bytes_eq (map (λ (p : Pair). p.0) ps) → is_some (option_and_then length_in (value_of ps length_name)) ≡ true → NoRefs ps
unfolding IsDistinct
length_alone [] d h = tt
length_alone (p ∷ ps) d h = by (bytes_eq length_name p.0) refl h (length_alone ps d.1)
  where
    by : (b : Bool) → bytes_eq length_name p.0 ≡ b → is_some (option_and_then length_in (cond b (Some p.1) (value_of ps length_name))) ≡ true
        → (is_some (option_and_then length_in (value_of ps length_name)) ≡ true → NoRefs ps) → NoRefs (p ∷ ps)
    by true e g rest =
        let name = same_name length_name p.0 e in
        ((λ t. no_number p.1 g), others_differ ps (subst (λ k. AllByRecursion (λ y. bytes_eq k y ≡ false) (map (λ (q : Pair). q.0) ps)) (sym name) d.0))
    by false e g rest = ((λ t i is. false_true (sym e ∙ name_same length_name p.0 (sym (same_name p.0 length_name t)))), rest g)

module _ (names : List (Option (List ℕ))) (cells : List PlainCell) where
  no_refs : (v : StoreValue) → ((i : ℕ) → v ≡ value.Ref i → ⊥) → value_refs names cells v ≡ []
  no_refs value.Undefined h = refl
  no_refs value.Null h = refl
  no_refs (value.Bool b) h = refl
  no_refs (value.Num n) h = refl
  no_refs (value.Text t) h = refl
  no_refs (value.Ref i) h = absurd (h i refl)

  without_length : (ps : List Pair) → NoRefs ps → flat_map (open_refs names cells) ps ≡ flat_map (open_refs names cells) (but_length ps)
  without_length [] h = refl
  without_length (p ∷ ps) h = by (bytes_eq p.0 length_name) refl (without_length ps h.1)
    where
      none : (b : Bool) → value_refs names cells p.1 ≡ [] → (if b then value_refs names cells p.1 else []) ≡ []
      none true e = e
      none false e = refl

      by : (b : Bool) → bytes_eq p.0 length_name ≡ b → flat_map (open_refs names cells) ps ≡ flat_map (open_refs names cells) (but_length ps)
          → open_refs names cells p ++ flat_map (open_refs names cells) ps ≡ flat_map (open_refs names cells) (if not b then p ∷ but_length ps else but_length ps)
      by true e rest = (λ j. none (is_permitted p.0) (no_refs p.1 (h.0 e)) j ++ rest j)
      by false e rest = (λ j. open_refs names cells p ++ rest j)

module _ (names : List (Option (List ℕ))) (name : List ℕ) (w : ℕ) (named : slice_index_or names w None ≡ Some name) (cells : List PlainCell)
    (hosts : (i : ℕ) → is_permitted_cell i ≡ true → IfSome (slice_get cells i) (λ c. leads_on c ≡ true)) where
  one_is : (i v : ℕ) → nat_eq v w ≡ true → lined (slice_index_or names v None) (Some (own_count v cells i)) ≡ ref.Cell name (own_count w cells i)
  one_is i v same =
      let is : v ≡ w = grind (arith, nat_tests, same) in
      ap (λ u. lined (slice_index_or names u None) (Some (own_count u cells i))) is ∙ ap (λ x. lined x (Some (own_count w cells i))) named

  visible_is : (i : ℕ) (o : Owner) (f : Form) → is_own w o f ≡ true → told_by names cells i o f ≡ ref.Cell name (own_count w cells i)
  visible_is i whose.Host f m = false_true m
  visible_is i (whose.Widget v) form.Object m = one_is i v (left_true (nat_eq v w) true m)
  visible_is i (whose.Widget v) form.Array m = one_is i v (left_true (nat_eq v w) true m)
  visible_is i (whose.Widget v) (form.Function p) m = one_is i v (left_true (nat_eq v w) true m)
  visible_is i (whose.Widget v) form.Bunch m = one_is i v (left_true (nat_eq v w) true m)
  visible_is i (whose.Widget v) (form.Native n) m = false_true (right_true (nat_eq v w) false m)
  visible_is i (whose.Widget v) form.Scope m = false_true (right_true (nat_eq v w) false m)
  visible_is i (whose.Widget v) (form.RawNode n) m = false_true (right_true (nat_eq v w) false m)
  visible_is i (whose.Widget v) form.Global m = false_true (right_true (nat_eq v w) false m)

  -- a cell of its own
  own_is : (i : ℕ) → visible_at w cells i ≡ true → ref_at names cells i ≡ ref.Cell name (own_count w cells i)
  own_is i seen = by (slice_get cells i) refl
    where
      out : (c : PlainCell) → slice_get cells i ≡ Some c → is_visible w c ≡ true → (b : Bool) → is_permitted_cell i ≡ b → is_permitted_cell i ≡ false
      out c at vis true p =
          let led : leads_on c ≡ true = subst (λ (x : Option PlainCell). IfSome x (λ d. leads_on d ≡ true)) at (hosts i p) in
          false_true (sym (host_invisible w c led) ∙ vis)
      out c at vis false p = p

      by : (x : Option PlainCell) → slice_get cells i ≡ x → ref_at names cells i ≡ ref.Cell name (own_count w cells i)
      by None at = false_true (ap (λ (y : Option PlainCell). option_map_or (is_visible w) y false) (sym at) ∙ seen)
      by (Some c) at =
          let vis : is_visible w c ≡ true = ap (λ (y : Option PlainCell). option_map_or (is_visible w) y false) (sym at) ∙ seen in
          let free : is_permitted_cell i ≡ false = out c at vis (is_permitted_cell i) refl in
          (λ j. if free j then ref.Host else option_map_or (other_ref names cells i) (at j) ref.Raw) ∙ visible_is i c.owner c.form vis

  link_is : (i : ℕ) → IsHeld w cells i → ref_at names cells i ∷ [] ≡ own_refs name (meant (own_link w cells i))
  link_is i h = by (visible_at w cells i) refl
    where
      by : (b : Bool) → visible_at w cells i ≡ b → ref_at names cells i ∷ [] ≡ own_refs name (meant (if b then store.Own (own_count w cells i) else store.Other i))
      by true e = ap (λ r. r ∷ []) (own_is i e)
      by false e = ap (λ b. (if b then ref.Host else option_map_or (other_ref names cells i) (slice_get cells i) ref.Raw) ∷ []) (other_or (visible_at w cells i) (is_permitted_cell i) h.1 e)

  value_is : (v : StoreValue) → IsFine w cells v → value_refs names cells v ≡ own_refs name (meant (own_value w cells v))
  value_is value.Undefined h = refl
  value_is value.Null h = refl
  value_is (value.Bool b) h = refl
  value_is (value.Num number.NaN) h = refl
  value_is (value.Num (number.Whole z)) h = refl
  value_is (value.Text t) h = refl
  value_is (value.Ref i) h = link_is i h

  pairs_are : (ps : List Pair) → ArePairs w cells ps → pair_refs names cells ps ≡ own_pair_refs name (meant_pairs (own_pairs w cells ps))
  pairs_are [] h = refl
  pairs_are (p ∷ ps) h = (λ j. value_is p.1 h.0 j ++ pairs_are ps h.1 j)

  open_are : (ps : List Pair) → ArePairs w cells ps → flat_map (open_refs names cells) ps ≡ own_open_refs name (meant_pairs (own_pairs w cells ps))
  open_are [] h = refl
  open_are (p ∷ ps) h = (λ j. (if is_permitted p.0 then value_is p.1 h.0 j else []) ++ open_are ps h.1 j)

  some_pairs : (p : Pair → Bool) (ps : List Pair) → ArePairs w cells ps → ArePairs w cells (filter p ps)
  some_pairs p [] h = tt
  some_pairs p (q ∷ qs) h = by (p q) (some_pairs p qs h.1)
    where
      by : (b : Bool) → ArePairs w cells (filter p qs) → ArePairs w cells (if b then q ∷ filter p qs else filter p qs)
      by true rest = (h.0, rest)
      by false rest = rest

  proto_is : (b : Bool) (x : Option ℕ) → b ≡ false → IfSome x (IsHeld w cells) → map (ref_at names cells) (option_to_list (if b then None else x)) ≡ own_refs name (option_map_or meant (option_map (own_link w cells) x) values.Undefined)
  proto_is true x e h = false_true (sym e)
  proto_is false None e h = refl
  proto_is false (Some j) e h = link_is j h

  -- ## A cell

  module _ (fs : List Forest) (nodes : List ℕ) where
    kind_is : (c : PlainCell) (f : Form) → row_kind f ≡ kind_of_state (meant_kind fs nodes (own_kind w cells c f))
    kind_is c form.Object = refl
    kind_is c form.Array = refl
    kind_is c (form.Function p) = refl
    kind_is c (form.Native n) = refl
    kind_is c form.Scope = refl
    kind_is c form.Bunch = refl
    kind_is c (form.RawNode n) = refl
    kind_is c form.Global = refl

    no_scope : (o : Owner) (f : Form) → is_own w o f ≡ true → is_scope f ≡ false
    no_scope whose.Host f m = false_true m
    no_scope (whose.Widget v) form.Object m = refl
    no_scope (whose.Widget v) form.Array m = refl
    no_scope (whose.Widget v) (form.Function p) m = refl
    no_scope (whose.Widget v) form.Bunch m = refl
    no_scope (whose.Widget v) (form.Native n) m = refl
    no_scope (whose.Widget v) form.Scope m = false_true (right_true (nat_eq v w) false m)
    no_scope (whose.Widget v) (form.RawNode n) m = refl
    no_scope (whose.Widget v) form.Global m = refl

    module _ (c : PlainCell) (fine : IsFineCell fs w cells c) (mine : is_visible w c ≡ true) (bunch : is_bunch c.form ≡ true → IsBunch cells c)
        (long : is_array c.form ≡ true → HasLength c) (apart : IsDistinct bytes_eq (map (λ (p : Pair). p.0) c.pairs)) where
      hidden : (ps : List Pair) (a : ℕ) → ps ≡ (nodes_name, value.Ref a) ∷ [] → flat_map (open_refs names cells) ps ≡ []
      hidden ps a e = ap (flat_map (open_refs names cells)) e ∙ ap (λ b. (if b then ref_at names cells a ∷ [] else []) ++ []) hidden_name

      lists : flat_map (open_refs names cells) c.pairs ≡ own_open_refs name (meant_pairs (own_pairs w cells (shown c)))
      lists = by (is_bunch c.form) refl
        where
          arrays : is_bunch c.form ≡ false → (b : Bool) → is_array c.form ≡ b → flat_map (open_refs names cells) c.pairs ≡ own_open_refs name (meant_pairs (own_pairs w cells (if b then but_length c.pairs else c.pairs)))
          arrays e true a = without_length names cells c.pairs (length_alone c.pairs apart (long a)) ∙ open_are (but_length c.pairs) (some_pairs (λ p. not (bytes_eq p.0 length_name)) c.pairs (fine.pairs e))
          arrays e false a = open_are c.pairs (fine.pairs e)

          by : (b : Bool) → is_bunch c.form ≡ b → flat_map (open_refs names cells) c.pairs ≡ own_open_refs name (meant_pairs (own_pairs w cells (if b then [] else (if is_array c.form then but_length c.pairs else c.pairs))))
          by true e = hidden c.pairs (bunch e).array (bunch e).pairs
          by false e = arrays e (is_array c.form) refl

      row_is : cell_row names cells c ≡ state_row name (meant_cell fs nodes (own_cell w cells c))
      row_is = (λ j. record { kind = kind_is c c.form j; refs = proto_is (is_scope c.form) c.up (no_scope c.owner c.form mine) fine.up j ++ lists j })

  rows_are : (fs : List Forest) (nodes : List ℕ) (cs : List PlainCell) → AllByRecursion (λ c. cell_row names cells c ≡ state_row name (meant_cell fs nodes (own_cell w cells c))) cs
      → map (cell_row names cells) cs ≡ map (state_row name) (map (meant_cell fs nodes) (map (own_cell w cells) cs))
  rows_are fs nodes [] h = refl
  rows_are fs nodes (c ∷ cs) h = (λ j. h.0 j ∷ rows_are fs nodes cs h.1 j)

  scopes_are : (cs : List PlainCell) → AllByRecursion (λ (c : PlainCell). ArePairs w cells c.pairs) cs
      → flat_map (λ (c : PlainCell). pair_refs names cells c.pairs) cs ≡ flat_map (λ (c : meaning.Scope). own_pair_refs name c.pairs) (map meant_scope (map (own_scope w cells) cs))
  scopes_are [] h = refl
  scopes_are (c ∷ cs) h = (λ j. pairs_are c.pairs h.0 j ++ scopes_are cs h.1 j)

  listeners_are : (hs : List (List ℕ × ℕ)) → AllByRecursion (λ h. IsOwnCell w cells h.1) hs → map (λ h. ref_at names cells h.1) hs ≡ map (λ (h : meaning.Handler). ref.Cell name h.func) (map (handler_of (own_count w cells)) hs)
  listeners_are [] all = refl
  listeners_are (h ∷ hs) all = (λ j. own_is h.1 all.0.1 j ∷ listeners_are hs all.1 j)

  handlers_are : (l : Loop) (ns : List ℕ) → ((n : ℕ) → AllByRecursion (λ h. IsOwnCell w cells h.1) (kept l n).handlers)
      → handler_refs names cells l ns ≡ flat_map (own_listeners name) (map (λ n. kept_of (own_count w cells) (kept l n)) ns)
  handlers_are l [] all = refl
  handlers_are l (n ∷ ns) all = (λ j. listeners_are (kept l n).handlers (all n) j ++ handlers_are l ns all j)

  timers_are : (ts : List Timer) → AllByRecursion (λ t. IsOwnCell w cells t.func) ts → map (λ t. ref_at names cells t.func) ts ≡ map (λ (t : meaning.Timer). ref.Cell name t.func) (map (timer_of (own_count w cells)) ts)
  timers_are [] all = refl
  timers_are (t ∷ ts) all = (λ j. own_is t.func all.0.1 j ∷ timers_are ts all.1 j)

-- ## Timers by due time

module _ (g : ℕ → ℕ) where
  put_of : (t : Timer) (ts : List Timer) → put_by_due (timer_of g t) (map (timer_of g) ts) ≡ map (timer_of g) (waiting.put_by_due t ts)
  put_of t [] = refl
  put_of t (u ∷ us) = by (nat_le t.at u.at) (put_of t us)
    where
      by : (b : Bool) → put_by_due (timer_of g t) (map (timer_of g) us) ≡ map (timer_of g) (waiting.put_by_due t us) → cond b (timer_of g t ∷ timer_of g u ∷ map (timer_of g) us) (timer_of g u ∷ put_by_due (timer_of g t) (map (timer_of g) us)) ≡ map (timer_of g) (cond b (t ∷ u ∷ us) (u ∷ waiting.put_by_due t us))
      by true e = refl
      by false e = ap (λ l. timer_of g u ∷ l) e

  due_of : (ts : List Timer) → by_due (map (timer_of g) ts) ≡ map (timer_of g) (waiting.by_due ts)
  due_of [] = refl
  due_of (t ∷ ts) = ap (put_by_due (timer_of g t)) (due_of ts) ∙ put_of t (waiting.by_due ts)

put_all : (P : Timer → Type 0) (t : Timer) (ts : List Timer) → P t → AllByRecursion P ts → AllByRecursion P (waiting.put_by_due t ts)
put_all P t [] h g = (h, tt)
put_all P t (u ∷ us) h g = by (nat_le t.at u.at) (put_all P t us h g.1)
  where
    by : (b : Bool) → AllByRecursion P (waiting.put_by_due t us) → AllByRecursion P (if b then t ∷ u ∷ us else u ∷ waiting.put_by_due t us)
    by true rest = (h, g)
    by false rest = (g.0, rest)

due_all : (P : Timer → Type 0) (ts : List Timer) → AllByRecursion P ts → AllByRecursion P (waiting.by_due ts)
due_all P [] h = tt
due_all P (t ∷ ts) h = put_all P t (waiting.by_due ts) h.0 (due_all P ts h.1)

-- ## A widget

pub state_is : (names : List (Option (List ℕ))) (name : List ℕ) (fs : List Forest) (x : Outside) (w : ℕ) (s : Cells) (p : Page) (l : Loop) (b : Option Bool)
    → ((i : ℕ) → is_permitted_cell i ≡ true → IfSome (slice_get s.cells i) (λ c. leads_on c ≡ true))
    → ((i : ℕ) (c : PlainCell) → slice_get s.cells i ≡ Some c → is_bunch c.form ≡ true → IsBunch s.cells c)
    → ((i : ℕ) (c : PlainCell) → slice_get s.cells i ≡ Some c → is_array c.form ≡ true → HasLength c)
    → AllDiffer s.cells → slice_index_or names w None ≡ Some name → IsConfined fs w s → HoldsOwn w s p l
    → read_slot names s.cells name w p l ≡ state_slot name (image fs x w (beside s p l b)).own
unfolding read_slot state_slot owned
state_is names name fs x w s p l b hosts bunches long apart named confined holds =
    let nodes = own p w in
    let rows = rows_are names name w named s.cells hosts fs nodes (filter (is_visible w) s.cells) (all_filter (λ c. cell_row names s.cells c ≡ state_row name (meant_cell fs nodes (own_cell w s.cells c))) (is_visible w) s.cells
    (λ i c at mine. row_is names name w named s.cells hosts fs nodes c ((confined.each i c at).cell mine) mine (bunches i c at) (long i c at) (apart i c at))) in
    let scopes = scopes_are names name w named s.cells hosts (filter (is_own_scope w) s.cells) (all_filter (λ (c : PlainCell). ArePairs w s.cells c.pairs) (is_own_scope w) s.cells (λ i c at mine. ((confined.each i c at).scope mine).pairs)) in
    let handlers = handlers_are names name w named s.cells hosts l nodes holds.handlers in
    let due = timers_are names name w named s.cells hosts (waiting.by_due (timers l)) (due_all (λ t. IsOwnCell w s.cells t.func) (timers l) holds.timers)
    ∙ ap (map (λ (t : meaning.Timer). ref.Cell name t.func)) (sym (due_of (own_count w s.cells) (timers l))) in
    (λ j. Shown name (rows j) (scopes j ++ (handlers j ++ due j)))
