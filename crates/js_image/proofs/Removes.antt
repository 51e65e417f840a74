-- A property that is taken out, as the widget sees it.
use Rattle.std.proofs.Common.{◌≡◌, ℕ, zero, suc, List, [], ◌∷◌, refl, sym, ap, ◌∙◌, Option, Some, None, Bool, true, false, cond, if◌then◌else◌, slice_get, is_some, not, subst}
use Rattle.std.specs.Prelude.{◌&&◌}
use Rattle.std.specs.List.{AllByRecursion}
use Rattle.std.specs.Map.{remove_entry}
use Rattle.std.specs.Option.{option_map, option_map_or}
use Rattle.std.specs.Str.{bytes_eq}
use Rattle.code_units.specs.Permitted.{IsPermitted}
use Rattle.js_tree.specs.Forest.{Forest}
use Rattle.store_cells.specs.declared.value.Value.{Value}
use Rattle.store_cells.specs.declared.value.Value.TheVariants as value
use Rattle.store_cells.specs.declared.value.Number.TheVariants as number
use Rattle.store_cells.specs.declared.kind.Form.{Form}
use Rattle.store_cells.specs.declared.kind.Form.TheVariants as form
use Rattle.store_cells.specs.declared.counts.StoreFault.{StoreFault}
use Rattle.store_cells.specs.declared.counts.StoreFault.TheVariants as fault
use Rattle.store_cells.specs.Lists.{changed}
use Rattle.store_cells.specs.Arrays.{is_length_of, length_name, without}
use Rattle.store_cells.specs.Cells.{Cells, PlainCell, is_array, is_bunch, is_visible, is_visible_form, own_count}
use Rattle.store_cells.specs.Host.{is_permitted_cell}
use Rattle.object_store.specs.Calls.{IsRemoved, is_closed, remove_refusal}
use Rattle.object_store.specs.Grows.{Grows}
use Rattle.object_store.specs.Owned as store
use Rattle.object_store.specs.Owned.{OwnCell, OwnValue, Owned, SeesRemoved, but_length, is_of, is_of_at, own_cell, own_kind, own_link, own_pairs, own_removed, owned, visible_at}
use Rattle.widget_meaning.specs.Values as meaning
use Rattle.widget_meaning.specs.OwnState.{Cell, State, taken_out, with_cell}
use Rattle.widget_meaning.specs.Plan.{Plan}
use Rattle.widget_meaning.specs.Costs.{throw}
use Rattle.widget_meaning.specs.Properties.{delete, delete_own, delete_pair}
use Rattle.js_image.specs.Image.{Rest, image, meant, meant_cell, meant_pairs, seen}
use Rattle.js_image.specs.Held.{CountsRise, HoldNodes, IsFine, IsFineFor, IsHeld, Kept}
use Rattle.js_image.proofs.Nodes.{hold_changed, hold_same, pass_removed, rise_same, rise_to}
use Rattle.js_image.specs.Laws.{AreLawful}
use Rattle.js_image.specs.Reads.{cell_in}
use Rattle.js_image.proofs.Chains.{visible_form}
use Rattle.js_image.proofs.Grown.{cell_stays}
use Rattle.js_image.proofs.Hosts.{get_there, host_link}
use Rattle.js_image.proofs.Puts.{after_change, cell_there, hosts_cell, hosts_of, not_others, other_pairs, owner_is, permitted_else, same_counts, shows}
use Rattle.js_image.proofs.Writes.{confined_apart, confined_changed, none_at}

false_true : false ≡ true → ⊥
false_true h = cc

none_some : {A : Type 0} {a : A} → None ≡ Some a → ⊥
none_some h = cc

some_same : {A : Type 0} (a b : A) → Some a ≡ Some b → a ≡ b
some_same a b e = cc

-- pairs without a name
without_meant : (ps : List (List ℕ × OwnValue)) (x : List ℕ) → meant_pairs (remove_entry (bytes_eq x) ps) ≡ taken_out (meant_pairs ps) x
without_meant [] x = refl
without_meant (p ∷ ps) x = by (bytes_eq x p.0) (without_meant ps x)
  where
    by : (b : Bool) → meant_pairs (remove_entry (bytes_eq x) ps) ≡ taken_out (meant_pairs ps) x → meant_pairs (cond b ps (p ∷ remove_entry (bytes_eq x) ps)) ≡ (if b then meant_pairs ps else (p.0, meant p.1) ∷ taken_out (meant_pairs ps) x)
    by true g = refl
    by false g = ap (λ l. (p.0, meant p.1) ∷ l) g

removed_each : (P : List ℕ × Value → Type 0) (x : List ℕ) (ps : List (List ℕ × Value)) → AllByRecursion P ps → AllByRecursion P (remove_entry (bytes_eq x) ps)
removed_each P x [] h = tt
removed_each P x (p ∷ ps) h = by (bytes_eq x p.0) (removed_each P x ps h.1)
  where
    by : (b : Bool) → AllByRecursion P (remove_entry (bytes_eq x) ps) → AllByRecursion P (cond b ps (p ∷ remove_entry (bytes_eq x) ps))
    by true g = h.1
    by false g = (h.0, g)

-- a change that changes nothing
changed_same : (cells : List PlainCell) (i : ℕ) (f : PlainCell → PlainCell) → ((c : PlainCell) → slice_get cells i ≡ Some c → f c ≡ c) → changed cells i f ≡ cells
changed_same [] i f h = refl
changed_same (d ∷ cells) zero f h = ap (λ e. e ∷ cells) (h d refl)
changed_same (d ∷ cells) (suc i) f h = ap (λ l. d ∷ l) (changed_same cells i f h)

closed_some : (b : Bool) → (if b then Some fault.Closed else None) ≡ None → b ≡ false
closed_some true h = absurd (none_some (sym h))
closed_some false h = refl

closed_none : (b : Bool) (e : StoreFault) → (if b then Some fault.Closed else None) ≡ Some e → b ≡ true
closed_none true e h = refl
closed_none false e h = absurd (none_some h)

abbrev no_one : Option ℕ
no_one = None

module _ (w : ℕ) (cells : List PlainCell) (i : ℕ) (c : PlainCell) (at : slice_get cells i ≡ Some c) where
  -- a cell of the widget is closed exactly if it is a Bunch
  closed_bunch : is_visible w c ≡ true → is_closed c ≡ is_bunch c.form
  closed_bunch mine = (λ j. not (is_some (if is_bunch c.form then None else owner_is w c mine j))) ∙ by (is_bunch c.form)
    where
      by : (b : Bool) → not (is_some (if b then None else Some w)) ≡ b
      by true = refl
      by false = refl

  -- a cell of the table is closed
  closed_table : AreLawful cells → is_permitted_cell i ≡ true → is_closed c ≡ true
  closed_table laws p = (λ j. not (is_some (if is_bunch c.form then None else hosts_cell w cells laws i c at p j))) ∙ by (is_bunch c.form)
    where
      by : (b : Bool) → not (is_some (if b then no_one else no_one)) ≡ true
      by true = refl
      by false = refl

module _ (fs : List Forest) (r : Rest) (w : ℕ) (old : Cells) (laws : AreLawful old.cells) (x : List ℕ) (i : ℕ) (held : IsHeld w old.cells i) (go : Bool → State → Plan) where
  abbrev st : State
  st = image fs r w old

  abbrev deleting : Plan
  deleting = delete (seen w old.cells (value.Ref i)) x st go

  module _ (c : PlainCell) (n : ℕ) where
    -- the cell, were it of a form
    abbrev own_at : Form → OwnCell
    own_at f = record { kind = own_kind w old.cells c f; prototype = option_map (own_link w old.cells) c.up; pairs = own_pairs w old.cells (if is_bunch f then [] else (if is_array f then but_length c.pairs else c.pairs)) }

    abbrev mine_at : Form → Cell
    mine_at f = meant_cell fs r.nodes (own_at f)

    abbrev deletes : Form → Plan
    deletes f = delete_own (mine_at f).kind (mine_at f) n x st go

    taken : (d : OwnCell) → delete_pair (meant_cell fs r.nodes d) n x st go ≡ go true (with_cell st n (meant_cell fs r.nodes (own_removed x d)))
    taken d = ap (λ ps. go true (with_cell st n (record (meant_cell fs r.nodes d) { pairs = ps }))) (sym (without_meant d.pairs x))

    takes_out : (f : Form) → is_visible_form f ≡ true → is_bunch f ≡ false → (is_array f && bytes_eq x length_name) ≡ false → deletes f ≡ go true (with_cell st n (meant_cell fs r.nodes (own_removed x (own_at f))))
    takes_out form.Object v b l = taken (own_at form.Object)
    takes_out form.Array v b l = (λ j. if l j then go false st else delete_pair (mine_at form.Array) n x st go) ∙ taken (own_at form.Array)
    takes_out (form.Function p) v b l = taken (own_at (form.Function p))
    takes_out form.Bunch v b l = absurd (false_true (sym b))
    takes_out (form.Native m) v b l = absurd (false_true v)
    takes_out form.Scope v b l = absurd (false_true v)
    takes_out (form.RawNode m) v b l = absurd (false_true v)
    takes_out form.Global v b l = absurd (false_true v)

    stays : (f : Form) → (is_array f && bytes_eq x length_name) ≡ true → deletes f ≡ go false st
    stays form.Array l = λ j. if l j then go false st else delete_pair (mine_at form.Array) n x st go
    stays form.Object l = absurd (false_true l)
    stays (form.Function p) l = absurd (false_true l)
    stays form.Bunch l = absurd (false_true l)
    stays (form.Native m) l = absurd (false_true l)
    stays form.Scope l = absurd (false_true l)
    stays (form.RawNode m) l = absurd (false_true l)
    stays form.Global l = absurd (false_true l)

    refused_bunch : (f : Form) → is_bunch f ≡ true → deletes f ≡ throw meaning.E5 st
    refused_bunch form.Bunch b = refl
    refused_bunch form.Object b = absurd (false_true b)
    refused_bunch form.Array b = absurd (false_true b)
    refused_bunch (form.Function p) b = absurd (false_true b)
    refused_bunch (form.Native m) b = absurd (false_true b)
    refused_bunch form.Scope b = absurd (false_true b)
    refused_bunch (form.RawNode m) b = absurd (false_true b)
    refused_bunch form.Global b = absurd (false_true b)

  own_delete : (c : PlainCell) → slice_get old.cells i ≡ Some c → visible_at w old.cells i ≡ true → is_visible w c ≡ true → deleting ≡ deletes c (own_count w old.cells i) c.form
  own_delete c there e mine =
      ap (λ b. delete (meant (if b then store.Own (own_count w old.cells i) else store.Other i)) x st go) e
      ∙ ap (λ (d : Cell). delete_own d.kind d (own_count w old.cells i) x st go) (cell_there fs r w old i c there mine)

  refusal_at : (c : PlainCell) → slice_get old.cells i ≡ Some c → remove_refusal old i ≡ (if is_closed c then Some fault.Closed else None)
  refusal_at c there = ap (λ (o : Option PlainCell). option_map_or (λ d. if is_closed d then Some fault.Closed else None) o None) there

  -- what was taken out of a cell of the widget
  removed_own : (new : Cells) (answer : Bool) → IsRemoved old new i x answer → SeesRemoved w old new i x → (c : PlainCell) → slice_get old.cells i ≡ Some c → visible_at w old.cells i ≡ true → is_visible w c ≡ true → deleting ≡ go answer (image fs r w new)
  removed_own new answer is sees c there e mine = own_delete c there e mine ∙ by_length (is_length_of x c) refl
    where
      open_form : is_bunch c.form ≡ false
      open_form = sym (closed_bunch w old.cells i c there mine) ∙ closed_some (is_closed c) (sym (refusal_at c there) ∙ is.allowed)

      answer_is : answer ≡ not (is_length_of x c)
      answer_is = is.answered ∙ ap (λ (o : Option PlainCell). option_map_or (λ d. not (is_length_of x d)) o true) there

      kept_whole : (d : PlainCell) → is_length_of x d ≡ true → without x d ≡ d
      kept_whole d h = λ j. if h j then d else record d { pairs = remove_entry (bytes_eq x) d.pairs }

      by_length : (l : Bool) → is_length_of x c ≡ l → deletes c (own_count w old.cells i) c.form ≡ go answer (image fs r w new)
      by_length true l =
          let same : new ≡ old = is.done ∙ ap (λ (cs : List PlainCell). record old { cells = cs }) (changed_same old.cells i (without x) (λ d at. kept_whole d (ap (is_length_of x) (some_same d c (sym at ∙ there)) ∙ l))) in
          stays c (own_count w old.cells i) c.form l
          ∙ ap (λ b. go b st) (sym (answer_is ∙ ap not l))
          ∙ ap (λ s. go answer (image fs r w s)) (sym same)
      by_length false l =
          takes_out c (own_count w old.cells i) c.form (visible_form w c mine) open_form l
          ∙ ap (λ s. go true (with_cell s (own_count w old.cells i) (meant_cell fs r.nodes (own_removed x (own_cell w old.cells c))))) (sym (same_counts fs r w old))
          ∙ ap (go true) (sym (after_change fs r w old new i 0 c (own_removed x) there mine (sees e)))
          ∙ ap (λ b. go b (image fs r w new)) (sym (answer_is ∙ ap not l))

  -- what was taken out
  pub remove_done_is : (new : Cells) (answer : Bool) → IsRemoved old new i x answer → SeesRemoved w old new i x → deleting ≡ go answer (image fs r w new)
  remove_done_is new answer is sees = by (get_there old.cells i held.0) (visible_at w old.cells i) refl
    where
      by : (there : (c : PlainCell) × (slice_get old.cells i ≡ Some c)) (b : Bool) → visible_at w old.cells i ≡ b → deleting ≡ go answer (image fs r w new)
      by there true e = removed_own new answer is sees there.0 there.1 e (shows w old.cells i there.0 there.1 ∙ e)
      by there false e =
          absurd (false_true (sym (closed_some (is_closed there.0) (sym (refusal_at there.0 there.1) ∙ is.allowed)) ∙ closed_table w old.cells i there.0 there.1 laws (permitted_else w old.cells i held e)))

  -- what was refused
  pub remove_refused : (new : Cells) (e : StoreFault) → remove_refusal old i ≡ Some e → new ≡ old → deleting ≡ throw meaning.E5 (image fs r w new)
  remove_refused new e refused same = by (get_there old.cells i held.0) (visible_at w old.cells i) refl ∙ ap (λ s. throw meaning.E5 (image fs r w s)) (sym same)
    where
      by : (there : (c : PlainCell) × (slice_get old.cells i ≡ Some c)) (b : Bool) → visible_at w old.cells i ≡ b → deleting ≡ throw meaning.E5 st
      by there true seen_here =
          let c = there.0 in
          let mine = shows w old.cells i c there.1 ∙ seen_here in
          own_delete c there.1 seen_here mine
          ∙ refused_bunch c (own_count w old.cells i) c.form (sym (closed_bunch w old.cells i c there.1 mine) ∙ closed_none (is_closed c) e (sym (refusal_at c there.1) ∙ refused))
      by there false unseen = ap (λ a. delete a x st go) (host_link w old.cells laws i (permitted_else w old.cells i held unseen))

-- what taking out keeps
pub remove_kept : (fs : List Forest) (w : ℕ) (old new : Cells) → AreLawful old.cells → (x : List ℕ) (i : ℕ) (answer : Bool) → IsHeld w old.cells i → IsRemoved old new i x answer → SeesRemoved w old new i x → ((v : ℕ) → Grows v old.cells new.cells) → ((u : ℕ) → is_of_at u old.cells i ≡ false → owned u new ≡ owned u old) → Kept fs w old new
remove_kept fs w old new laws x i answer held is sees grows others = record {
  confined = λ h. confined_changed fs w old new i (without x) (ap (λ (t : Cells). t.cells) is.done) (grows w) h (λ d at. after d (is_length_of x d) (h.each i d at));
  grows = grows w;
  others_grow = λ v apart. grows v;
  others_confined = λ gs u apart. confined_apart gs u old new i (without x) (ap (λ (t : Cells). t.cells) is.done) (grows u) (λ d at. same_owner u d (is_length_of x d) ∙ none_at u old.cells i (not_others w u old.cells laws i held apart) d at);
  others = λ u apart. others u (not_others w u old.cells laws i held apart);
  nodes = λ p. seen_nodes p (visible_at w old.cells i) refl;
  counts = seen_counts (visible_at w old.cells i) refl;
}
  where
    stays : visible_at w old.cells i ≡ false → owned w new ≡ owned w old
    stays e = others w (hosts_of w old.cells laws i held e w)

    same_owner : (u : ℕ) (d : PlainCell) (b : Bool) → (let e : PlainCell = if b then d else record d { pairs = remove_entry (bytes_eq x) d.pairs } in is_of u e.owner) ≡ is_of u d.owner
    same_owner u d true = refl
    same_owner u d false = refl

    seen_nodes : (p : ℕ → Bool) (b : Bool) → visible_at w old.cells i ≡ b → HoldNodes p w old → HoldNodes p w new
    seen_nodes p true e h = hold_changed p w old new i 0 (own_removed x) (pass_removed p x) (sees e) h
    seen_nodes p false e h = hold_same p w old new (ap (λ (o : Owned). o.heap) (stays e)) h

    seen_counts : (b : Bool) → visible_at w old.cells i ≡ b → CountsRise (owned w old).paid (owned w new).paid
    seen_counts true e = rise_to 0 0 0 (owned w old).paid (owned w new).paid (sees e).paid
    seen_counts false e = subst (CountsRise (owned w old).paid) (sym (ap (λ (o : Owned). o.paid) (stays e))) (rise_same (owned w old).paid)

    after : (d : PlainCell) (b : Bool) → IsFineFor fs w old.cells d → IsFineFor fs w new.cells (if b then d else record d { pairs = remove_entry (bytes_eq x) d.pairs })
    after d true h = cell_stays w old.cells new.cells (grows w) fs d h
    after d false h = other_pairs fs w new.cells d (remove_entry (bytes_eq x) d.pairs) (removed_each (λ p. IsFine w new.cells p.1) x d.pairs) (removed_each (λ p. IsPermitted p.0) x d.pairs) (cell_stays w old.cells new.cells (grows w) fs d h)

-- from a primitive nothing is taken out
pub delete_primitive : (w : ℕ) (cells : List PlainCell) (b : Value) → cell_in b ≡ None → (x : List ℕ) (s : State) (go : Bool → State → Plan) → delete (seen w cells b) x s go ≡ go true s
delete_primitive w cells value.Undefined h x s go = refl
delete_primitive w cells value.Null h x s go = refl
delete_primitive w cells (value.Bool b) h x s go = refl
delete_primitive w cells (value.Num number.NaN) h x s go = refl
delete_primitive w cells (value.Num (number.Whole z)) h x s go = refl
delete_primitive w cells (value.Text t) h x s go = refl
delete_primitive w cells (value.Ref i) h x s go = absurd (none_some (sym h))
