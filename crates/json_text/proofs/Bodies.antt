-- What is written of a value that is an object.
use Rattle.std.proofs.Common.{◌≡◌, ℕ, suc, List, [], refl, sym, ap, ◌∙◌, subst, Option, Some, None, Bool, true, false, if◌then◌else◌, slice_get, is_some}
use Rattle.std.specs.Prelude.{◌&&◌, codes}
use Rattle.std.specs.List.{filter}
use Rattle.std.specs.Option.{option_map_or}
use Rattle.js_tree.specs.Forest.{Forest}
use Rattle.code_units.specs.Permitted.{is_permitted}
use Rattle.store_cells.specs.declared.value.Value.{Value}
use Rattle.store_cells.specs.declared.value.Value.TheVariants as value
use Rattle.store_cells.specs.declared.value.Number.TheVariants as number
use Rattle.store_cells.specs.declared.kind.Form.{Form}
use Rattle.store_cells.specs.declared.kind.Form.TheVariants as form
use Rattle.store_cells.specs.Cells as cells_of
use Rattle.store_cells.specs.Cells.{Cells, PlainCell, is_array, is_bunch, is_visible_form, own_count, widget_of}
use Rattle.object_store.specs.Owned as store
use Rattle.object_store.specs.Owned.{but_length, own_kind, visible_at}
use Rattle.widget_meaning.specs.Values as meaning
use Rattle.widget_meaning.specs.OwnState as state
use Rattle.widget_meaning.specs.OwnState.{Cell, Kind, Pairs, State, array_length, cell_at, kind_of}
use Rattle.widget_meaning.specs.JsonTexts.{Written, NoJson, Writer, and_write, cell_text, elements_text, members_text, value_text, write}
use Rattle.js_image.specs.Elements.{own_place}
use Rattle.js_image.specs.Image.{Rest, image, meant, meant_kind, seen, seen_pairs}
use Rattle.js_image.specs.Held.{ArePairs, IsConfined, IsFine, IsHeld}
use Rattle.js_image.specs.Laws.{AreLawful}
use Rattle.js_image.proofs.Chains.{visible_form}
use Rattle.js_image.proofs.Hosts.{get_there, host_link}
use Rattle.js_image.proofs.Puts.{cell_there, hosts_cell, owner_is, permitted_else, shows}
use Rattle.json_text.specs.Objects.{is_object, is_object_kind, object_in, pairs_at}

false_true : false ≡ true → ⊥
false_true h = cc

none_some : {A : Type 0} {a : A} → None ≡ Some a → ⊥
none_some h = cc

some_same : {A : Type 0} (a b : A) → Some a ≡ Some b → a ≡ b
some_same a b e = cc

module _ (fs : List Forest) (r : Rest) (w : ℕ) (s : Cells) (laws : AreLawful s.cells) (m : ℕ) (t : List ℕ) where
  abbrev st : State
  st = image fs r w s

  abbrev one : Writer
  one = value_text m st

  abbrev text_of : meaning.Value → Written
  text_of v = value_text (suc m) st v t

  -- an own cell
  own_text : (i : ℕ) (c : PlainCell) → slice_get s.cells i ≡ Some c → visible_at w s.cells i ≡ true
      → text_of (seen w s.cells (value.Ref i)) ≡ cell_text one (meant_kind fs r.nodes (own_kind w s.cells c c.form)) (seen_pairs w s.cells (if is_bunch c.form then [] else (if is_array c.form then but_length c.pairs else c.pairs))) t
  own_text i c at e =
      ap (λ b. text_of (meant (if b then store.Own (own_count w s.cells i) else store.Other i))) e
      ∙ ap (λ (d : Cell). cell_text one d.kind d.pairs t) (cell_there fs r w s i c at (shows w s.cells i c at ∙ e))

  host_text : (i : ℕ) → IsHeld w s.cells i → visible_at w s.cells i ≡ false → text_of (seen w s.cells (value.Ref i)) ≡ NoJson
  host_text i held e = ap text_of (host_link w s.cells laws i (permitted_else w s.cells i held e))

  -- an Array
  pub array_text : (v : Value) (len : ℕ) → IsFine w s.cells v → array_length (kind_of st (seen w s.cells v)) ≡ Some len
      → text_of (seen w s.cells v) ≡ and_write (write t (codes "[")) (elements_text one (cell_at st (own_place w s.cells v)).pairs [] 0 len)
  array_text value.Undefined len h e = absurd (none_some e)
  array_text value.Null len h e = absurd (none_some e)
  array_text (value.Bool b) len h e = absurd (none_some e)
  array_text (value.Num number.NaN) len h e = absurd (none_some e)
  array_text (value.Num (number.Whole z)) len h e = absurd (none_some e)
  array_text (value.Text u) len h e = absurd (none_some e)
  array_text (value.Ref i) len h e = by (visible_at w s.cells i) refl
    where
      of_kind : (k : Kind) (ps : Pairs) → array_length (Some k) ≡ Some len → cell_text one k ps t ≡ and_write (write t (codes "[")) (elements_text one ps [] 0 len)
      of_kind (state.Array n) ps g = ap (λ l. and_write (write t (codes "[")) (elements_text one ps [] 0 l)) (some_same n len g)
      of_kind state.Object ps g = absurd (none_some g)
      of_kind (state.Function f o) ps g = absurd (none_some g)
      of_kind (state.Bunch ns) ps g = absurd (none_some g)

      by : (b : Bool) → visible_at w s.cells i ≡ b → text_of (seen w s.cells (value.Ref i)) ≡ and_write (write t (codes "[")) (elements_text one (cell_at st (own_count w s.cells i)).pairs [] 0 len)
      by true vis =
          let own : seen w s.cells (value.Ref i) ≡ meaning.Own (own_count w s.cells i) = ap (λ b. meant (if b then store.Own (own_count w s.cells i) else store.Other i)) vis in
          ap text_of own ∙ of_kind (cell_at st (own_count w s.cells i)).kind (cell_at st (own_count w s.cells i)).pairs (sym (ap (λ x. array_length (kind_of st x)) own) ∙ e)
      by false vis = absurd (none_some (sym (ap (λ x. array_length (kind_of st x)) (host_link w s.cells laws i (permitted_else w s.cells i h vis))) ∙ e))

  -- an Object
  object_form : (f : Form) → is_object_kind (cells_of.kind_of f) ≡ true → f ≡ form.Object
  object_form form.Object h = refl
  object_form form.Array h = absurd (false_true h)
  object_form (form.Function p) h = absurd (false_true h)
  object_form (form.Native n) h = absurd (false_true h)
  object_form form.Scope h = absurd (false_true h)
  object_form form.Bunch h = absurd (false_true h)
  object_form (form.RawNode n) h = absurd (false_true h)
  object_form form.Global h = absurd (false_true h)

  both : (a b : Bool) → (a && b) ≡ true → (a ≡ true) × (b ≡ true)
  both true b h = (refl, h)
  both false b h = absurd (false_true h)

  abbrev members : Pairs → Written
  members ps = and_write (write t (codes "{")) (members_text one [] (filter (λ q. is_permitted q.0) ps))

  pub object_refers : (v : Value) (i : ℕ) → object_in s.cells v ≡ Some i → (v ≡ value.Ref i) × (option_map_or is_object (slice_get s.cells i) false ≡ true)
  object_refers value.Undefined i h = absurd (none_some h)
  object_refers value.Null i h = absurd (none_some h)
  object_refers (value.Bool b) i h = absurd (none_some h)
  object_refers (value.Num n) i h = absurd (none_some h)
  object_refers (value.Text u) i h = absurd (none_some h)
  object_refers (value.Ref k) i h = by (option_map_or is_object (slice_get s.cells k) false) refl h
    where
      by : (b : Bool) → option_map_or is_object (slice_get s.cells k) false ≡ b → (if b then Some k else None) ≡ Some i → (value.Ref k ≡ value.Ref i) × (option_map_or is_object (slice_get s.cells i) false ≡ true)
      by true e g = (ap value.Ref (some_same k i g), ap (λ n. option_map_or is_object (slice_get s.cells n) false) (sym (some_same k i g)) ∙ e)
      by false e g = absurd (none_some g)

  pub object_text : (i : ℕ) → IsHeld w s.cells i → option_map_or is_object (slice_get s.cells i) false ≡ true
      → text_of (seen w s.cells (value.Ref i)) ≡ members (seen_pairs w s.cells (pairs_at s.cells i))
  object_text i held is = by (get_there s.cells i held.0) (visible_at w s.cells i) refl
    where
      by : (there : (c : PlainCell) × (slice_get s.cells i ≡ Some c)) (b : Bool) → visible_at w s.cells i ≡ b → text_of (seen w s.cells (value.Ref i)) ≡ members (seen_pairs w s.cells (pairs_at s.cells i))
      by there true vis =
          let c = there.0 in
          let o = both (is_some (widget_of c.owner)) _ (sym (ap (λ (x : Option PlainCell). option_map_or is_object x false) there.1) ∙ is) in
          own_text i c there.1 vis
          ∙ ap (λ f. cell_text one (meant_kind fs r.nodes (own_kind w s.cells c f)) (seen_pairs w s.cells (if is_bunch f then [] else (if is_array f then but_length c.pairs else c.pairs))) t) (object_form c.form o.1)
          ∙ sym (ap (λ (x : Option PlainCell). members (seen_pairs w s.cells (option_map_or (λ (d : PlainCell). d.pairs) x []))) there.1)
      by there false vis =
          let c = there.0 in
          let o = both (is_some (widget_of c.owner)) _ (sym (ap (λ (x : Option PlainCell). option_map_or is_object x false) there.1) ∙ is) in
          absurd (false_true (sym (ap is_some (hosts_cell w s.cells laws i c there.1 (permitted_else w s.cells i held vis))) ∙ o.0))

  -- all else
  pub other_text : (v : Value) → IsFine w s.cells v → meaning.is_object (seen w s.cells v) ≡ true → array_length (kind_of st (seen w s.cells v)) ≡ None → object_in s.cells v ≡ None → text_of (seen w s.cells v) ≡ NoJson
  other_text value.Undefined h o a e = refl
  other_text value.Null h o a e = absurd (false_true o)
  other_text (value.Bool b) h o a e = absurd (false_true o)
  other_text (value.Num number.NaN) h o a e = refl
  other_text (value.Num (number.Whole z)) h o a e = absurd (false_true o)
  other_text (value.Text u) h o a e = absurd (false_true o)
  other_text (value.Ref i) h o a e = by (get_there s.cells i h.0) (visible_at w s.cells i) refl
    where
      not_object : (b : Bool) → (if b then Some i else None) ≡ None → b ≡ false
      not_object true g = absurd (none_some (sym g))
      not_object false g = refl

      own_none : (c : PlainCell) → is_some (widget_of c.owner) ≡ true → (f : Form) → is_visible_form f ≡ true → (is_some (widget_of c.owner) && is_object_kind (cells_of.kind_of f)) ≡ false → array_length (Some (meant_kind fs r.nodes (own_kind w s.cells c f))) ≡ None
          → (ps : Pairs) → cell_text one (meant_kind fs r.nodes (own_kind w s.cells c f)) ps t ≡ NoJson
      own_none c mine form.Object v g n ps = absurd (false_true (sym g ∙ ap (λ x. x && true) mine))
      own_none c mine form.Array v g n ps = absurd (none_some (sym n))
      own_none c mine (form.Function p) v g n ps = refl
      own_none c mine form.Bunch v g n ps = refl
      own_none c mine (form.Native k) v g n ps = absurd (false_true v)
      own_none c mine form.Scope v g n ps = absurd (false_true v)
      own_none c mine (form.RawNode k) v g n ps = absurd (false_true v)
      own_none c mine form.Global v g n ps = absurd (false_true v)

      by : (there : (c : PlainCell) × (slice_get s.cells i ≡ Some c)) (b : Bool) → visible_at w s.cells i ≡ b → text_of (seen w s.cells (value.Ref i)) ≡ NoJson
      by there true vis =
          let c = there.0 in
          let mine = shows w s.cells i c there.1 ∙ vis in
          let kind : kind_of st (seen w s.cells (value.Ref i)) ≡ Some (meant_kind fs r.nodes (own_kind w s.cells c c.form)) = ap (λ b. kind_of st (meant (if b then store.Own (own_count w s.cells i) else store.Other i))) vis ∙ ap (λ (d : Cell). Some d.kind) (cell_there fs r w s i c there.1 mine) in
          own_text i c there.1 vis
          ∙ own_none c (ap is_some (owner_is w c mine)) c.form (visible_form w c mine) (sym (ap (λ (x : Option PlainCell). option_map_or is_object x false) there.1) ∙ not_object _ e) (sym (ap array_length kind) ∙ a) _
      by there false vis = host_text i h vis

-- the pairs of an Object of the widget are what it may hold
pub object_pairs : (fs : List Forest) (w : ℕ) (s : Cells) → IsConfined fs w s → AreLawful s.cells → (i : ℕ) → IsHeld w s.cells i → option_map_or is_object (slice_get s.cells i) false ≡ true → ArePairs w s.cells (pairs_at s.cells i)
object_pairs fs w s confined laws i held is = by (get_there s.cells i held.0) (visible_at w s.cells i) refl
  where
    both : (a b : Bool) → (a && b) ≡ true → (a ≡ true) × (b ≡ true)
    both true b h = (refl, h)
    both false b h = absurd (false_true h)

    plain : (f : Form) → is_object_kind (cells_of.kind_of f) ≡ true → is_bunch f ≡ false
    plain form.Object h = refl
    plain form.Array h = refl
    plain (form.Function p) h = refl
    plain (form.Native n) h = refl
    plain form.Scope h = refl
    plain form.Bunch h = absurd (false_true h)
    plain (form.RawNode n) h = refl
    plain form.Global h = refl

    by : (there : (c : PlainCell) × (slice_get s.cells i ≡ Some c)) (b : Bool) → visible_at w s.cells i ≡ b → ArePairs w s.cells (pairs_at s.cells i)
    by there true vis =
        let c = there.0 in
        let o = both (is_some (widget_of c.owner)) _ (sym (ap (λ (x : Option PlainCell). option_map_or is_object x false) there.1) ∙ is) in
        subst (λ (x : Option PlainCell). ArePairs w s.cells (option_map_or (λ (d : PlainCell). d.pairs) x [])) (sym there.1)
        (((confined.each i c there.1).cell (shows w s.cells i c there.1 ∙ vis)).pairs (plain c.form o.1))
    by there false vis =
        let c = there.0 in
        let o = both (is_some (widget_of c.owner)) _ (sym (ap (λ (x : Option PlainCell). option_map_or is_object x false) there.1) ∙ is) in
        absurd (false_true (sym (ap is_some (hosts_cell w s.cells laws i c there.1 (permitted_else w s.cells i held vis))) ∙ o.0))
