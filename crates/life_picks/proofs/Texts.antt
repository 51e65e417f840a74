-- The note of a value, by what the store has of it.
use Rattle.std.proofs.Common.{◌≡◌, ◌<◌, ℕ, zero, suc, List, [], ◌∷◌, Bool, true, false, refl, sym, ap, ◌∙◌, subst, length, arith, Option, Some, None, if◌then◌else◌}
use Rattle.std.specs.Prelude.{IfSome, codes, is_some, slice_get, slice_index_or, unwrap_or, ◌&&◌, ◌||◌}
use Rattle.std.specs.Option.{option_map_or}
use Rattle.code_units.specs.declared.owner.Owner.{Owner}
use Rattle.code_units.specs.declared.owner.Owner.TheVariants as whose
use Rattle.store_cells.specs.declared.value.Value.TheVariants as value
use Rattle.store_cells.specs.Cells.{PlainCell, is_own, is_visible, own_count}
use Rattle.store_cells.specs.Host.{is_host_owner, is_permitted_cell}
use Rattle.object_store.specs.Owned as store
use Rattle.object_store.specs.Owned.{visible_at}
use Rattle.widget_meaning.specs.OwnState.{Array, Bunch, Function, Kind, Object, Pairs, State, cell_at, lookup, plain_object}
use Rattle.widget_meaning.specs.Properties.{get, kind_property, or_else, own_property}
use Rattle.widget_meaning.specs.Turns.{named_note, note_text}
use Rattle.widget_meaning.specs.Values.{Host, NaN, Null, Num, Own, Text, Truth, Undefined, Value}
use Rattle.js_image.specs.Image.{meant, seen}
use Rattle.js_image.specs.Held.{IsHeld}
use Rattle.js_image.specs.Laws.{AreLawful}
use Rattle.js_image.proofs.Hosts.{leads_at}
use Rattle.life_picks.specs.Picking.{both_texts, own_text_in, text_in}

no_true : false ≡ true → ⊥
no_true e = cc

-- a reference is no text
pub ref_no_text : (w : ℕ) (cells : List PlainCell) (i : ℕ) → text_in (seen w cells (value.Ref i)) ≡ None
ref_no_text w cells i = by (visible_at w cells i)
  where
    by : (b : Bool) → text_in (meant (if b then store.Own (own_count w cells i) else store.Other i)) ≡ None
    by true = refl
    by false = refl

-- what is found of an own property is the property
found_first : (s : State) (v : Value) (x : List ℕ) (k : Bool → Option Value) (o : Option Value) → is_some o ≡ true → text_in (unwrap_or (or_else o k) Undefined) ≡ own_text_in o
found_first s v x k None h = absurd (no_true h)
found_first s v x k (Some u) h = refl

pub own_is_found : (s : State) (v : Value) (x : List ℕ) → is_some (own_property s v x) ≡ true → text_in (get s v x) ≡ own_text_in (own_property s v x)
own_is_found s (Own n) x h = found_first s (Own n) x _ (own_property s (Own n) x) h
own_is_found s (Host e) x h = found_first s (Host e) x _ (own_property s (Host e) x) h
own_is_found s Undefined x h = absurd (no_true h)
own_is_found s Null x h = absurd (no_true h)
own_is_found s (Truth b) x h = absurd (no_true h)
own_is_found s NaN x h = absurd (no_true h)
own_is_found s (Num z) x h = absurd (no_true h)
own_is_found s (Text t) x h = absurd (no_true h)

-- `name` and `message` are no lengths
pub name_pair : (k : Kind) (ps : Pairs) → kind_property k ps (codes "name") ≡ lookup ps (codes "name")
name_pair Object ps = refl
name_pair (Array n) ps = refl
name_pair (Function f o) ps = refl
name_pair (Bunch ns) ps = refl

pub message_pair : (k : Kind) (ps : Pairs) → kind_property k ps (codes "message") ≡ lookup ps (codes "message")
message_pair Object ps = refl
message_pair (Array n) ps = refl
message_pair (Function f o) ps = refl
message_pair (Bunch ns) ps = refl

texts_are : (a b : Option Value) → both_texts (own_text_in a) (own_text_in b) ≡ named_note a b
texts_are None b = refl
texts_are (Some (Text x)) None = refl
texts_are (Some (Text x)) (Some (Text m)) = refl
texts_are (Some (Text x)) (Some Undefined) = refl
texts_are (Some (Text x)) (Some Null) = refl
texts_are (Some (Text x)) (Some (Truth b)) = refl
texts_are (Some (Text x)) (Some NaN) = refl
texts_are (Some (Text x)) (Some (Num z)) = refl
texts_are (Some (Text x)) (Some (Own n)) = refl
texts_are (Some (Text x)) (Some (Host e)) = refl
texts_are (Some Undefined) b = refl
texts_are (Some Null) b = refl
texts_are (Some (Truth c)) b = refl
texts_are (Some NaN) b = refl
texts_are (Some (Num z)) b = refl
texts_are (Some (Own n)) b = refl
texts_are (Some (Host e)) b = refl

module _ (w : ℕ) (cells : List PlainCell) (i : ℕ) where
  -- a cell of the host
  pub host_note : (c : PlainCell) → slice_get cells i ≡ Some c → c.owner ≡ whose.Host → (s : State) → note_text s (seen w cells (value.Ref i)) ≡ codes "[object]"
  host_note c at host s =
      let unseen : visible_at w cells i ≡ false = ap (λ (o : Option PlainCell). option_map_or (is_visible w) o false) at ∙ ap (λ (o : Owner). is_own w o c.form) host in
      ap (λ b. note_text s (meant (if b then store.Own (own_count w cells i) else store.Other i))) unseen

  -- an object of the widget
  pub object_is : AreLawful cells → IsHeld w cells i → (v : ℕ) (c : PlainCell) → slice_get cells i ≡ Some c → c.owner ≡ whose.Widget v → seen w cells (value.Ref i) ≡ Own (own_count w cells i)
  object_is laws held v c at owned = by (visible_at w cells i) refl
    where
      first_is : (a b : Bool) → (a && b) ≡ true → a ≡ true
      first_is true b h = refl
      first_is false b h = h

      other : (b : Bool) → (b || is_permitted_cell i) ≡ true → b ≡ false → is_permitted_cell i ≡ true
      other true h e = absurd (no_true (sym e))
      other false h e = h

      by : (b : Bool) → visible_at w cells i ≡ b → seen w cells (value.Ref i) ≡ Own (own_count w cells i)
      by true e = ap (λ b. meant (if b then store.Own (own_count w cells i) else store.Other i)) e
      by false e =
          absurd (no_true (ap is_host_owner (sym owned) ∙ first_is (is_host_owner c.owner) _ (leads_at w cells laws i c at (other (visible_at w cells i) held.1 e))))

  module _ (s : State) (own : seen w cells (value.Ref i) ≡ Own (own_count w cells i)) (name message : Option (List ℕ))
      (name_is : name ≡ own_text_in (own_property s (seen w cells (value.Ref i)) (codes "name"))) (message_is : message ≡ own_text_in (own_property s (seen w cells (value.Ref i)) (codes "message"))) where
    -- its note
    pub object_note : both_texts name message ≡ note_text s (seen w cells (value.Ref i))
    object_note =
        let n = own_count w cells i in
        let a : name ≡ own_text_in (lookup (cell_at s n).pairs (codes "name")) = name_is ∙ ap (λ v. own_text_in (own_property s v (codes "name"))) own ∙ ap own_text_in (name_pair (cell_at s n).kind (cell_at s n).pairs) in
        let b : message ≡ own_text_in (lookup (cell_at s n).pairs (codes "message")) = message_is ∙ ap (λ v. own_text_in (own_property s v (codes "message"))) own ∙ ap own_text_in (message_pair (cell_at s n).kind (cell_at s n).pairs) in
        (λ j. both_texts (a j) (b j)) ∙ texts_are (lookup (cell_at s n).pairs (codes "name")) (lookup (cell_at s n).pairs (codes "message")) ∙ ap (note_text s) (sym own)

-- a cell that is there
there : (cells : List PlainCell) (i : ℕ) → i < length cells → (c : PlainCell) × (slice_get cells i ≡ Some c)
there [] i h = absurd omega (arith, h)
there (c ∷ cells) zero h = (c, refl)
there (c ∷ cells) (suc i) h = there cells i (omega (arith, h))

-- an object that is not the host's
pub own_seen : (w : ℕ) (cells : List PlainCell) (i : ℕ) → AreLawful cells → IsHeld w cells i → i < length cells → (o : Owner) → IfSome (slice_get cells i) (λ c. o ≡ c.owner) → (o ≡ whose.Host → ⊥)
    → seen w cells (value.Ref i) ≡ Own (own_count w cells i)
own_seen w cells i laws held within whose.Host is not = absurd (not refl)
own_seen w cells i laws held within (whose.Widget v) is not =
    let c = there cells i within in
    object_is w cells i laws held v c.0 c.1 (sym (subst (λ (u : Option PlainCell). IfSome u (λ d. whose.Widget v ≡ d.owner)) c.1 is))

-- a note is of the widget's objects alone
pub note_same : (s t : State) → s.own.heap ≡ t.own.heap → (v : Value) → note_text s v ≡ note_text t v
note_same s t e (Own n) = λ j. named_note (lookup (slice_index_or (e j) n (plain_object [])).pairs (codes "name")) (lookup (slice_index_or (e j) n (plain_object [])).pairs (codes "message"))
note_same s t e (Host h) = refl
note_same s t e Undefined = refl
note_same s t e Null = refl
note_same s t e (Truth b) = refl
note_same s t e NaN = refl
note_same s t e (Num z) = refl
note_same s t e (Text x) = refl
