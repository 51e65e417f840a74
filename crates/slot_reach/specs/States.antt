-- The certificate of widgets by their own states.
use Rattle.std.specs.Prelude.{ℕ, ◌++◌, List, [], ◌∷◌, Option, None, Some, if◌then◌else◌, map}
use Rattle.std.specs.List.{flat_map}
use Rattle.code_units.specs.Permitted.{is_permitted}
use Rattle.page_image.specs.Around.{by_due}
use Rattle.widget_meaning.specs.Values.{Value, Undefined, Null, Truth, NaN, Num, Text, Own, Host}
use Rattle.widget_meaning.specs.OwnState.{Cell, Handler, Kept, Kind, Object, Array, Function, Bunch, OwnState, Pairs, Scope, Timer}
use Rattle.reach_cert.specs.declared.cert.Ref.{Ref}
use Rattle.reach_cert.specs.declared.cert.Ref.TheVariants as ref
use Rattle.reach_cert.specs.declared.cert.RowKind.{RowKind}
use Rattle.reach_cert.specs.declared.cert.RowKind.TheVariants as row
use Rattle.reach_cert.specs.Certs.{Row, Slot, Shown, Refused}

-- the kind of an object
abbrev pub kind_of_state : Kind → RowKind
kind_of_state Object = row.Object
kind_of_state (Array n) = row.Array
kind_of_state (Function f scope) = row.Function
kind_of_state (Bunch ns) = row.Bunch

module _ (name : List ℕ) where
  -- the references in a value of the widget with this name: its own objects by their numbers, host objects all alike, a primitive none
  abbrev pub own_refs : Value → List Ref
  own_refs Undefined = []
  own_refs Null = []
  own_refs (Truth b) = []
  own_refs NaN = []
  own_refs (Num z) = []
  own_refs (Text t) = []
  own_refs (Own n) = ref.Cell name n ∷ []
  own_refs (Host e) = ref.Host ∷ []

  -- those of pairs, in their order
  abbrev pub own_pair_refs : Pairs → List Ref
  own_pair_refs ps = flat_map (λ p. own_refs p.1) ps

  -- those of pairs under permitted names
  abbrev pub own_open_refs : Pairs → List Ref
  own_open_refs ps = flat_map (λ p. if is_permitted p.0 then own_refs p.1 else []) ps

  -- the line of an object: its prototype, and then the references under permitted names in order of insertion
  abbrev pub state_row : Cell → Row
  state_row c = record { kind = kind_of_state c.kind; refs = own_refs c.prototype ++ own_open_refs c.pairs }

  -- what the functions of handlers are, in order of listening
  abbrev pub own_listeners : Kept → List Ref
  own_listeners k = map (λ (h : Handler). ref.Cell name h.func) k.handlers

  -- all that the widget holds: its scopes by birth and in the order of their names, its handlers by nodes, its timers by due time and start
  abbrev pub state_held : OwnState → List Ref
  state_held o = flat_map (λ (c : Scope). own_pair_refs c.pairs) o.scopes
      ++ (flat_map own_listeners o.kept ++ map (λ (t : Timer). ref.Cell name t.func) (by_due o.timers))

-- the certificate's block of a widget with this name and this own state
unfoldable pub state_slot : List ℕ → OwnState → Slot
state_slot name o = Shown name (map (state_row name) o.heap) (state_held name o)

-- of a slot: its name, and the own state of its last life, none where that was refused
abbrev pub slot_of_state : List ℕ × Option OwnState → Slot
slot_of_state (name, None) = Refused name
slot_of_state (name, Some o) = state_slot name o

-- the certificate of all slots
unfoldable pub cert_of_states : List (List ℕ × Option OwnState) → List Slot
cert_of_states slots = map slot_of_state slots
