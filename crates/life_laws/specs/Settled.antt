-- What a settle over slots does, and what its chooser is asked.
use Rattle.std.specs.Prelude.{ℕ, ◌+◌, Bool, if◌then◌else◌, List, [], ◌∷◌, map, length, slice_get, unwrap_or, None}
use Rattle.js_tree.specs.Plain.{NoStmts}
use Rattle.plain_tree.specs.Trees.{End}
use Rattle.widget_meaning.specs.Alone.{beginning}
use Rattle.life_laws.specs.Life.{Seen, Until}
use Rattle.turn_sched.specs.declared.chooser.Ask.{Ask}
use Rattle.life_laws.specs.declared.entry.PickEntry.{PickEntry}
use Rattle.life_laws.specs.declared.entry.Picked.{Picked}
use Rattle.life_laws.specs.Journal.{Went}
use Rattle.life_laws.specs.Asked.{Chosen}
use Rattle.life_laws.specs.Slots.{slot_ready}
use Rattle.life_laws.specs.Chains.{PickedIn}

-- a life that is ready, or not, in the place of a slot
abbrev pub flag : Bool → Seen
flag b = record { own = beginning (record { root = End; libraries = []; script = NoStmts }) 0; going = None; queue = if b then Until 0 0 ∷ [] else [] }

-- the slots, as ready or not
abbrev pub slot_flags : List Seen → List (List ℕ) → List Seen
slot_flags ss cs = map (λ c. flag (slot_ready ss c)) cs

-- an entry counts for its slot
abbrev pub homed : List ℕ → PickEntry → PickEntry
homed homes e = record e { widget = unwrap_or (slice_get homes e.widget) 32 }

-- how many lives are present or wait
abbrev pub waiting : List (List ℕ) → ℕ
waiting [] = 0
waiting (c ∷ cs) = length c + waiting cs

-- Slots were picked with this slice, one after the other, each pick from what the one before left.
pub data PickedOn (k : ℕ) (cs : List (List ℕ)) (old : List Seen) (js : List PickEntry) : List (List ℕ) → List Seen → List PickEntry → Type 0 where
  no_pick : PickedOn k cs old js cs old js
  one_pick : {w : ℕ} {r : Picked} {ds es : List (List ℕ)} {mid new : List Seen} {ks ms : List PickEntry} → PickedOn k cs old js ds mid ks → PickedIn w k r ds es mid new ks ms → PickedOn k cs old js es new ms

-- A settle over slots: the picks that it made, what they did together, and the asks of its chooser, of slots that are ready; an entry counts for its slot.
pub record SettledSlots (k : ℕ) (homes : List ℕ) (cs ds : List (List ℕ)) (old new : List Seen) (js ks : List PickEntry) (asks_old : List Ask) (room_old : ℕ) (asks_new : List Ask) (room_new : ℕ) : Type 0 where
  pub picks : PickedOn k cs old js ds new ks
  pub went : Went k old new js ks
  pub chosen : Chosen (slot_flags old cs) (slot_flags new ds) (map (homed homes) went.added) asks_old room_old asks_new room_new
