-- The certificate of all slots, each by its last life.
use Rattle.std.specs.Prelude.{◌≡◌, ◌≤◌, ℕ, zero, suc, ◌++◌, true, false, List, [], ◌∷◌, Option, None, Some, if◌then◌else◌, length, map, nat_eq, slice_get}
use Rattle.std.specs.List.{IsDistinct, list_all}
use Rattle.std.specs.Option.{option_and_then, option_map_or}
use Rattle.std.specs.Str.{bytes_eq}
use Rattle.life_laws.specs.Chains.{last_life}
use Rattle.slot_picks.specs.declared.lives.Lives.{Lives}
use Rattle.slot_picks.specs.declared.lives.Place.{Place}
use Rattle.slot_picks.specs.declared.slots.Slot.{Slot}
use Rattle.life_laws.specs.Life.{Seen, image}
use Rattle.slot_picks.specs.Places.{is_accepted, lent, life_seen}
use Rattle.slot_picks.specs.Lives.{seens_of}
use Rattle.native_image.specs.declared.handed.Shared.{Shared}
use Rattle.reach_cert.specs.Certs as cert
use Rattle.reach_cert.specs.Shape.{is_name}
use Rattle.widget_meaning.specs.OwnState.{OwnState}
use Rattle.slot_reach.specs.Reads.{read_slot}

-- the name of the slot in which a life is the last one, if there is one
abbrev pub name_in : List Slot → ℕ → Option (List ℕ)
name_in [] v = None
name_in (s ∷ ss) v = if nat_eq (last_life s.lives.items) v then Some s.name else name_in ss v

-- the names of the first so many lives
abbrev pub names_before : List Slot → ℕ → List (Option (List ℕ))
names_before ss zero = []
names_before ss (suc v) = names_before ss v ++ name_in ss v ∷ []

-- what is read of a life, of a slot with this name
abbrev pub life_read : List (Option (List ℕ)) → Shared → List ℕ → ℕ → Place → cert.Slot
life_read names h name v p = if p.life.accepted then read_slot names h.store.cells name v h.page p.life.widget.around else cert.Refused name

-- what is read of a slot: its last life, under its name
abbrev pub slot_read : List (Option (List ℕ)) → Lives → Slot → cert.Slot
slot_read names c s = option_map_or (life_read names c.shared s.name (last_life s.lives.items)) (slice_get c.places.items (last_life s.lives.items)) (cert.Refused s.name)

-- the certificate of all slots
unfoldable pub reached : Lives → List Slot → List cert.Slot
reached c ss = map (slot_read (names_before ss (length c.places.items)) c) ss

-- ## Names and numbers of slots

-- the names of slots
abbrev pub names_of : List Slot → List (List ℕ)
names_of ss = map (λ (s : Slot). s.name) ss

-- they are names of slots, and no two are one
abbrev pub AreNames : List (List ℕ) → Type 0
AreNames names = (list_all is_name names ≡ true) × IsDistinct bytes_eq names

-- there are at most 16 slots, and places for at most 32 lives
abbrev pub AreFew : Lives → List Slot → Type 0
AreFew c ss = (length c.places.items ≤ 32) × (length ss ≤ 16)

-- ## Own states

-- the own state that is seen of a life, none where its file was refused
abbrev pub state_at : Shared → ℕ → Place → Option OwnState
state_at h v p = if p.life.accepted then Some (image (life_seen (lent h p) v p.life)) else None

-- a slot's name, and the own state of its last life
abbrev pub state_in : Lives → Slot → List ℕ × Option OwnState
state_in c s = (s.name, option_and_then (state_at c.shared (last_life s.lives.items)) (slice_get c.places.items (last_life s.lives.items)))

-- those of all slots
unfoldable pub states : Lives → List Slot → List (List ℕ × Option OwnState)
states c ss = map (state_in c) ss

-- the last life of a slot shows this own state, or none where its file was refused
abbrev pub IsLast : Lives → Slot → Option OwnState → Type 0
IsLast c s None = is_accepted c.places.items (last_life s.lives.items) ≡ false
IsLast c s (Some o) = (is_accepted c.places.items (last_life s.lives.items) ≡ true) × ((x : Seen) × (slice_get (seens_of c) (last_life s.lives.items) ≡ Some x) × (image x ≡ o))

-- so do those of these slots
abbrev pub AreLast : Lives → List Slot → List (Option OwnState) → Type 0
AreLast c [] [] = Unit {0}
AreLast c (s ∷ ss) (e ∷ es) = IsLast c s e × AreLast c ss es
AreLast c _ _ = ⊥
