-- Laws of slots of lives: picks, items and swaps that are given, and many picks one after the other.
use Rattle.std.specs.Prelude.{◌≡◌, ◌≢◌, ℕ, ◌+◌, ◌<◌, ◌≤◌, true, List, [], ◌∷◌, map, length, slice_get, slice_set, Some, None}
use Rattle.widget_meaning.specs.Items as items
use Rattle.widget_meaning.specs.Items.{Event}
use Rattle.code_units.specs.declared.owner.TheConstants.{WIDGETS}
use Rattle.life_laws.specs.Life as todo
use Rattle.life_laws.specs.Life.{Seen, Turn, due, first, image}
use Rattle.turn_sched.specs.declared.chooser.Ask.{Ask}
use Rattle.turn_sched.specs.Asks.{KeepsAsk}
use Rattle.life_laws.specs.declared.entry.PickEntry.{PickEntry}
use Rattle.life_laws.specs.declared.entry.Picked.{Picked}
use Rattle.life_laws.specs.declared.entry.Picked.TheVariants as picked
use Rattle.life_laws.specs.Journal.{AllJoined, Kept, on_at, queued, ready_from, weights}
use Rattle.life_laws.specs.Slots.{PickedSlot, Passed, Rising, first_along, has}
use Rattle.life_laws.specs.Chains.{Chains, Gives, PickedIn, Rest, To, ToAll, Unspent, joins, last_at, queued_along}
use Rattle.life_laws.specs.Settled.{SettledSlots, slot_flags, waiting}

-- a pick of a slot, life by life: none yet; one that is idle passes, and the next is present; else it is the slot's pick, also where none waits
pub record PassLaws (k : ℕ) : Type 0 where
  pub none : (lives : List ℕ) (ss : List Seen) (js : List PickEntry) → Passed lives ss ss js lives
  pub more : (r : Picked) (lives : List ℕ) (old mid new : List Seen) (js ks : List PickEntry) (v : ℕ) (left : List ℕ)
      → Rising lives → Passed lives old mid js (v ∷ left) → Kept v k r mid new js ks → r ≡ picked.Idle → ks ≡ js
      → Passed lives old new js left
  pub last : (r : Picked) (lives : List ℕ) (old mid new : List Seen) (js ks : List PickEntry) (v : ℕ) (left : List ℕ)
      → Rising lives → Passed lives old mid js (v ∷ left) → Kept v k r mid new js ks → (r ≡ picked.Idle → left ≡ [])
      → PickedSlot k r lives old new js ks (v ∷ left)
  pub begins : (r : Picked) (lives : List ℕ) (old new : List Seen) (js ks : List PickEntry) (left : List ℕ) (t : Turn)
      → (p : PickedSlot k r lives old new js ks left) → first p.was ≡ Some t → first_along old lives ≡ Some t
  pub idle : (lives : List ℕ) (old new : List Seen) (js ks : List PickEntry) (left : List ℕ)
      → PickedSlot k picked.Idle lives old new js ks left → first_along old lives ≡ None

-- what a pick of a slot keeps: the lives of other slots, and what holds of all slots
pub record SlotLaws (homes : List ℕ) (born w k : ℕ) (r : Picked) (cs ds : List (List ℕ)) (old new : List Seen) (js ks : List PickEntry) : Type 0 where
  pub others : (u v : ℕ) (c : List ℕ) → Chains homes born 0 cs → PickedIn w k r cs ds old new js ks → u ≢ w
      → slice_get cs u ≡ Some c → has v c ≡ true → slice_get new v ≡ slice_get old v
  pub unborn : Chains homes born 0 cs → PickedIn w k r cs ds old new js ks → (v : ℕ) → born ≤ v → slice_get new v ≡ slice_get old v
  pub chains : Chains homes born 0 cs → PickedIn w k r cs ds old new js ks → Chains homes born 0 ds
  pub unspent : Chains homes born 0 cs → PickedIn w k r cs ds old new js ks → Unspent born old → Unspent born new
  pub rest : PickedIn w k r cs ds old new js ks → Rest cs old → Rest ds new

-- an event goes to the last life of a slot, and an advance to that of each slot
pub record ItemLaws (homes : List ℕ) (born : ℕ) (cs : List (List ℕ)) (ss : List Seen) : Type 0 where
  pub event : (w : ℕ) (e : Event) → Chains homes born 0 cs → w < length cs
      → Gives cs (To w e) ss (on_at (last_at w cs) (queued (todo.Given (items.Occurs e))) ss)
  pub advance : (d : ℕ) → Chains homes born 0 cs → Gives cs (ToAll d) ss (queued_along cs (todo.Given (items.Advance d)) ss)
  pub unspent : (new : List Seen) → map image new ≡ map image ss → Unspent born ss → Unspent born new

-- a life that is born joins the lives of its slot
pub record SwapLaws (homes : List ℕ) (born to : ℕ) (cs : List (List ℕ)) (ss : List Seen) (x : Seen) : Type 0 where
  pub chains : born < length homes → Chains homes born 0 cs → Chains (slice_set homes born to) (born + 1) 0 (on_at to (joins born) cs)
  pub unspent : Unspent born ss → Unspent (born + 1) (slice_set ss born x)
  pub joined : (js : List PickEntry) → (image x).spent ≡ 0 → Unspent born ss → AllJoined js ss → AllJoined js (slice_set ss born x)
  pub rest : to < length cs → Rest cs ss → Rest (on_at to (joins born) cs) (slice_set ss born x)

-- picks of slots one after the other, with their asks; where no slot is ready each image is due
pub record SlotsLaws (k : ℕ) (homes : List ℕ) : Type 0 where
  pub none : (cs : List (List ℕ)) (ss : List Seen) (js : List PickEntry) (asks : List Ask) (room : ℕ)
      → SettledSlots k homes cs cs ss ss js js asks room asks room
  pub more : (w born : ℕ) (cs0 cs ds : List (List ℕ)) (r : Picked) (old mid new : List Seen) (js ks ms : List PickEntry)
      (a0 a1 a2 : List Ask) (r0 r1 r2 : ℕ) (xs : List ℕ) (at : ℕ)
      → w < WIDGETS → Chains homes born 0 cs → SettledSlots k homes cs0 cs old mid js ks a0 r0 a1 r1
      → PickedIn w k r cs ds mid new ks ms → xs ≡ ready_from 0 (slot_flags mid cs) → slice_get xs at ≡ Some w
      → (0 < r1 → KeepsAsk xs at a1 a2) → (0 < r1 → r2 + 1 ≡ r1) → SettledSlots k homes cs0 ds old new js ms a0 r0 a2 r2
  pub lighter : (w : ℕ) (r : Picked) (cs ds : List (List ℕ)) (mid new : List Seen) (ks ms : List PickEntry) (xs : List ℕ) (at : ℕ)
      → PickedIn w k r cs ds mid new ks ms → xs ≡ ready_from 0 (slot_flags mid cs) → slice_get xs at ≡ Some w
      → weights new + waiting ds < weights mid + waiting cs
  pub done : (cs : List (List ℕ)) (ss : List Seen) → ready_from 0 (slot_flags ss cs) ≡ [] → Rest cs ss → map image ss ≡ map due ss
