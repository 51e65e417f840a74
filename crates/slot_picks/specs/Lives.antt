-- The lives of all places and the slots in which they follow on each other: what is seen of them, what holds, what stands in the slots, and what picks keep.
use Rattle.std.specs.Prelude.{◌≡◌, ◌≢◌, ℕ, ◌<◌, ◌≤◌, Bool, true, false, List, [], ◌∷◌, map, length, nat_eq, slice_get, slice_index_or, Some, None}
use Rattle.std.specs.List.{list_any}
use Rattle.std.specs.declared.alloc.Global.{Global}
use Rattle.std.specs.declared.vec.Vec.{Vec}
use Rattle.page_nodes.specs.Entries.{body}
use Rattle.page_tree.specs.declared.page.Page.{Page}
use Rattle.object_store.specs.Owned.{owned}
use Rattle.page_image.specs.Image.{number, own, owns, root_of}
use Rattle.page_image.specs.Stays.{HostStays}
use Rattle.page_build.specs.Layout.{IsLot, lot_of}
use Rattle.page_build.specs.Standing.{AreSpots, IsSpare, IsStanding, PagePasses}
use Rattle.native_image.specs.Sound.{HasRaw}
use Rattle.life_laws.specs.Life.{Seen}
use Rattle.life_laws.specs.declared.entry.Picked.{Picked}
use Rattle.life_laws.specs.Journal.{AllJoined, journal_room}
use Rattle.life_laws.specs.Chains.{Chains, PickedIn, Rest, Unspent, listed}
use Rattle.life_laws.specs.Slots.{IsTail, has}
use Rattle.slot_picks.specs.declared.lives.Lives.{Lives}
use Rattle.slot_picks.specs.declared.lives.Place.{Place}
use Rattle.slot_picks.specs.declared.slots.Slot.{Slot}
use Rattle.slot_picks.specs.Places.{FewPlaces, FinePlaces, OwnPlaces, accepts_of, codes_of, homes_of, is_accepted, roots_of, seens_from, told_of}

-- how many lives a host has places for: one for each of sixteen slots, and four more for swaps
abbrev pub all_places : ℕ
all_places = 20

-- how many slots there are at most
abbrev pub most_slots : ℕ
most_slots = 16

-- what is seen of all lives
abbrev pub seens_of : Lives → List Seen
seens_of c = seens_from c.shared 0 c.places.items

-- the lives of each slot
abbrev pub chains_of : List Slot → List (List ℕ)
chains_of ss = map (λ (s : Slot). s.lives.items) ss

-- Each accepted life is sound in its place, and no more picks are kept than a journal has room for.
pub record FineLives (c : Lives) : Type 0 where
  pub places : length c.places.items ≡ all_places
  pub fine : FinePlaces c.shared 0 c.places.items
  pub short : length c.journal.items ≤ journal_room

-- no life has counted more than so much, or may still
abbrev pub FewLives : ℕ → Lives → Type 0
FewLives n c = FewPlaces c.shared n 0 c.places.items

-- each accepted life holds its own alone
abbrev pub OwnLives : Lives → Type 0
OwnLives c = OwnPlaces c.shared 0 c.places.items

-- Lives and slots together: the lives of each slot are born and of no other slot, a life that is not born yet has spent nothing, the journal is that of what was spent, and a life in no slot has done all.
pub record AreHoused (born : ℕ) (c : Lives) (ss : List Slot) : Type 0 where
  pub lives : FineLives c
  pub slots : length ss ≤ most_slots
  pub few : born ≤ all_places
  pub chains : Chains (homes_of c.places.items) born 0 (chains_of ss)
  pub unspent : Unspent born (seens_of c)
  pub joined : AllJoined c.journal.items (seens_of c)
  pub rest : Rest (chains_of ss) (seens_of c)

-- What stays of a page, whichever life is picked: what the host has of it, the owner and the number of each node, and the roots.
pub record PageStays (old new : Page) : Type 0 where
  pub host : HostStays old new
  pub owners : (v n : ℕ) → owns old v n ≡ true → owns new v n ≡ true
  pub numbers : (v n : ℕ) → owns old v n ≡ true → number new v n ≡ number old v n
  pub roots : (v : ℕ) → v < 32 → root_of new v ≡ root_of old v

-- What is kept of all lives, also after want of memory: the slot of each, the node that stands there for it, how many of its posts rounds have taken, whether its file was accepted, the trees of its scripts, and that it holds its own alone; which trees are shared between picks, the RawNode of each page node that has one, and what is nobody's: a number that is no accepted life's gets no cell and no node.
pub record KeepsLives (old new : Lives) : Type 0 where
  pub homes : homes_of new.places.items ≡ homes_of old.places.items
  pub roots : roots_of new.places.items ≡ roots_of old.places.items
  pub told : told_of new.places.items ≡ told_of old.places.items
  pub accepts : accepts_of new.places.items ≡ accepts_of old.places.items
  pub codes : codes_of new.places.items ≡ codes_of old.places.items
  pub holds : OwnLives old → OwnLives new
  pub rest : new.shared.codes ≡ old.shared.codes
  pub raws : (n : ℕ) → HasRaw old.shared.store.cells n → HasRaw new.shared.store.cells n
  pub cells : (v : ℕ) → is_accepted old.places.items v ≡ false → owned v new.shared.store ≡ owned v old.shared.store
  pub nodes : (v : ℕ) → is_accepted old.places.items v ≡ false → own new.shared.page v ≡ own old.shared.page v

-- A pick of one life keeps this and what stays of the page.
pub record KeepsLivesAndPage (old new : Lives) : Type 0 where
  pub lives : KeepsLives old new
  pub page : PageStays old.shared.page new.shared.page

-- ## What stands in the slots

-- the life that is present
abbrev pub present_of : List ℕ → ℕ
present_of [] = 0
present_of (v ∷ vs) = v

-- whether a life is present in its slot
abbrev pub is_present : ℕ → List (List ℕ) → Bool
is_present v cs = list_any (λ c. nat_eq (present_of c) v) cs

-- the node that stands in each slot: that of the life that is present
abbrev pub spots_of : Lives → List Slot → List ℕ
spots_of c ss = map (λ lives. slice_index_or (roots_of c.places.items) (present_of lives) body) (chains_of ss)

-- The lives of each slot are there, and of no other slot. The node of each life: the root of an accepted one, and else an empty `div` of the host with the slot's name as `id`. No two lives have one node, and each life of a slot has one; a place where no life was born has `body` in its stead. The nodes of the lives that are present stand in the slots, under `body`; those of the lives that wait or have ended stand under nothing. It holds also after want of memory.
pub record AreStanding (c : Lives) (ss : List Slot) : Type 0 where
  pub born : ℕ
  pub few : born ≤ length c.places.items
  pub chains : Chains (homes_of c.places.items) born 0 (chains_of ss)
  pub roots : (v : ℕ) (a : Place) → slice_get c.places.items v ≡ Some a → a.life.accepted ≡ true → root_of c.shared.page v ≡ Some a.root
  pub divs : (v : ℕ) (a : Place) (s : Slot) → slice_get c.places.items v ≡ Some a → a.life.accepted ≡ false → a.root ≢ body
      → slice_get ss a.life.slot ≡ Some s → IsLot c.shared.page (lot_of s.name None) a.root
  pub nodes : (v : ℕ) (a : Place) → slice_get c.places.items v ≡ Some a → listed v (chains_of ss) ≡ true → a.root ≢ body
  pub apart : (v u : ℕ) (a b : Place) → slice_get c.places.items v ≡ Some a → slice_get c.places.items u ≡ Some b → a.root ≢ body → a.root ≡ b.root → v ≡ u
  pub stand : (w v : ℕ) (a : Place) → slice_get (map present_of (chains_of ss)) w ≡ Some v → slice_get c.places.items v ≡ Some a → IsStanding c.shared.page a.root
  pub spare : (v : ℕ) (a : Place) → slice_get c.places.items v ≡ Some a → a.root ≢ body → is_present v (chains_of ss) ≡ false → IsSpare c.shared.page a.root
  pub spots : AreSpots c.shared.page (spots_of c ss)

-- What picks of slots keep, also after want of memory: what is kept of all lives; the name of each slot, and the fuel of its turns; what stays of the page, where other nodes may stand in the slots; and that in each slot stands the node of the life that is present.
pub record KeepsSlots (c d : Lives) (ss ts : List Slot) : Type 0 where
  pub lives : KeepsLives c d
  pub names : map (λ (s : Slot). s.name) ts ≡ map (λ (s : Slot). s.name) ss
  pub fuels : map (λ (s : Slot). s.fuel) ts ≡ map (λ (s : Slot). s.fuel) ss
  pub page : PagePasses c.shared.page d.shared.page (spots_of c ss) (spots_of d ts)
  pub standing : AreStanding c ss → AreStanding d ts

-- What a pick of the slot with a number keeps beside it, also after want of memory: the lives of each other slot, and what is seen of each life that is none of this slot's. Of its own lives the first ones may have ended.
pub record KeepsBeside (w : ℕ) (c d : Lives) (ss ts : List Slot) : Type 0 where
  pub slots : (u : ℕ) → u ≢ w → slice_get (chains_of ts) u ≡ slice_get (chains_of ss) u
  pub own : IsTail (slice_index_or (chains_of ss) w []) (slice_index_or (chains_of ts) w [])
  pub lives : (v : ℕ) → has v (slice_index_or (chains_of ss) w []) ≡ false → slice_get (seens_of d) v ≡ slice_get (seens_of c) v

-- ## Picks one after the other

-- Slots were picked with this slice, one after the other, each pick from what the one before left; and after each, in the store and on the page as they were then, each accepted life held its own alone.
pub data PicksOn (k : ℕ) (c : Lives) (ss : Vec Slot Global) : Lives → Vec Slot Global → Type 0 where
  no_pick : PicksOn k c ss c ss
  one_pick : {w : ℕ} {r : Picked} {d e : Lives} {ts us : Vec Slot Global} → PicksOn k c ss d ts
      → PickedIn w k r (chains_of ts.items) (chains_of us.items) (seens_of d) (seens_of e) d.journal.items e.journal.items
      → OwnLives e → PicksOn k c ss e us

-- Memory was wanted: the journal is as it was, and so is all beside one slot.
pub record WantsMemory (c d : Lives) (ss ts : List Slot) : Type 0 where
  pub slot : ℕ
  pub journal : d.journal.items ≡ c.journal.items
  pub beside : KeepsBeside slot c d ss ts

-- Such picks were made, and led to these lives and slots; or memory was wanted after them.
pub record PicksUntil (k : ℕ) (c : Lives) (ss : Vec Slot Global) (ended : Bool) (d : Lives) (ts : Vec Slot Global) : Type 0 where
  pub lives : Lives
  pub slots : Vec Slot Global
  pub picks : PicksOn k c ss lives slots
  pub lives_is : ended ≡ true → d ≡ lives
  pub slots_are : ended ≡ true → ts ≡ slots
  pub wanted : ended ≡ false → WantsMemory lives d slots.items ts.items
