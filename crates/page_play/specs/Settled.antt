-- How a host came to where it is.
use Rattle.std.specs.Prelude.{◌≡◌, ◌<◌, ℕ, List, [], ◌∷◌, ◌++◌, All, length, map, slice_get, true, false, Some, None}
use Rattle.trace_reader.specs.Said.{Said, an_event, an_advance, a_swap}
use Rattle.life_laws.specs.Life.{Seen, image}
use Rattle.life_laws.specs.declared.entry.PickEntry.{PickEntry}
use Rattle.life_laws.specs.Journal.{ready_from, journal_room}
use Rattle.life_laws.specs.Order.{InOrder}
use Rattle.life_laws.specs.Chains.{last_life}
use Rattle.life_laws.specs.Settled.{PickedOn, slot_flags}
use Rattle.page_plan.specs.declared.PageSpec.{PageSpec}
use Rattle.page_plan.specs.declared.SlotContent.{SlotContent}
use Rattle.slot_lives.specs.Lives.{swaps_in}
use Rattle.widget_host.specs.declared.host.Host.{Host}
use Rattle.widget_host.specs.declared.items.HostItem.{HostItem}
use Rattle.widget_host.specs.declared.items.HostItem.TheVariants as host
use Rattle.widget_host.specs.Housed.{IsHoused, Loads, GivesItem, GivesSwap, accepts, chains, seens, journal, given, marked}
use Rattle.widget_host.specs.Rounds.{PassesRounds}

-- the item of a trace that a host is given
abbrev pub said_of : HostItem → Said
said_of (host.Event to e) = an_event to e.kind e.path.items e.value
said_of (host.Advance ms) = an_advance ms

-- an item of a trace was given: one that is queued, or a swap that brings this
pub data Gives (old new : Host) : Said → List SlotContent → Type 0 where
  an_item : {item : HostItem} → GivesItem item old new → Gives old new (said_of item) []
  another : {to : ℕ} {file : List ℕ} {content : SlotContent} → GivesSwap to content old new → Gives old new (a_swap to file) (content ∷ [])

-- these were given, one after the other, and their swaps bring these in order
pub data GivesAll (old : Host) : List Said → List SlotContent → Host → Type 0 where
  no_item : GivesAll old [] [] old
  one_item : {items : List Said} {swaps brought : List SlotContent} {i : Said} {mid new : Host} → GivesAll old items swaps mid → Gives mid new i brought → GivesAll old (items ++ i ∷ []) (swaps ++ brought) new

-- A host that is whole and has done with these items: this page was loaded, each life as its widget begins and with its load turns to come (`Loads`); it was given the items, one after the other, and nothing was spent till then; from there picks of this slice and rounds of posts, one after the other, led to it, and after each of them each life held its own (`PassesRounds`). Each entry of its journal, the last 65,536 picks, has this slice. No turn is in progress and every queue is empty, and each slot has its last life alone. Where the page has no channels there were picks alone, and the journal has their entries; where no item is a swap besides, and the journal is not full, they are in the order of round robin.
pub record IsSettled (spec : PageSpec) (swaps : List SlotContent) (items : List Said) (slice : ℕ) (h : Host) : Type 0 where
  pub housed : IsHoused h
  pub unmarked : marked h ≡ false
  pub count : given h ≡ length items
  pub first : Host
  pub loads : Loads spec first
  pub before : Host
  pub gives : GivesAll first items swaps before
  pub unspent : (v : ℕ) (s : Seen) → accepts before v ≡ true → slice_get (seens before) v ≡ Some s → (image s).spent ≡ 0
  pub passes : PassesRounds slice before h
  pub slices : All (λ (e : PickEntry). e.slice ≡ slice) (journal h)
  pub quiet : ready_from 0 (slot_flags (seens h) (chains h)) ≡ []
  pub lasts : chains h ≡ map (λ c. last_life c ∷ []) (chains before)
  pub picks : spec.channels.items ≡ [] → PickedOn slice (chains before) (seens before) [] (chains h) (seens h) (journal h)
  pub order : spec.channels.items ≡ [] → swaps_in items ≡ 0 → length (journal h) < journal_room → InOrder None (journal h)
