-- Laws of many widgets: the journal, picks one after the other with their asks, items given, the order of picks.
use Rattle.std.specs.Prelude.{◌≡◌, ℕ, ◌+◌, ◌<◌, ◌≤◌, List, [], map, length, slice_get, All, Some, None}
use Rattle.std.specs.List.Sorted.{IsStrictlyIncreasing}
use Rattle.code_units.specs.declared.owner.TheConstants.{WIDGETS}
use Rattle.life_laws.specs.Life.{Seen, due, image}
use Rattle.life_laws.specs.Life as todo
use Rattle.turn_sched.specs.declared.chooser.Ask.{Ask}
use Rattle.turn_sched.specs.Asks.{KeepsAsk}
use Rattle.turn_sched.specs.Turns.{TakeTurns}
use Rattle.life_laws.specs.declared.entry.PickEntry.{PickEntry}
use Rattle.life_laws.specs.declared.entry.Picked.{Picked}
use Rattle.life_laws.specs.Journal.{Kept, AllJoined, journal_room, ready_from, weights, queued, on_at}
use Rattle.life_laws.specs.Asked.{Settled}
use Rattle.life_laws.specs.Order.{InOrder}

-- how many slots a page has at most
abbrev pub page_slots : ℕ
page_slots = 16

-- the rule on kept picks: a pick keeps it, and so does what leaves each image as it is
pub record JournalLaws : Type 0 where
  pub picked : (w k : ℕ) (r : Picked) (old new : List Seen) (js ks : List PickEntry) → Kept w k r old new js ks
      → AllJoined js old → AllJoined ks new
  pub given : (js : List PickEntry) (old new : List Seen) → map image new ≡ map image old → AllJoined js old
      → AllJoined js new

-- a chooser took this widget of those that are ready; with room it kept the ask
pub record IsAsked (ss : List Seen) (w : ℕ) (asks_old : List Ask) (room_old : ℕ) (asks_new : List Ask)
    (room_new : ℕ) : Type 0 where
  pub list : List ℕ
  pub at : ℕ
  pub those_ready : list ≡ ready_from 0 ss
  pub chosen : slice_get list at ≡ Some w
  pub keeps : 0 < room_old → KeepsAsk list at asks_old asks_new
  pub room : 0 < room_old → room_new + 1 ≡ room_old

-- a settle: no pick yet, or one more with its ask, which lowers what is left; where none is ready each image is due
pub record SettleLaws (k : ℕ) : Type 0 where
  pub none : (ss : List Seen) (js : List PickEntry) (asks : List Ask) (room : ℕ)
      → Settled k ss ss js js asks room asks room
  pub more : (w : ℕ) (r : Picked) (old mid new : List Seen) (js ks ms : List PickEntry) (a0 a1 a2 : List Ask)
      (r0 r1 r2 : ℕ)
      → w < WIDGETS → Settled k old mid js ks a0 r0 a1 r1 → Kept w k r mid new ks ms → IsAsked mid w a1 r1 a2 r2
      → Settled k old new js ms a0 r0 a2 r2
  pub lighter : (w at : ℕ) (r : Picked) (old new : List Seen) (js ks : List PickEntry) → Kept w k r old new js ks
      → slice_get (ready_from 0 old) at ≡ Some w → weights new < weights old
  pub quiet : (ss : List Seen) → ready_from 0 ss ≡ [] → map image ss ≡ map due ss
  pub rising : (ss : List Seen) → IsStrictlyIncreasing (ready_from 0 ss)
  pub there : (ss : List Seen) (at w : ℕ) → slice_get (ready_from 0 ss) at ≡ Some w → w < length ss

-- an item that is given, to one widget or to all, changes what is due and no image
pub record GiveLaws (x : todo.Work) : Type 0 where
  pub due_on : (n : ℕ) (ss : List Seen) → map due (on_at n (queued x) ss) ≡ on_at n (λ o. todo.work o x) (map due ss)
  pub due_all : (ss : List Seen) → map due (map (queued x) ss) ≡ map (λ o. todo.work o x) (map due ss)
  pub image_on : (n : ℕ) (ss : List Seen) → map image (on_at n (queued x) ss) ≡ map image ss
  pub image_all : (ss : List Seen) → map image (map (queued x) ss) ≡ map image ss

-- a settle by round robin from an empty journal: each pick is of the next widget that has picks left, all of one slice
abbrev pub OrderLaw : Type 0
OrderLaw = (k : ℕ) (old new : List Seen) (ks : List PickEntry) (room room_new : ℕ) (asks : List Ask)
    → Settled k old new [] ks [] room asks room_new → ready_from 0 new ≡ [] → length old ≤ page_slots
    → TakeTurns None asks
    → room ≡ journal_room + page_slots → length ks < journal_room → InOrder None ks
    × All (λ (e : PickEntry). e.slice ≡ k) ks
