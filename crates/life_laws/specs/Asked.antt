-- What a chooser is asked by a settle.
use Rattle.std.specs.Prelude.{◌≡◌, ℕ, ◌+◌, ◌<◌, ◌≤◌, Bool, true, false, nat_eq, if◌then◌else◌, List, [], ◌∷◌, ◌++◌, length}
use Rattle.code_units.specs.declared.owner.TheConstants.{WIDGETS}
use Rattle.life_laws.specs.Life.{Seen, ready}
use Rattle.turn_sched.specs.declared.chooser.Ask.{Ask}
use Rattle.turn_sched.specs.Asks.{is_ready}
use Rattle.life_laws.specs.declared.entry.PickEntry.{PickEntry}
use Rattle.life_laws.specs.Journal.{ready_from, Went}

-- the widget is taken at one of these asks
abbrev pub takes : ℕ → List Ask → Bool
takes w [] = false
takes w (a ∷ qs) = if nat_eq a.taken w then true else takes w qs

-- the widget of this number is ready, where they are numbered from v
abbrev pub ready_at : ℕ → List Seen → ℕ → Bool
ready_at v [] w = false
ready_at v (s ∷ ss) w = if nat_eq w v then ready s else ready_at (v + 1) ss w

-- at each ask those are ready that are taken at it or at a later one, or are ready at the end
abbrev pub Asks : (ℕ → Bool) → List Ask → Type 0
Asks after [] = Unit {0}
Asks after (a ∷ qs) =
    ((w : ℕ) → w < WIDGETS → is_ready a w ≡ (if takes w (a ∷ qs) then true else after w)) × Asks after qs

-- at the first one these are ready
abbrev pub First : (ℕ → Bool) → List Ask → Type 0
First before [] = Unit {0}
First before (a ∷ qs) = (w : ℕ) → w < WIDGETS → is_ready a w ≡ before w

-- the entries are of the widgets taken, in order; an ask whose pick was idle has none, and is the last of its widget
pub data Entries : (ℕ → Bool) → List Ask → List PickEntry → Type 0 where
  no_ask : {after : ℕ → Bool} → Entries after [] []
  with_entry : {after : ℕ → Bool} {a : Ask} {qs : List Ask} {e : PickEntry} {es : List PickEntry}
      → e.widget < WIDGETS → e.widget ≡ a.taken → Entries after qs es → Entries after (a ∷ qs) (e ∷ es)
  was_idle : {after : ℕ → Bool} {a : Ask} {qs : List Ask} {es : List PickEntry} → takes a.taken qs ≡ false
      → after a.taken ≡ false → Entries after qs es → Entries after (a ∷ qs) es

-- so many asks were made, all kept
pub record KeptAsks (n : ℕ) (old new : List Seen) (added : List PickEntry) (asks_old asks_new : List Ask) : Type 0 where
  pub mine : List Ask
  pub count : length mine ≡ n
  pub kept : asks_new ≡ asks_old ++ mine
  pub asks : Asks (ready_at 0 new) mine
  pub first : First (ready_at 0 old) mine
  pub entries : Entries (ready_at 0 new) mine added

-- the asks of the picks that added these entries: at most one more for each widget that is no longer ready
pub record Chosen (old new : List Seen) (added : List PickEntry) (asks_old : List Ask) (room_old : ℕ)
    (asks_new : List Ask) (room_new : ℕ) : Type 0 where
  pub asked : ℕ
  pub few : asked + length (ready_from 0 new) ≤ length added + length (ready_from 0 old)
  pub room : asked ≤ room_old → room_new + asked ≡ room_old
  pub kept : asked ≤ room_old → KeptAsks asked old new added asks_old asks_new
  pub none : asked ≡ 0 → (w : ℕ) → ready_at 0 new w ≡ ready_at 0 old w

-- a settle: the picks that it made, and the asks for them
pub record Settled (k : ℕ) (old new : List Seen) (js ks : List PickEntry) (asks_old : List Ask) (room_old : ℕ)
    (asks_new : List Ask) (room_new : ℕ) : Type 0 where
  pub went : Went k old new js ks
  pub chosen : Chosen old new went.added asks_old room_old asks_new room_new
