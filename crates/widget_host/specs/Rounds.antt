-- Rounds of posts of a host.
use Rattle.std.specs.Prelude.{◌≡◌, ℕ, Bool, true, false, List, map, slice_get, Option}
use Rattle.life_laws.specs.Life.{image}
use Rattle.life_laws.specs.declared.entry.Picked.{Picked}
use Rattle.life_laws.specs.Chains.{PickedIn}
use Rattle.life_laws.specs.Fed.{Fed}
use Rattle.slot_picks.specs.Feeding as feeding
pub use Rattle.slot_picks.specs.Feeding.{is_last}
use Rattle.widget_host.specs.declared.host.Host.{Host}
use Rattle.widget_host.specs.Housed.{HoldAll, WantsMemory, accepts, chains, journal, seens, told}

-- the last life of each slot comes to what its widget by itself comes to on what it was given, of whose posts so many were taken
abbrev pub AreFed : Host → List (Option Fed) → Type 0
AreFed h fs = feeding.AreFed (accepts h) (seens h) (told h) (chains h) fs

-- Picks with this slice and rounds of posts, one after the other; after each, in the store and on the page as they were then, each accepted life held its own alone.
pub data PassesRounds (k : ℕ) (old : Host) : Host → Type 0 where
  no_pass : PassesRounds k old old
  one_pick : {w : ℕ} {r : Picked} {mid new : Host} → PassesRounds k old mid
      → PickedIn w k r (chains mid) (chains new) (seens mid) (seens new) (journal mid) (journal new)
      → HoldAll new → PassesRounds k old new
  one_round : {mid new : Host} → PassesRounds k old mid
      → map image (seens new) ≡ map image (seens mid) → journal new ≡ journal mid
      → HoldAll new → PassesRounds k old new

-- Memory was wanted in a round: the picks that are kept stay, and so do all images, and all that is seen of a life that is the last one of no slot.
pub record RoundWantsMemory (old new : Host) : Type 0 where
  pub journal : journal new ≡ journal old
  pub images : map image (seens new) ≡ map image (seens old)
  pub others : (v : ℕ) → is_last v (chains old) ≡ false → slice_get (seens new) v ≡ slice_get (seens old) v

-- in a pick or in a round
pub data StepWantsMemory (old new : Host) : Type 0 where
  in_pick : WantsMemory old new → StepWantsMemory old new
  in_round : RoundWantsMemory old new → StepWantsMemory old new

-- Such picks and rounds were made, and led to this host; or memory was wanted after them.
pub record PassesRoundsUntil (k : ℕ) (old : Host) (ended : Bool) (new : Host) : Type 0 where
  pub last : Host
  pub passes : PassesRounds k old last
  pub is : ended ≡ true → new ≡ last
  pub wanted : ended ≡ false → StepWantsMemory last new
