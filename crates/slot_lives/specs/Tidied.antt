-- Libraries with their tidied text, and slots over them.
use Rattle.std.specs.Prelude.{ℕ, List, [], ◌∷◌, false}
use Rattle.script_check.specs.Line.{IsTidied}
use Rattle.slot_check.specs.Sources.{Source, Slot}
use Rattle.page_check.specs.Runs.{SlotRun}
use Rattle.slot_lives.specs.Lives.{Life}

-- in the place of a library stands the library itself, or where it breaks no rule its tidied text, under the same name
pub data MayReplace (lib : Source) : Source → Type 0 where
  as_it_was : MayReplace lib lib
  tidied : {text : List ℕ} → IsTidied lib.name lib.bytes false text → MayReplace lib (record { name = lib.name; bytes = text })

-- so it is with each library, in order
pub data AreTidied : List Source → List Source → Type 0 where
  none : AreTidied [] []
  more : {lib other : Source} {libs others : List Source} → MayReplace lib other → AreTidied libs others → AreTidied (lib ∷ libs) (other ∷ others)

-- a slot over other libraries, with the same name and the same file
abbrev pub slot_over : List Source → Slot → Slot
slot_over libs slot = record slot { libs = libs }

-- the same with its fuel
abbrev pub run_over : List Source → SlotRun → SlotRun
run_over libs run = record { slot = slot_over libs run.slot; fuel = run.fuel }

-- a life of such a slot
abbrev pub life_over : List Source → Life SlotRun → Life SlotRun
life_over libs life = record { runs = run_over libs life.runs; items = life.items; until = life.until }
