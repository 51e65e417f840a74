-- What is written of slots.
use Rattle.std.specs.Prelude.{ℕ, List, [], ◌∷◌, ◌++◌, Bool, true, false, ◌||◌, None}
use Rattle.code_units.specs.Places.{place_at as place}
use Rattle.trace_text.specs.declared.line.Rule.{Rule}
use Rattle.trace_text.specs.Report.{accepted_slot, refused_life}
use Rattle.slot_check.specs.Sources.{Source, Slot}
use Rattle.slot_check.specs.Slot.{SlotFirst, IsCleanSlot}

-- the line of a slot, and whether it names a broken rule
pub data IsSlotLine (slot : Slot) : Bool → List ℕ → Type 0 where
  accepted : IsCleanSlot slot → IsSlotLine slot false (accepted_slot slot.name slot.file.name)
  refused : {rule : Rule} {broken : Source} {at : ℕ} → SlotFirst slot rule broken at → IsSlotLine slot true (refused_life slot.name None broken.name rule (place broken.bytes at))

-- the lines of slots in order, and whether one of them names a broken rule
pub data AreSlotLines : List Slot → Bool → List ℕ → Type 0 where
  none : AreSlotLines [] false []
  more : {slot : Slot} {r : Bool} {line : List ℕ} {slots : List Slot} {q : Bool} {lines : List ℕ} → IsSlotLine slot r line → AreSlotLines slots q lines → AreSlotLines (slot ∷ slots) (r || q) (line ++ lines)

-- slots of these names with these files, over the same libraries
abbrev pub slots_over : List Source → List (List ℕ) → List Source → List Slot
slots_over libs (name ∷ names) (file ∷ files) = record { name = name; file = file; libs = libs } ∷ slots_over libs names files
slots_over libs _ _ = []
