-- What is told of slots and of a library.
use Rattle.std.specs.Prelude.{◌≡◌, ℕ, List, [], ◌∷◌, ◌++◌, codes, decimal, Bool, true, false, ◌||◌}
use Rattle.code_units.specs.declared.place.Place.{Place}
use Rattle.code_units.specs.Places.{place_at}
use Rattle.adsafe_rules.specs.declared.scope.Scope.TheVariants as scope
use Rattle.trace_text.specs.declared.line.Rule.{Rule}
use Rattle.trace_text.specs.declared.line.Rule.TheVariants as rule
use Rattle.trace_text.specs.Report.{rule_mark, rule_number}
use Rattle.script_check.specs.Script.{LibFirst, IsCleanScript}
use Rattle.slot_check.specs.Sources.{Source, Slot}
use Rattle.slot_check.specs.Slot.{SlotFirst, IsCleanSlot}

-- where a rule is broken, and which: `FILE:LINE:COLUMN: A04: `
abbrev pub head : List ℕ → Rule → Place → List ℕ
head file rule at = file ++ (codes ":" ++ (decimal at.line ++ (codes ":" ++ (decimal at.column ++ (codes ": " ++ (rule_mark rule ++ (decimal (rule_number rule) ++ codes ": ")))))))

-- the text of a refusal: its head, then what the rule says, the source line and what to write instead
pub record IsRefusalText (file : List ℕ) (rule : Rule) (at : Place) (text : List ℕ) : Type 0 where
  pub rest : List ℕ
  pub is : text ≡ head file rule at ++ rest

-- what is told of a slot, and whether it is refused: nothing, or the first rule that it breaks, in the file and at the place where `check` has it
pub data IsSlotText (slot : Slot) : Bool → List ℕ → Type 0 where
  clean : IsCleanSlot slot → IsSlotText slot false []
  broken : {rule : Rule} {source : Source} {byte : ℕ} {text : List ℕ} → SlotFirst slot rule source byte → IsRefusalText source.name rule (place_at source.bytes byte) text → IsSlotText slot true text

-- what is told of slots, in order
pub data AreSlotTexts : List Slot → Bool → List ℕ → Type 0 where
  none : AreSlotTexts [] false []
  more : {slot : Slot} {r : Bool} {text : List ℕ} {slots : List Slot} {q : Bool} {rest : List ℕ} → IsSlotText slot r text → AreSlotTexts slots q rest → AreSlotTexts (slot ∷ slots) (r || q) (text ++ rest)

-- what is told of a library
pub data IsLibraryText (name bytes : List ℕ) : Bool → List ℕ → Type 0 where
  clean_library : IsCleanScript bytes scope.Lib → IsLibraryText name bytes false []
  broken_library : {number at : ℕ} {text : List ℕ} → LibFirst bytes number at → IsRefusalText name (rule.A number) (place_at bytes at) text → IsLibraryText name bytes true text

-- what ends the whole: a line where nothing is refused
abbrev pub last_line : Bool → List ℕ
last_line true = []
last_line false = codes "no rule is broken\n"

-- all that is told of slots, and of a library
pub record IsToldOfSlots (slots : List Slot) (refused : Bool) (bytes : List ℕ) : Type 0 where
  pub text : List ℕ
  pub are : AreSlotTexts slots refused text
  pub whole : bytes ≡ text ++ last_line refused

pub record IsToldOfLibrary (name library : List ℕ) (refused : Bool) (bytes : List ℕ) : Type 0 where
  pub text : List ℕ
  pub is : IsLibraryText name library refused text
  pub whole : bytes ≡ text ++ last_line refused

-- ## What calls append

-- the text of a refusal
pub record AppendsRefusal (file : List ℕ) (rule : Rule) (at : Place) (old new : List ℕ) : Type 0 where
  pub text : List ℕ
  pub is : IsRefusalText file rule at text
  pub whole : new ≡ old ++ text

-- what is told of a slot, and of a library
pub record AppendsSlot (slot : Slot) (refused : Bool) (old new : List ℕ) : Type 0 where
  pub text : List ℕ
  pub is : IsSlotText slot refused text
  pub whole : new ≡ old ++ text

pub record AppendsLibrary (name library : List ℕ) (refused : Bool) (old new : List ℕ) : Type 0 where
  pub text : List ℕ
  pub is : IsLibraryText name library refused text
  pub whole : new ≡ old ++ text
