-- Slots of two pages that agree, whatever else stands on the pages.
use Rattle.std.specs.Prelude.{◌≡◌, ℕ, List, Option, Some, slice_get, is_some, true}
use Rattle.plain_tree.specs.Trees.{Trees}
use Rattle.plain_tree.specs.Plains.{Places}
use Rattle.markup_grammar.specs.Markup.{MarkupSpells}
use Rattle.slot_check.specs.Sources.{Source, IsLibrary}
use Rattle.slot_check.specs.Slot.{named_libs}
use Rattle.widget_meaning.specs.OwnState.{OwnState}
use Rattle.widget_meaning.specs.Items.{Item}
use Rattle.page_check.specs.Runs.{SlotRun}
use Rattle.slot_lives.specs.Lives.{Life}
use Rattle.slot_lives.specs.OtherSlots.{unended}
use Rattle.slot_lives.specs.Ends.{IsLine}
use Rattle.slot_lives.specs.EndLaws.{IsEnd}

-- they have the same name, fuel and file, and the libraries that the file names are the same on both pages
pub record Agree (a b : SlotRun) : Type 0 where
  pub name : a.slot.name ≡ b.slot.name
  pub fuel : a.fuel ≡ b.fuel
  pub file : a.slot.file.bytes ≡ b.slot.file.bytes
  pub libs : (trees : Trees Places) (at : ℕ) (name : List ℕ) (i j : ℕ) (l m : Source) → MarkupSpells b.slot.file.bytes trees → slice_get (named_libs trees) at ≡ Some name → IsLibrary a.slot.libs name i l → IsLibrary b.slot.libs name j m → l.bytes ≡ m.bytes

-- "Two pages": lives whose slots agree, and to which the same is given, come to the same own state and have the same line, but for the position of the swap that ends them, where both are accepted
abbrev pub TwoPages : Type 0
TwoPages = (l m : Life SlotRun) (given other : List Item) (e f : Option OwnState) (a b : List ℕ)
    → Agree l.runs m.runs → given ≡ other → IsEnd l.runs given e → IsEnd m.runs other f → is_some e ≡ true → is_some f ≡ true
    → IsLine (unended l) e a → IsLine (unended m) f b → (e ≡ f) × (a ≡ b)
