-- What the judge of a page says.
use Rattle.std.specs.Prelude.{◌≡◌, ◌<◌, ◌≤◌, ℕ, List, [], ◌∷◌, All, map, length, get_or, Option, Some, None}
use Rattle.js_tree.specs.Plain.{Stmts}
use Rattle.js_tree.specs.Trees.{program_of}
use Rattle.plain_tree.specs.Plains.{placed}
use Rattle.tree_ops.specs.Trees.{numbered}
use Rattle.adsafe_rules.specs.declared.accepted.Accepted.{Accepted}
use Rattle.adsafe_rules.specs.declared.scope.Scope.TheVariants as scope
use Rattle.adsafe_rules.specs.Accepts.{tree_of}
use Rattle.adsafe_rules.specs.Program.{IsClean}
use Rattle.manifest_reader.specs.declared.entry.Manifest.{Manifest}
use Rattle.manifest_reader.specs.Page.{part_of}
use Rattle.script_check.specs.Script.{IsScript}
use Rattle.slot_check.specs.declared.fault.Refusal.{Refusal}
use Rattle.slot_check.specs.declared.verdict.Widget.{Widget}
use Rattle.slot_check.specs.Sources.{Source, Slot}
use Rattle.slot_check.specs.Verdicts.{IsRefused, AreJudged}
use Rattle.widget_meaning.specs.Alone.{Content}
use Rattle.page_plan.specs.declared.SlotContent.{SlotContent}
use Rattle.page_plan.specs.declared.SlotSpec.{SlotSpec}
use Rattle.page_plan.specs.Contents.{program_at, content_of}
use Rattle.page_plan.specs.Pages.{piece_of}
use Rattle.page_check.specs.declared.libraries.Later.{Later}
use Rattle.page_check.specs.declared.page.JudgedPage.{JudgedPage}
use Rattle.page_check.specs.Runs.{SlotRun, slots_named, runs_over, swap_runs, pieces}
use Rattle.page_check.specs.Widgets.{HasWidget}

-- ## Libraries

-- if these bytes are a library that breaks no rule, its program stands at a place of the accepted ones
pub record IsKept (accepted : List Accepted) (library : List ℕ) (place : ℕ) : Type 0 where
  pub within : (program : Stmts) → IsScript library scope.Lib program → place < length accepted
  pub program : (program : Stmts) → IsScript library scope.Lib program → program_at accepted place ≡ program

-- so it is with each library, in order
pub data AreKept (accepted : List Accepted) : List Source → List ℕ → Type 0 where
  none : AreKept accepted [] []
  more : {library : Source} {place : ℕ} {libs : List Source} {places : List ℕ} → IsKept accepted library.bytes place → AreKept accepted libs places → AreKept accepted (library ∷ libs) (place ∷ places)

-- the accepted libraries of a manifest, and their places
pub record KeepsLibraries (libs : List Source) (accepted : List Accepted) (places : List ℕ) : Type 0 where
  pub each : AreKept accepted libs places
  pub clean : All (λ a. IsClean (program_of (tree_of a)) scope.Lib) accepted

-- files can be judged over these libraries, of which these were accepted: what is known of each library is true, and each that was accepted has its place
pub record JudgesOver (libs : List Source) (accepted : List Accepted) (later : Later) : Type 0 where
  pub judged : AreJudged libs later.judged
  pub kept : KeepsLibraries libs accepted later.places.items

-- over the libraries over which they could be judged they still can
abbrev pub JudgesOn : List Source → Later → Later → Type 0
JudgesOn libs old new = (accepted : List Accepted) → JudgesOver libs accepted old → JudgesOver libs accepted new

-- one library more was judged: those that were accepted stay, and it is behind them if it breaks no rule
pub record KeepsOne (library : List ℕ) (old new : List Accepted) : Type 0 where
  pub longer : length old ≤ length new
  pub stay : (place : ℕ) → place < length old → program_at new place ≡ program_at old place
  pub one : IsKept new library (length old)
  pub clean : All (λ a. IsClean (program_of (tree_of a)) scope.Lib) old → All (λ a. IsClean (program_of (tree_of a)) scope.Lib) new

-- ## Slots

-- the name of a slot
abbrev pub key_of : SlotSpec → List ℕ
key_of slot = slot.name

-- the name and the fuel of a slot
abbrev pub name_of : SlotSpec → List ℕ × ℕ
name_of slot = (slot.name, slot.fuel)

-- a widget that was accepted, over the accepted libraries of its manifest and their places
abbrev pub content_in : List Accepted → List ℕ → Widget → Content
content_in libs places w = record {
  root = numbered 0 (placed w.form.body);
  libraries = map (program_at libs) (map (λ lib. get_or places lib 0) w.libs.items);
  script = program_of (tree_of w.script);
}

-- a slot has its widget, or is refused for the first rule that it breaks
pub data IsJudged (slot : Slot) : Option Content → Option Refusal → Type 0 where
  accepted : {content : Content} → HasWidget slot content → IsJudged slot (Some content) None
  refused : {refusal : Refusal} → IsRefused slot refusal → IsJudged slot None (Some refusal)

-- a slot of the page to be loaded
pub record IsJudgedSlot (libs : List Accepted) (run : SlotRun) (slot : SlotSpec) (refusal : Option Refusal) : Type 0 where
  pub name : slot.name ≡ run.slot.name
  pub fuel : slot.fuel ≡ run.fuel
  pub judged : IsJudged run.slot (content_of libs slot.content) refusal

-- all of them, in order
pub data AreJudgedSlots (libs : List Accepted) : List SlotRun → List SlotSpec → List (Option Refusal) → Type 0 where
  none : AreJudgedSlots libs [] [] []
  more : {run : SlotRun} {slot : SlotSpec} {refusal : Option Refusal} {runs : List SlotRun} {slots : List SlotSpec} {refusals : List (Option Refusal)} → IsJudgedSlot libs run slot refusal → AreJudgedSlots libs runs slots refusals → AreJudgedSlots libs (run ∷ runs) (slot ∷ slots) (refusal ∷ refusals)

-- ## Swaps

-- the contents that the files of swaps bring, in order
pub data AreJudgedSwaps (libs : List Accepted) : List SlotRun → List SlotContent → List (Option Refusal) → Type 0 where
  no_swap : AreJudgedSwaps libs [] [] []
  one_swap : {run : SlotRun} {content : SlotContent} {refusal : Option Refusal} {runs : List SlotRun} {contents : List SlotContent} {refusals : List (Option Refusal)} → IsJudged run.slot (content_of libs content) refusal → AreJudgedSwaps libs runs contents refusals → AreJudgedSwaps libs (run ∷ runs) (content ∷ contents) (refusal ∷ refusals)

-- ## Pages

-- the slots of a manifest with their files, over its libraries
abbrev pub runs_in : Manifest → List Source → List Source → List SlotRun
runs_in manifest files libs = runs_over libs (slots_named (map part_of manifest.entries.items)) files

-- the page of a manifest over its files, and what swaps bring, each with the number of its slot and its file
pub record IsJudgedPage (manifest : Manifest) (files libs : List Source) (swapped : List (ℕ × Source)) (page : JudgedPage) : Type 0 where
  pub pieces : map piece_of page.spec.pieces.items ≡ pieces (map part_of manifest.entries.items)
  pub slots : AreJudgedSlots page.spec.libs.items (runs_in manifest files libs) page.spec.slots.items page.refusals.items
  pub swaps : AreJudgedSwaps page.spec.libs.items (swap_runs (runs_in manifest files libs) swapped) page.swaps.contents.items page.swaps.refusals.items
  pub channels : page.spec.channels.items ≡ manifest.channels.items
