-- What was found of the files of the lives of a page.
use Rattle.std.specs.Prelude.{◌≡◌, ◌<◌, ◌≤◌, ◌++◌, ℕ, ◌+◌, List, [], ◌∷◌, All, map, take, length, slice_index_or, string_bytes, Option, Some, None, Bool, is_some}
use Rattle.std.specs.List.{list_any, zip}
use Rattle.trace_text.specs.Report.{refused_life}
use Rattle.trace_reader.specs.Said.{Said}
use Rattle.slot_check.specs.declared.fault.Refusal.{Refusal}
use Rattle.slot_check.specs.Sources.{Source}
use Rattle.widget_meaning.specs.OwnState.{OwnState}
use Rattle.page_plan.specs.declared.PageSpec.{PageSpec}
use Rattle.page_plan.specs.declared.SlotContent.{SlotContent}
use Rattle.page_check.specs.Runs.{SlotRun, swap_runs}
use Rattle.page_check.specs.Judged.{AreJudgedSlots, AreJudgedSwaps}
use Rattle.slot_lives.specs.Lines.{life_line}
use Rattle.slot_lives.specs.Ends.{run_name}
use Rattle.page_play.specs.declared.findings.Findings.{Findings}
use Rattle.page_play.specs.Swaps.{swap_slots, swap_positions, last_swap, brought_by}

-- ## What was found

-- of the file of the last life of a slot, when so many swaps were taken
abbrev pub found_after : Findings → ℕ → ℕ → Option Refusal
found_after f w count = brought_by (slice_index_or f.refusals.items w None) f.brought.items (last_swap w (take count f.swaps.slots.items))

-- there is something for each slot and for each swap, and each swap is of one of the slots
pub record AreEven (f : Findings) : Type 0 where
  pub refusals : length f.refusals.items ≡ length f.names.items
  pub brought : length f.brought.items ≡ length f.swaps.slots.items
  pub positions : length f.swaps.positions.items ≡ length f.swaps.slots.items
  pub there : All (λ to. to < length f.names.items) f.swaps.slots.items
  pub few : length f.names.items ≤ 16
  pub few_swaps : length f.swaps.slots.items ≤ 4

-- what was found is what the judge of the page says of its slots with their files, and of the files of the swaps among these items
pub record AreFindings (spec : PageSpec) (swaps : List SlotContent) (items : List Said) (runs : List SlotRun) (files : List Source) (f : Findings) : Type 0 where
  pub names : f.names.items ≡ map run_name runs
  pub slots : AreJudgedSlots spec.libs.items runs spec.slots.items f.refusals.items
  pub swapped : f.swaps.slots.items ≡ swap_slots items
  pub positions : f.swaps.positions.items ≡ swap_positions 0 items
  pub many : length files ≡ length (swap_slots items)
  pub few : length runs ≤ 16
  pub few_swaps : length (swap_slots items) ≤ 4
  pub there : All (λ to. to < length runs) (swap_slots items)
  pub brought : AreJudgedSwaps spec.libs.items (swap_runs runs (zip (swap_slots items) files)) swaps f.brought.items

-- ## What is told of lives

-- a life as its line has it: the name of its slot, the position of the swap that ended it, and the first rule that its file breaks, where it breaks one
pub record Told : Type 0 where
  pub name : List ℕ
  pub until : Option ℕ
  pub found : Option Refusal

-- the last lives of slots of these names, which are numbered from w on
abbrev pub lasts_from : Findings → ℕ → List (List ℕ) → List Told
lasts_from f w [] = []
lasts_from f w (name ∷ names) = record { name = name; until = None; found = found_after f w (length f.swaps.slots.items) } ∷ lasts_from f (w + 1) names

-- of all slots
abbrev pub lasts_told : Findings → List Told
lasts_told f = lasts_from f 0 f.names.items

-- the lives that swaps of these slots end, numbered from i on
abbrev pub ended_told_from : Findings → ℕ → List ℕ → List Told
ended_told_from f i [] = []
ended_told_from f i (to ∷ tos) = record { name = slice_index_or f.names.items to []; until = Some (slice_index_or f.swaps.positions.items i 0); found = found_after f to i } ∷ ended_told_from f (i + 1) tos

-- by all swaps
abbrev pub ended_told : Findings → List Told
ended_told f = ended_told_from f 0 f.swaps.slots.items

-- the file of a life breaks a rule
abbrev pub is_refused : Told → Bool
is_refused t = is_some t.found

-- that of some life does
abbrev pub found_refused : Findings → Bool
found_refused f = list_any is_refused (lasts_told f ++ ended_told f)

-- the line of a life with this name and end, of which this was found, and which comes to this
abbrev pub line_of : List ℕ → Option ℕ → Option Refusal → Option OwnState → List ℕ
line_of name until (Some refusal) own = refused_life name until (string_bytes refusal.file) refusal.rule refusal.at
line_of name until None (Some own) = life_line name until own
line_of name until None None = []

-- the lines of lives
abbrev pub lines_of : List Told → List (Option OwnState) → List ℕ
lines_of (t ∷ ts) (own ∷ owns) = line_of t.name t.until t.found own ++ lines_of ts owns
lines_of _ _ = []
