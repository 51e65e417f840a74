-- The host that a run leaves.
use Rattle.std.specs.Prelude.{◌≡◌, ℕ, List, [], length, map, slice_get, false, Option, Some, None, Result, IfOk, IfSome}
use Rattle.std.specs.List.{zip}
use Rattle.host_io.specs.Files.{FileMap}
use Rattle.manifest_reader.specs.declared.entry.Manifest.{Manifest}
use Rattle.manifest_reader.specs.Page.{Part}
use Rattle.trace_reader.specs.Said.{Said, said}
use Rattle.trace_reader.specs.declared.item.TraceItem.{TraceItem}
use Rattle.slot_check.specs.declared.fault.Refusal.{Refusal}
use Rattle.slot_check.specs.Sources.{Source}
use Rattle.life_laws.specs.Slots.{has}
use Rattle.life_laws.specs.Chains.{last_at, listed}
use Rattle.widget_meaning.specs.OwnState.{OwnState}
use Rattle.widget_meaning.specs.Alone.{Content}
use Rattle.page_plan.specs.declared.PageSpec.{PageSpec}
use Rattle.page_plan.specs.declared.SlotContent.{SlotContent}
use Rattle.page_plan.specs.Pages.{piece_of}
use Rattle.page_check.specs.Judged.{AreJudgedSlots, AreJudgedSwaps}
use Rattle.page_check.specs.Runs.{SlotRun, pieces, swap_runs}
use Rattle.page_check.specs.Widgets.{HasWidget}
use Rattle.slot_lives.specs.Lives.{Life, swaps_in}
use Rattle.slot_lives.specs.Ends.{run_name}
use Rattle.slot_lives.specs.Outcome.{ComeTo, last_lives}
use Rattle.page_play.specs.Host.{Host}
use Rattle.page_play.specs.Housed.{AreShown, IsLaid, accepts, chains, channels, ends, scripts, singles}
use Rattle.page_play.specs.Swaps.{swap_slots}
use Rattle.page_play.specs.Played.{AreScriptsOf}
use Rattle.page_play.specs.Settled.{IsSettled}
use Rattle.run_steps.specs.declared.reading.NoReport.{NoReport}
use Rattle.run_steps.specs.Request.{Request, Render, Replay, Audit, Demo, Asks}
use Rattle.run_steps.specs.Page.{file_limit, AreRead, HasManifest, slot_names, files_named, swap_files, parts}
use Rattle.run_steps.specs.Steps.{HasItems}
use Rattle.adhost_run.specs.declared.reports.Report.{Report}
use Rattle.adhost_run.specs.Page.{runs_of}
use Rattle.adhost_run.specs.Demo.{demo_parts, demo_runs, demo_items}

-- the runs of the swaps among items, in order: each is the slot that it names, with its file
abbrev pub swapped : List SlotRun → List Source → List Said → List SlotRun
swapped runs files items = swap_runs runs (zip (swap_slots items) files)

-- the page that was loaded: its slots are these, and its swaps bring these, as they were judged; and it has these pieces and these channels
pub record IsPage (parts : List Part) (pairs : List (ℕ × ℕ)) (runs : List SlotRun) (files : List Source) (items : List Said) (spec : PageSpec) (swaps : List SlotContent) : Type 0 where
  pub refusals : List (Option Refusal)
  pub slots : AreJudgedSlots spec.libs.items runs spec.slots.items refusals
  pub brought : List (Option Refusal)
  pub brings : AreJudgedSwaps spec.libs.items (swapped runs files items) swaps brought
  pub laid : map piece_of spec.pieces.items ≡ pieces parts
  pub channels : spec.channels.items ≡ pairs

-- the page that it loaded is that of these slots and swaps, and it has done with these items (`IsSettled`); it has all slots of the page, its pieces and its channels; in each slot stands its last life, which shows the own state of the answer, and whose scripts are those of its file, if this breaks no rule; no life is accepted but these and those that swaps ended; and without a swap each slot has its first life
pub record IsStage (parts : List Part) (pairs : List (ℕ × ℕ)) (runs : List SlotRun) (files : List Source) (items : List Said) (slice : ℕ) (h : Host) : Type 0 where
  pub spec : PageSpec
  pub swaps : List SlotContent
  pub page : IsPage parts pairs runs files items spec swaps
  pub settled : IsSettled spec swaps items slice h
  pub slots : length (chains h) ≡ length runs
  pub laid : IsLaid h (map run_name runs) (pieces parts)
  pub channels : channels h ≡ pairs
  pub owns : List (Option OwnState)
  pub come : ComeTo pairs (last_lives files items 0 runs) owns
  pub shown : AreShown h (chains h) owns
  pub scripts : (w : ℕ) (life : Life SlotRun) (content : Content) → slice_get (last_lives files items 0 runs) w ≡ Some life → HasWidget life.runs.slot content → AreScriptsOf content (scripts h (last_at w (chains h)))
  pub none_else : (v : ℕ) → listed v (chains h) ≡ false → has v (ends h) ≡ false → accepts h v ≡ false
  pub firsts : swaps_in items ≡ 0 → chains h ≡ singles 0 (length runs)

-- what a step gave, and what was left with it
pub record Left {T : Type 0} (Gives : T → Type 0) (next : T → Option Host → Type 0) (h : Option Host) : Type 0 where
  pub from : T
  pub gave : Gives from
  pub left : next from h

-- the host of a page that ran on these items, whose swaps have these files; and from its items on, from its files on, from its manifest on, and from its name on
abbrev pub IsStageOf : ℕ → Manifest → List Source → List TraceItem → List Source → Option Host → Type 0
IsStageOf slice manifest sources items files None = ⊥
IsStageOf slice manifest sources items files (Some h) = IsStage (parts manifest) manifest.channels.items (runs_of manifest sources) files (map said items) slice h

abbrev pub LeftByItems : FileMap → ℕ → Manifest → List Source → List TraceItem → Option Host → Type 0
LeftByItems files slice manifest sources items = Left (AreRead files file_limit (swap_files items)) (IsStageOf slice manifest sources items)

abbrev pub LeftByFiles : FileMap → Option (List ℕ) → ℕ → Manifest → List Source → Option Host → Type 0
LeftByFiles files trace slice manifest sources = Left (HasItems files (slot_names manifest.entries.items) trace) (LeftByItems files slice manifest sources)

abbrev pub LeftByManifest : FileMap → Option (List ℕ) → ℕ → Manifest → Option Host → Type 0
LeftByManifest files trace slice manifest = Left (AreRead files file_limit (files_named manifest)) (LeftByFiles files trace slice manifest)

abbrev pub LeftByPage : FileMap → List ℕ → Option (List ℕ) → ℕ → Option Host → Type 0
LeftByPage files name trace slice = Left (HasManifest files name) (LeftByManifest files trace slice)

-- the slice of `demo`, and the host that it leaves
abbrev pub demo_slice : ℕ
demo_slice = 50

abbrev pub IsDemoStage : ℕ → Option Host → Type 0
IsDemoStage count None = ⊥
IsDemoStage count (Some h) = IsStage demo_parts [] demo_runs [] (demo_items count) demo_slice h

-- the slice of `render`
abbrev pub render_slice : ℕ
render_slice = 1000000

-- what a request leaves: only a page that runs leaves a host
abbrev pub RequestLeaves : FileMap → Request → Option Host → Type 0
RequestLeaves files (Render manifest) h = LeftByPage files manifest None render_slice h
RequestLeaves files (Replay manifest trace slice) h = LeftByPage files manifest (Some trace) slice h
RequestLeaves files (Audit manifest trace slice) h = LeftByPage files manifest (Some trace) slice h
RequestLeaves files (Demo count) h = IsDemoStage count h
RequestLeaves files _ h = h ≡ None

-- what a run of these words leaves
pub record Leaves (words : List (List ℕ)) (files : FileMap) (h : Option Host) : Type 0 where
  pub request : Request
  pub asks : Asks words request
  pub leaves : RequestLeaves files request h

-- a report has the host that is left with it
abbrev pub IsLeft : Option FileMap → Result Report NoReport → (FileMap → Option Host → Type 0) → Type 0
IsLeft told result leaves = IfOk result (λ r. IfSome told (λ m. leaves m r.host))
