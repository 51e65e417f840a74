-- The order of work, step by step. A step gives something from which the work goes on, or there is no report.
use Rattle.std.specs.Prelude.{◌≡◌, ℕ, ◌<◌, List, [], length, Option, Some, None}
use Rattle.host_io.specs.Files.{FileMap}
use Rattle.serde_json.specs.Data.{Data}
use Rattle.json_shapes.specs.Json.{IsJson}
use Rattle.json_shapes.specs.declared.fault.ShapeFault.{ShapeFault}
use Rattle.json_shapes.specs.declared.fault.ShapeFault.TheVariants as fault
use Rattle.manifest_reader.specs.declared.entry.Manifest.{Manifest}
use Rattle.manifest_reader.specs.Manifest.{ReadsManifest}
use Rattle.trace_reader.specs.declared.item.TraceItem.{TraceItem}
use Rattle.trace_reader.specs.Trace.{HasTooMany, ReadsTrace}
use Rattle.slot_check.specs.Sources.{Source}
use Rattle.run_steps.specs.declared.reading.NoReport.{NoReport}
use Rattle.run_steps.specs.declared.reading.NoReport.TheVariants as stop
use Rattle.run_steps.specs.declared.ending.Status.{Status}
use Rattle.run_steps.specs.declared.ending.Status.TheVariants as status
use Rattle.run_steps.specs.Page.{file_limit, manifest_limit, trace_limit, IsRead, IsFirstLong, HasTrace}

-- a status, and the bytes that are written
abbrev pub Answers : Type 1
Answers = Status → List ℕ → Type 0

-- a step: what it gives, the statuses with which there is no report, and the answer from each thing that it gives
pub data Step {T : Type 0} (Gives : T → Type 0) (Stops : Status → Type 0) (next : T → Answers) : Status → List ℕ → Type 0 where
  gives : {given : T} {s : Status} {bytes : List ℕ} → Gives given → next given s bytes → Step Gives Stops next s bytes
  stops : {s : Status} → Stops s → Step Gives Stops next s []

-- it cannot be that a step gives nothing and does not stop
abbrev pub Comes : {T : Type 0} → (T → Type 0) → (Status → Type 0) → Type 0
Comes {T} Gives Stops = ¬ (((given : T) → ¬ Gives given) × ((s : Status) → ¬ Stops s))

-- it cannot be that nothing is answered
abbrev pub IsAnswered : Answers → Type 0
IsAnswered answer = ¬ ((s : Status) (bytes : List ℕ) → ¬ answer s bytes)

-- there is no manifest of a name: its file is too large, or the bytes are none
pub data NoManifest (files : FileMap) (name : List ℕ) : Status → Type 0 where
  long_manifest : {file : List ℕ} → files name ≡ Some file → manifest_limit < length file → NoManifest files name status.TooLarge
  bad_manifest : {source : Source} → IsRead files manifest_limit name source → ((manifest : Manifest) → ¬ ReadsManifest source.bytes manifest) → NoManifest files name status.BadManifest

-- the first of these files that is not within the limit is too large
pub data NoFiles (files : FileMap) (names : List (List ℕ)) : Status → Type 0 where
  long_file : IsFirstLong files file_limit names → NoFiles files names status.TooLarge

-- the file of a name is longer than the limit
pub data NoBytes (files : FileMap) (limit : ℕ) (name : List ℕ) : Status → Type 0 where
  long_bytes : {file : List ℕ} → files name ≡ Some file → limit < length file → NoBytes files limit name status.TooLarge

-- there is no trace of a name for slots of these names: its file is too large, it has too many items, or the bytes are none
pub data NoTrace (files : FileMap) (names : List (List ℕ)) (trace : List ℕ) : Status → Type 0 where
  long_trace : {file : List ℕ} → files trace ≡ Some file → trace_limit < length file → NoTrace files names trace status.TooLarge
  many_items : {source : Source} {value : Data} {items : ℕ} → IsRead files trace_limit trace source → IsJson source.bytes value → HasTooMany value items → NoTrace files names trace status.TooLarge
  bad_trace : {source : Source} → IsRead files trace_limit trace source → ((items : List TraceItem) → ¬ ReadsTrace source.bytes names items) → ((value : Data) (items : ℕ) → IsJson source.bytes value → ¬ HasTooMany value items) → NoTrace files names trace status.BadTrace

-- why bytes give no manifest
abbrev pub IsManifestStop : List ℕ → NoReport → Type 0
IsManifestStop bytes stop.BadManifest = (manifest : Manifest) → ¬ ReadsManifest bytes manifest
IsManifestStop bytes stop.Memory = Unit {0}
IsManifestStop bytes _ = ⊥

-- why bytes give no trace for slots of these names
abbrev pub IsTraceStop : List ℕ → List (List ℕ) → NoReport → Type 0
IsTraceStop bytes names stop.TooLarge = (value : Data) × (items : ℕ) × IsJson bytes value × HasTooMany value items
IsTraceStop bytes names stop.BadTrace = ((items : List TraceItem) → ¬ ReadsTrace bytes names items) × ((value : Data) (items : ℕ) → IsJson bytes value → ¬ HasTooMany value items)
IsTraceStop bytes names stop.Memory = Unit {0}
IsTraceStop bytes names _ = ⊥

-- what the work stops at where bytes are refused
abbrev pub manifest_stop_of : ShapeFault → NoReport
manifest_stop_of fault.Memory = stop.Memory
manifest_stop_of _ = stop.BadManifest

abbrev pub trace_stop_of : ShapeFault → NoReport
trace_stop_of fault.Memory = stop.Memory
trace_stop_of (fault.TooMany items) = stop.TooLarge
trace_stop_of _ = stop.BadTrace

-- the items of a trace; where none is asked for there are no items
abbrev pub HasItems : FileMap → List (List ℕ) → Option (List ℕ) → List TraceItem → Type 0
HasItems files names None items = items ≡ []
HasItems files names (Some trace) items = HasTrace files names trace items

abbrev pub NoItems : FileMap → List (List ℕ) → Option (List ℕ) → Status → Type 0
NoItems files names None s = ⊥
NoItems files names (Some trace) s = NoTrace files names trace s
