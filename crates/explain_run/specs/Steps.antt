-- The order of work, step by step. A step gives something from which the work goes on, or no rule is judged.
use Rattle.std.specs.Prelude.{◌≡◌, ℕ, ◌<◌, ◌≤◌, List, length, Option, Some, None, IfSome, Result, IfOk, IfErr, IsErrAnd}
use Rattle.host_io.specs.Files.{FileMap, Rose}
use Rattle.serde_json.specs.Data.{Data}
use Rattle.json_shapes.specs.Json.{IsJson}
use Rattle.json_shapes.specs.declared.fault.ShapeFault.{ShapeFault}
use Rattle.json_shapes.specs.declared.fault.ShapeFault.TheVariants as fault
use Rattle.manifest_reader.specs.declared.entry.Manifest.{Manifest}
use Rattle.manifest_reader.specs.Manifest.{ReadsManifest}
use Rattle.trace_reader.specs.declared.item.TraceItem.{TraceItem}
use Rattle.trace_reader.specs.Trace.{HasTooMany, ReadsTrace}
use Rattle.explain_run.specs.declared.reading.Why.{Why}
use Rattle.explain_run.specs.declared.reading.Why.TheVariants as why
use Rattle.explain_run.specs.declared.reading.NotTold.{NotTold}
use Rattle.explain_run.specs.declared.reading.NotTold.TheVariants as stop
use Rattle.explain_run.specs.declared.ending.Status.{Status}
use Rattle.explain_run.specs.declared.ending.Status.TheVariants as status
use Rattle.run_steps.specs.Page.{file_limit, manifest_limit, trace_limit}
use Rattle.explain_run.specs.Page.{HasBytes, IsFirstLong, HasTrace}

-- ## What is wrong with a file

-- the status that it leads to
abbrev pub trace_status : ShapeFault → Status
trace_status (fault.TooMany items) = status.TooLarge
trace_status _ = status.BadTrace

abbrev pub status_of : Why → Status
status_of (why.Manifest f) = status.BadManifest
status_of (why.Trace f) = trace_status f
status_of (why.TooLong limit) = status.TooLarge
status_of why.Unread = status.ReadFault

-- the work stops for this reason, or for want of memory
abbrev pub IsBecause : Why → NotTold → Type 0
IsBecause w (stop.Bad file v) = v ≡ w
IsBecause w stop.Memory = Unit {0}

-- the same where bytes are out of shape
abbrev pub IsMisshapen : ShapeFault → Why → NotTold → Type 0
IsMisshapen fault.Memory w e = e ≡ stop.Memory
IsMisshapen f w e = IsBecause w e

-- ## When there is nothing to judge, and with which status

-- the file of a name is too large
pub data NoFile (files : FileMap) (limit : ℕ) (name : List ℕ) : Status → Type 0 where
  too_long : {file : List ℕ} → files name ≡ Some file → limit < length file → NoFile files limit name status.TooLarge

-- the first of these files that is not within the limit is too large
pub data NoFiles (files : FileMap) (names : List (List ℕ)) : Status → Type 0 where
  first_long : IsFirstLong files file_limit names → NoFiles files names status.TooLarge

-- there is no manifest of a name: its file is too large, or the bytes are none
pub data NoManifest (files : FileMap) (name : List ℕ) : Status → Type 0 where
  long_manifest : {s : Status} → NoFile files manifest_limit name s → NoManifest files name s
  bad_manifest : {bytes : List ℕ} → HasBytes files manifest_limit name bytes → ((manifest : Manifest) → ¬ ReadsManifest bytes manifest) → NoManifest files name status.BadManifest

-- there is no trace of a name for slots of these names: its file is too large, it has too many items, or the bytes are none
pub data NoTrace (files : FileMap) (names : List (List ℕ)) (name : List ℕ) : Status → Type 0 where
  long_trace : {s : Status} → NoFile files trace_limit name s → NoTrace files names name s
  many_items : {bytes : List ℕ} {value : Data} {items : ℕ} → HasBytes files trace_limit name bytes → IsJson bytes value → HasTooMany value items → NoTrace files names name status.TooLarge
  bad_trace : {bytes : List ℕ} → HasBytes files trace_limit name bytes → ((items : List TraceItem) → ¬ ReadsTrace bytes names items) → ((value : Data) (items : ℕ) → IsJson bytes value → ¬ HasTooMany value items) → NoTrace files names name status.BadTrace

-- the trace is one, where one is asked for; and it is none
abbrev pub IsTraced : FileMap → List (List ℕ) → Option (List ℕ) → Type 0
IsTraced files names None = Unit {0}
IsTraced files names (Some name) = HasTrace files names name

abbrev pub NoTraced : FileMap → List (List ℕ) → Option (List ℕ) → Status → Type 0
NoTraced files names None s = ⊥
NoTraced files names (Some name) s = NoTrace files names name s

-- ## The contract of a step

-- a stop with a status that comes so; that of a read that failed has its cause in the files, and want of memory none
abbrev pub IsCause : (Status → Type 0) → Status → Type 0
IsCause Stops status.ReadFault = Unit {0}
IsCause Stops s = Stops s

abbrev pub IsStop : (Status → Type 0) → NotTold → Type 0
IsStop Stops (stop.Bad file w) = IsCause Stops (status_of w)
IsStop Stops stop.Memory = Unit {0}

-- a read failed
abbrev pub IsUnread : NotTold → Type 0
IsUnread (stop.Bad file w) = status_of w ≡ status.ReadFault
IsUnread stop.Memory = ⊥

-- what a step does to files, by what they tell and how many reads have failed, and what it ended with
pub record Stepped {F T : Type 0} (told : F → Option FileMap) (faults : F → ℕ) (old new : F) (result : Result T NotTold) (Gives : FileMap → T → Type 0) (Stops : FileMap → Status → Type 0) : Type 0 where
  -- they tell what they told, and their count does not fall; a fault comes only where it rose
  pub same : told new ≡ told old
  pub count : faults old ≤ faults new
  pub cause : IsErrAnd result IsUnread → Rose (faults old) (faults new)
  -- what it gives, and why it stops
  pub gives : IfOk result (λ given. IfSome (told old) (λ m. Gives m given))
  pub stops : IfErr result (λ e. IfSome (told old) (λ m. IsStop (Stops m) e))

-- a stop with such a status, or for want of memory
abbrev pub IsStopBy : (Status → Type 0) → NotTold → Type 0
IsStopBy Stops (stop.Bad file w) = Stops (status_of w)
IsStopBy Stops stop.Memory = Unit {0}

-- why bytes give no manifest
abbrev pub IsNoManifest : List ℕ → Status → Type 0
IsNoManifest bytes status.BadManifest = (manifest : Manifest) → ¬ ReadsManifest bytes manifest
IsNoManifest bytes _ = ⊥

-- why bytes give no trace for slots of these names
abbrev pub IsNoTrace : List ℕ → List (List ℕ) → Status → Type 0
IsNoTrace bytes names status.TooLarge = (value : Data) × (items : ℕ) × IsJson bytes value × HasTooMany value items
IsNoTrace bytes names status.BadTrace = ((items : List TraceItem) → ¬ ReadsTrace bytes names items) × ((value : Data) (items : ℕ) → IsJson bytes value → ¬ HasTooMany value items)
IsNoTrace bytes names _ = ⊥
