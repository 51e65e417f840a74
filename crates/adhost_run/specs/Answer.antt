-- What a run answers.
use Rattle.std.specs.Prelude.{◌≡◌, ℕ, ◌<◌, ◌≤◌, List, [], ◌++◌, map, length, take, codes, decimal, Option, Some, None, Bool, true, false}
use Rattle.host_io.specs.Files.{FileMap}
use Rattle.host_io.specs.Sink.{with_bytes}
use Rattle.manifest_reader.specs.declared.entry.Manifest.{Manifest}
use Rattle.trace_reader.specs.declared.item.TraceItem.{TraceItem}
use Rattle.trace_reader.specs.Said.{said}
use Rattle.script_check.specs.Line.{IsLine, IsTidied}
use Rattle.slot_check.specs.Sources.{Source}
use Rattle.slot_check.specs.Line.{AreSlotLines}
use Rattle.run_steps.specs.declared.ending.Status.{Status}
use Rattle.run_steps.specs.declared.ending.Status.TheVariants as status
use Rattle.reach_cert.specs.Certs.{Slot, cert_text}
use Rattle.reach_cert.specs.Shape.{IsCert}
use Rattle.reach_cert.specs.Walks.{IsConfined, first_leak}
use Rattle.run_steps.specs.declared.reading.NoReport.{NoReport}
use Rattle.run_steps.specs.declared.reading.NoReport.TheVariants as stop
use Rattle.run_steps.specs.Request.{Request, Check, CheckLib, Tidy, Render, Replay, Audit, CheckAudit, Demo, Asks, IsForm}
use Rattle.run_steps.specs.Page.{file_limit, cert_limit, IsRead, AreRead, HasBytes, slot_names, files_named, swap_files, HasManifest, slots_of, parts}
use Rattle.run_steps.specs.Steps.{Answers, Step, NoManifest, NoFiles, NoBytes, HasItems, NoItems}
use Rattle.slot_lives.specs.Outcome.{IsReport}
use Rattle.page_play.specs.Told.{IsAudit}
use Rattle.adhost_run.specs.declared.reports.Asked.{Asked}
use Rattle.adhost_run.specs.declared.reports.Asked.TheVariants as asked
use Rattle.adhost_run.specs.declared.playing.Writes.{Writes}
use Rattle.adhost_run.specs.declared.playing.Writes.TheVariants as writes
use Rattle.adhost_run.specs.Page.{runs_of}
use Rattle.adhost_run.specs.Demo.{DemoAnswer}

-- what is written of a library: its line, or its tidied text
abbrev pub IsText : Asked → List ℕ → List ℕ → Bool → List ℕ → Type 0
IsText asked.Line = IsLine
IsText asked.Tidied = IsTidied

-- the status after lines, by whether one of them names a broken rule
abbrev pub ending : Bool → Status
ending true = status.Refused
ending false = status.Ok

-- what is answered on a library
pub data LibraryAnswer (files : FileMap) (what : Asked) (name : List ℕ) : Status → List ℕ → Type 0 where
  report : {source : Source} {bytes : List ℕ} (refused : Bool) → IsRead files file_limit name source → IsText what name source.bytes refused bytes → LibraryAnswer files what name (ending refused) bytes
  too_large : {file : List ℕ} → files name ≡ Some file → file_limit < length file → LibraryAnswer files what name status.TooLarge []

-- what is answered to `check` on a manifest with its files: the lines of its slots
pub data CheckAnswer (manifest : Manifest) (sources : List Source) : Status → List ℕ → Type 0 where
  lines : {bytes : List ℕ} (refused : Bool) → AreSlotLines (slots_of manifest sources) refused bytes → CheckAnswer manifest sources (ending refused) bytes

-- what is answered when a page runs on these items, whose swaps have these files: the lines of its lives, and the page
pub data RunAnswer (manifest : Manifest) (sources : List Source) (items : List TraceItem) (files : List Source) : Status → List ℕ → Type 0 where
  page_report : {bytes : List ℕ} (refused : Bool) → IsReport (parts manifest) manifest.channels.items (runs_of manifest sources) files (map said items) refused bytes → RunAnswer manifest sources items files (ending refused) bytes

-- and what is answered to `audit`: the certificate, if it is within the limit
pub data AuditAnswer (manifest : Manifest) (sources : List Source) (items : List TraceItem) (files : List Source) : Status → List ℕ → Type 0 where
  certificate : {bytes : List ℕ} (refused : Bool) → IsAudit manifest.channels.items (runs_of manifest sources) files (map said items) refused bytes → length bytes ≤ cert_limit → AuditAnswer manifest sources items files (ending refused) bytes
  long_certificate : {bytes : List ℕ} (refused : Bool) → IsAudit manifest.channels.items (runs_of manifest sources) files (map said items) refused bytes → cert_limit < length bytes → AuditAnswer manifest sources items files status.CertTooLarge []

-- by what is to be written
abbrev pub PlayAnswer : Writes → Manifest → List Source → List TraceItem → List Source → Answers
PlayAnswer writes.Report = RunAnswer
PlayAnswer writes.Certificate = AuditAnswer

-- the lines on a certificate: that it is confined, or the first line that has a reference which is neither `host` nor a cell line of its own widget
abbrev pub confined_line : List ℕ
confined_line = codes "{\"confined\":true}\n"

abbrev pub leak_line : ℕ → List ℕ
leak_line line = codes "{\"confined\":false,\"line\":" ++ (decimal line ++ codes "}\n")

-- what is answered on the bytes of a certificate
pub data CertAnswer (bytes : List ℕ) : Status → List ℕ → Type 0 where
  keeps : {slots : List Slot} → IsCert slots → bytes ≡ cert_text slots → IsConfined slots → CertAnswer bytes status.Ok confined_line
  leaks : {slots : List Slot} {line : ℕ} → IsCert slots → bytes ≡ cert_text slots → first_leak slots ≡ Some line → CertAnswer bytes status.Refused (leak_line line)
  bad_certificate : ((slots : List Slot) → IsCert slots → ¬ (bytes ≡ cert_text slots)) → CertAnswer bytes status.BadCert []

-- why there is no line on the bytes of a certificate
abbrev pub IsCertStop : List ℕ → NoReport → Type 0
IsCertStop bytes stop.BadCert = CertAnswer bytes status.BadCert []
IsCertStop bytes stop.Memory = Unit {0}
IsCertStop bytes _ = ⊥

-- the manifest of a name comes first, and then the files that it names
abbrev pub OfManifest : FileMap → List ℕ → (Manifest → Answers) → Answers
OfManifest files name next = Step (HasManifest files name) (NoManifest files name) next

abbrev pub OfFiles : FileMap → Manifest → (List Source → Answers) → Answers
OfFiles files manifest next = Step (AreRead files file_limit (files_named manifest)) (NoFiles files (files_named manifest)) next

-- and then the trace, where one is asked for
abbrev pub OfTrace : FileMap → Manifest → Option (List ℕ) → (List TraceItem → Answers) → Answers
OfTrace files manifest trace next = Step (HasItems files (slot_names manifest.entries.items) trace) (NoItems files (slot_names manifest.entries.items) trace) next

-- and then the files of its swaps
abbrev pub OfSwaps : FileMap → List TraceItem → (List Source → Answers) → Answers
OfSwaps files items next = Step (AreRead files file_limit (swap_files items)) (NoFiles files (swap_files items)) next

-- `check` of the manifest of a name
abbrev pub PageAnswer : FileMap → List ℕ → Answers
PageAnswer files name = OfManifest files name (λ manifest. OfFiles files manifest (CheckAnswer manifest))

-- a page that runs: from its items on, from its files on, and from its manifest on
abbrev pub FromItems : FileMap → Writes → Manifest → List Source → List TraceItem → Answers
FromItems files what manifest sources items = OfSwaps files items (PlayAnswer what manifest sources items)

abbrev pub FromFiles : FileMap → Option (List ℕ) → Writes → Manifest → List Source → Answers
FromFiles files trace what manifest sources = OfTrace files manifest trace (FromItems files what manifest sources)

abbrev pub FromManifest : FileMap → Option (List ℕ) → Writes → Manifest → Answers
FromManifest files trace what manifest = OfFiles files manifest (FromFiles files trace what manifest)

-- `render` of the manifest of a name, and `replay` and `audit` of a trace
abbrev pub ReplayAnswer : FileMap → List ℕ → Option (List ℕ) → Writes → Answers
ReplayAnswer files name trace what = OfManifest files name (FromManifest files trace what)

-- `check-audit` of the certificate of a name
abbrev pub CheckAuditAnswer : FileMap → List ℕ → Answers
CheckAuditAnswer files name = Step (HasBytes files cert_limit name) (NoBytes files cert_limit name) CertAnswer

-- what is answered to a request
pub data RequestAnswer (files : FileMap) : Request → Status → List ℕ → Type 0 where
  check : {manifest : List ℕ} {s : Status} {bytes : List ℕ} → PageAnswer files manifest s bytes → RequestAnswer files (Check manifest) s bytes
  check_lib : {file : List ℕ} {s : Status} {bytes : List ℕ} → LibraryAnswer files asked.Line file s bytes → RequestAnswer files (CheckLib file) s bytes
  tidy : {file : List ℕ} {s : Status} {bytes : List ℕ} → LibraryAnswer files asked.Tidied file s bytes → RequestAnswer files (Tidy file) s bytes
  render : {manifest : List ℕ} {s : Status} {bytes : List ℕ} → ReplayAnswer files manifest None writes.Report s bytes → RequestAnswer files (Render manifest) s bytes
  replay : {manifest trace : List ℕ} {slice : ℕ} {s : Status} {bytes : List ℕ} → ReplayAnswer files manifest (Some trace) writes.Report s bytes → RequestAnswer files (Replay manifest trace slice) s bytes
  audit : {manifest trace : List ℕ} {slice : ℕ} {s : Status} {bytes : List ℕ} → ReplayAnswer files manifest (Some trace) writes.Certificate s bytes → RequestAnswer files (Audit manifest trace slice) s bytes
  check_audit : {file : List ℕ} {s : Status} {bytes : List ℕ} → CheckAuditAnswer files file s bytes → RequestAnswer files (CheckAudit file) s bytes
  demo : {count : ℕ} {s : Status} {bytes : List ℕ} → DemoAnswer count s bytes → RequestAnswer files (Demo count) s bytes

-- Answer: the status of the words over the files, and the bytes that are written
pub data Answer (words : List (List ℕ)) (files : FileMap) : Status → List ℕ → Type 0 where
  of_request : {request : Request} {s : Status} {bytes : List ℕ} → Asks words request → RequestAnswer files request s bytes → Answer words files s bytes
  usage : ¬ IsForm words → Answer words files status.Usage []

-- the bytes of an answer were appended, and nothing else
pub record Wrote (IsAnswer : List ℕ → Type 0) (old new : Option (List ℕ)) : Type 0 where
  pub bytes : List ℕ
  pub answer : IsAnswer bytes
  pub appended : new ≡ with_bytes old bytes

-- a first part of the bytes of a report was appended, and the sink had no room for all of them
pub record WrotePart (IsAnswer : Status → List ℕ → Type 0) (room : ℕ) (old new : Option (List ℕ)) : Type 0 where
  pub refused : Bool
  pub bytes : List ℕ
  pub count : ℕ
  pub answer : IsAnswer (ending refused) bytes
  pub no_room : room < length bytes
  pub within : count ≤ length bytes
  pub appended : new ≡ with_bytes old (take count bytes)
