-- An answer has no status of a fault, and none of want of memory.
use Rattle.std.proofs.Common.{◌≡◌, ℕ, List, Bool, true, false, Option, Some, None, refl}
use Rattle.host_io.specs.Files.{FileMap}
use Rattle.manifest_reader.specs.declared.entry.Manifest.{Manifest}
use Rattle.trace_reader.specs.declared.item.TraceItem.{TraceItem}
use Rattle.slot_check.specs.Sources.{Source}
use Rattle.run_steps.specs.declared.ending.Status.{Status}
use Rattle.run_steps.specs.Request.{Request}
use Rattle.run_steps.specs.Page.{file_limit, cert_limit, AreRead, HasBytes, slot_names, files_named, swap_files, HasManifest}
use Rattle.run_steps.specs.Steps as steps
use Rattle.run_steps.specs.Steps.{Answers, Step, NoManifest, NoFiles, NoBytes, HasItems, NoItems}
use Rattle.adhost_run.specs.declared.reports.Asked.{Asked}
use Rattle.adhost_run.specs.declared.reports.Asked.TheVariants as asked
use Rattle.adhost_run.specs.declared.playing.Writes.{Writes}
use Rattle.adhost_run.specs.declared.playing.Writes.TheVariants as writes
use Rattle.adhost_run.specs.Demo.{DemoAnswer, short_report}
use Rattle.adhost_run.specs.Answer as answer
use Rattle.adhost_run.specs.Answer.{LibraryAnswer, CheckAnswer, RunAnswer, AuditAnswer, PlayAnswer, CertAnswer, OfFiles, PageAnswer, FromItems, FromFiles, FromManifest, ReplayAnswer, CheckAuditAnswer, RequestAnswer, Answer}
use Rattle.adhost_run.specs.Ends.{is_answer}

abbrev Ends : Answers → Type 0
Ends answers = (s : Status) (bytes : List ℕ) → answers s bytes → is_answer s ≡ true

report_ends : (flag : Bool) → is_answer (answer.ending flag) ≡ true
report_ends true = refl
report_ends false = refl

module _ {T : Type 0} (Gives : T → Type 0) (Stops : Status → Type 0) (next : T → Answers) (stops_end : (s : Status) → Stops s → is_answer s ≡ true) (next_ends : (given : T) → Ends (next given)) where
  step_ends : Ends (Step Gives Stops next)
  step_ends s bytes (steps.gives {given = x} has it) = next_ends x s bytes it
  step_ends s bytes (steps.stops it) = stops_end s it

cert_ends : (bytes : List ℕ) → Ends (CertAnswer bytes)
cert_ends bytes s text (answer.keeps is same confined) = refl
cert_ends bytes s text (answer.leaks is same first) = refl
cert_ends bytes s text (answer.bad_certificate unspelled) = refl

check_ends : (manifest : Manifest) (sources : List Source) → Ends (CheckAnswer manifest sources)
check_ends manifest sources s bytes (answer.lines flag it) = report_ends flag

run_ends : (manifest : Manifest) (sources : List Source) (items : List TraceItem) (files : List Source) → Ends (RunAnswer manifest sources items files)
run_ends manifest sources items files s bytes (answer.page_report flag it) = report_ends flag

audit_ends : (manifest : Manifest) (sources : List Source) (items : List TraceItem) (files : List Source) → Ends (AuditAnswer manifest sources items files)
audit_ends manifest sources items files s bytes (answer.certificate flag it within) = report_ends flag
audit_ends manifest sources items files s bytes (answer.long_certificate flag it above) = refl

play_ends : (what : Writes) (manifest : Manifest) (sources : List Source) (items : List TraceItem) (files : List Source) → Ends (PlayAnswer what manifest sources items files)
play_ends writes.Report = run_ends
play_ends writes.Certificate = audit_ends

demo_ends : (count : ℕ) → Ends (DemoAnswer count)
demo_ends count s bytes (short_report come flag) = refl

module _ (m : FileMap) where
  manifest_ends : (name : List ℕ) (s : Status) → NoManifest m name s → is_answer s ≡ true
  manifest_ends name s (steps.long_manifest is long) = refl
  manifest_ends name s (steps.bad_manifest is unread) = refl

  files_end : (names : List (List ℕ)) (s : Status) → NoFiles m names s → is_answer s ≡ true
  files_end names s (steps.long_file long) = refl

  bytes_end : (limit : ℕ) (name : List ℕ) (s : Status) → NoBytes m limit name s → is_answer s ≡ true
  bytes_end limit name s (steps.long_bytes is long) = refl

  trace_ends : (names : List (List ℕ)) (trace : List ℕ) (s : Status) → steps.NoTrace m names trace s → is_answer s ≡ true
  trace_ends names trace s (steps.long_trace is long) = refl
  trace_ends names trace s (steps.many_items is json many) = refl
  trace_ends names trace s (steps.bad_trace is unread few) = refl

  items_end : (names : List (List ℕ)) (trace : Option (List ℕ)) (s : Status) → NoItems m names trace s → is_answer s ≡ true
  items_end names None s unread = absurd unread
  items_end names (Some trace) s unread = trace_ends names trace s unread

  library_ends : (what : Asked) (name : List ℕ) → Ends (LibraryAnswer m what name)
  library_ends what name s bytes (answer.report flag has it) = report_ends flag
  library_ends what name s bytes (answer.too_large is long) = refl

  page_ends : (name : List ℕ) → Ends (PageAnswer m name)
  page_ends name = step_ends (HasManifest m name) (NoManifest m name) (λ manifest. OfFiles m manifest (CheckAnswer manifest)) (manifest_ends name) (λ manifest.
      step_ends (AreRead m file_limit (files_named manifest)) (NoFiles m (files_named manifest)) (CheckAnswer manifest) (files_end (files_named manifest)) (check_ends manifest))

  module _ (trace : Option (List ℕ)) (what : Writes) where
    items_run_ends : (manifest : Manifest) (sources : List Source) (items : List TraceItem) → Ends (FromItems m what manifest sources items)
    items_run_ends manifest sources items = step_ends (AreRead m file_limit (swap_files items)) (NoFiles m (swap_files items)) (PlayAnswer what manifest sources items) (files_end (swap_files items)) (play_ends what manifest sources items)

    files_run_ends : (manifest : Manifest) (sources : List Source) → Ends (FromFiles m trace what manifest sources)
    files_run_ends manifest sources = step_ends (HasItems m (slot_names manifest.entries.items) trace) (NoItems m (slot_names manifest.entries.items) trace) (FromItems m what manifest sources) (items_end (slot_names manifest.entries.items) trace) (items_run_ends manifest sources)

    manifest_run_ends : (manifest : Manifest) → Ends (FromManifest m trace what manifest)
    manifest_run_ends manifest = step_ends (AreRead m file_limit (files_named manifest)) (NoFiles m (files_named manifest)) (FromFiles m trace what manifest) (files_end (files_named manifest)) (files_run_ends manifest)

    replay_ends : (name : List ℕ) → Ends (ReplayAnswer m name trace what)
    replay_ends name = step_ends (HasManifest m name) (NoManifest m name) (FromManifest m trace what) (manifest_ends name) manifest_run_ends

  check_audit_ends : (name : List ℕ) → Ends (CheckAuditAnswer m name)
  check_audit_ends name = step_ends (HasBytes m cert_limit name) (NoBytes m cert_limit name) CertAnswer (bytes_end cert_limit name) cert_ends

  request_ends : (request : Request) → Ends (RequestAnswer m request)
  request_ends request s bytes (answer.check {manifest = name} it) = page_ends name s bytes it
  request_ends request s bytes (answer.check_lib {file = name} it) = library_ends asked.Line name s bytes it
  request_ends request s bytes (answer.tidy {file = name} it) = library_ends asked.Tidied name s bytes it
  request_ends request s bytes (answer.render {manifest = name} it) = replay_ends None writes.Report name s bytes it
  request_ends request s bytes (answer.replay {manifest = name} {trace = trace} it) = replay_ends (Some trace) writes.Report name s bytes it
  request_ends request s bytes (answer.audit {manifest = name} {trace = trace} it) = replay_ends (Some trace) writes.Certificate name s bytes it
  request_ends request s bytes (answer.check_audit {file = name} it) = check_audit_ends name s bytes it
  request_ends request s bytes (answer.demo {count = count} it) = demo_ends count s bytes it

pub answer_ends : (words : List (List ℕ)) (m : FileMap) (s : Status) (bytes : List ℕ) → Answer words m s bytes → is_answer s ≡ true
answer_ends words m s bytes (answer.of_request {request = request} asks it) = request_ends m request s bytes it
answer_ends words m s bytes (answer.usage never) = refl
