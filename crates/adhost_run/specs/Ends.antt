-- Which statuses a run may end with, and when.
use Rattle.std.specs.Prelude.{◌≡◌, ◌↔◌, ℕ, ◌<◌, ◌≤◌, List, length, take, Option, IfSome, IsSomeAnd, Result, IfOk, IfErr, IsErrOf, Bool, true, false}
use Rattle.host_io.specs.Files.{FileMap, Rose}
use Rattle.host_io.specs.Sink.{with_bytes}
use Rattle.run_steps.specs.declared.reading.NoReport.{NoReport}
use Rattle.run_steps.specs.declared.reading.NoReport.TheVariants as stop
use Rattle.run_steps.specs.declared.ending.Status.{Status}
use Rattle.run_steps.specs.declared.ending.Status.TheVariants as status
use Rattle.adhost_run.specs.declared.reports.Report.{Report}
use Rattle.reach_cert.specs.Certs.{Slot, cert_text}
use Rattle.reach_cert.specs.Walks.{IsConfined}
use Rattle.run_steps.specs.Numbers.{number_of}
use Rattle.run_steps.specs.Request.{Request, Audit, Asks, IsForm}
use Rattle.run_steps.specs.Reading.{ReadsFiles, HasFiles}
use Rattle.run_steps.specs.Steps.{Answers}
use Rattle.run_steps.specs.Ends.{IsAnswerStop}
use Rattle.adhost_run.specs.Answer.{ending, Answer, Wrote, WrotePart}

-- the status is that of an answer: no fault, and no want of memory
abbrev pub is_answer : Status → Bool
is_answer status.ReadFault = false
is_answer status.WriteFault = false
is_answer status.Memory = false
is_answer _ = true

-- after these the sink may hold more
abbrev pub writes : Status → Bool
writes status.Ok = true
writes status.Refused = true
writes status.WriteFault = true
writes _ = false

-- how a run ends over calm files that have each file to which the work comes: with an answer, for want of memory, or with a fault of a sink that has no room for the bytes of an answer
pub data Completes (IsAnswer : Status → List ℕ → Type 0) (room : ℕ) : Status → Type 0 where
  answered : {s : Status} {bytes : List ℕ} → IsAnswer s bytes → Completes IsAnswer room s
  no_memory : Completes IsAnswer room status.Memory
  no_room : {s : Status} {bytes : List ℕ} → IsAnswer s bytes → room < length bytes → Completes IsAnswer room status.WriteFault

-- there is room for the bytes of each answer
abbrev pub Fits : List (List ℕ) → FileMap → ℕ → Type 0
Fits words files room = (s : Status) (bytes : List ℕ) → Answer words files s bytes → length bytes ≤ room

-- what a call does to a sink, by how many writes have failed. `Failed` says that it ended with a fault of a write, `Enough` that there is room.
pub record WritesSink {S : Type 0} (faults : S → ℕ) (old new : S) (Failed Enough : Type 0) : Type 0 where
  -- the count does not fall, and a fault comes only where it rose
  pub count : faults old ≤ faults new
  pub cause : Failed → Rose (faults old) (faults new)
  -- where there is room the count stays, and there is no fault
  pub no_rise : Enough → faults new ≡ faults old
  pub no_fault : Enough → ¬ Failed

-- how the writing of a report ends: it is appended whole, or a write fails for want of room, and a first part is appended
pub data Written (refused : Bool) (bytes : List ℕ) (room : ℕ) (old new : Option (List ℕ)) : Status → Type 0 where
  whole : new ≡ with_bytes old bytes → Written refused bytes room old new (ending refused)
  part : (count : ℕ) → room < length bytes → count ≤ length bytes → new ≡ with_bytes old (take count bytes) → Written refused bytes room old new status.WriteFault

-- what an answer does over files, by what it ended with: the report is that of the answer, or there is none. `Enough` says that each file is there to which it comes.
pub record Answered {F : Type 0} (told : F → Option FileMap) (calm : F → Type 0) (faults : F → ℕ) (old new : F) (result : Result Report NoReport) (all : FileMap → Answers) (Enough : FileMap → Type 0) : Type 0 where
  pub answer : IfOk result (λ r. IfSome (told old) (λ m. all m (ending r.refused) r.bytes.items))
  pub stops : IfErr result (λ e. IfSome (told old) (λ m. IsAnswerStop (all m) e))
  pub reads : ReadsFiles told calm faults old new (IsErrOf result stop.ReadFault) (IsSomeAnd (told old) Enough)

-- ## The certificate of `audit`

-- a request for the certificate of a page
abbrev pub is_audit : Request → Bool
is_audit (Audit manifest trace slice) = true
is_audit _ = false

-- the words ask for one
pub record AsksAudit (words : List (List ℕ)) : Type 0 where
  pub request : Request
  pub asks : Asks words request
  pub audit : is_audit request ≡ true

-- the bytes are the text of a certificate that is confined
pub record IsConfinedText (bytes : List ℕ) : Type 0 where
  pub slots : List Slot
  pub text : bytes ≡ cert_text slots
  pub confined : IsConfined slots

-- the status is that of a report that was written whole
abbrev pub is_whole : Status → Bool
is_whole status.Ok = true
is_whole status.Refused = true
is_whole _ = false

-- ## A whole run

-- what a run of these words does to files and to a sink, by the status with which it ends: the clauses of `run`, all but those on the stage
pub record IsRun {F S : Type 0} (told : F → Option FileMap) (calm : F → Type 0) (read_faults : F → ℕ) (held : S → Option (List ℕ)) (takes : S → ℕ) (write_faults : S → ℕ) (words : List (List ℕ)) (old new : F) (from to : S) (s : Status) : Type 0 where
  pub answer : is_answer s ≡ true → IfSome (told old) (λ m. Wrote (Answer words m s) (held from) (held to))
  pub usage : (s ≡ status.Usage) ↔ (¬ IsForm words)
  pub complete : IfSome (told old) (λ m. calm old → HasFiles words m → Completes (Answer words m) (takes from) s)
  pub reads : ReadsFiles told calm read_faults old new (s ≡ status.ReadFault) (IsSomeAnd (told old) (HasFiles words))
  pub sink : WritesSink write_faults from to (s ≡ status.WriteFault) (IsSomeAnd (told old) (λ m. Fits words m (takes from)))
  pub first_part : s ≡ status.WriteFault → IfSome (told old) (λ m. WrotePart (Answer words m) (takes from) (held from) (held to))
  pub still : writes s ≡ false → to ≡ from
  pub confined : AsksAudit words → is_whole s ≡ true → Wrote IsConfinedText (held from) (held to)

-- a number is that of a status with which such a run ends
pub record IsRunNumber {F S : Type 0} (told : F → Option FileMap) (calm : F → Type 0) (read_faults : F → ℕ) (held : S → Option (List ℕ)) (takes : S → ℕ) (write_faults : S → ℕ) (words : List (List ℕ)) (old new : F) (from to : S) (number : ℕ) : Type 0 where
  pub how : Status
  pub is : number ≡ number_of how
  pub run : IsRun told calm read_faults held takes write_faults words old new from to how
