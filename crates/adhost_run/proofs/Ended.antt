-- How a run ends.
use Rattle.std.proofs.Common.{◌≡◌, ℕ, ◌≤◌, ◌↔◌, List, [], length, Option, Some, None, IfSome, IsSomeAnd, refl, sym, ap, ◌∙◌, Bool, true, false, append-nil, arith}
use Rattle.host_io.specs.Files.{FileMap}
use Rattle.host_io.specs.Sink.{with_bytes}
use Rattle.run_steps.specs.declared.ending.Status.{Status}
use Rattle.run_steps.specs.declared.ending.Status.TheVariants as status
use Rattle.run_steps.specs.declared.reading.NoReport.{NoReport}
use Rattle.run_steps.specs.declared.reading.NoReport.TheVariants as stop
use Rattle.run_steps.specs.Request.{Request, Asks, IsForm}
use Rattle.run_steps.specs.Reading.{HasFilesFor, HasFiles}
use Rattle.adhost_run.specs.Answer.{ending, RequestAnswer, Answer, of_request, usage, Wrote, WrotePart}
use Rattle.adhost_run.specs.Ends.{is_answer, writes, is_whole, is_audit, AsksAudit, IsConfinedText, Completes, answered, no_memory, no_room, Fits, WritesSink, Written, whole, part}
use Rattle.run_steps.specs.Ends.{IsAnswerStop, status_of}
use Rattle.run_steps.specs.Steps.{Answers}
use Rattle.run_steps.proofs.Asking.{one_request}
use Rattle.run_steps.proofs.Stepping.{told_stop, stop_usage}

-- what answers the request of words answers the words
pub asked_of : (words : List (List ℕ)) (q : Request) → Asks words q → (m : FileMap) (s : Status) (b : List ℕ) → RequestAnswer m q s b → Answer words m s b
asked_of words q asks m s b answer = of_request asks answer

-- and what they need is there
pub needs : (told : Option FileMap) (words : List (List ℕ)) (q : Request) → Asks words q → IsSomeAnd told (HasFiles words) → IsSomeAnd told (λ m. HasFilesFor m q)
needs None words q asks has = has
needs (Some m) words q asks has = has q asks

-- what answers one thing answers another
module _ (A B : FileMap → Answers) (more : (m : FileMap) (s : Status) (b : List ℕ) → A m s b → B m s b) where
  pub pass_report : (told : Option FileMap) (s : Status) (b : List ℕ) → IfSome told (λ m. A m s b) → IfSome told (λ m. B m s b)
  pass_report None s b is = is
  pass_report (Some m) s b is = more m s b is

  pub pass_stop : (told : Option FileMap) (e : NoReport) → IfSome told (λ m. IsAnswerStop (A m) e) → IfSome told (λ m. IsAnswerStop (B m) e)
  pass_stop told e is = told_stop (λ m s. A m s []) (λ m s. B m s []) (λ m s it. more m s [] it) told e is

-- no bytes more
nothing_more : (held : Option (List ℕ)) → held ≡ with_bytes held []
nothing_more None = refl
nothing_more (Some bytes) = ap Some (sym (append-nil bytes))

-- words of no form
pub usage_answer : (told : Option FileMap) (words : List (List ℕ)) (held : Option (List ℕ)) → (IsForm words → ⊥) → IfSome told (λ m. Wrote (Answer words m status.Usage) held held)
usage_answer None words held none = tt
usage_answer (Some m) words held none = record { bytes = []; answer = usage none; appended = nothing_more held }

pub usage_complete : (told : Option FileMap) (words : List (List ℕ)) (calm : Type 0) (room : ℕ) → (IsForm words → ⊥) → IfSome told (λ m. calm → HasFiles words m → Completes (Answer words m) room status.Usage)
usage_complete None words calm room none = tt
usage_complete (Some m) words calm room none = λ is has. answered (usage none)

pub sink_stays : {S : Type 0} (faults : S → ℕ) {sink : S} {Failed Enough : Type 0} → (Failed → ⊥) → WritesSink faults sink sink Failed Enough
sink_stays faults never = record { count = omega arith; cause = λ failed. absurd (never failed); no_rise = λ is. refl; no_fault = λ is. never }

-- there is no report
pub stop_answer : (told : Option FileMap) (words : List (List ℕ)) (e : NoReport) (held : Option (List ℕ)) → IfSome told (λ m. IsAnswerStop (Answer words m) e) → is_answer (status_of e) ≡ true → IfSome told (λ m. Wrote (Answer words m (status_of e)) held held)
stop_answer None words e held given is = tt
stop_answer (Some m) words stop.BadManifest held given is = record { bytes = []; answer = given; appended = nothing_more held }
stop_answer (Some m) words stop.BadTrace held given is = record { bytes = []; answer = given; appended = nothing_more held }
stop_answer (Some m) words stop.TooLarge held given is = record { bytes = []; answer = given; appended = nothing_more held }
stop_answer (Some m) words stop.CertTooLarge held given is = record { bytes = []; answer = given; appended = nothing_more held }
stop_answer (Some m) words stop.BadCert held given is = record { bytes = []; answer = given; appended = nothing_more held }
stop_answer (Some m) words stop.ReadFault held given is = cc
stop_answer (Some m) words stop.Memory held given is = cc

pub stop_is_usage : (words : List (List ℕ)) (q : Request) (e : NoReport) → Asks words q → (status_of e ≡ status.Usage) ↔ (IsForm words → ⊥)
stop_is_usage words q e asks = (λ is. absurd (stop_usage e is), λ none. absurd (none (record { request = q; asks = asks })))

pub stop_complete : (told : Option FileMap) (words : List (List ℕ)) (e : NoReport) (calm : Type 0) (room : ℕ) → IfSome told (λ m. IsAnswerStop (Answer words m) e) → (calm → IsSomeAnd told (HasFiles words) → status_of e ≡ status.ReadFault → ⊥) → IfSome told (λ m. calm → HasFiles words m → Completes (Answer words m) room (status_of e))
stop_complete None words e calm room given never = tt
stop_complete (Some m) words stop.BadManifest calm room given never = λ is has. answered given
stop_complete (Some m) words stop.BadTrace calm room given never = λ is has. answered given
stop_complete (Some m) words stop.TooLarge calm room given never = λ is has. answered given
stop_complete (Some m) words stop.CertTooLarge calm room given never = λ is has. answered given
stop_complete (Some m) words stop.BadCert calm room given never = λ is has. answered given
stop_complete (Some m) words stop.ReadFault calm room given never = λ is has. absurd (never is has refl)
stop_complete (Some m) words stop.Memory calm room given never = λ is has. no_memory

pub stop_not_whole : {P : Type 0} (e : NoReport) → is_whole (status_of e) ≡ true → P
stop_not_whole stop.BadManifest is = cc
stop_not_whole stop.BadTrace is = cc
stop_not_whole stop.TooLarge is = cc
stop_not_whole stop.CertTooLarge is = cc
stop_not_whole stop.BadCert is = cc
stop_not_whole stop.ReadFault is = cc
stop_not_whole stop.Memory is = cc

-- the report is written, or a part of it
written_writes : (refused : Bool) (bytes : List ℕ) (room : ℕ) (old new : Option (List ℕ)) (s : Status) → Written refused bytes room old new s → writes s ≡ true
written_writes true bytes room old new s (whole is) = refl
written_writes false bytes room old new s (whole is) = refl
written_writes refused bytes room old new s (part count short within is) = refl

ending_answers : (refused : Bool) → ending refused ≡ status.WriteFault → ⊥
ending_answers true is = cc
ending_answers false is = cc

module _ (refused : Bool) (bytes : List ℕ) (room : ℕ) (old new : Option (List ℕ)) where
  -- it ends with no status that writes nothing
  pub no_silence : (s t : Status) → Written refused bytes room old new s → writes t ≡ false → s ≡ t → ⊥
  no_silence s t how silent is = let loud : writes t ≡ true = sym (ap writes is) ∙ written_writes refused bytes room old new s how in cc

  pub still_none : (s : Status) {P : Type 0} → Written refused bytes room old new s → writes s ≡ false → P
  still_none s how silent = absurd (no_silence s s how silent refl)

  pub ok_answer : (told : Option FileMap) (words : List (List ℕ)) (s : Status) → IfSome told (λ m. Answer words m (ending refused) bytes) → Written refused bytes room old new s → is_answer s ≡ true → IfSome told (λ m. Wrote (Answer words m s) old new)
  ok_answer None words s answer how is = tt
  ok_answer (Some m) words s answer (whole appended) is = record { bytes = bytes; answer = answer; appended = appended }
  ok_answer (Some m) words s answer (part count short within appended) is = cc

  pub ok_complete : (told : Option FileMap) (words : List (List ℕ)) (s : Status) (calm : Type 0) → IfSome told (λ m. Answer words m (ending refused) bytes) → Written refused bytes room old new s → IfSome told (λ m. calm → HasFiles words m → Completes (Answer words m) room s)
  ok_complete None words s calm answer how = tt
  ok_complete (Some m) words s calm answer (whole appended) = λ is has. answered answer
  ok_complete (Some m) words s calm answer (part count short within appended) = λ is has. no_room answer short

  pub ok_part : (told : Option FileMap) (words : List (List ℕ)) (s : Status) → IfSome told (λ m. Answer words m (ending refused) bytes) → Written refused bytes room old new s → s ≡ status.WriteFault → IfSome told (λ m. WrotePart (Answer words m) room old new)
  ok_part None words s answer how is = tt
  ok_part (Some m) words s answer (whole appended) is = absurd (ending_answers refused is)
  ok_part (Some m) words s answer (part count short within appended) is = record { refused = refused; bytes = bytes; count = count; answer = answer; no_room = short; within = within; appended = appended }

  pub ok_is_usage : (words : List (List ℕ)) (q : Request) (s : Status) → Asks words q → Written refused bytes room old new s → (s ≡ status.Usage) ↔ (IsForm words → ⊥)
  ok_is_usage words q s asks how = (λ is. absurd (no_silence s status.Usage how refl is), λ none. absurd (none (record { request = q; asks = asks })))

  -- the certificate of `audit` is confined
  pub ok_confined : (words : List (List ℕ)) (q : Request) (s : Status) → Asks words q → Written refused bytes room old new s → (is_audit q ≡ true → IsConfinedText bytes) → AsksAudit words → is_whole s ≡ true → Wrote IsConfinedText old new
  ok_confined words q s asks (whole appended) given other is = record { bytes = bytes; answer = given (ap is_audit (one_request words q other.request asks other.asks) ∙ other.audit); appended = appended }
  ok_confined words q s asks (part count short within appended) given other is = cc

-- the room that each answer fits is room for this one
pub fits_one : (told : Option FileMap) (words : List (List ℕ)) (s : Status) (bytes : List ℕ) (room : ℕ) → IfSome told (λ m. Answer words m s bytes) → IsSomeAnd told (λ m. Fits words m room) → length bytes ≤ room
fits_one None words s bytes room answer fits = absurd fits
fits_one (Some m) words s bytes room answer fits = fits s bytes answer

pub sink_as : {S : Type 0} (faults : S → ℕ) {a b : S} {Failed Enough All : Type 0} → WritesSink faults a b Failed Enough → (All → Enough) → WritesSink faults a b Failed All
sink_as faults w has = record { count = w.count; cause = w.cause; no_rise = λ all. w.no_rise (has all); no_fault = λ all. w.no_fault (has all) }
