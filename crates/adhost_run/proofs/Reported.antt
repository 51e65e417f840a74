-- From what the files told to the answer to a request.
use Rattle.std.proofs.Common.{◌≡◌, ℕ, ◌≤◌, List, [], length, Option, Some, None, IsSome, IfSome, Ok, Err, IsErrOf, refl, sym, ap, subst, ◌∙◌, Bool, true, false}
use Rattle.host_io.specs.Files.{FileMap, IsThere}
use Rattle.run_steps.specs.declared.ending.Status.{Status}
use Rattle.run_steps.specs.declared.reading.NoReport.{NoReport}
use Rattle.run_steps.specs.declared.reading.NoReport.TheVariants as stop
use Rattle.adhost_run.specs.declared.reports.Asked.{Asked}
use Rattle.adhost_run.specs.declared.reports.Asked.TheVariants as asked
use Rattle.adhost_run.specs.declared.reports.Report.{Report}
use Rattle.adhost_run.specs.declared.playing.Writes.TheVariants as writes
use Rattle.run_steps.specs.Request.{Request, Check, CheckLib, Tidy, Render, Replay, Audit, CheckAudit, Demo}
use Rattle.run_steps.specs.Page.{file_limit}
use Rattle.run_steps.specs.Reading.{ReadsFiles, IsLong, HasFilesFor, IsReadStop}
use Rattle.adhost_run.specs.Answer.{IsText, ending, LibraryAnswer, report, too_large, PageAnswer, ReplayAnswer, CheckAuditAnswer, RequestAnswer, check, check_lib, tidy, render, replay, audit, check_audit, demo}
use Rattle.adhost_run.specs.Demo.{DemoAnswer}
use Rattle.adhost_run.specs.Ends.{Answered, is_audit}
use Rattle.run_steps.proofs.ReadsLemmas.{reads_as}
use Rattle.run_steps.proofs.Stepping.{again, none_stops}
use Rattle.run_steps.proofs.Gotten.{unread, there_and}

-- ## A library

report_of : (told : Option FileMap) (what : Asked) (name file bytes : List ℕ) (refused : Bool) → IfSome told (λ m. m name ≡ Some file) → length file ≤ file_limit → IsText what name file refused bytes → IfSome told (λ m. LibraryAnswer m what name (ending refused) bytes)
report_of None what name file bytes refused there within written = there
report_of (Some m) what name file bytes refused there within written = report refused (record { named = refl; there = there; within = within }) written

module _ {F : Type 0} (told : F → Option FileMap) (calm : F → Type 0) (faults : F → ℕ) (what : Asked) (name : List ℕ) where
  -- it was not read
  pub no_library : {T : Type 0} {a b : F} {e : NoReport} → IsReadStop e → (IsErrOf {T = T} (Err e) stop.TooLarge → IfSome (told a) (λ m. IsLong (m name) file_limit)) → ReadsFiles told calm faults a b (IsErrOf {T = T} (Err e) stop.ReadFault) (IsThere (told a) name) → Answered told calm faults a b (Err e) (λ m. LibraryAnswer m what name) (λ m. IsSome (m name))
  no_library {T} {a} {b} {e} is large reads = record {
    answer = tt;
    stops = unread (λ m s. LibraryAnswer m what name s []) name file_limit (λ m file there long. too_large there long) (told a) e is (λ same. large (ap Err same));
    reads = reads_as told calm faults reads (again e stop.ReadFault) (there_and (told a) name);
  }

  -- there was no memory to judge it
  pub library_unjudged : {a b : F} {Failed : Type 0} → ReadsFiles told calm faults a b Failed (IsThere (told a) name) → Answered told calm faults a b (Err stop.Memory) (λ m. LibraryAnswer m what name) (λ m. IsSome (m name))
  library_unjudged {a} {b} reads = record {
    answer = tt;
    stops = none_stops (told a);
    reads = reads_as told calm faults reads (λ failed. absurd (let e = failed in cc)) (there_and (told a) name);
  }

  -- its text
  pub library_text : {a b : F} {Failed : Type 0} (r : Report) (file shown : List ℕ) → ReadsFiles told calm faults a b Failed (IsThere (told a) name) → IfSome (told a) (λ m. m name ≡ Some file) → length file ≤ file_limit → shown ≡ file → IsText what name shown r.refused r.bytes.items → Answered told calm faults a b (Ok r) (λ m. LibraryAnswer m what name) (λ m. IsSome (m name))
  library_text {a} {b} r file shown reads there within same written = record {
    answer = report_of (told a) what name file r.bytes.items r.refused there within (subst (λ f. IsText what name f r.refused r.bytes.items) same written);
    stops = tt;
    reads = reads_as told calm faults reads (λ failed. absurd (let e = failed in cc)) (there_and (told a) name);
  }

-- ## A request is answered by what it asks for

module _ (q : Request) where
  pub page_in : (name : List ℕ) → q ≡ Check name → (m : FileMap) (s : Status) (b : List ℕ) → PageAnswer m name s b → RequestAnswer m q s b
  page_in name is m s b answer = subst (λ x. RequestAnswer m x s b) (sym is) (check answer)

  pub line_in : (name : List ℕ) → q ≡ CheckLib name → (m : FileMap) (s : Status) (b : List ℕ) → LibraryAnswer m asked.Line name s b → RequestAnswer m q s b
  line_in name is m s b answer = subst (λ x. RequestAnswer m x s b) (sym is) (check_lib answer)

  pub tidied_in : (name : List ℕ) → q ≡ Tidy name → (m : FileMap) (s : Status) (b : List ℕ) → LibraryAnswer m asked.Tidied name s b → RequestAnswer m q s b
  tidied_in name is m s b answer = subst (λ x. RequestAnswer m x s b) (sym is) (tidy answer)

  pub render_in : (name : List ℕ) → q ≡ Render name → (m : FileMap) (s : Status) (b : List ℕ) → ReplayAnswer m name None writes.Report s b → RequestAnswer m q s b
  render_in name is m s b answer = subst (λ x. RequestAnswer m x s b) (sym is) (render answer)

  pub replay_in : (name trace : List ℕ) (slice : ℕ) → q ≡ Replay name trace slice → (m : FileMap) (s : Status) (b : List ℕ) → ReplayAnswer m name (Some trace) writes.Report s b → RequestAnswer m q s b
  replay_in name trace slice is m s b answer = subst (λ x. RequestAnswer m x s b) (sym is) (replay answer)

  pub audit_in : (name trace : List ℕ) (slice : ℕ) → q ≡ Audit name trace slice → (m : FileMap) (s : Status) (b : List ℕ) → ReplayAnswer m name (Some trace) writes.Certificate s b → RequestAnswer m q s b
  audit_in name trace slice is m s b answer = subst (λ x. RequestAnswer m x s b) (sym is) (audit answer)

  pub certified_in : (file : List ℕ) → q ≡ CheckAudit file → (m : FileMap) (s : Status) (b : List ℕ) → CheckAuditAnswer m file s b → RequestAnswer m q s b
  certified_in file is m s b answer = subst (λ x. RequestAnswer m x s b) (sym is) (check_audit answer)

  pub demo_in : (count : ℕ) → q ≡ Demo count → (m : FileMap) (s : Status) (b : List ℕ) → DemoAnswer count s b → RequestAnswer m q s b
  demo_in count is m s b answer = subst (λ x. RequestAnswer m x s b) (sym is) (demo answer)

  -- and what it needs is what that needs
  pub needs_of : (r : Request) → q ≡ r → (m : FileMap) → HasFilesFor m q → HasFilesFor m r
  needs_of r is m has = subst (HasFilesFor m) is has

  -- it asks for no certificate
  pub no_audit : {P : Type 0} (r : Request) → q ≡ r → is_audit r ≡ false → is_audit q ≡ true → P
  no_audit r is none audits = absurd (let e : false ≡ true = sym none ∙ sym (ap is_audit is) ∙ audits in cc)
