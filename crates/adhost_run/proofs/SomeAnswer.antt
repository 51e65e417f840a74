-- Where each file is there to which the work comes, words have an answer.
use Rattle.std.proofs.Common.{◌≡◌, ℕ, ◌<◌, ◌≤◌, ◌⊎◌, inl, inr, List, [], ◌∷◌, length, map, Bool, Option, Some, None, IsSome, refl}
use Rattle.std.proofs.lemmas.Bool.{cases_lt}
use Rattle.host_io.specs.Files.{FileMap}
use Rattle.style_text.specs.Form.{style_form}
use Rattle.page_output.specs.Printing.{IsStyleForm}
use Rattle.manifest_reader.specs.declared.entry.Manifest.{Manifest}
use Rattle.trace_reader.specs.declared.item.TraceItem.{TraceItem}
use Rattle.trace_reader.specs.Said.{said}
use Rattle.slot_check.specs.Sources.{Source, Slot}
use Rattle.slot_check.specs.Line as lines
use Rattle.slot_check.specs.Line.{IsSlotLine, AreSlotLines}
use Rattle.reach_cert.specs.Certs.{Slot as Block, cert_text}
use Rattle.reach_cert.specs.Shape.{IsCert}
use Rattle.reach_cert.specs.Walks.{first_leak}
use Rattle.run_steps.specs.declared.ending.Status.{Status}
use Rattle.run_steps.specs.declared.ending.Status.TheVariants as status
use Rattle.run_steps.specs.Request.{Request, Check, CheckLib, Tidy, Render, Replay, Audit, CheckAudit, Demo}
use Rattle.run_steps.specs.Page.{file_limit, cert_limit, AreRead, HasBytes, slot_names, files_named, swap_files, HasManifest, slots_of, parts}
use Rattle.run_steps.specs.Steps.{IsAnswered, NoManifest, NoFiles, NoBytes, long_bytes, HasItems, NoItems}
use Rattle.run_steps.specs.Reading.{ComesThrough, HasPageFiles, HasTraceFiles, HasSources, HasRunFiles, HasFilesFor, HasFiles}
use Rattle.run_steps.proofs.Coming.{some_manifest, some_files, some_items, some_bytes, some_after}
use Rattle.page_play.specs.Told.{IsAudit}
use Rattle.adhost_run.specs.declared.reports.Asked.{Asked}
use Rattle.adhost_run.specs.declared.reports.Asked.TheVariants as asked
use Rattle.adhost_run.specs.declared.playing.Writes.{Writes}
use Rattle.adhost_run.specs.declared.playing.Writes.TheVariants as writes
use Rattle.adhost_run.specs.Page.{runs_of}
use Rattle.adhost_run.specs.Demo.{demo_names, demo_runs, demo_items, short_lines, DemoAnswer, short_report}
use Rattle.adhost_run.specs.Answer as answer
use Rattle.adhost_run.specs.Answer.{IsText, LibraryAnswer, CheckAnswer, RunAnswer, AuditAnswer, PlayAnswer, CertAnswer, OfFiles, PageAnswer, FromItems, FromFiles, FromManifest, ReplayAnswer, CheckAuditAnswer, RequestAnswer, Answer}
use Rattle.adhost_run.proofs.SomeReport.{SlotsJudged, RoundsEnd, report_there, audit_there, AreClean, clean_come}

-- a library has a line, and a tidied text
abbrev pub HasText : Asked → Type 0
HasText what = (name file : List ℕ) → ¬ ((refused : Bool) (bytes : List ℕ) → ¬ IsText what name file refused bytes)

-- what answers stand on
pub record Grounds : Type 0 where
  pub judged : SlotsJudged
  pub rounds : RoundsEnd
  pub form : IsStyleForm style_form
  pub line : HasText asked.Line
  pub tidied : HasText asked.Tidied

-- a certificate is confined, or leaks, or there is none
cert_there : (bytes : List ℕ) → IsAnswered (CertAnswer bytes)
cert_there bytes never = never status.BadCert [] (answer.bad_certificate (λ blocks is text. by blocks is text (first_leak blocks) refl))
  where
    by : (blocks : List Block) → IsCert blocks → bytes ≡ cert_text blocks → (leak : Option ℕ) → first_leak blocks ≡ leak → ⊥
    by blocks is text None e = never status.Ok answer.confined_line (answer.keeps is text e)
    by blocks is text (Some n) e = never status.Refused (answer.leak_line n) (answer.leaks is text e)

check_audit_there : (m : FileMap) (name : List ℕ) → IsSome (m name) → IsAnswered (CheckAuditAnswer m name)
check_audit_there m name there = some_after (HasBytes m cert_limit name) (NoBytes m cert_limit name) CertAnswer (some_bytes m cert_limit name there) (λ bytes has. cert_there bytes)

module _ (g : Grounds) where
  -- ## Libraries and slots

  text_there : (what : Asked) → HasText what
  text_there asked.Line = g.line
  text_there asked.Tidied = g.tidied

  library_there : (m : FileMap) (what : Asked) (name : List ℕ) → IsSome (m name) → IsAnswered (LibraryAnswer m what name)
  library_there m what name there never = some_bytes m file_limit name there (λ file has. text_there what name file (λ flag bytes it. never (answer.ending flag) bytes (answer.report flag has it)), too_long)
    where
      too_long : (s : Status) → NoBytes m file_limit name s → ⊥
      too_long s (long_bytes is long) = never status.TooLarge [] (answer.too_large is long)

  slot_line_there : (slot : Slot) → ((flag : Bool) (line : List ℕ) → IsSlotLine slot flag line → ⊥) → ⊥
  slot_line_there slot never = never _ _ (lines.accepted (g.judged slot (λ rule file at first. never _ _ (lines.refused first))))

  slot_lines_there : (slots : List Slot) → ((flag : Bool) (text : List ℕ) → AreSlotLines slots flag text → ⊥) → ⊥
  slot_lines_there [] never = never _ _ lines.none
  slot_lines_there (slot ∷ slots) never = slot_line_there slot (λ flag line it. slot_lines_there slots (λ others text those. never _ _ (lines.more it those)))

  check_there : (manifest : Manifest) (sources : List Source) → IsAnswered (CheckAnswer manifest sources)
  check_there manifest sources never = slot_lines_there (slots_of manifest sources) (λ flag bytes it. never (answer.ending flag) bytes (answer.lines flag it))

  page_there : (m : FileMap) (name : List ℕ) → HasPageFiles m name → IsAnswered (PageAnswer m name)
  page_there m name has =
      some_after (HasManifest m name) (NoManifest m name) (λ manifest. OfFiles m manifest (CheckAnswer manifest)) (some_manifest m name has.manifest) (λ manifest is.
      some_after (AreRead m file_limit (files_named manifest)) (NoFiles m (files_named manifest)) (CheckAnswer manifest) (some_files m (files_named manifest) (has.named manifest is)) (λ sources are. check_there manifest sources))

  -- ## A page that runs

  module _ (manifest : Manifest) (sources : List Source) (items : List TraceItem) (files : List Source) where
    run_there : IsAnswered (RunAnswer manifest sources items files)
    run_there never = report_there g.judged g.rounds manifest.channels.items (runs_of manifest sources) files (map said items) g.form (parts manifest) (λ flag bytes it. never (answer.ending flag) bytes (answer.page_report flag it))

    certificate_there : IsAnswered (AuditAnswer manifest sources items files)
    certificate_there never = audit_there g.judged g.rounds manifest.channels.items (runs_of manifest sources) files (map said items) (λ flag bytes it. by flag bytes it (cases_lt cert_limit (length bytes)))
      where
        by : (flag : Bool) (bytes : List ℕ) → IsAudit manifest.channels.items (runs_of manifest sources) files (map said items) flag bytes → ◌⊎◌ (cert_limit < length bytes) (length bytes ≤ cert_limit) → ⊥
        by flag bytes it (inl above) = never status.CertTooLarge [] (answer.long_certificate flag it above)
        by flag bytes it (inr within) = never (answer.ending flag) bytes (answer.certificate flag it within)

  play_there : (what : Writes) (manifest : Manifest) (sources : List Source) (items : List TraceItem) (files : List Source) → IsAnswered (PlayAnswer what manifest sources items files)
  play_there writes.Report = run_there
  play_there writes.Certificate = certificate_there

  module _ (m : FileMap) (trace : Option (List ℕ)) (what : Writes) where
    from_items : (manifest : Manifest) (sources : List Source) (items : List TraceItem) → ComesThrough m file_limit (swap_files items) → IsAnswered (FromItems m what manifest sources items)
    from_items manifest sources items comes =
        some_after (AreRead m file_limit (swap_files items)) (NoFiles m (swap_files items)) (PlayAnswer what manifest sources items) (some_files m (swap_files items) comes) (λ files are. play_there what manifest sources items files)

    from_files : (manifest : Manifest) (sources : List Source) → HasTraceFiles m (slot_names manifest.entries.items) trace → IsAnswered (FromFiles m trace what manifest sources)
    from_files manifest sources has =
        some_after (HasItems m (slot_names manifest.entries.items) trace) (NoItems m (slot_names manifest.entries.items) trace) (FromItems m what manifest sources) (some_items m (slot_names manifest.entries.items) trace has.there) (λ items is. from_items manifest sources items (has.swapped items is))

    from_manifest : (manifest : Manifest) → HasSources m trace manifest → IsAnswered (FromManifest m trace what manifest)
    from_manifest manifest has =
        some_after (AreRead m file_limit (files_named manifest)) (NoFiles m (files_named manifest)) (FromFiles m trace what manifest) (some_files m (files_named manifest) has.named) (λ sources are. from_files manifest sources (has.traced sources are))

    replay_there : (name : List ℕ) → HasRunFiles m name trace → IsAnswered (ReplayAnswer m name trace what)
    replay_there name has =
        some_after (HasManifest m name) (NoManifest m name) (FromManifest m trace what) (some_manifest m name has.manifest) (λ manifest is. from_manifest manifest (has.sources manifest is))

  -- ## Words

  module _ (clean : AreClean demo_runs) where
    pub demo_answered : (count : ℕ) → (s : Status) × (bytes : List ℕ) × DemoAnswer count s bytes
    demo_answered count =
        let come = clean_come g.rounds (demo_items count) demo_runs clean in
        (status.Ok, short_lines demo_names come.0, short_report come.1 come.2)

    demo_there : (count : ℕ) → IsAnswered (DemoAnswer count)
    demo_there count never = let it = demo_answered count in never it.0 it.1 it.2

    pub request_there : (m : FileMap) (request : Request) → HasFilesFor m request → IsAnswered (RequestAnswer m request)
    request_there m (Check manifest) has never = page_there m manifest has (λ s bytes it. never s bytes (answer.check it))
    request_there m (CheckLib file) has never = library_there m asked.Line file has (λ s bytes it. never s bytes (answer.check_lib it))
    request_there m (Tidy file) has never = library_there m asked.Tidied file has (λ s bytes it. never s bytes (answer.tidy it))
    request_there m (Render manifest) has never = replay_there m None writes.Report manifest has (λ s bytes it. never s bytes (answer.render it))
    request_there m (Replay manifest trace slice) has never = replay_there m (Some trace) writes.Report manifest has (λ s bytes it. never s bytes (answer.replay it))
    request_there m (Audit manifest trace slice) has never = replay_there m (Some trace) writes.Certificate manifest has (λ s bytes it. never s bytes (answer.audit it))
    request_there m (CheckAudit file) has never = check_audit_there m file has (λ s bytes it. never s bytes (answer.check_audit it))
    request_there m (Demo count) has never = demo_there count (λ s bytes it. never s bytes (answer.demo it))

    pub answer_there : (words : List (List ℕ)) (m : FileMap) → HasFiles words m → IsAnswered (Answer words m)
    answer_there words m has never = never status.Usage [] (answer.usage (λ form. request_there m form.request (has form.request form.asks) (λ s bytes it. never s bytes (answer.of_request form.asks it))))
