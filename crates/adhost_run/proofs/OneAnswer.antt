-- Words have one answer.
use Rattle.std.proofs.Common.{◌≡◌, ℕ, List, [], length, map, Option, Some, None, Bool, refl, sym, ap, subst, ◌∙◌, arith}
use Rattle.std.specs.List.{zip}
use Rattle.host_io.specs.Files.{FileMap}
use Rattle.serde_json.specs.Data.{Data}
use Rattle.json_shapes.specs.Json.{IsJson}
use Rattle.json_shapes.specs.declared.fault.ShapeFault.TheVariants as fault
use Rattle.trace_reader.specs.declared.item.TraceItem.{TraceItem}
use Rattle.trace_reader.specs.Said.{Said, said}
use Rattle.trace_reader.specs.Trace.{ReadsTrace, HasTooMany}
use Rattle.trace_reader.proofs.OneTrace.{one_trace, refused as refused_trace}
use Rattle.manifest_reader.specs.declared.entry.Manifest.{Manifest}
use Rattle.manifest_reader.specs.Manifest.{ReadsManifest}
use Rattle.script_check.proofs.Verdicts.{one_line as one_library_line, one_text}
use Rattle.slot_check.specs.Sources.{Source}
use Rattle.slot_check.specs.Line.{AreSlotLines}
use Rattle.slot_check.proofs.Written.{lines_once}
use Rattle.page_check.specs.Runs.{SlotRun, slots_named}
use Rattle.reach_cert.specs.Certs.{Slot, cert_text}
use Rattle.reach_cert.specs.Shape.{IsCert}
use Rattle.reach_cert.specs.Walks.{first_leak}
use Rattle.page_play.specs.States.{cert_of_states}
use Rattle.slot_lives.specs.Ends.{run_name}
use Rattle.slot_lives.specs.Outcome.{IsReport, last_lives}
use Rattle.slot_lives.proofs.OneOutcome.{come_once, outcome_once, report_once}
use Rattle.page_play.specs.Told.{IsAudit}
use Rattle.run_steps.specs.declared.ending.Status.{Status}
use Rattle.run_steps.specs.declared.ending.Status.TheVariants as status
use Rattle.run_steps.specs.Page.{file_limit, manifest_limit, trace_limit, cert_limit, IsRead, AreRead, HasBytes, slot_names, files_named, files_swapped, swap_files, slots_with, slots_of, HasManifest, parts, HasTrace}
use Rattle.run_steps.specs.Request.{Request, Check, CheckLib, Tidy, Render, Replay, Audit, CheckAudit, Demo}
use Rattle.run_steps.specs.Steps.{Answers, Step, gives, stops, NoManifest, long_manifest, bad_manifest, NoFiles, long_file, NoBytes, long_bytes, NoTrace, long_trace, many_items, bad_trace, HasItems, NoItems}
use Rattle.run_steps.proofs.Asking.{one_request}
use Rattle.run_steps.proofs.Gathered.{one_read, read_once, not_long, none_long}
use Rattle.run_steps.proofs.Manifests.{SameFiles, manifest_once}
use Rattle.adhost_run.specs.declared.reports.Asked.{Asked}
use Rattle.adhost_run.specs.declared.reports.Asked.TheVariants as asked
use Rattle.adhost_run.specs.declared.playing.Writes.{Writes}
use Rattle.adhost_run.specs.declared.playing.Writes.TheVariants as writes
use Rattle.adhost_run.specs.Page.{runs_with, runs_of}
use Rattle.adhost_run.specs.Answer.{IsText, ending, LibraryAnswer, report, too_large, CheckAnswer, lines, RunAnswer, page_report, AuditAnswer, certificate, long_certificate, PlayAnswer, CertAnswer, keeps, leaks, bad_certificate, leak_line, OfManifest, OfFiles, FromItems, FromFiles, FromManifest, PageAnswer, ReplayAnswer, CheckAuditAnswer, RequestAnswer, check, check_lib, tidy, render, replay, audit, check_audit, demo, Answer, of_request, usage}
use Rattle.adhost_run.specs.Demo.{demo_names, demo_runs, demo_items, short_lines, DemoAnswer, short_report}

-- a library has one text
text_once : (what : Asked) (name file b c : List ℕ) (r s : Bool) → IsText what name file r b → IsText what name file s c → (r ≡ s) × (b ≡ c)
text_once asked.Line = one_library_line
text_once asked.Tidied = one_text

-- and one answer
library_once : (m : FileMap) (what : Asked) (name : List ℕ) (s t : Status) (b c : List ℕ) → LibraryAnswer m what name s b → LibraryAnswer m what name t c → (s ≡ t) × (b ≡ c)
library_once m what name s t b c (report {source = f} r is v) (report {source = g} q also w) =
    let same = one_read m file_limit name f g is also in
    let one = text_once what name g.bytes b c r q (subst (λ x. IsText what name x.bytes r b) same v) w in
    (ap ending one.0, one.1)
library_once m what name s t b c (report {source = f} r is v) (too_large {file = g} there long) = absurd (not_long m file_limit name g f is there long)
library_once m what name s t b c (too_large {file = g} there long) (report {source = f} r is v) = absurd (not_long m file_limit name g f is there long)
library_once m what name s t b c (too_large there long) (too_large also more) = (refl, refl)

-- ## Steps

-- two things have one answer
abbrev OneAnswer : Answers → Answers → Type 0
OneAnswer A B = (s t : Status) (b c : List ℕ) → A s b → B t c → (s ≡ t) × (b ≡ c)

module _ {T : Type 0} (Gives : T → Type 0) (Stops : Status → Type 0) (next : T → Answers) where
  -- a step has one answer, if what it gives has one and it stops with one status
  step_once : ((x y : T) → Gives x → Gives y → OneAnswer (next x) (next y)) → ((s t : Status) → Stops s → Stops t → s ≡ t) → ((x : T) (s : Status) → Gives x → Stops s → ⊥) → OneAnswer (Step Gives Stops next) (Step Gives Stops next)
  step_once same one never s t b c (gives {given = x} given it) (gives {given = y} also other) = same x y given also s t b c it other
  step_once same one never s t b c (gives {given = x} given it) (stops {s = u} other) = absurd (never x u given other)
  step_once same one never s t b c (stops {s = u} it) (gives {given = y} given other) = absurd (never y u given it)
  step_once same one never s t b c (stops it) (stops other) = (one s t it other, refl)

-- ## The manifest

-- two readings of a manifest name the same files
same_files : (m : FileMap) (name : List ℕ) (x y : Manifest) → HasManifest m name x → HasManifest m name y → SameFiles x y
same_files m name x y a b =
    let same = one_read m manifest_limit name a.source b.source a.read b.read in
    manifest_once b.source.bytes x y (subst (λ f. ReadsManifest f.bytes x) same a.reads) b.reads

not_bad : (m : FileMap) (name : List ℕ) (x : Manifest) (f : Source) → HasManifest m name x → IsRead m manifest_limit name f → ((y : Manifest) → ReadsManifest f.bytes y → ⊥) → ⊥
not_bad m name x f has is none = none x (subst (λ s. ReadsManifest s.bytes x) (one_read m manifest_limit name has.source f has.read is) has.reads)

manifest_never : (m : FileMap) (name : List ℕ) (x : Manifest) (s : Status) → HasManifest m name x → NoManifest m name s → ⊥
manifest_never m name x s has (long_manifest {file = f} there long) = not_long m manifest_limit name f has.source has.read there long
manifest_never m name x s has (bad_manifest {source = f} is none) = not_bad m name x f has is none

manifest_stops : (m : FileMap) (name : List ℕ) (s t : Status) → NoManifest m name s → NoManifest m name t → s ≡ t
manifest_stops m name s t (long_manifest there long) (long_manifest also more) = refl
manifest_stops m name s t (long_manifest {file = f} there long) (bad_manifest {source = g} is none) = absurd (not_long m manifest_limit name f g is there long)
manifest_stops m name s t (bad_manifest {source = g} is none) (long_manifest {file = f} there long) = absurd (not_long m manifest_limit name f g is there long)
manifest_stops m name s t (bad_manifest is none) (bad_manifest also never) = refl

of_manifest : (m : FileMap) (name : List ℕ) (next : Manifest → Answers) → ((x y : Manifest) → SameFiles x y → OneAnswer (next x) (next y)) → OneAnswer (OfManifest m name next) (OfManifest m name next)
of_manifest m name next same = step_once (HasManifest m name) (NoManifest m name) next (λ x y a b. same x y (same_files m name x y a b)) (manifest_stops m name) (manifest_never m name)

-- ## Its files

files_stops : (m : FileMap) (names : List (List ℕ)) (s t : Status) → NoFiles m names s → NoFiles m names t → s ≡ t
files_stops m names s t (long_file a) (long_file b) = refl

files_never : (m : FileMap) (names : List (List ℕ)) (x : List Source) (s : Status) → AreRead m file_limit names x → NoFiles m names s → ⊥
files_never m names x s read (long_file long) = none_long m file_limit names x read long

-- two steps over the same files
of_files : (m : FileMap) (ns ms : List (List ℕ)) (next other : List Source → Answers) → ns ≡ ms → ((xs : List Source) → OneAnswer (next xs) (other xs)) → OneAnswer (Step (AreRead m file_limit ns) (NoFiles m ns) next) (Step (AreRead m file_limit ms) (NoFiles m ms) other)
of_files m ns ms next other is one s t b c (gives {given = x} read it) (gives {given = y} also that) =
    let same : x ≡ y = read_once m file_limit ms x y (subst (λ n. AreRead m file_limit n x) is read) also in
    one y s t b c (subst (λ z. next z s b) same it) that
of_files m ns ms next other is one s t b c (gives {given = x} read it) (stops {s = u} that) = absurd (files_never m ms x u (subst (λ n. AreRead m file_limit n x) is read) that)
of_files m ns ms next other is one s t b c (stops {s = u} it) (gives {given = y} also that) = absurd (files_never m ms y u also (subst (λ n. NoFiles m n u) is it))
of_files m ns ms next other is one s t b c (stops it) (stops that) = (files_stops m ms s t (subst (λ n. NoFiles m n s) is it) that, refl)

-- ## Check

check_once : (x y : Manifest) → SameFiles x y → (xs : List Source) → OneAnswer (CheckAnswer x xs) (CheckAnswer y xs)
check_once x y same xs s t b c (lines r l) (lines q k) =
    let slots : slots_of x xs ≡ slots_of y xs = ap (λ ns. slots_with ns xs) same.names in
    let one = lines_once (slots_of y xs) r q b c (subst (λ ss. AreSlotLines ss r b) slots l) k in
    (ap ending one.0, one.1)

page_once : (m : FileMap) (name : List ℕ) → OneAnswer (PageAnswer m name) (PageAnswer m name)
page_once m name = of_manifest m name (λ manifest. OfFiles m manifest (CheckAnswer manifest)) (λ x y same. of_files m (files_named x) (files_named y) (CheckAnswer x) (CheckAnswer y) same.files (check_once x y same))

-- ## A trace

module _ (m : FileMap) (names : List (List ℕ)) where
  trace_of : (trace : List ℕ) (f g : Source) → IsRead m trace_limit trace f → IsRead m trace_limit trace g → f.bytes ≡ g.bytes
  trace_of trace f g a b = ap (λ x. x.bytes) (one_read m trace_limit trace f g a b)

  not_many : (trace : List ℕ) (xs : List TraceItem) (f : Source) (d : Data) (n : ℕ) → HasTrace m names trace xs → IsRead m trace_limit trace f → IsJson f.bytes d → HasTooMany d n → ⊥
  not_many trace xs f d n has is json many =
      let reads : ReadsTrace f.bytes names xs = subst (λ b. ReadsTrace b names xs) (trace_of trace has.source f has.read is) has.reads in
      let memory = refused_trace f.bytes names xs (fault.TooMany n) reads (d, json, many) in cc

  items_never : (trace : Option (List ℕ)) (xs : List TraceItem) (s : Status) → HasItems m names trace xs → NoItems m names trace s → ⊥
  items_never None xs s has none = none
  items_never (Some trace) xs s has (long_trace {file = f} there long) = not_long m trace_limit trace f has.source has.read there long
  items_never (Some trace) xs s has (many_items {source = f} {value = d} {items = n} is json many) = not_many trace xs f d n has is json many
  items_never (Some trace) xs s has (bad_trace {source = f} is none few) = none xs (subst (λ b. ReadsTrace b names xs) (trace_of trace has.source f has.read is) has.reads)

  trace_stops : (trace : List ℕ) (s t : Status) → NoTrace m names trace s → NoTrace m names trace t → s ≡ t
  trace_stops trace s t (long_trace there long) (long_trace also more) = refl
  trace_stops trace s t (long_trace there long) (many_items is json many) = refl
  trace_stops trace s t (long_trace {file = f} there long) (bad_trace {source = g} is none few) = absurd (not_long m trace_limit trace f g is there long)
  trace_stops trace s t (many_items is json many) (long_trace also more) = refl
  trace_stops trace s t (many_items is json many) (many_items also that more) = refl
  trace_stops trace s t (many_items {source = f} {value = d} {items = n} is json many) (bad_trace {source = g} also none few) = absurd (few d n (subst (λ b. IsJson b d) (trace_of trace f g is also) json) many)
  trace_stops trace s t (bad_trace {source = g} is none few) (long_trace {file = f} there long) = absurd (not_long m trace_limit trace f g is there long)
  trace_stops trace s t (bad_trace {source = g} also none few) (many_items {source = f} {value = d} {items = n} is json many) = absurd (few d n (subst (λ b. IsJson b d) (trace_of trace f g is also) json) many)
  trace_stops trace s t (bad_trace is none few) (bad_trace also never fewer) = refl

  items_stops : (trace : Option (List ℕ)) (s t : Status) → NoItems m names trace s → NoItems m names trace t → s ≡ t
  items_stops None s t none also = absurd none
  items_stops (Some trace) s t none also = trace_stops trace s t none also

  -- the items of a trace say the same
  items_once : (trace : Option (List ℕ)) (xs ys : List TraceItem) → HasItems m names trace xs → HasItems m names trace ys → map said xs ≡ map said ys
  items_once None xs ys a b = ap (map said) (a ∙ sym b)
  items_once (Some trace) xs ys a b = one_trace b.source.bytes names xs ys (subst (λ x. ReadsTrace x names xs) (trace_of trace a.source b.source a.read b.read) a.reads) b.reads

  of_trace : (trace : Option (List ℕ)) (next other : List TraceItem → Answers) → ((xs ys : List TraceItem) → map said xs ≡ map said ys → OneAnswer (next xs) (other ys)) → OneAnswer (Step (HasItems m names trace) (NoItems m names trace) next) (Step (HasItems m names trace) (NoItems m names trace) other)
  of_trace trace next other one s t b c (gives {given = x} has it) (gives {given = y} also that) = one x y (items_once trace x y has also) s t b c it that
  of_trace trace next other one s t b c (gives {given = x} has it) (stops {s = u} that) = absurd (items_never trace x u has that)
  of_trace trace next other one s t b c (stops {s = u} it) (gives {given = y} also that) = absurd (items_never trace y u also it)
  of_trace trace next other one s t b c (stops it) (stops that) = (items_stops trace s t it that, refl)

-- ## A page that runs

-- a page has one certificate
audit_once : (channels : List (ℕ × ℕ)) (runs : List SlotRun) (files : List Source) (items : List Said) (r q : Bool) (b c : List ℕ) → IsAudit channels runs files items r b → IsAudit channels runs files items q c → (r ≡ q) × (b ≡ c)
audit_once channels runs files items r q b c x y =
    let all = outcome_once channels runs files items r q x.ends y.ends x.lines y.lines x.outcome y.outcome in
    (all.0, x.whole ∙ ap (λ es. cert_text (cert_of_states (zip (map run_name runs) es))) all.1.0 ∙ sym y.whole)

-- two manifests that name the same files, and two traces that say the same, give one page
module _ (x y : Manifest) (same : SameFiles x y) (sources : List Source) (xs ys : List TraceItem) (items : map said xs ≡ map said ys) (files : List Source) where
  runs_same : runs_of x sources ≡ runs_of y sources
  runs_same = ap (λ ps. runs_with (slots_named ps) sources) same.parts

  run_once : OneAnswer (RunAnswer x sources xs files) (RunAnswer y sources ys files)
  run_once s t b c (page_report r it) (page_report q that) =
      let a = subst (λ ps. IsReport ps x.channels.items (runs_of x sources) files (map said xs) r b) same.parts it in
      let d = subst (λ cs. IsReport (parts y) cs (runs_of x sources) files (map said xs) r b) same.channels a in
      let e = subst (λ rs. IsReport (parts y) y.channels.items rs files (map said xs) r b) runs_same d in
      let f = subst (λ is. IsReport (parts y) y.channels.items (runs_of y sources) files is r b) items e in
      let once = report_once y.channels.items (runs_of y sources) files (map said ys) (parts y) r q b c f that in
      (ap ending once.0, once.1)

  moved : (r : Bool) (b : List ℕ) → IsAudit x.channels.items (runs_of x sources) files (map said xs) r b → IsAudit y.channels.items (runs_of y sources) files (map said ys) r b
  moved r b it =
      let d = subst (λ cs. IsAudit cs (runs_of x sources) files (map said xs) r b) same.channels it in
      let e = subst (λ rs. IsAudit y.channels.items rs files (map said xs) r b) runs_same d in
      subst (λ is. IsAudit y.channels.items (runs_of y sources) files is r b) items e

  certificates : (r q : Bool) (b c : List ℕ) → IsAudit x.channels.items (runs_of x sources) files (map said xs) r b → IsAudit y.channels.items (runs_of y sources) files (map said ys) q c → (r ≡ q) × (b ≡ c)
  certificates r q b c it that = audit_once y.channels.items (runs_of y sources) files (map said ys) r q b c (moved r b it) that

  audited_once : OneAnswer (AuditAnswer x sources xs files) (AuditAnswer y sources ys files)
  audited_once s t b c (certificate r it within) (certificate q that also) = let e = certificates r q b c it that in (ap ending e.0, e.1)
  audited_once s t b c (certificate r it within) (long_certificate {bytes = d} q that above) = absurd (let e = certificates r q b d it that in omega (arith, ap length e.1, within, above))
  audited_once s t b c (long_certificate {bytes = d} r it above) (certificate q that within) = absurd (let e = certificates r q d c it that in omega (arith, ap length e.1, within, above))
  audited_once s t b c (long_certificate r it above) (long_certificate q that also) = (refl, refl)

play_once : (what : Writes) (x y : Manifest) → SameFiles x y → (sources : List Source) (xs ys : List TraceItem) → map said xs ≡ map said ys → (files : List Source) → OneAnswer (PlayAnswer what x sources xs files) (PlayAnswer what y sources ys files)
play_once writes.Report = run_once
play_once writes.Certificate = audited_once

replay_once : (m : FileMap) (name : List ℕ) (trace : Option (List ℕ)) (what : Writes) → OneAnswer (ReplayAnswer m name trace what) (ReplayAnswer m name trace what)
replay_once m name trace what = of_manifest m name (FromManifest m trace what) (λ x y same.
    of_files m (files_named x) (files_named y) (FromFiles m trace what x) (FromFiles m trace what y) same.files (λ sources. from_files x y same sources))
  where
    from_items : (x y : Manifest) → SameFiles x y → (sources : List Source) (xs ys : List TraceItem) → map said xs ≡ map said ys → OneAnswer (FromItems m what x sources xs) (FromItems m what y sources ys)
    from_items x y same sources xs ys items = of_files m (swap_files xs) (swap_files ys) (PlayAnswer what x sources xs) (PlayAnswer what y sources ys) (ap files_swapped items) (play_once what x y same sources xs ys items)

    from_files : (x y : Manifest) → SameFiles x y → (sources : List Source) → OneAnswer (FromFiles m trace what x sources) (FromFiles m trace what y sources)
    from_files x y same sources = subst (λ ns. OneAnswer (FromFiles m trace what x sources) (Step (HasItems m ns trace) (NoItems m ns trace) (FromItems m what y sources))) same.names
        (of_trace m (slot_names x.entries.items) trace (FromItems m what x sources) (FromItems m what y sources) (from_items x y same sources))

-- ## A certificate

-- bytes are the text of one certificate
abbrev pub OneCert : Type 0
OneCert = (x y : List Slot) → IsCert x → IsCert y → cert_text x ≡ cert_text y → x ≡ y

some_line : (a b : ℕ) → Some a ≡ Some b → a ≡ b
some_line a b e = cc

cert_once : OneCert → (bytes : List ℕ) → OneAnswer (CertAnswer bytes) (CertAnswer bytes)
cert_once one_cert bytes s t b c (keeps {slots = x} is text confined) (keeps also other same) = (refl, refl)
cert_once one_cert bytes s t b c (keeps {slots = x} is text confined) (leaks {slots = y} {line = n} also other first) =
    absurd (let e : x ≡ y = one_cert x y is also (sym text ∙ other) in let f : None ≡ Some n = sym confined ∙ ap first_leak e ∙ first in cc)
cert_once one_cert bytes s t b c (keeps {slots = x} is text confined) (bad_certificate none) = absurd (none x is text)
cert_once one_cert bytes s t b c (leaks {slots = x} {line = n} is text first) (keeps {slots = y} also other confined) =
    absurd (let e : x ≡ y = one_cert x y is also (sym text ∙ other) in let f : Some n ≡ None = sym first ∙ ap first_leak e ∙ confined in cc)
cert_once one_cert bytes s t b c (leaks {slots = x} {line = n} is text first) (leaks {slots = y} {line = k} also other that) =
    let e : x ≡ y = one_cert x y is also (sym text ∙ other) in
    (refl, ap leak_line (some_line n k (sym first ∙ ap first_leak e ∙ that)))
cert_once one_cert bytes s t b c (leaks {slots = x} is text first) (bad_certificate none) = absurd (none x is text)
cert_once one_cert bytes s t b c (bad_certificate none) (keeps {slots = y} also other confined) = absurd (none y also other)
cert_once one_cert bytes s t b c (bad_certificate none) (leaks {slots = y} also other first) = absurd (none y also other)
cert_once one_cert bytes s t b c (bad_certificate none) (bad_certificate never) = (refl, refl)

check_audit_once : OneCert → (m : FileMap) (name : List ℕ) → OneAnswer (CheckAuditAnswer m name) (CheckAuditAnswer m name)
check_audit_once one_cert m name = step_once (HasBytes m cert_limit name) (NoBytes m cert_limit name) CertAnswer same stop_once never where
  bytes_same : (x y : List ℕ) → HasBytes m cert_limit name x → HasBytes m cert_limit name y → x ≡ y
  bytes_same x y a d = ap (λ (f : Source). f.bytes) (one_read m cert_limit name (record { name = name; bytes = x }) (record { name = name; bytes = y }) a d)

  same : (x y : List ℕ) → HasBytes m cert_limit name x → HasBytes m cert_limit name y → OneAnswer (CertAnswer x) (CertAnswer y)
  same x y a d = subst (λ z. OneAnswer (CertAnswer x) (CertAnswer z)) (bytes_same x y a d) (cert_once one_cert x)

  stop_once : (s t : Status) → NoBytes m cert_limit name s → NoBytes m cert_limit name t → s ≡ t
  stop_once s t (long_bytes there long) (long_bytes also more) = refl

  never : (x : List ℕ) (s : Status) → HasBytes m cert_limit name x → NoBytes m cert_limit name s → ⊥
  never x s has (long_bytes {file = f} there long) = not_long m cert_limit name f (record { name = name; bytes = x }) has there long

-- ## Requests

-- what answers a request, by the request
abbrev Answering : FileMap → Request → Status → List ℕ → Type 0
Answering m (Check manifest) s b = PageAnswer m manifest s b
Answering m (CheckLib file) s b = LibraryAnswer m asked.Line file s b
Answering m (Tidy file) s b = LibraryAnswer m asked.Tidied file s b
Answering m (Render manifest) s b = ReplayAnswer m manifest None writes.Report s b
Answering m (Replay manifest trace slice) s b = ReplayAnswer m manifest (Some trace) writes.Report s b
Answering m (Audit manifest trace slice) s b = ReplayAnswer m manifest (Some trace) writes.Certificate s b
Answering m (CheckAudit file) s b = CheckAuditAnswer m file s b
Answering m (Demo count) s b = DemoAnswer count s b

answering : (m : FileMap) (r : Request) (s : Status) (b : List ℕ) → RequestAnswer m r s b → Answering m r s b
answering m r s b (check answer) = answer
answering m r s b (check_lib answer) = answer
answering m r s b (tidy answer) = answer
answering m r s b (render answer) = answer
answering m r s b (replay answer) = answer
answering m r s b (audit answer) = answer
answering m r s b (check_audit answer) = answer
answering m r s b (demo answer) = answer

-- `demo` has one answer
demo_once : (count : ℕ) → OneAnswer (DemoAnswer count) (DemoAnswer count)
demo_once count s t b c (short_report {ends = x} come flag) (short_report {ends = y} also other) =
    (refl, ap (short_lines demo_names) (come_once [] (last_lives [] (demo_items count) 0 demo_runs) x y come also))

request_once : OneCert → (m : FileMap) (r : Request) (s t : Status) (b c : List ℕ) → Answering m r s b → Answering m r t c → (s ≡ t) × (b ≡ c)
request_once one_cert m (Check manifest) s t b c x y = page_once m manifest s t b c x y
request_once one_cert m (CheckLib file) s t b c x y = library_once m asked.Line file s t b c x y
request_once one_cert m (Tidy file) s t b c x y = library_once m asked.Tidied file s t b c x y
request_once one_cert m (Render manifest) s t b c x y = replay_once m manifest None writes.Report s t b c x y
request_once one_cert m (Replay manifest trace slice) s t b c x y = replay_once m manifest (Some trace) writes.Report s t b c x y
request_once one_cert m (Audit manifest trace slice) s t b c x y = replay_once m manifest (Some trace) writes.Certificate s t b c x y
request_once one_cert m (CheckAudit file) s t b c x y = check_audit_once one_cert m file s t b c x y
request_once one_cert m (Demo count) s t b c x y = demo_once count s t b c x y

pub answer_once : OneCert → (words : List (List ℕ)) (m : FileMap) (s t : Status) (b c : List ℕ) → Answer words m s b → Answer words m t c → (s ≡ t) × (b ≡ c)
answer_once one_cert words m s t b c (of_request {request = r} asks x) (of_request {request = q} also y) =
    request_once one_cert m q s t b c (subst (λ f. Answering m f s b) (one_request words r q asks also) (answering m r s b x)) (answering m q t c y)
answer_once one_cert words m s t b c (of_request {request = r} asks x) (usage none) = absurd (none (record { request = r; asks = asks }))
answer_once one_cert words m s t b c (usage none) (of_request {request = q} asks y) = absurd (none (record { request = q; asks = asks }))
answer_once one_cert words m s t b c (usage none) (usage also) = (refl, refl)
