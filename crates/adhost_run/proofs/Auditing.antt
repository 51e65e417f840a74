-- The line on a certificate.
use Rattle.std.proofs.Common.{◌≡◌, ℕ, List, [], Some, None, Result, Ok, Err, IfOk, IfErr, IsErrOf, Option, Bool, true, false, refl, sym, subst, ◌∙◌}
use Rattle.code_units.specs.declared.memory.Memory.{Memory}
use Rattle.host_io.specs.Files.{FileMap}
use Rattle.reach_cert.specs.Certs.{Slot, cert_text}
use Rattle.reach_cert.specs.Shape.{IsCert, IsBadLine, IsCertFault}
use Rattle.reach_cert.specs.declared.fault.CertFault.{CertFault}
use Rattle.reach_cert.specs.declared.fault.CertFault.TheVariants as fault
use Rattle.reach_cert.specs.Walks.{IsConfined, first_leak}
use Rattle.run_steps.specs.declared.ending.Status.TheVariants as status
use Rattle.run_steps.specs.declared.reading.NoReport.{NoReport}
use Rattle.run_steps.specs.declared.reading.NoReport.TheVariants as stop
use Rattle.run_steps.specs.Ends.{IsAnswerStop}
use Rattle.adhost_run.specs.declared.reports.Report.{Report}
use Rattle.adhost_run.specs.Answer.{ending, CertAnswer, keeps, leaks, bad_certificate, IsCertStop, confined_line, leak_line}
use Rattle.adhost_run.specs.Ends.{Answered}
use Rattle.adhost_run.proofs.Stepping.{reported, stopped_here}

-- bytes that are refused at a line
pub bad_answer : ((bytes : List ℕ) (line : ℕ) (slots : List Slot) → IsBadLine bytes line → IsCert slots → cert_text slots ≡ bytes → ⊥) → (bytes : List ℕ) {line : ℕ} → IsBadLine bytes line → CertAnswer bytes status.BadCert []
bad_answer no_cert bytes {line} bad = bad_certificate (λ slots is same. no_cert bytes line slots bad is (sym same))

pub bad_found : ((bytes : List ℕ) (line : ℕ) (slots : List Slot) → IsBadLine bytes line → IsCert slots → cert_text slots ≡ bytes → ⊥) → (bytes : List ℕ) (e : CertFault) {line : ℕ} → e ≡ fault.BadCert line → IsCertFault bytes e → CertAnswer bytes status.BadCert []
bad_found no_cert bytes e same bad = bad_answer no_cert bytes (subst (IsCertFault bytes) same bad)

-- a certificate that is confined, and one that is not
pub kept_answer : (bytes : List ℕ) (slots : List Slot) → IsCert slots → cert_text slots ≡ bytes → IsConfined slots → (refused : Bool) (written : List ℕ) → (written ≡ confined_line) × (refused ≡ false) → CertAnswer bytes (ending refused) written
kept_answer bytes slots is text confined refused written how =
    subst (λ r. CertAnswer bytes (ending r) written) (sym how.1) (subst (CertAnswer bytes status.Ok) (sym how.0) (keeps is (sym text) confined))

pub leak_answer : (bytes : List ℕ) (slots : List Slot) (line : ℕ) → IsCert slots → cert_text slots ≡ bytes → first_leak slots ≡ Some line → (refused : Bool) (written : List ℕ) → (written ≡ leak_line line) × (refused ≡ true) → CertAnswer bytes (ending refused) written
leak_answer bytes slots line is text first refused written how =
    subst (λ r. CertAnswer bytes (ending r) written) (sym how.1) (subst (CertAnswer bytes status.Refused) (sym how.0) (leaks is (sym text) first))

-- the reports on them
module _ (leak : Option ℕ) where
  pub kept_report_of : leak ≡ None → (r : Result Report Memory) → IfOk r (λ t. (t.bytes.items ≡ confined_line) × (t.refused ≡ false) × (t.host ≡ None)) → IfOk r (λ t. (slots : List Slot) → IsCert slots → leak ≡ first_leak slots → CertAnswer (cert_text slots) (ending t.refused) t.bytes.items)
  kept_report_of none (Ok t) how = λ slots is first. kept_answer (cert_text slots) slots is refl (sym first ∙ none) t.refused t.bytes.items (how.0, how.1)
  kept_report_of none (Err e) how = tt

  pub leak_report_of : (line : ℕ) → leak ≡ Some line → (r : Result Report Memory) → IfOk r (λ t. (t.bytes.items ≡ leak_line line) × (t.refused ≡ true) × (t.host ≡ None)) → IfOk r (λ t. (slots : List Slot) → IsCert slots → leak ≡ first_leak slots → CertAnswer (cert_text slots) (ending t.refused) t.bytes.items)
  leak_report_of line some (Ok t) how = λ slots is first. leak_answer (cert_text slots) slots line is refl (sym first ∙ some) t.refused t.bytes.items (how.0, how.1)
  leak_report_of line some (Err e) how = tt

cert_stop : (bytes : List ℕ) (e : NoReport) → IsCertStop bytes e → IsAnswerStop (CertAnswer bytes) e
cert_stop bytes stop.BadManifest is = absurd is
cert_stop bytes stop.BadTrace is = absurd is
cert_stop bytes stop.TooLarge is = absurd is
cert_stop bytes stop.ReadFault is = absurd is
cert_stop bytes stop.Memory is = tt
cert_stop bytes stop.CertTooLarge is = absurd is
cert_stop bytes stop.BadCert is = is

cert_read : (bytes : List ℕ) (e : NoReport) → IsCertStop bytes e → IsErrOf {T = Report} (Err e) stop.ReadFault → ⊥
cert_read bytes stop.BadManifest is failed = absurd is
cert_read bytes stop.BadTrace is failed = absurd is
cert_read bytes stop.TooLarge is failed = absurd is
cert_read bytes stop.ReadFault is failed = absurd is
cert_read bytes stop.Memory is failed = let e = failed in cc
cert_read bytes stop.CertTooLarge is failed = absurd is
cert_read bytes stop.BadCert is failed = let e = failed in cc

module _ {F : Type 0} (told : F → Option FileMap) (calm : F → Type 0) (faults : F → ℕ) where
  -- what is answered on the bytes of a file
  pub cert_answered : {a : F} (shown bytes : List ℕ) → shown ≡ bytes → (r : Result Report NoReport) → IfOk r (λ t. CertAnswer shown (ending t.refused) t.bytes.items) → IfErr r (IsCertStop shown) → Answered told calm faults a a r (λ m. CertAnswer bytes) (λ m. Unit {0})
  cert_answered {a} shown bytes same (Ok t) ok stops = reported told calm faults t (λ m. CertAnswer bytes) (λ m. Unit {0}) (λ m. subst (λ b. CertAnswer b (ending t.refused) t.bytes.items) same ok)
  cert_answered {a} shown bytes same (Err e) ok stops = stopped_here told calm faults e (λ m. CertAnswer bytes) (λ m. Unit {0}) (cert_read shown e stops) (λ m. subst (λ b. IsAnswerStop (CertAnswer b) e) same (cert_stop shown e stops))
