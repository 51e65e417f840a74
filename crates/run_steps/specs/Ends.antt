-- With which status a run ends where a step gives nothing, and the contract of a step.
use Rattle.std.specs.Prelude.{ℕ, [], Option, IfSome, IsSomeAnd, Result, IfOk, IfErr, IsErrOf}
use Rattle.host_io.specs.Files.{FileMap}
use Rattle.run_steps.specs.declared.reading.NoReport.{NoReport}
use Rattle.run_steps.specs.declared.reading.NoReport.TheVariants as stop
use Rattle.run_steps.specs.declared.ending.Status.{Status}
use Rattle.run_steps.specs.declared.ending.Status.TheVariants as status
use Rattle.run_steps.specs.Reading.{ReadsFiles}
use Rattle.run_steps.specs.Steps.{Answers}

-- why there is no report: a status that comes so, a read that failed, or want of memory
abbrev pub IsStop : (Status → Type 0) → NoReport → Type 0
IsStop Stops stop.BadManifest = Stops status.BadManifest
IsStop Stops stop.BadTrace = Stops status.BadTrace
IsStop Stops stop.TooLarge = Stops status.TooLarge
IsStop Stops stop.CertTooLarge = Stops status.CertTooLarge
IsStop Stops stop.BadCert = Stops status.BadCert
IsStop Stops stop.ReadFault = Unit {0}
IsStop Stops stop.Memory = Unit {0}

-- the same of an answer, which has no bytes then
abbrev pub IsAnswerStop : Answers → NoReport → Type 0
IsAnswerStop answer e = IsStop (λ s. answer s []) e

-- the status that it ends with
abbrev pub status_of : NoReport → Status
status_of stop.BadManifest = status.BadManifest
status_of stop.BadTrace = status.BadTrace
status_of stop.TooLarge = status.TooLarge
status_of stop.ReadFault = status.ReadFault
status_of stop.Memory = status.Memory
status_of stop.CertTooLarge = status.CertTooLarge
status_of stop.BadCert = status.BadCert

-- what a step does over files, by what it ended with. `Enough` says that each file is there to which it comes.
pub record Stepped {F T : Type 0} (told : F → Option FileMap) (calm : F → Type 0) (faults : F → ℕ) (old new : F) (result : Result T NoReport) (Gives : FileMap → T → Type 0) (Stops : FileMap → Status → Type 0) (Enough : FileMap → Type 0) : Type 0 where
  pub gives : IfOk result (λ given. IfSome (told old) (λ m. Gives m given))
  pub stops : IfErr result (λ e. IfSome (told old) (λ m. IsStop (Stops m) e))
  pub reads : ReadsFiles told calm faults old new (IsErrOf result stop.ReadFault) (IsSomeAnd (told old) Enough)
