-- What a read of one file did to files.
use Rattle.std.proofs.Common.{◌≡◌, ℕ, List, Option, Vec, Result, Err, IsErrOf, ap}
use Rattle.std.specs.declared.alloc.Global.{Global}
use Rattle.host_io.specs.Files.{FileMap, IsThere}
use Rattle.run_steps.specs.declared.reading.NoReport.{NoReport}
use Rattle.run_steps.specs.declared.reading.NoReport.TheVariants as stop
use Rattle.run_steps.specs.Reading.{ReadsFiles}
use Rattle.run_steps.proofs.ReadsLemmas.{reads_as}
use Rattle.live_lines.specs.Transcript.{ReadFailed, WasRead}

module _ {D : Type 0} (told : D → Option FileMap) (calm : D → Type 0) (faults : D → ℕ) where
  abbrev Reads : D → D → List ℕ → Result (Vec ℕ Global) NoReport → Type 0
  Reads d e name r = ReadsFiles told calm faults d e (IsErrOf r stop.ReadFault) (IsThere (told d) name)

  -- the file was read, or found too long
  pub was_read : (name : List ℕ) {d e : D} {r : Result (Vec ℕ Global) NoReport} → Reads d e name r → WasRead told calm faults d e name
  was_read name r = reads_as told calm faults r (λ never. absurd never) (λ there. there)

  -- it could not be read
  pub was_unread : (name : List ℕ) {d e : D} {s : NoReport} → s ≡ stop.ReadFault → Reads d e name (Err s) → ReadFailed told calm faults d e name
  was_unread name is r = reads_as told calm faults r (λ failed. ap Err is) (λ there. there)
