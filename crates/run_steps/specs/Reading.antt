-- What a call that reads files does, and what it needs.
use Rattle.std.specs.Prelude.{◌≡◌, ℕ, ◌≤◌, ◌<◌, List, length, Option, Some, None, IsSome}
use Rattle.host_io.specs.Files.{FileMap, Rose}
use Rattle.manifest_reader.specs.declared.entry.Manifest.{Manifest}
use Rattle.trace_reader.specs.declared.item.TraceItem.{TraceItem}
use Rattle.slot_check.specs.Sources.{Source}
use Rattle.run_steps.specs.declared.reading.NoReport.{NoReport}
use Rattle.run_steps.specs.declared.reading.NoReport.TheVariants as stop
use Rattle.run_steps.specs.Request.{Request, Check, CheckLib, Tidy, Render, Replay, Audit, CheckAudit, Demo, Asks}
use Rattle.run_steps.specs.Page.{file_limit, AreRead, IsFirstLong, slot_names, files_named, swap_files, HasManifest}
use Rattle.run_steps.specs.Steps.{HasItems}

-- what a call does to files, by what they tell, whether they are calm, and how many reads have failed. `Failed` says that it ended with a fault of a read, `Enough` that each file is there to which it comes.
pub record ReadsFiles {F : Type 0} (told : F → Option FileMap) (calm : F → Type 0) (faults : F → ℕ) (old new : F) (Failed Enough : Type 0) : Type 0 where
  -- they tell what they told, and their count does not fall
  pub same : told new ≡ told old
  pub count : faults old ≤ faults new
  -- a fault comes only where the count rose
  pub cause : Failed → Rose (faults old) (faults new)
  -- over calm files that have enough there is none, the count stays, and they stay calm
  pub no_fault : calm old → Enough → ¬ Failed
  pub no_rise : calm old → Enough → faults new ≡ faults old
  pub stay_calm : calm old → Enough → calm new

-- there is a file, and it has more bytes than the limit
abbrev pub IsLong : Option (List ℕ) → ℕ → Type 0
IsLong None limit = ⊥
IsLong (Some file) limit = limit < length file

-- a reading of these files comes to none that is missing: each is within the limit, or the first that is not is longer
pub data ComesThrough (files : FileMap) (limit : ℕ) (names : List (List ℕ)) : Type 0 where
  each_read : {sources : List Source} → AreRead files limit names sources → ComesThrough files limit names
  first_long : IsFirstLong files limit names → ComesThrough files limit names

-- the manifest of a name is there; and whatever manifest it is, the work comes through the files that it names
pub record HasPageFiles (files : FileMap) (name : List ℕ) : Type 0 where
  pub manifest : IsSome (files name)
  pub named : (manifest : Manifest) → HasManifest files name manifest → ComesThrough files file_limit (files_named manifest)

-- the trace that is asked for is there
abbrev pub IsTraceThere : FileMap → Option (List ℕ) → Type 0
IsTraceThere files None = Unit {0}
IsTraceThere files (Some trace) = IsSome (files trace)

-- and whatever items it has, for slots of these names, the work comes through the files of its swaps
pub record HasTraceFiles (files : FileMap) (names : List (List ℕ)) (trace : Option (List ℕ)) : Type 0 where
  pub there : IsTraceThere files trace
  pub swapped : (items : List TraceItem) → HasItems files names trace items → ComesThrough files file_limit (swap_files items)

-- so for a page that runs, from its manifest on: the work comes through the files that it names, and if they are there to the trace, with the files of its swaps
pub record HasSources (files : FileMap) (trace : Option (List ℕ)) (manifest : Manifest) : Type 0 where
  pub named : ComesThrough files file_limit (files_named manifest)
  pub traced : (sources : List Source) → AreRead files file_limit (files_named manifest) sources → HasTraceFiles files (slot_names manifest.entries.items) trace

-- and from its name on
pub record HasRunFiles (files : FileMap) (name : List ℕ) (trace : Option (List ℕ)) : Type 0 where
  pub manifest : IsSome (files name)
  pub sources : (manifest : Manifest) → HasManifest files name manifest → HasSources files trace manifest

-- each file is there to which the work on a request comes
abbrev pub HasFilesFor : FileMap → Request → Type 0
HasFilesFor files (Check manifest) = HasPageFiles files manifest
HasFilesFor files (CheckLib file) = IsSome (files file)
HasFilesFor files (Tidy file) = IsSome (files file)
HasFilesFor files (Render manifest) = HasRunFiles files manifest None
HasFilesFor files (Replay manifest trace slice) = HasRunFiles files manifest (Some trace)
HasFilesFor files (Audit manifest trace slice) = HasRunFiles files manifest (Some trace)
HasFilesFor files (CheckAudit file) = IsSome (files file)
HasFilesFor files (Demo count) = Unit {0}

-- HasFiles: each file is there to which the work comes; other words need none
abbrev pub HasFiles : List (List ℕ) → FileMap → Type 0
HasFiles words files = (request : Request) → Asks words request → HasFilesFor files request

-- a stop of a read: the file is too large, it could not be read, or there was no memory
abbrev pub IsReadStop : NoReport → Type 0
IsReadStop stop.BadManifest = ⊥
IsReadStop stop.BadTrace = ⊥
IsReadStop stop.CertTooLarge = ⊥
IsReadStop stop.BadCert = ⊥
IsReadStop _ = Unit {0}
