-- What is explained: a status, and the bytes that are written.
use Rattle.std.specs.Prelude.{◌≡◌, ℕ, List, Option, Bool, true, false}
use Rattle.host_io.specs.Files.{FileMap}
use Rattle.host_io.specs.Sink.{with_bytes}
use Rattle.manifest_reader.specs.declared.entry.Manifest.{Manifest}
use Rattle.slot_check.specs.Sources.{Source}
use Rattle.explain_run.specs.declared.ending.Status.{Status}
use Rattle.explain_run.specs.declared.ending.Status.TheVariants as status
use Rattle.explain_run.specs.Request.{Request, Library, Page, Asks, IsForm}
use Rattle.run_steps.specs.Page.{file_limit, slot_names, files_named, slots_of}
use Rattle.explain_run.specs.Page.{HasBytes, AreRead, HasManifest}
use Rattle.explain_run.specs.Steps.{NoFile, NoFiles, NoManifest, IsTraced, NoTraced}
use Rattle.explain_run.specs.Text.{IsToldOfSlots, IsToldOfLibrary}

-- the status where rules are judged, by whether one is broken
abbrev pub ending : Bool → Status
ending true = status.Refused
ending false = status.Ok

-- ## What is told

-- of the library of a name
pub record OfLibrary (files : FileMap) (name : List ℕ) (refused : Bool) (bytes : List ℕ) : Type 0 where
  pub library : List ℕ
  pub has : HasBytes files file_limit name library
  pub told : IsToldOfLibrary name library refused bytes

-- of a manifest with the files that it names, where a trace that is asked for is one
pub record OfSources (files : FileMap) (trace : Option (List ℕ)) (manifest : Manifest) (sources : List Source) (refused : Bool) (bytes : List ℕ) : Type 0 where
  pub traced : IsTraced files (slot_names manifest.entries.items) trace
  pub told : IsToldOfSlots (slots_of manifest sources) refused bytes

-- of a manifest
pub record OfManifest (files : FileMap) (trace : Option (List ℕ)) (manifest : Manifest) (refused : Bool) (bytes : List ℕ) : Type 0 where
  pub sources : List Source
  pub read : AreRead files file_limit (files_named manifest) sources
  pub rest : OfSources files trace manifest sources refused bytes

-- of the manifest of a name
pub record OfPage (files : FileMap) (name : List ℕ) (trace : Option (List ℕ)) (refused : Bool) (bytes : List ℕ) : Type 0 where
  pub manifest : Manifest
  pub has : HasManifest files name manifest
  pub rest : OfManifest files trace manifest refused bytes

-- ## When no rule is judged

-- of a manifest: the first of its files that is not within the limit is too large, or the trace is none
pub data NoSources (files : FileMap) (trace : Option (List ℕ)) (manifest : Manifest) : Status → Type 0 where
  no_files : {s : Status} → NoFiles files (files_named manifest) s → NoSources files trace manifest s
  no_trace : {sources : List Source} {s : Status} → AreRead files file_limit (files_named manifest) sources → NoTraced files (slot_names manifest.entries.items) trace s → NoSources files trace manifest s

-- of the manifest of a name
pub data NoPage (files : FileMap) (name : List ℕ) (trace : Option (List ℕ)) : Status → Type 0 where
  no_manifest : {s : Status} → NoManifest files name s → NoPage files name trace s
  no_sources : {manifest : Manifest} {s : Status} → HasManifest files name manifest → NoSources files trace manifest s → NoPage files name trace s

-- ## The answer

abbrev pub Tells : FileMap → Request → Bool → List ℕ → Type 0
Tells files (Library name) = OfLibrary files name
Tells files (Page name trace) = OfPage files name trace

abbrev pub Stops : FileMap → Request → Status → Type 0
Stops files (Library name) = NoFile files file_limit name
Stops files (Page name trace) = NoPage files name trace

-- Answer: the status of the words over the files, and the bytes that are written; where no rule is judged these are a note
pub data Answer (words : List (List ℕ)) (files : FileMap) : Status → List ℕ → Type 0 where
  tells : {request : Request} {bytes : List ℕ} (refused : Bool) → Asks words request → Tells files request refused bytes → Answer words files (ending refused) bytes
  stops : {request : Request} {s : Status} → Asks words request → Stops files request s → (note : List ℕ) → Answer words files s note
  usage : ¬ IsForm words → (note : List ℕ) → Answer words files status.Usage note

-- the status is that of an answer: no fault, and no want of memory
abbrev pub is_answer : Status → Bool
is_answer status.ReadFault = false
is_answer status.WriteFault = false
is_answer status.Memory = false
is_answer _ = true

-- the status of something that was told before it is written
abbrev pub IsTold : Status → Type 0
IsTold status.WriteFault = ⊥
IsTold status.Memory = ⊥
IsTold _ = Unit {0}

-- an answer, but for a read that failed
abbrev pub AnswerOrFault : List (List ℕ) → FileMap → Status → List ℕ → Type 0
AnswerOrFault words files status.ReadFault bytes = Unit {0}
AnswerOrFault words files s bytes = Answer words files s bytes

-- the bytes of an answer were appended, and nothing else
pub record Wrote (IsAnswer : List ℕ → Type 0) (old new : Option (List ℕ)) : Type 0 where
  pub bytes : List ℕ
  pub answer : IsAnswer bytes
  pub appended : new ≡ with_bytes old bytes
