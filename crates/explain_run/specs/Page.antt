-- A manifest and the files that it names, and a trace.
use Rattle.std.specs.Prelude.{◌≡◌, ℕ, ◌<◌, ◌≤◌, List, [], ◌∷◌, length, Some}
use Rattle.host_io.specs.Files.{FileMap}
use Rattle.manifest_reader.specs.declared.entry.Manifest.{Manifest}
use Rattle.manifest_reader.specs.Manifest.{ReadsManifest}
use Rattle.trace_reader.specs.declared.item.TraceItem.{TraceItem}
use Rattle.trace_reader.specs.Trace.{ReadsTrace}
use Rattle.slot_check.specs.Sources.{Source}
use Rattle.run_steps.specs.Page.{manifest_limit, trace_limit}

-- the file of a name has these bytes, and is within the limit
pub record HasBytes (files : FileMap) (limit : ℕ) (name bytes : List ℕ) : Type 0 where
  pub there : files name ≡ Some bytes
  pub within : length bytes ≤ limit

-- the same of a file under its name
pub record IsRead (files : FileMap) (limit : ℕ) (name : List ℕ) (source : Source) : Type 0 where
  pub named : source.name ≡ name
  pub has : HasBytes files limit name source.bytes

-- so is each of these
pub data AreRead (files : FileMap) (limit : ℕ) : List (List ℕ) → List Source → Type 0 where
  none : AreRead files limit [] []
  more : {name : List ℕ} {source : Source} {names : List (List ℕ)} {sources : List Source} → IsRead files limit name source → AreRead files limit names sources → AreRead files limit (name ∷ names) (source ∷ sources)

-- the first of these files that is not so has more bytes
pub data IsFirstLong (files : FileMap) (limit : ℕ) : List (List ℕ) → Type 0 where
  here : {name file : List ℕ} {rest : List (List ℕ)} → files name ≡ Some file → limit < length file → IsFirstLong files limit (name ∷ rest)
  later : {name : List ℕ} {source : Source} {rest : List (List ℕ)} → IsRead files limit name source → IsFirstLong files limit rest → IsFirstLong files limit (name ∷ rest)

-- the file of a name is this manifest
pub record HasManifest (files : FileMap) (name : List ℕ) (manifest : Manifest) : Type 0 where
  pub bytes : List ℕ
  pub has : HasBytes files manifest_limit name bytes
  pub reads : ReadsManifest bytes manifest

-- the file of a name is a trace for slots of these names
pub record HasTrace (files : FileMap) (names : List (List ℕ)) (name : List ℕ) : Type 0 where
  pub bytes : List ℕ
  pub has : HasBytes files trace_limit name bytes
  pub items : List TraceItem
  pub reads : ReadsTrace bytes names items
