-- How a call of `live` ends, and what the sink holds then.
use Rattle.std.specs.Prelude.{◌≡◌, ◌≤◌, ℕ, Bool, true, false, List, [], ◌∷◌, length, take, Option, IfSome, IsSome}
use Rattle.host_io.specs.Files.{FileMap, Rose}
use Rattle.host_io.specs.Sink.{with_bytes}
use Rattle.manifest_reader.specs.declared.entry.Manifest.{Manifest}
use Rattle.manifest_reader.specs.Page.{Part}
use Rattle.slot_check.specs.Sources.{Source}
use Rattle.run_steps.specs.declared.ending.Status.{Status}
use Rattle.run_steps.specs.declared.ending.Status.TheVariants as status
use Rattle.run_steps.specs.Request.{IsCount, slice_limit}
use Rattle.run_steps.specs.Page.{AreRead, HasManifest, file_limit, files_named}
use Rattle.run_steps.specs.Steps.{NoFiles, NoManifest}
use Rattle.run_steps.specs.Reading.{HasPageFiles, ReadsFiles}
use Rattle.widget_meaning.specs.OwnState.{OwnState}
use Rattle.page_check.specs.Runs.{SlotRun, pieces}
use Rattle.live_text.specs.Answer.{Shown}
use Rattle.page_live.specs.findings.Findings.{Findings}
use Rattle.page_live.specs.declared.page.LivePage.{LivePage}
use Rattle.page_live.specs.Page.{AppendsFirst, ComesTo, Lives, parts_in, runs_of}
use Rattle.live_lines.specs.Transcript.{AsksSwap, Served, State}

-- ## Words

-- two words: the name of a manifest, and a slice
pub record AsksPage (words : List (List ℕ)) (name : List ℕ) : Type 0 where
  pub word : List ℕ
  pub slice : ℕ
  pub are : words ≡ name ∷ word ∷ []
  pub count : IsCount slice_limit word slice

-- the words are such
pub record IsLiveForm (words : List (List ℕ)) : Type 0 where
  pub name : List ℕ
  pub asks : AsksPage words name

-- ## The page of a manifest

-- there is none: there is no manifest of the name, or one of the files that it names is too large
pub data NoPage (m : FileMap) (name : List ℕ) : Status → Type 0 where
  no_manifest : {how : Status} → NoManifest m name how → NoPage m name how
  no_files : {manifest : Manifest} {how : Status} → HasManifest m name manifest → NoFiles m (files_named manifest) how → NoPage m name how

-- it was loaded, with the files that its manifest names, and has taken nothing
pub record IsOpened (m : FileMap) (name : List ℕ) (page : LivePage) : Type 0 where
  pub manifest : Manifest
  pub sources : List Source
  pub there : HasManifest m name manifest
  pub read : AreRead m file_limit (files_named manifest) sources
  pub lives : Lives (parts_in manifest) manifest.channels.items (runs_of manifest sources) [] [] page

-- each file is there to which the work comes before the first line; other words need none
abbrev pub HasLiveFiles : List (List ℕ) → FileMap → Type 0
HasLiveFiles words m = (name : List ℕ) → AsksPage words name → HasPageFiles m name

-- the file of each swap that a line asks for is there, whatever the slots are named
abbrev pub IsSwapThere : FileMap → List ℕ → Type 0
IsSwapThere m line = (names : List (List ℕ)) (file : List ℕ) → AsksSwap names line file → IsSome (m file)

-- a count of faults that never rises, as over files of which no read fails
abbrev pub none_failed : {D : Type 0} → D → ℕ
none_failed files = 0

-- ## What is written

-- where a page stands that has taken nothing, when this was written for its slots
abbrev pub first_state : List Shown → State
first_state written = record { items = []; files = []; written = written }

-- what the page of these parts, channels and slots begins with: a line for each slot, with what is written there for it, and the page line
pub data Begins (parts : List Part) (pairs : List (ℕ × ℕ)) (runs : List SlotRun) (bytes : List ℕ) (written : List Shown) : Type 0 where
  begins : {f : Findings} {owns before : List (Option OwnState)} → ComesTo parts pairs runs [] [] f owns before → AppendsFirst f owns (pieces parts) written [] bytes → Begins parts pairs runs bytes written

-- over files by what they tell, whether they are calm, and how many reads have failed: as they stand before (`d`) and behind (`e`)
module _ {D : Type 0} (told : D → Option FileMap) (calm : D → Type 0) (faults : D → ℕ) where
  -- What a sink holds when a page that was loaded has ended, from what it held: what the page begins with and behind it the answers to lines (`Served`); or there was no memory for the beginning, and nothing was written; or writing it failed, and a first part of it stands.
  pub data Ran (parts : List Part) (pairs : List (ℕ × ℕ)) (runs : List SlotRun) (m : FileMap) (lines : List (List ℕ)) (d e : D) (from to : Option (List ℕ)) : Status → Type 0 where
    begun_and_served : {first : List ℕ} {written : List Shown} {how : Status} → Begins parts pairs runs first written → Served told calm faults parts pairs runs m (first_state written) d e lines (with_bytes from first) to how → Ran parts pairs runs m lines d e from to how
    not_begun : to ≡ from → Ran parts pairs runs m lines d e from to status.Memory
    begun_in_part : {first : List ℕ} {written : List Shown} (count : ℕ) → Begins parts pairs runs first written → count ≤ length first → to ≡ with_bytes from (take count first) → Ran parts pairs runs m lines d e from to status.WriteFault

  -- a page that was loaded has run so, where files and lines are told
  abbrev pub RanOn : Option (List (List ℕ)) → LivePage → D → D → Option (List ℕ) → Option (List ℕ) → Status → Type 0
  RanOn left page d e from to how = IfSome (told d) (λ m. IfSome left (λ lines. (parts : List Part) (pairs : List (ℕ × ℕ)) (runs : List SlotRun) → Lives parts pairs runs [] [] page → Ran parts pairs runs m lines d e from to how))

  -- What a sink holds when `live` has ended on these words, over files and lines that are told: the page has run (`Ran`), over the files as they stand when its own were read, or nothing was written, since the words are of no form, there is no page, a file could not be read, or there was no memory.
  pub data LiveOutcome (words : List (List ℕ)) (m : FileMap) (lines : List (List ℕ)) (d e : D) (from to : Option (List ℕ)) : Status → Type 0 where
    ran : {name : List ℕ} {manifest : Manifest} {sources : List Source} {opened : D} {how : Status} → AsksPage words name → HasManifest m name manifest → AreRead m file_limit (files_named manifest) sources → ReadsFiles told calm faults d opened ⊥ (HasPageFiles m name)
        → Ran (parts_in manifest) manifest.channels.items (runs_of manifest sources) m lines opened e from to how → LiveOutcome words m lines d e from to how
    no_form : ¬ IsLiveForm words → to ≡ from → LiveOutcome words m lines d e from to status.Usage
    no_page : {name : List ℕ} {how : Status} → AsksPage words name → NoPage m name how → to ≡ from → LiveOutcome words m lines d e from to how
    file_unread : {name : List ℕ} → AsksPage words name → to ≡ from → LiveOutcome words m lines d e from to status.ReadFault
    unloaded : {name : List ℕ} → AsksPage words name → to ≡ from → LiveOutcome words m lines d e from to status.Memory

-- ## Statuses

-- with these it ends before a page is loaded, and never after
abbrev pub is_early : Status → Bool
is_early status.Ok = false
is_early status.Refused = false
is_early status.ReadFault = false
is_early status.WriteFault = false
is_early status.Memory = false
is_early _ = true

-- how a page that was loaded ends, by how many reads of lines and writes have failed before and after; `Calm` says that no read of a line fails
pub record Ends (Calm : Type 0) (lines_before lines_after writes_before writes_after : ℕ) (how : Status) : Type 0 where
  pub late : is_early how ≡ false
  pub unread : how ≡ status.ReadFault → Rose lines_before lines_after
  pub calm : Calm → ¬ (how ≡ status.ReadFault)
  pub count : writes_before ≤ writes_after
  pub unwritten : how ≡ status.WriteFault → Rose writes_before writes_after
