-- The page of a manifest that was read.
use Rattle.std.proofs.Common.{◌≡◌, ◌≤◌, ℕ, suc, List, [], ◌∷◌, length, map, Vec, Option, Some, None, IfSome, IsSome, IsSomeAnd, Result, Ok, Err, IsErrOf, refl, sym, ap, subst, ◌∙◌, arith, length-append}
use Rattle.std.specs.declared.alloc.Global.{Global}
use Rattle.host_io.specs.Files.{FileMap}
use Rattle.manifest_reader.specs.declared.entry.Entry.{Entry}
use Rattle.manifest_reader.specs.declared.entry.Entry.TheVariants as entry
use Rattle.manifest_reader.specs.declared.entry.Manifest.{Manifest}
use Rattle.manifest_reader.specs.Page.{Part, part_of}
use Rattle.slot_check.specs.declared.sources.SourceFile.{SourceFile}
use Rattle.slot_check.specs.Sources.{Source}
use Rattle.slot_check.specs.Verdicts.{sources_of}
use Rattle.page_check.specs.Runs.{SlotRun, slots_named}
use Rattle.run_steps.specs.declared.reading.NoReport.{NoReport}
use Rattle.run_steps.specs.declared.reading.NoReport.TheVariants as stop
use Rattle.run_steps.specs.Page.{AreRead, HasManifest, file_limit, texts, slot_names, slot_files, files_named}
use Rattle.run_steps.specs.Reading.{ComesThrough, HasPageFiles, ReadsFiles}
use Rattle.run_steps.specs.Steps.{NoFiles, NoManifest}
use Rattle.run_steps.specs.Ends.{IsStop, Stepped}
use Rattle.run_steps.proofs.ReadsLemmas.{reads_as, reads_then}
use Rattle.run_steps.proofs.Stepping.{again, as_stop, none_stops, step_enough, told_enough, told_stop}
use Rattle.page_live.specs.declared.page.LivePage.{LivePage}
use Rattle.page_live.specs.Page.{IsAlive, Lives, names_in, parts_in, runs_of}
use Rattle.live_lines.specs.Outcome.{IsOpened, NoPage, no_manifest, no_files}

-- ## What a page is made of

slots_even : (es : List Entry) → length (slot_names es) ≡ length (slot_files es)
slots_even [] = refl
slots_even (entry.Html content ∷ es) = slots_even es
slots_even (entry.Slot name file fuel ∷ es) = ap suc (slots_even es)

-- there is a file for each name
pub names_within : (manifest : Manifest) (names : List (List ℕ)) (count : ℕ) → names ≡ slot_names manifest.entries.items → count ≡ length (files_named manifest) → length names ≤ count
names_within manifest names count same many =
    omega (arith, ap length same, many, slots_even manifest.entries.items, length-append (slot_files manifest.entries.items) (texts manifest.libs.items))

first_names : (es : List Entry) → map (λ (n : List ℕ × ℕ). n.0) (slots_named (map part_of es)) ≡ slot_names es
first_names [] = refl
first_names (entry.Html content ∷ es) = first_names es
first_names (entry.Slot name file fuel ∷ es) = ap (λ ns. name ∷ ns) (first_names es)

pub names_named : (manifest : Manifest) (names : List (List ℕ)) → names ≡ slot_names manifest.entries.items → names ≡ names_in manifest
names_named manifest names same = same ∙ sym (first_names manifest.entries.items)

-- a page that has taken nothing is alive
pub alive_first : (parts : List Part) (pairs : List (ℕ × ℕ)) (runs : List SlotRun) (p : LivePage) → Lives parts pairs runs [] [] p → IsAlive p
alive_first parts pairs runs p l = record { parts = parts; pairs = pairs; runs = runs; files = []; items = []; is = l }

-- ## Step by step

module _ {F : Type 0} (told : F → Option FileMap) (calm : F → Type 0) (faults : F → ℕ) (name : List ℕ) where
  abbrev Opens : F → F → Result LivePage NoReport → Type 0
  Opens a b r = Stepped told calm faults a b r (λ m page. IsOpened m name page) (λ m. NoPage m name) (λ m. HasPageFiles m name)

  -- there is no manifest
  pub no_manifest_opens : {a b : F} {e : NoReport} → Stepped {T = Manifest} told calm faults a b (Err e) (λ m x. HasManifest m name x) (λ m. NoManifest m name) (λ m. IsSome (m name)) → Opens a b (Err e)
  no_manifest_opens {a} {b} {e} one = record {
    gives = tt;
    stops = told_stop (λ m. NoManifest m name) (λ m. NoPage m name) (λ m s is. no_manifest is) (told a) e one.stops;
    reads = reads_as told calm faults one.reads (again e stop.ReadFault) (told_enough (λ m. HasPageFiles m name) (λ m. IsSome (m name)) (λ m has. has.manifest) (told a));
  }

  module _ (manifest : Manifest) where
    abbrev HasRead : F → F → Type 0
    HasRead a b = Stepped told calm faults a b (Ok manifest) (λ m x. HasManifest m name x) (λ m. NoManifest m name) (λ m. IsSome (m name))

    abbrev ReadsNamed : F → F → Result (Vec SourceFile Global) NoReport → Type 0
    ReadsNamed b c r = Stepped told calm faults b c r (λ m v. AreRead m file_limit (files_named manifest) (sources_of v.items)) (λ m. NoFiles m (files_named manifest)) (λ m. ComesThrough m file_limit (files_named manifest))

    both_read : {a b c : F} {r : Result (Vec SourceFile Global) NoReport} {Fault : Type 0} → HasRead a b → ReadsNamed b c r → (Fault → IsErrOf r stop.ReadFault) → ReadsFiles told calm faults a c Fault (IsSomeAnd (told a) (λ m. HasPageFiles m name))
    both_read {a} {b} {c} one two fails =
        reads_then told calm faults one.reads two.reads fails (told_enough (λ m. HasPageFiles m name) (λ m. IsSome (m name)) (λ m has. has.manifest) (told a))
        (λ all. subst (λ t. IsSomeAnd t (λ m. ComesThrough m file_limit (files_named manifest))) (sym one.reads.same)
        (step_enough (λ m x. HasManifest m name x) manifest (λ m. HasPageFiles m name) (λ m. ComesThrough m file_limit (files_named manifest)) (λ m given has. has.named manifest given) (told a) one.gives all))

    no_files_told : (o : Option FileMap) (e : NoReport) → IfSome o (λ m. HasManifest m name manifest) → IfSome o (λ m. IsStop (NoFiles m (files_named manifest)) e) → IfSome o (λ m. IsStop (NoPage m name) e)
    no_files_told None e given is = tt
    no_files_told (Some m) e given is = as_stop (NoFiles m (files_named manifest)) (NoPage m name) (λ s no. no_files given no) e is

    opened_told : (o : Option FileMap) (sources : List Source) (page : LivePage) → Lives (parts_in manifest) manifest.channels.items (runs_of manifest sources) [] [] page
        → IfSome o (λ m. HasManifest m name manifest) → IfSome o (λ m. AreRead m file_limit (files_named manifest) sources) → IfSome o (λ m. IsOpened m name page)
    opened_told None sources page lives given read = tt
    opened_told (Some m) sources page lives given read = record { manifest = manifest; sources = sources; there = given; read = read; lives = lives }

    -- one of its files is not there, or too large
    pub no_files_opens : {a b c : F} {e : NoReport} → HasRead a b → ReadsNamed b c (Err e) → Opens a c (Err e)
    no_files_opens {a} {b} {c} {e} one two = record {
      gives = tt;
      stops = no_files_told (told a) e one.gives (subst (λ t. IfSome t (λ m. IsStop (NoFiles m (files_named manifest)) e)) one.reads.same two.stops);
      reads = both_read one two (again e stop.ReadFault);
    }

    -- there was no memory
    pub no_memory_opens : {a b c : F} {sources : Vec SourceFile Global} → HasRead a b → ReadsNamed b c (Ok sources) → Opens a c (Err stop.Memory)
    no_memory_opens {a} one two = record {
      gives = tt;
      stops = none_stops (told a);
      reads = both_read one two (λ failed. absurd (let e = failed in cc));
    }

    -- the page was loaded
    pub page_opens : {a b c : F} {sources : Vec SourceFile Global} (page : LivePage) → HasRead a b → ReadsNamed b c (Ok sources) → Lives (parts_in manifest) manifest.channels.items (runs_of manifest (sources_of sources.items)) [] [] page → Opens a c (Ok page)
    page_opens {a} {b} {c} {sources} page one two lives = record {
      gives = opened_told (told a) (sources_of sources.items) page lives one.gives (subst (λ t. IfSome t (λ m. AreRead m file_limit (files_named manifest) (sources_of sources.items))) one.reads.same two.gives);
      stops = tt;
      reads = both_read one two (λ failed. absurd (let e = failed in cc));
    }
