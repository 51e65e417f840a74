-- Where its files are there, a step gives something or stops.
use Rattle.std.proofs.Common.{◌≡◌, ℕ, ◌<◌, ◌≤◌, ◌⊎◌, inl, inr, List, [], length, Option, Some, None, IsSome, refl}
use Rattle.std.proofs.lemmas.Bool.{cases_lt}
use Rattle.host_io.specs.Files.{FileMap}
use Rattle.slot_check.specs.Sources.{Source}
use Rattle.run_steps.specs.declared.ending.Status.{Status}
use Rattle.run_steps.specs.declared.ending.Status.TheVariants as status
use Rattle.run_steps.specs.Page.{file_limit, manifest_limit, trace_limit, IsRead, AreRead, HasManifest, HasBytes}
use Rattle.run_steps.specs.Steps.{Answers, Step, gives, stops, Comes, IsAnswered, NoManifest, long_manifest, bad_manifest, NoFiles, long_file, long_trace, many_items, bad_trace, NoBytes, long_bytes, HasItems, NoItems}
use Rattle.run_steps.specs.Reading.{ComesThrough, each_read, first_long, IsTraceThere}

-- a file that is there is within a limit, or longer
module _ (m : FileMap) (limit : ℕ) (name : List ℕ) {P : Type 0} (short : (file : List ℕ) → m name ≡ Some file → length file ≤ limit → P) (long : (file : List ℕ) → m name ≡ Some file → limit < length file → P) where
  by_length : (file : List ℕ) → m name ≡ Some file → ◌⊎◌ (limit < length file) (length file ≤ limit) → P
  by_length file there (inl more) = long file there more
  by_length file there (inr within) = short file there within

  by_there : (o : Option (List ℕ)) → m name ≡ o → IsSome o → P
  by_there None there is = absurd (let e = is in cc)
  by_there (Some file) there is = by_length file there (cases_lt limit (length file))

  within_or_long : IsSome (m name) → P
  within_or_long is = by_there (m name) refl is

abbrev source_at : List ℕ → List ℕ → Source
source_at name file = record { name = name; bytes = file }

read_at : (m : FileMap) (limit : ℕ) (name file : List ℕ) → m name ≡ Some file → length file ≤ limit → IsRead m limit name (source_at name file)
read_at m limit name file there within = record { named = refl; there = there; within = within }

pub some_manifest : (m : FileMap) (name : List ℕ) → IsSome (m name) → Comes (HasManifest m name) (NoManifest m name)
some_manifest m name is p =
    within_or_long m manifest_limit name
    (λ file there within. p.1 status.BadManifest
    (bad_manifest {source = source_at name file} (read_at m manifest_limit name file there within)
    (λ manifest reads. p.0 manifest (record { source = source_at name file; read = read_at m manifest_limit name file there within; reads = reads }))))
    (λ file there long. p.1 status.TooLarge (long_manifest there long)) is

pub some_files : (m : FileMap) (names : List (List ℕ)) → ComesThrough m file_limit names → Comes (AreRead m file_limit names) (NoFiles m names)
some_files m names (each_read {sources = ss} read) p = p.0 ss read
some_files m names (first_long long) p = p.1 status.TooLarge (long_file long)

pub some_items : (m : FileMap) (names : List (List ℕ)) (trace : Option (List ℕ)) → IsTraceThere m trace → Comes (HasItems m names trace) (NoItems m names trace)
some_items m names None is p = p.0 [] refl
some_items m names (Some trace) is p =
    within_or_long m trace_limit trace
    (λ file there within. p.1 status.BadTrace
    (bad_trace {source = source_at trace file} (read_at m trace_limit trace file there within)
    (λ items reads. p.0 items (record { source = source_at trace file; read = read_at m trace_limit trace file there within; reads = reads }))
    (λ value items json many. p.1 status.TooLarge (many_items {source = source_at trace file} {value = value} {items = items} (read_at m trace_limit trace file there within) json many))))
    (λ file there long. p.1 status.TooLarge (long_trace there long)) is

pub some_bytes : (m : FileMap) (limit : ℕ) (name : List ℕ) → IsSome (m name) → Comes (HasBytes m limit name) (NoBytes m limit name)
some_bytes m limit name is p =
    within_or_long m limit name
    (λ file there within. p.0 file (read_at m limit name file there within))
    (λ file there long. p.1 status.TooLarge (long_bytes there long)) is

-- a step is answered, where what it gives is
module _ {T : Type 0} (Gives : T → Type 0) (Stops : Status → Type 0) (next : T → Answers) where
  pub some_after : Comes Gives Stops → ((given : T) → Gives given → IsAnswered (next given)) → IsAnswered (Step Gives Stops next)
  some_after comes more none = comes (λ x given. more x given (λ s bytes it. none s bytes (gives given it)), λ s it. none s [] (stops it))
