-- Files that are read in order.
use Rattle.std.proofs.Common.{Vec, Result, Ok, Err, IfOk, ◌≡◌, ℕ, ◌<◌, ◌≤◌, ◌+◌, List, [], ◌∷◌, ◌++◌, length, take, drop, get_or, Option, Some, None, IfSome, All, refl, ap, sym, subst, ◌∙◌, arith, length-take, min}
use Rattle.std.specs.Prelude.{String, string_bytes}
use Rattle.std.specs.declared.alloc.Global.{Global}
use Rattle.std.proofs.lemmas.List.{map-append, take_more, drop_more, take-append-drop, take_all, length_push, length-map}
use Rattle.std.proofs.lemmas.List.Elements.{All-push}
use Rattle.host_io.specs.Files.{FileMap, IsStart}
use Rattle.slot_check.specs.declared.sources.SourceFile.{SourceFile}
use Rattle.slot_check.specs.Sources.{Source}
use Rattle.slot_check.specs.Verdicts.{source_of, sources_of, IsSmall}
use Rattle.explain_run.specs.declared.reading.NotTold.{NotTold}
use Rattle.explain_run.specs.declared.ending.Status.{Status}
use Rattle.explain_run.specs.declared.ending.Status.TheVariants as status
use Rattle.run_steps.specs.Page.{texts, file_limit}
use Rattle.explain_run.specs.Page.{HasBytes, IsRead, AreRead, none, more, IsFirstLong, here, later}
use Rattle.explain_run.specs.Steps.{NoFile, too_long, NoFiles, first_long}

-- ## One file

-- a first part that is within a limit is all
start_is : (limit : ℕ) (o : Option (List ℕ)) (v : List ℕ) → IsStart o (limit + 1) v → length v ≤ limit → o ≡ Some v
start_is limit None v is within = absurd is
start_is limit (Some file) v is within =
    let many : length v ≡ min (limit + 1) (length file) = ap length is ∙ length-take (limit + 1) file in
    let short : length file ≤ limit + 1 = omega (arith, many) in
    ap Some (sym (is ∙ take_all (limit + 1) file short))

pub bytes_of : (told : Option FileMap) (limit : ℕ) (name v : List ℕ) → IfSome told (λ m. IsStart (m name) (limit + 1) v) → length v ≤ limit → IfSome told (λ m. HasBytes m limit name v)
bytes_of None limit name v is within = is
bytes_of (Some m) limit name v is within = record { there = start_is limit (m name) v is within; within = within }

-- one that is beyond it is of a file that is longer
long_is : (m : FileMap) (limit : ℕ) (name : List ℕ) (o : Option (List ℕ)) (v : List ℕ) → m name ≡ o → IsStart o (limit + 1) v → limit < length v → NoFile m limit name status.TooLarge
long_is m limit name None v same is long = absurd is
long_is m limit name (Some file) v same is long =
    let many : length v ≡ min (limit + 1) (length file) = ap length is ∙ length-take (limit + 1) file in
    too_long same (omega (arith, many))

pub long_of : (told : Option FileMap) (limit : ℕ) (name v : List ℕ) → IfSome told (λ m. IsStart (m name) (limit + 1) v) → limit < length v → IfSome told (λ m. NoFile m limit name status.TooLarge)
long_of None limit name v is long = is
long_of (Some m) limit name v is long = long_is m limit name (m name) v refl is long

-- ## Several

push_read : (m : FileMap) (limit : ℕ) (names : List (List ℕ)) (ss : List Source) (name : List ℕ) (s : Source) → AreRead m limit names ss → IsRead m limit name s → AreRead m limit (names ++ name ∷ []) (ss ++ s ∷ [])
push_read m limit names ss name s none is = more is none
push_read m limit names ss name s (more {names = ns} {sources = ts} has rest) is = more has (push_read m limit ns ts name s rest is)

long_behind : (m : FileMap) (limit : ℕ) (names : List (List ℕ)) (ss : List Source) (name file : List ℕ) (rest : List (List ℕ)) → AreRead m limit names ss → m name ≡ Some file → limit < length file → IsFirstLong m limit (names ++ name ∷ rest)
long_behind m limit names ss name file rest none there long = here there long
long_behind m limit names ss name file rest (more {names = ns} {sources = ts} has others) there long = later has (long_behind m limit ns ts name file rest others there long)

module _ (names : List (String Global)) (i : ℕ) (d : String Global) (name : List ℕ) (within : i < length names) (item : d ≡ get_or names i d) (shown : name ≡ string_bytes d) where
  texts_more : texts (take (i + 1) names) ≡ texts (take i names) ++ name ∷ []
  texts_more =
      ap texts (take_more names i d within) ∙ map-append string_bytes (take i names) (get_or names i d ∷ [])
      ∙ ap (λ x. texts (take i names) ++ x ∷ []) (sym (shown ∙ ap string_bytes item))

  texts_left : texts (drop i names) ≡ name ∷ texts (drop (i + 1) names)
  texts_left = ap texts (drop_more names i d within) ∙ ap (λ x. x ∷ texts (drop (i + 1) names)) (sym (shown ∙ ap string_bytes item))

  texts_split : texts (take i names) ++ name ∷ texts (drop (i + 1) names) ≡ texts names
  texts_split = ap (λ x. texts (take i names) ++ x) (sym texts_left) ∙ sym (map-append string_bytes (take i names) (drop i names)) ∙ ap texts (take-append-drop i names)

  pub read_more : (told : Option FileMap) (all grown : List SourceFile) (s : SourceFile) → IfSome told (λ m. AreRead m file_limit (texts (take i names)) (sources_of all)) → IfSome told (λ m. IsRead m file_limit name (source_of s)) → grown ≡ all ++ s ∷ [] → IfSome told (λ m. AreRead m file_limit (texts (take (i + 1) names)) (sources_of grown))
  read_more None all grown s before this after = before
  read_more (Some m) all grown s before this after =
      let whole = push_read m file_limit (texts (take i names)) (sources_of all) name (source_of s) before this in
      let list : sources_of all ++ source_of s ∷ [] ≡ sources_of grown = sym (ap sources_of after ∙ map-append source_of all (s ∷ [])) in
      subst (AreRead m file_limit (texts (take (i + 1) names))) list (subst (λ ns. AreRead m file_limit ns (sources_of all ++ source_of s ∷ [])) (sym texts_more) whole)

  -- the next one is too large
  pub long_here : (m : FileMap) (all : List SourceFile) (s : Status) → AreRead m file_limit (texts (take i names)) (sources_of all) → NoFile m file_limit name s → NoFiles m (texts names) s
  long_here m all s before (too_long {file = f} there long) = first_long (subst (IsFirstLong m file_limit) texts_split (long_behind m file_limit (texts (take i names)) (sources_of all) name f (texts (drop (i + 1) names)) before there long))

pub read_all : (told : Option FileMap) (names : List (String Global)) (i : ℕ) (ss : List Source) → length names ≤ i → IfSome told (λ m. AreRead m file_limit (texts (take i names)) ss) → IfSome told (λ m. AreRead m file_limit (texts names) ss)
read_all None names i ss past read = read
read_all (Some m) names i ss past read = subst (λ ns. AreRead m file_limit (texts ns) ss) (take_all i names past) read

pub all_small : (all grown : List SourceFile) (s : SourceFile) → All IsSmall all → IsSmall s → grown ≡ all ++ s ∷ [] → All IsSmall grown
all_small all grown s before this after = subst (All IsSmall) (sym after) (All-push IsSmall all s before this)

pub many_more : (all grown : List SourceFile) (s : SourceFile) (i : ℕ) → length all ≡ i → grown ≡ all ++ s ∷ [] → length grown ≡ i + 1
many_more all grown s i before after = ap length after ∙ length_push all s ∙ ap (λ n. n + 1) before

pub no_read : (told : Option FileMap) (all : List SourceFile) → all ≡ [] → IfSome told (λ m. AreRead m file_limit [] (sources_of all))
no_read None all is = tt
no_read (Some m) all is = subst (λ a. AreRead m file_limit [] (sources_of a)) (sym is) none

pub none_small : (all : List SourceFile) → all ≡ [] → All IsSmall all
none_small all is = subst (All IsSmall) (sym is) (λ k d within. absurd (omega arith))

pub many_files : (r : Result (Vec SourceFile Global) NotTold) (shown : List (String Global)) (names : List (List ℕ)) → texts shown ≡ names → IfOk r (λ v. length v.items ≡ length shown) → IfOk r (λ v. length v.items ≡ length names)
many_files (Ok v) shown names same many = many ∙ sym (length-map shown string_bytes) ∙ ap length same
many_files (Err e) shown names same many = many
