-- Files that are read in order.
use Rattle.std.proofs.Common.{◌≡◌, ℕ, ◌<◌, ◌≤◌, ◌+◌, List, [], ◌∷◌, ◌++◌, length, take, drop, get_or, Option, Some, None, IfSome, IsSomeAnd, All, IsSome, refl, ap, sym, subst, ◌∙◌, arith}
use Rattle.std.specs.Prelude.{String, string_bytes}
use Rattle.std.specs.declared.alloc.Global.{Global}
use Rattle.std.proofs.lemmas.List.{map-append, take_more, drop_more, take-append-drop, take_all, length_push}
use Rattle.std.proofs.lemmas.List.Elements.{All-push}
use Rattle.host_io.specs.Files.{FileMap, IsThere}
use Rattle.slot_check.specs.declared.sources.SourceFile.{SourceFile}
use Rattle.slot_check.specs.Sources.{Source}
use Rattle.slot_check.specs.Verdicts.{source_of, sources_of, IsSmall}
use Rattle.run_steps.specs.Page.{texts, IsRead, AreRead, none, more, IsFirstLong, here, later}
use Rattle.run_steps.specs.Reading.{IsLong, ComesThrough, each_read, first_long}

pub some_is : {A : Type 0} (x y : A) → Some x ≡ Some y → x ≡ y
some_is x y e = cc

-- a file of a name is one
pub one_read : (m : FileMap) (limit : ℕ) (name : List ℕ) (s t : Source) → IsRead m limit name s → IsRead m limit name t → s ≡ t
one_read m limit name s t a b =
    let named : s.name ≡ t.name = a.named ∙ sym b.named in
    let bytes : s.bytes ≡ t.bytes = some_is s.bytes t.bytes (sym a.there ∙ b.there) in
    let with_name : Source → List ℕ → Source = λ x n. record { name = n; bytes = x.bytes } in
    let with_bytes : Source → List ℕ → Source = λ x b. record { name = x.name; bytes = b } in
    ap (with_name s) named ∙ ap (with_bytes t) bytes

pub read_once : (m : FileMap) (limit : ℕ) (names : List (List ℕ)) (ss ts : List Source) → AreRead m limit names ss → AreRead m limit names ts → ss ≡ ts
read_once m limit names sources others none none = refl
read_once m limit names sources others (more {name = n} {source = s} {names = ns} {sources = ss} is rest) (more {source = t} {sources = ts} also more_of) =
    ap (λ x. x ∷ ss) (one_read m limit n s t is also) ∙ ap (λ xs. t ∷ xs) (read_once m limit ns ss ts rest more_of)

-- a file that was read is not too long
pub not_long : (m : FileMap) (limit : ℕ) (name file : List ℕ) (s : Source) → IsRead m limit name s → m name ≡ Some file → limit < length file → ⊥
not_long m limit name file s is there long =
    let same : s.bytes ≡ file = some_is s.bytes file (sym is.there ∙ there) in
    omega (arith, ap length same, is.within, long)

pub none_long : (m : FileMap) (limit : ℕ) (names : List (List ℕ)) (ss : List Source) → AreRead m limit names ss → IsFirstLong m limit names → ⊥
none_long m limit names sources none long = elim long [ ]
none_long m limit names sources (more {name = n} {source = s} is rest) (here {file = file} there long) = not_long m limit n file s is there long
none_long m limit names sources (more {names = ns} {sources = ss} is rest) (later also long) = none_long m limit ns ss rest long

pub there_of : (m : FileMap) (name file : List ℕ) → m name ≡ Some file → IsThere (Some m) name
there_of m name file there = subst IsSome (sym there) refl

-- of files that a reading comes through, the first is there; and if it was read, the reading goes on
abbrev Front : FileMap → ℕ → List (List ℕ) → Type 0
Front m limit [] = Unit {0}
Front m limit (name ∷ names) = IsThere (Some m) name × ((s : Source) → IsRead m limit name s → ComesThrough m limit names)

front_read : (m : FileMap) (limit : ℕ) (names : List (List ℕ)) (ss : List Source) → AreRead m limit names ss → Front m limit names
front_read m limit names sources none = tt
front_read m limit names sources (more {name = n} {source = s} is rest) = (there_of m n s.bytes is.there, λ t also. each_read rest)

front_long : (m : FileMap) (limit : ℕ) (names : List (List ℕ)) → IsFirstLong m limit names → Front m limit names
front_long m limit names (here {name = n} {file = file} there above) = (there_of m n file there, λ t also. absurd (not_long m limit n file t also there above))
front_long m limit names (later {name = n} {source = s} is rest) = (there_of m n s.bytes is.there, λ t also. first_long rest)

front : (m : FileMap) (limit : ℕ) (names : List (List ℕ)) → ComesThrough m limit names → Front m limit names
front m limit names (each_read {sources = ss} read) = front_read m limit names ss read
front m limit names (first_long first) = front_long m limit names first

behind_there : (m : FileMap) (limit : ℕ) (names : List (List ℕ)) (ss : List Source) (name : List ℕ) (rest : List (List ℕ)) → AreRead m limit names ss → ComesThrough m limit (names ++ name ∷ rest) → IsThere (Some m) name
behind_there m limit names ss name rest none through = (front m limit (name ∷ rest) through).0
behind_there m limit names ss name rest (more {name = n} {source = s} {names = ns} {sources = ts} has others) through =
    behind_there m limit ns ts name rest others ((front m limit (n ∷ (ns ++ name ∷ rest)) through).1 s has)

pub read_one : (told : Option FileMap) (limit : ℕ) (name : List ℕ) (s : Source) → IfSome told (λ m. m name ≡ Some s.bytes) → length s.bytes ≤ limit → s.name ≡ name → IfSome told (λ m. IsRead m limit name s)
read_one None limit name s there within named = there
read_one (Some m) limit name s there within named = record { named = named; there = there; within = within }

push_read : (m : FileMap) (limit : ℕ) (names : List (List ℕ)) (ss : List Source) (name : List ℕ) (s : Source) → AreRead m limit names ss → IsRead m limit name s → AreRead m limit (names ++ name ∷ []) (ss ++ s ∷ [])
push_read m limit names ss name s none is = more is none
push_read m limit names ss name s (more {names = ns} {sources = ts} has rest) is = more has (push_read m limit ns ts name s rest is)

long_behind : (m : FileMap) (limit : ℕ) (names : List (List ℕ)) (ss : List Source) (name file : List ℕ) (rest : List (List ℕ)) → AreRead m limit names ss → m name ≡ Some file → limit < length file → IsFirstLong m limit (names ++ name ∷ rest)
long_behind m limit names ss name file rest none there long = here there long
long_behind m limit names ss name file rest (more {names = ns} {sources = ts} has others) there long = later has (long_behind m limit ns ts name file rest others there long)

module _ (names : List (String Global)) (i : ℕ) (d : String Global) (name : List ℕ) (within : i < length names) (item : d ≡ get_or names i d) (shown : name ≡ string_bytes d) where
  texts_more : texts (take (i + 1) names) ≡ texts (take i names) ++ name ∷ []
  texts_more =
      ap texts (take_more names i d within) ∙ map-append string_bytes (take i names) (get_or names i d ∷ [])
      ∙ ap (λ x. texts (take i names) ++ x ∷ []) (sym (shown ∙ ap string_bytes item))

  texts_left : texts (drop i names) ≡ name ∷ texts (drop (i + 1) names)
  texts_left = ap texts (drop_more names i d within) ∙ ap (λ x. x ∷ texts (drop (i + 1) names)) (sym (shown ∙ ap string_bytes item))

  texts_split : texts (take i names) ++ name ∷ texts (drop (i + 1) names) ≡ texts names
  texts_split = ap (λ x. texts (take i names) ++ x) (sym texts_left) ∙ sym (map-append string_bytes (take i names) (drop i names)) ∙ ap texts (take-append-drop i names)

  pub read_more : (told : Option FileMap) (limit : ℕ) (all grown : List SourceFile) (s : SourceFile) → IfSome told (λ m. AreRead m limit (texts (take i names)) (sources_of all)) → IfSome told (λ m. IsRead m limit name (source_of s)) → grown ≡ all ++ s ∷ [] → IfSome told (λ m. AreRead m limit (texts (take (i + 1) names)) (sources_of grown))
  read_more None limit all grown s before this after = before
  read_more (Some m) limit all grown s before this after =
      let whole = push_read m limit (texts (take i names)) (sources_of all) name (source_of s) before this in
      let list : sources_of all ++ source_of s ∷ [] ≡ sources_of grown = sym (ap sources_of after ∙ map-append source_of all (s ∷ [])) in
      subst (AreRead m limit (texts (take (i + 1) names))) list (subst (λ ns. AreRead m limit ns (sources_of all ++ source_of s ∷ [])) (sym texts_more) whole)

  pub long_here : (told : Option FileMap) (limit : ℕ) (all : List SourceFile) → IfSome told (λ m. AreRead m limit (texts (take i names)) (sources_of all)) → IfSome told (λ m. IsLong (m name) limit) → IfSome told (λ m. IsFirstLong m limit (texts names))
  long_here None limit all before long = before
  long_here (Some m) limit all before long = long_at (m name) refl long where
    long_at : (o : Option (List ℕ)) → m name ≡ o → IsLong o limit → IsFirstLong m limit (texts names)
    long_at None there long = absurd long
    long_at (Some file) there long = subst (IsFirstLong m limit) texts_split (long_behind m limit (texts (take i names)) (sources_of all) name file (texts (drop (i + 1) names)) before there long)

  -- where the files can be read, the next one is there
  pub readable_here : (told : Option FileMap) (limit : ℕ) (got : List SourceFile) → IfSome told (λ m. AreRead m limit (texts (take i names)) (sources_of got)) → IsSomeAnd told (λ m. ComesThrough m limit (texts names)) → IsThere told name
  readable_here None limit got before through = through
  readable_here (Some m) limit got before through = behind_there m limit (texts (take i names)) (sources_of got) name (texts (drop (i + 1) names)) before (subst (ComesThrough m limit) (sym texts_split) through)

pub read_all : (told : Option FileMap) (limit : ℕ) (names : List (String Global)) (i : ℕ) (ss : List Source) → length names ≤ i → IfSome told (λ m. AreRead m limit (texts (take i names)) ss) → IfSome told (λ m. AreRead m limit (texts names) ss)
read_all None limit names i ss past read = read
read_all (Some m) limit names i ss past read = subst (λ ns. AreRead m limit (texts ns) ss) (take_all i names past) read

pub all_small : (all grown : List SourceFile) (s : SourceFile) → All IsSmall all → IsSmall s → grown ≡ all ++ s ∷ [] → All IsSmall grown
all_small all grown s before this after = subst (All IsSmall) (sym after) (All-push IsSmall all s before this)

pub many_more : (all grown : List SourceFile) (s : SourceFile) (i : ℕ) → length all ≡ i → grown ≡ all ++ s ∷ [] → length grown ≡ i + 1
many_more all grown s i before after = ap length after ∙ length_push all s ∙ ap (λ n. n + 1) before

pub no_read : (told : Option FileMap) (limit : ℕ) (all : List SourceFile) → all ≡ [] → IfSome told (λ m. AreRead m limit [] (sources_of all))
no_read None limit all is = tt
no_read (Some m) limit all is = subst (λ a. AreRead m limit [] (sources_of a)) (sym is) none

pub none_small : (all : List SourceFile) → all ≡ [] → All IsSmall all
none_small all is = subst (All IsSmall) (sym is) (λ k d within. absurd (omega arith))
