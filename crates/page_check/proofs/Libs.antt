-- The accepted libraries of a manifest, one by one.
use Rattle.std.proofs.Common.{◌≡◌, ℕ, zero, suc, ◌<◌, ◌≤◌, ◌+◌, List, [], ◌∷◌, ◌++◌, length, take, map, get_or, All, Some, None, Result, refl, sym, ap, subst, ◌∙◌, arith}
use Rattle.std.specs.Prelude.{slice_get}
use Rattle.std.proofs.lemmas.List.{length-map, length_push, take_all}
use Rattle.std.proofs.lemmas.List.Elements.{All-push}
use Rattle.std.proofs.lemmas.Option.{slice_get_within}
use Rattle.first_breach.specs.declared.Breach.{Breach}
use Rattle.js_tree.specs.Plain.{Stmts}
use Rattle.js_tree.specs.Trees.{program_of}
use Rattle.adsafe_rules.specs.declared.accepted.Accepted.{Accepted}
use Rattle.adsafe_rules.specs.declared.scope.Scope.TheVariants as scope
use Rattle.adsafe_rules.specs.Accepts.{tree_of}
use Rattle.adsafe_rules.specs.Program.{IsClean}
use Rattle.script_check.specs.Script.{LibFirst}
use Rattle.script_check.specs.Verdict.{IsAccepted}
use Rattle.script_check.proofs.Written.{script_of}
use Rattle.script_check.proofs.Verdicts.{not_clean}
use Rattle.slot_check.specs.declared.sources.SourceFile.{SourceFile}
use Rattle.slot_check.specs.Sources.{Source}
use Rattle.slot_check.specs.Slot.{AreClean}
use Rattle.slot_check.specs.Slot as slots
use Rattle.slot_check.specs.Verdicts.{source_of, sources_of, IsLibraryJudged, IsJudgedAt}
use Rattle.page_plan.specs.Contents.{program_at}
use Rattle.page_check.specs.Judged.{IsKept, AreKept, none, more, KeepsOne}
use Rattle.page_check.proofs.Lists.{all_more}
use Rattle.page_check.proofs.OneWidget.{one_script}

-- ## At a place

pub as_many : (accepted : List Accepted) (libs : List Source) (places : List ℕ) → AreKept accepted libs places → length places ≡ length libs
as_many accepted libs places none = refl
as_many accepted libs places (more {libs = ls} {places = ps} is rest) = ap suc (as_many accepted ls ps rest)

none_some : (lib : Source) → None ≡ Some lib → ⊥
none_some lib e = cc

some_is : (a b : Source) → Some a ≡ Some b → a ≡ b
some_is a b e = cc

kept_at : (accepted : List Accepted) (libs : List Source) (places : List ℕ) (n : ℕ) (lib : Source) → AreKept accepted libs places → slice_get libs n ≡ Some lib → IsKept accepted lib.bytes (get_or places n 0)
kept_at accepted libs places n lib none there = absurd (none_some lib there)
kept_at accepted libs places zero lib (more {library = l} {place = p} is rest) there = subst (λ s. IsKept accepted s.bytes p) (some_is l lib there) is
kept_at accepted libs places (suc n) lib (more {libs = ls} {places = ps} is rest) there = kept_at accepted ls ps n lib rest there

-- the programs of a widget's libraries are those at their places
pub programs_kept : (accepted : List Accepted) (libs : List Source) (places : List ℕ) (names : List (List ℕ)) (at : List ℕ) (programs : List Stmts) → AreKept accepted libs places → AreClean libs names at programs → map (program_at accepted) (map (λ lib. get_or places lib 0) at) ≡ programs
programs_kept accepted libs places names at programs are slots.none = refl
programs_kept accepted libs places names at programs are (slots.more {place = n} {lib = l} {program = p} {names = ns} {places = ats} {programs = ps} is script rest) =
    let here = (kept_at accepted libs places n l are is.there).program p script in
    ap (λ x. x ∷ map (program_at accepted) (map (λ lib. get_or places lib 0) ats)) here ∙ ap (λ xs. p ∷ xs) (programs_kept accepted libs places ns ats ps are rest)

-- and stand within them
pub places_kept : (accepted : List Accepted) (libs : List Source) (places : List ℕ) (names : List (List ℕ)) (at : List ℕ) (programs : List Stmts) → AreKept accepted libs places → AreClean libs names at programs → All (λ p. p < length accepted) (map (λ lib. get_or places lib 0) at)
places_kept accepted libs places names at programs are slots.none = λ k d within. absurd (omega (arith, within))
places_kept accepted libs places names at programs are (slots.more {place = n} {lib = l} {program = p} {names = ns} {places = ats} {programs = ps} is script rest) =
    all_more (λ q. q < length accepted) (get_or places n 0) (map (λ lib. get_or places lib 0) ats) ((kept_at accepted libs places n l are is.there).within p script) (places_kept accepted libs places ns ats ps are rest)

-- each of them has a place
pub clean_within : (libs : List Source) (names : List (List ℕ)) (at : List ℕ) (programs : List Stmts) (many : ℕ) → many ≡ length libs → AreClean libs names at programs → All (λ n. n < many) at
clean_within libs names at programs many same slots.none = λ k d within. absurd (omega arith)
clean_within libs names at programs many same (slots.more {place = n} {lib = l} {names = ns} {places = ats} {programs = ps} is script rest) =
    all_more (λ m. m < many) n ats (omega (arith, same, slice_get_within libs n l is.there)) (clean_within libs ns ats ps many same rest)

-- ## One more

-- a place keeps its program as others come behind it
kept_on : (old new : List Accepted) (library : List ℕ) (place : ℕ) → length old ≤ length new → ((n : ℕ) → n < length old → program_at new n ≡ program_at old n) → IsKept old library place → IsKept new library place
kept_on old new library place longer stay is = record {
  within = λ p script. omega (arith, longer, is.within p script);
  program = λ p script. stay place (is.within p script) ∙ is.program p script;
}

all_kept_on : (old new : List Accepted) (libs : List Source) (places : List ℕ) → length old ≤ length new → ((n : ℕ) → n < length old → program_at new n ≡ program_at old n) → AreKept old libs places → AreKept new libs places
all_kept_on old new libs places longer stay none = none
all_kept_on old new libs places longer stay (more {library = l} {place = p} {libs = ls} {places = ps} is rest) = more (kept_on old new l.bytes p longer stay is) (all_kept_on old new ls ps longer stay rest)

push_kept : (accepted : List Accepted) (libs : List Source) (places : List ℕ) (lib : Source) (place : ℕ) → AreKept accepted libs places → IsKept accepted lib.bytes place → AreKept accepted (libs ++ lib ∷ []) (places ++ place ∷ [])
push_kept accepted libs places lib place none is = more is none
push_kept accepted libs places lib place (more {libs = ls} {places = ps} has rest) is = more has (push_kept accepted ls ps lib place rest is)

-- the libraries before a place, and the one there
there_more : (libs : List Source) (i : ℕ) (lib : Source) → slice_get libs i ≡ Some lib → take (i + 1) libs ≡ take i libs ++ lib ∷ []
there_more [] i lib there = absurd (none_some lib there)
there_more (l ∷ ls) zero lib there = ap (λ x. x ∷ []) (some_is l lib there)
there_more (l ∷ ls) (suc i) lib there = let on : suc i + 1 ≡ suc (i + 1) = omega arith in ap (λ n. take n (l ∷ ls)) on ∙ ap (λ xs. l ∷ xs) (there_more ls i lib there)

pub kept_more : (libs : List Source) (i : ℕ) (r : Result Accepted Breach) (old new : List Accepted) (places grown : List ℕ) (place : ℕ) → IsJudgedAt libs i r → AreKept old (take i libs) places → ((library : List ℕ) → IsLibraryJudged library r → KeepsOne library old new) → place ≡ length old → grown ≡ places ++ place ∷ [] → AreKept new (take (i + 1) libs) grown
kept_more libs i r old new places grown place at before keeps same after =
    let one = keeps at.lib.bytes at.is in
    let here : IsKept new at.lib.bytes place = subst (IsKept new at.lib.bytes) (sym same) one.one in
    let all = push_kept new (take i libs) places at.lib place (all_kept_on old new (take i libs) places one.longer one.stay before) here in
    subst (AreKept new (take (i + 1) libs)) (sym after) (subst (λ ls. AreKept new ls (places ++ place ∷ [])) (sym (there_more libs i at.lib at.there)) all)

pub kept_all : (accepted : List Accepted) (libs : List SourceFile) (i : ℕ) (places : List ℕ) → length libs ≤ i → AreKept accepted (take i (sources_of libs)) places → AreKept accepted (sources_of libs) places
kept_all accepted libs i places end kept = subst (λ ls. AreKept accepted ls places) (take_all i (sources_of libs) (omega (arith, end, length-map libs source_of))) kept

pub none_kept : (accepted : List Accepted) (places : List ℕ) → places ≡ [] → AreKept accepted [] places
none_kept accepted places is = subst (AreKept accepted []) (sym is) none

-- breaks no rule as a library
abbrev pub IsCleanLib : Accepted → Type 0
IsCleanLib a = IsClean (program_of (tree_of a)) scope.Lib

pub none_clean : (accepted : List Accepted) → accepted ≡ [] → All IsCleanLib accepted
none_clean accepted is = subst (All IsCleanLib) (sym is) (λ k d within. absurd (omega arith))

-- ## One library

module _ (library : List ℕ) (old new : List Accepted) where
  -- one that breaks a rule is no program
  pub keeps_none : (rule at : ℕ) → LibFirst library rule at → new ≡ old → KeepsOne library old new
  keeps_none rule at first same = record {
    longer = omega (arith, ap length same);
    stay = λ n within. ap (λ xs. program_at xs n) same;
    one = record {
      within = λ p script. absurd (not_clean library scope.Lib rule at first (record { program = p; script = script }));
      program = λ p script. absurd (not_clean library scope.Lib rule at first (record { program = p; script = script }));
    };
    clean = λ all. subst (All IsCleanLib) (sym same) all;
  }

  behind : (xs : List Accepted) (a : Accepted) → program_at (xs ++ a ∷ []) (length xs) ≡ program_of (tree_of a)
  behind [] a = refl
  behind (x ∷ xs) a = behind xs a

  before : (xs : List Accepted) (a : Accepted) (n : ℕ) → n < length xs → program_at (xs ++ a ∷ []) n ≡ program_at xs n
  before [] a n within = absurd (omega arith)
  before (x ∷ xs) a zero within = refl
  before (x ∷ xs) a (suc n) within = before xs a n (omega arith)

  -- one that breaks none stands behind the others
  pub keeps_one : (a : Accepted) → IsAccepted library scope.Lib a → new ≡ old ++ a ∷ [] → KeepsOne library old new
  keeps_one a is after = record {
    longer = omega (arith, ap length after, length_push old a);
    stay = λ n within. ap (λ xs. program_at xs n) after ∙ before old a n within;
    one = record {
      within = λ p script. omega (arith, ap length after, length_push old a);
      program = λ p script. ap (λ xs. program_at xs (length old)) after ∙ behind old a ∙ one_script library scope.Lib (program_of (tree_of a)) p (script_of library scope.Lib a is) script;
    };
    clean = λ all. subst (All IsCleanLib) (sym after) (All-push IsCleanLib old a all (script_of library scope.Lib a is).clean);
  }
