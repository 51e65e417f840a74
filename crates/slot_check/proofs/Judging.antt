-- The libraries of a manifest, one by one.
use Rattle.std.proofs.Common.{◌≡◌, ℕ, zero, suc, ◌<◌, ◌+◌, List, [], ◌∷◌, ◌++◌, length, take, get_or, Option, Some, None, Result, refl, sym, ap, subst, ◌∙◌, arith, string_bytes}
use Rattle.std.specs.Prelude.{slice_get}
use Rattle.std.proofs.Math.ListN.{set}
use Rattle.std.proofs.lemmas.List.{map-append, take_more, length-map}
use Rattle.code_units.specs.Utf8.{units_of}
use Rattle.first_breach.specs.declared.Breach.{Breach}
use Rattle.adsafe_rules.specs.declared.accepted.Accepted.{Accepted}
use Rattle.slot_check.specs.declared.sources.SourceFile.{SourceFile}
use Rattle.slot_check.specs.declared.libraries.Known.{Known}
use Rattle.slot_check.specs.declared.libraries.Known.TheVariants as known
use Rattle.slot_check.specs.declared.libraries.Libraries.{Libraries}
use Rattle.slot_check.specs.Sources.{Source, key_of, keys_of}
use Rattle.slot_check.specs.Verdicts.{source_of, sources_of, IsKnown, AreKnown, no_library, one_library, IsCleanAt, IsVerdictAt, IsLibraryJudged, IsJudgedAt, AreJudged}

-- the libraries before a place, and one more
pub sources_more : (libs : List SourceFile) (i : ℕ) (lib : SourceFile) → i < length libs → lib ≡ get_or libs i lib → sources_of (take (i + 1) libs) ≡ sources_of (take i libs) ++ source_of lib ∷ []
sources_more libs i lib within is =
    ap sources_of (take_more libs i lib within) ∙ ap (λ x. sources_of (take i libs ++ x ∷ [])) (sym is) ∙ map-append source_of (take i libs) (lib ∷ [])

pub keys_more : (libs : List SourceFile) (i : ℕ) (lib : SourceFile) (keys grown : List (List ℕ)) (key : List ℕ) → i < length libs → lib ≡ get_or libs i lib → keys ≡ keys_of (sources_of (take i libs)) → key ≡ units_of (string_bytes lib.name) → grown ≡ keys ++ key ∷ [] → grown ≡ keys_of (sources_of (take (i + 1) libs))
keys_more libs i lib keys grown key within is before this after =
    after ∙ ap (λ ks. ks ++ key ∷ []) before ∙ ap (λ k. keys_of (sources_of (take i libs)) ++ k ∷ []) this
    ∙ sym (ap keys_of (sources_more libs i lib within is) ∙ map-append key_of (sources_of (take i libs)) (source_of lib ∷ []))

push_unjudged : (libs : List Source) (lib : Source) (ks : List Known) → AreKnown libs ks → AreKnown (libs ++ lib ∷ []) (ks ++ known.Unjudged ∷ [])
push_unjudged libs lib ks no_library = one_library tt no_library
push_unjudged libs lib ks (one_library {libs = ls} {ks = js} is rest) = one_library is (push_unjudged ls lib js rest)

pub known_more : (libs : List SourceFile) (i : ℕ) (lib : SourceFile) (ks grown : List Known) → i < length libs → lib ≡ get_or libs i lib → AreKnown (sources_of (take i libs)) ks → grown ≡ ks ++ known.Unjudged ∷ [] → AreKnown (sources_of (take (i + 1) libs)) grown
known_more libs i lib ks grown within is before after =
    subst (AreKnown (sources_of (take (i + 1) libs))) (sym after)
    (subst (λ ls. AreKnown ls (ks ++ known.Unjudged ∷ [])) (sym (sources_more libs i lib within is))
    (push_unjudged (sources_of (take i libs)) (source_of lib) ks before))

pub none_known : (ks : List Known) → ks ≡ [] → AreKnown [] ks
none_known ks is = subst (AreKnown []) (sym is) no_library

-- what is known of the library at a place
record IsKnownAt (libs : List Source) (at : ℕ) (k : Known) : Type 0 where
  lib : Source
  there : slice_get libs at ≡ Some lib
  is : IsKnown lib.bytes k

known_at : (libs : List Source) (ks : List Known) (i : ℕ) (k : Known) → AreKnown libs ks → i < length libs → k ≡ get_or ks i k → IsKnownAt libs i k
known_at libs ks zero k (one_library {lib = l} is rest) within read = record { lib = l; there = refl; is = subst (IsKnown l.bytes) (sym read) is }
known_at libs ks (suc i) k (one_library {libs = ls} {ks = js} is rest) within read = let r = known_at ls js i k rest (omega arith) read in record { lib = r.lib; there = r.there; is = r.is }
known_at libs ks i k no_library within read = absurd (omega arith)

-- something is known of as many
pub as_many : (libs : List Source) (ks : List Known) → AreKnown libs ks → length ks ≡ length libs
as_many libs ks no_library = refl
as_many libs ks (one_library {libs = ls} {ks = js} is rest) = ap suc (as_many ls js rest)

module _ (libs : List SourceFile) (judged : Libraries) (i : ℕ) (are : AreJudged (sources_of libs) judged) (within : i < length libs) where
  pub within_known : i < length judged.known.items
  within_known = omega (arith, within, as_many (sources_of libs) judged.known.items are.known, length-map libs source_of)

  in_sources : i < length (sources_of libs)
  in_sources = omega (arith, within, length-map libs source_of)

  pub recalled_clean : (k : Known) → k ≡ get_or judged.known.items i k → k ≡ known.Clean → IsVerdictAt (sources_of libs) i None
  recalled_clean k read is =
      let h = known_at (sources_of libs) judged.known.items i k are.known in_sources read in
      record { lib = h.lib; there = h.there; is = subst (IsKnown h.lib.bytes) is h.is }

  pub recalled_broken : (k : Known) (b : Breach) → k ≡ get_or judged.known.items i k → k ≡ known.Broken b → IsVerdictAt (sources_of libs) i (Some b)
  recalled_broken k b read is =
      let h = known_at (sources_of libs) judged.known.items i k are.known in_sources read in
      record { lib = h.lib; there = h.there; is = subst (IsKnown h.lib.bytes) is h.is }

-- a file of the list as a source
pub there_at : (libs : List SourceFile) (i : ℕ) (file : SourceFile) → i < length libs → file ≡ get_or libs i file → slice_get (sources_of libs) i ≡ Some (source_of file)
there_at [] i file within is = absurd (omega arith)
there_at (x ∷ xs) zero file within is = ap (λ f. Some (source_of f)) (sym is)
there_at (x ∷ xs) (suc i) file within is = there_at xs i file (omega arith) is

pub judged_at : (libs : List SourceFile) (i : ℕ) (file : SourceFile) (shown : List ℕ) (r : Result Accepted Breach) → i < length libs → file ≡ get_or libs i file → shown ≡ file.bytes.items → IsLibraryJudged shown r → IsJudgedAt (sources_of libs) i r
judged_at libs i file shown r within is same judged = record { lib = source_of file; there = there_at libs i file within is; is = subst (λ b. IsLibraryJudged b r) same judged }

set_known : (libs : List SourceFile) (ks : List Known) (i : ℕ) (file : SourceFile) (k : Known) → AreKnown (sources_of libs) ks → i < length libs → file ≡ get_or libs i file → IsKnown file.bytes.items k → AreKnown (sources_of libs) (set ks i k)
set_known [] ks i file k are within is new = absurd (omega arith)
set_known (x ∷ xs) ks zero file k (one_library old rest) within is new = one_library (subst (λ f. IsKnown f.bytes.items k) is new) rest
set_known (x ∷ xs) ks (suc i) file k (one_library {ks = js} old rest) within is new = one_library old (set_known xs js i file k rest (omega arith) is new)

-- one library more is judged
pub known_now : (libs : List SourceFile) (old new : Libraries) (i : ℕ) (file : SourceFile) (shown : List ℕ) (k : Known) → AreJudged (sources_of libs) old → i < length libs → file ≡ get_or libs i file → shown ≡ file.bytes.items → IsKnown shown k → new.keys.items ≡ old.keys.items → new.known.items ≡ set old.known.items i k → AreJudged (sources_of libs) new
known_now libs old new i file shown k are within is same this keys after = record {
  keyed = keys ∙ are.keyed;
  known = subst (AreKnown (sources_of libs)) (sym after) (set_known libs old.known.items i file k are.known within is (subst (λ b. IsKnown b k) same this));
}

pub clean_at : (libs : List Source) (at : ℕ) → IsVerdictAt libs at None → IsCleanAt libs at
clean_at libs at v = record { lib = v.lib; there = v.there; clean = v.is }
