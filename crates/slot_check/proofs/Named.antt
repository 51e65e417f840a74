-- The libraries that a slot names, one by one.
use Rattle.std.proofs.Common.{◌≡◌, ℕ, ◌<◌, ◌+◌, List, [], ◌∷◌, ◌++◌, length, take, drop, get_or, refl, sym, ap, subst, ◌∙◌, arith, Bool, true, false, cond, nat_lt, All, Option, Some, None, Result, IfErr}
use Rattle.std.specs.Prelude.{position}
use Rattle.std.specs.List.{list_any, position_or_len}
use Rattle.std.specs.Str.{bytes_eq}
use Rattle.std.proofs.lemmas.Option.{slice_get-get_or}
use Rattle.std.proofs.lemmas.List.{length-map, take_more, drop_more, take-append-drop}
use Rattle.std.proofs.lemmas.List.Quantifiers.{position-Some}
use Rattle.std.proofs.lemmas.Bool.{ltb-false}
use Rattle.std.proofs.lemmas.List.Elements.{All-get_or, All-from_get_or}
use Rattle.std.proofs.lemmas.List.Folds.{list_any_none}
use Rattle.std.proofs.lemmas.List.Sums.{fails_before_first}
use Rattle.std.specs.Result.{IsErrAnd}
use Rattle.js_tree.specs.Plain.{Stmts}
use Rattle.adsafe_rules.specs.declared.scope.Scope.TheVariants as scope
use Rattle.trace_text.specs.declared.line.Rule.TheVariants as rule
use Rattle.script_check.specs.Script.{LibFirst, IsScript}
use Rattle.slot_check.specs.declared.fault.Refusal.{Refusal}
use Rattle.slot_check.specs.declared.fault.SlotFault.{SlotFault}
use Rattle.slot_check.specs.Sources.{Source, key_of, keys_of, IsLibrary}
use Rattle.slot_check.specs.Slot.{AreClean, none, more, LibrariesFirst, here, later}
use Rattle.slot_check.specs.Verdicts.{IsCleanAt, AreNamedClean, IsRefusalAt, Refuses, IsLibraryRefusal, IsNamedRefusal}
use Rattle.slot_check.proofs.Refusals.{pass}

same_lib : (a b : Source) → Some a ≡ Some b → a ≡ b
same_lib a b e = cc

no_source : Source
no_source = record { name = []; bytes = [] }

-- the library at a place of the keys
pub record Found (libs : List Source) (name : List ℕ) (place : ℕ) : Type 0 where
  pub lib : Source
  pub is : IsLibrary libs name place lib

pub found : (libs : List Source) (keys : List (List ℕ)) (name : List ℕ) (place : ℕ) → keys ≡ keys_of libs → position (bytes_eq name) keys ≡ Some place → Found libs name place
found libs keys name place keyed first =
    let first_of : position (bytes_eq name) (keys_of libs) ≡ Some place = sym (ap (position (bytes_eq name)) keyed) ∙ first in
    let within = (position-Some (bytes_eq name) (keys_of libs) place [] first_of).0 in
    let in_libs : place < length libs = omega (arith, within, length-map libs key_of) in
    record {
      lib = get_or libs place no_source;
      is = record { first = first_of; there = slice_get-get_or libs place no_source in_libs };
    }

-- a name that is listed has a place
no_some : (b : Bool) (n : ℕ) → cond b (Some n) None ≡ None → b ≡ false
no_some true n e = cc
no_some false n e = refl

pub place_none : (name : List ℕ) (keys : List (List ℕ)) → list_any (bytes_eq name) keys ≡ true → position (bytes_eq name) keys ≡ None → ⊥
place_none name keys listed nowhere =
    let past : nat_lt (position_or_len (bytes_eq name) keys) (length keys) ≡ false = no_some (nat_lt (position_or_len (bytes_eq name) keys) (length keys)) (position_or_len (bytes_eq name) keys) nowhere in
    let least = ltb-false (position_or_len (bytes_eq name) keys) (length keys) past in
    let all : All (λ x. bytes_eq name x ≡ false) keys = All-from_get_or (λ x. bytes_eq name x ≡ false) keys [] (λ k within. fails_before_first (bytes_eq name) keys k [] (omega (arith, least, within))) in
    let not_listed = list_any_none (bytes_eq name) keys all in
    let both : true ≡ false = sym listed ∙ not_listed in
    cc

pub no_place : (names keys shown : List (List ℕ)) (i : ℕ) (name : List ℕ) (r : Option ℕ) → All (λ n. list_any (bytes_eq n) keys ≡ true) names → i < length names → name ≡ get_or names i name → shown ≡ keys → r ≡ position (bytes_eq name) shown → r ≡ None → ⊥
no_place names keys shown i name r listed within is same found_at nowhere =
    let here = All-get_or (λ n. list_any (bytes_eq n) keys ≡ true) names i name within listed in
    let named : list_any (bytes_eq name) keys ≡ true = subst (λ n. list_any (bytes_eq n) keys ≡ true) (sym is) here in
    place_none name keys named (sym (ap (position (bytes_eq name)) same) ∙ sym found_at ∙ nowhere)

pub first_of : (keys shown : List (List ℕ)) (name : List ℕ) (place : ℕ) (r : Option ℕ) → shown ≡ keys → r ≡ position (bytes_eq name) shown → r ≡ Some place → position (bytes_eq name) keys ≡ Some place
first_of keys shown name place r same found_at is = sym (ap (position (bytes_eq name)) same) ∙ sym found_at ∙ is

push_clean : (libs : List Source) (names : List (List ℕ)) (places : List ℕ) (programs : List Stmts) (name : List ℕ) (place : ℕ) (lib : Source) (program : Stmts) → AreClean libs names places programs → IsLibrary libs name place lib → IsScript lib.bytes scope.Lib program → AreClean libs (names ++ name ∷ []) (places ++ place ∷ []) (programs ++ program ∷ [])
push_clean libs names places programs name place lib program none is script = more is script none
push_clean libs names places programs name place lib program (more {names = ns} {places = ps} {programs = gs} has clean rest) is script = more has clean (push_clean libs ns ps gs name place lib program rest is script)

first_behind : (libs : List Source) (names : List (List ℕ)) (places : List ℕ) (programs : List Stmts) (name : List ℕ) (rest : List (List ℕ)) (place : ℕ) (lib : Source) (number at : ℕ) → AreClean libs names places programs → IsLibrary libs name place lib → LibFirst lib.bytes number at → LibrariesFirst libs (names ++ name ∷ rest) number lib at
first_behind libs names places programs name rest place lib number at none is first = here is first
first_behind libs names places programs name rest place lib number at (more {program = g} {names = ns} {places = ps} {programs = gs} has script clean) is first = later has (record { program = g; script = script }) (first_behind libs ns ps gs name rest place lib number at clean is first)

module _ (libs : List Source) (keys : List (List ℕ)) (keyed : keys ≡ keys_of libs) (name : List ℕ) (place : ℕ) (first : position (bytes_eq name) keys ≡ Some place) where
  pub place_within : place < length libs
  place_within =
      let within = (position-Some (bytes_eq name) keys place [] first).0 in
      omega (arith, within, ap length keyed, length-map libs key_of)

  pub clean_more : (names : List (List ℕ)) (i : ℕ) (places grown : List ℕ) → i < length names → name ≡ get_or names i name → IsCleanAt libs place → AreNamedClean libs (take i names) places → grown ≡ places ++ place ∷ [] → AreNamedClean libs (take (i + 1) names) grown
  clean_more names i places grown within is clean before after =
      let f = found libs keys name place keyed first in
      let same : clean.lib ≡ f.lib = same_lib clean.lib f.lib (sym clean.there ∙ f.is.there) in
      let all = push_clean libs (take i names) places before.programs name place f.lib clean.clean.program before.clean f.is (subst (λ l. IsScript l.bytes scope.Lib clean.clean.program) same clean.clean.script) in
      let ns : take i names ++ name ∷ [] ≡ take (i + 1) names = ap (λ n. take i names ++ n ∷ []) is ∙ sym (take_more names i name within) in
      record {
        programs = before.programs ++ clean.clean.program ∷ [];
        clean = subst (λ ps. AreClean libs (take (i + 1) names) ps (before.programs ++ clean.clean.program ∷ [])) (sym after) (subst (λ n. AreClean libs n (places ++ place ∷ []) (before.programs ++ clean.clean.program ∷ [])) ns all);
      }

  pub broken_here : {X : Type 0} (names : List (List ℕ)) (i : ℕ) (places : List ℕ) (r : Result X SlotFault) (f : SlotFault) → i < length names → name ≡ get_or names i name → AreNamedClean libs (take i names) places → IsErrAnd r (λ e. e ≡ f) → Refuses (IsLibraryRefusal libs place) f → IfErr r (Refuses (IsNamedRefusal libs names))
  broken_here names i places r f within is before handed refused = pass (IsLibraryRefusal libs place) (IsNamedRefusal libs names) r f handed refused (λ x h. here_is x h)
    where
      here_is : (x : Refusal) → IsLibraryRefusal libs place x → IsNamedRefusal libs names x
      here_is x h =
          let l = found libs keys name place keyed first in
          let same : h.lib ≡ l.lib = same_lib h.lib l.lib (sym h.there ∙ l.is.there) in
          let all = first_behind libs (take i names) places before.programs name (drop (i + 1) names) place l.lib h.number h.byte before.clean l.is (subst (λ s. LibFirst s.bytes h.number h.byte) same h.first) in
          let ns : take i names ++ name ∷ drop (i + 1) names ≡ names = ap (λ n. take i names ++ n ∷ drop (i + 1) names) is ∙ ap (λ rest. take i names ++ rest) (sym (drop_more names i name within)) ∙ take-append-drop i names in
          record {
            lib = l.lib;
            number = h.number;
            byte = h.byte;
            first = subst (λ n. LibrariesFirst libs n h.number l.lib h.byte) ns all;
            is = subst (λ s. IsRefusalAt s (rule.A h.number) h.byte x) same h.is;
          }

pub none_named : (libs : List Source) (places : List ℕ) → places ≡ [] → AreNamedClean libs [] places
none_named libs places is = record { programs = []; clean = subst (λ ps. AreClean libs [] ps []) (sym is) none }
