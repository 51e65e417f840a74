-- Library names so far, and where they stop.
use Rattle.std.proofs.Common.{◌≡◌, ℕ, ◌+◌, ◌<◌, ◌≤◌, Bool, true, false, not, ◌||◌, List, [], ◌∷◌, ◌++◌, length, map, take, drop, get_or, bytes_eq, String, Global, string_bytes, Some, None, refl, sym, ap, subst, ◌∙◌, append-nil, arith}
use Rattle.std.proofs.lemmas.Grind.{flat_map-append}
use Rattle.std.proofs.lemmas.List.{length-map, take_more, take_all, map-append, take-append-drop}
use Rattle.std.specs.List.{list_any}
use Rattle.serde_json.specs.Find.{as_str}
use Rattle.serde_json.specs.View.{view}
use Rattle.serde_json.specs.declared.value.Value.{Value}
use Rattle.manifest_shape.specs.Distinct.{distinct}
use Rattle.json_shapes.specs.Each.{Each, none_left}
use Rattle.manifest_shape.specs.Slots.{name_list}
use Rattle.manifest_shape.specs.Manifest.{IsLib, AreLibs, texts_in}
use Rattle.json_shapes.proofs.EachLemmas.{no_each_value, taken_more}
use Rattle.manifest_shape.proofs.DistinctLemmas.{distinct_front, distinct_snoc, and_true, and_false}

-- the first i values are these names
pub record LibsSoFar (vs : List Value) (i : ℕ) (libs : List (String Global)) : Type 0 where
  pub each : Each IsLib (map view (take i vs)) libs
  pub named : map string_bytes libs ≡ texts_in (map view (take i vs))
  pub apart : distinct bytes_eq (texts_in (map view (take i vs))) ≡ true

pub no_lib_yet : (vs : List Value) (libs : List (String Global)) → libs ≡ [] → LibsSoFar vs 0 libs
no_lib_yet vs libs empty =
    record {
      each = subst (λ (ls : List (String Global)). Each IsLib [] ls) (sym empty) none_left;
      named = ap (map string_bytes) empty;
      apart = refl;
    }

any_bytes : (name : List ℕ) (libs : List (String Global)) → list_any (λ lib. bytes_eq (string_bytes lib) name) libs ≡ list_any (λ n. bytes_eq n name) (map string_bytes libs)
any_bytes name [] = refl
any_bytes name (lib ∷ libs) = ap (λ b. bytes_eq (string_bytes lib) name || b) (any_bytes name libs)

-- the texts with one value more
texts_more : (vs : List Value) (i : ℕ) (v : Value) (name : List ℕ) → i < length vs → v ≡ get_or vs i v → Some name ≡ as_str (view v) → texts_in (map view (take (i + 1) vs)) ≡ texts_in (map view (take i vs)) ++ name ∷ []
texts_more vs i v name within is text =
    let more : take (i + 1) vs ≡ take i vs ++ v ∷ [] = take_more vs i v within ∙ ap (λ w. take i vs ++ w ∷ []) (sym is) in
    ap (λ ws. texts_in (map view ws)) more ∙ ap texts_in (map-append view (take i vs) (v ∷ []))
    ∙ flat_map-append (λ d. name_list (as_str d)) (map view (take i vs)) (view v ∷ [])
    ∙ ap (λ rest. texts_in (map view (take i vs)) ++ rest) (append-nil (name_list (as_str (view v))) ∙ ap name_list (sym text))

-- the texts of fewer values
fewer_texts : (vs : List Value) (i : ℕ) → distinct bytes_eq (texts_in (map view vs)) ≡ true → distinct bytes_eq (texts_in (map view (take i vs))) ≡ true
fewer_texts vs i all =
    let whole : vs ≡ take i vs ++ drop i vs = sym (take-append-drop i vs) in
    let parts : texts_in (map view vs) ≡ texts_in (map view (take i vs)) ++ texts_in (map view (drop i vs)) =
    ap (λ ws. texts_in (map view ws)) whole ∙ ap texts_in (map-append view (take i vs) (drop i vs))
    ∙ flat_map-append (λ d. name_list (as_str d)) (map view (take i vs)) (map view (drop i vs)) in
    distinct_front bytes_eq (texts_in (map view (take i vs))) (texts_in (map view (drop i vs))) (sym (ap (distinct bytes_eq) parts) ∙ all)

among : (vs : List Value) (i : ℕ) (libs : List (String Global)) (name : List ℕ) (b : Bool) → LibsSoFar vs i libs → b ≡ list_any (λ lib. bytes_eq (string_bytes lib) name) libs → list_any (λ n. bytes_eq n name) (texts_in (map view (take i vs))) ≡ b
among vs i libs name b so_far found = sym (ap (list_any (λ n. bytes_eq n name)) so_far.named) ∙ sym (any_bytes name libs) ∙ sym found

-- a name again
pub lib_again : (vs : List Value) (i : ℕ) (v : Value) (libs all : List (String Global)) (name : List ℕ) → i < length vs → v ≡ get_or vs i v → LibsSoFar vs i libs → Some name ≡ as_str (view v) → true ≡ list_any (λ lib. bytes_eq (string_bytes lib) name) libs → AreLibs (map view vs) all → ⊥
lib_again vs i v libs all name within is so_far text again are =
    let here = among vs i libs name true so_far again in
    let front = fewer_texts vs (i + 1) are.distinct in
    let names = texts_in (map view (take i vs)) in
    let twice : distinct bytes_eq (texts_in (map view (take (i + 1) vs))) ≡ false =
    ap (distinct bytes_eq) (texts_more vs i v name within is text) ∙ distinct_snoc bytes_eq names name ∙ and_false (distinct bytes_eq names) (not (list_any (λ n. bytes_eq n name) names)) (ap not here) in
    cc

-- a value that is no text
pub lib_no_text : (vs : List Value) (i : ℕ) (v : Value) (all : List (String Global)) → i < length vs → v ≡ get_or vs i v → None ≡ as_str (view v) → AreLibs (map view vs) all → ⊥
lib_no_text vs i v all within is none are = no_each_value IsLib vs all i v within is (λ lib text. cc) are.each

pub too_many_libs : (vs : List Value) (all : List (String Global)) → 16 < length vs → AreLibs (map view vs) all → ⊥
too_many_libs vs all many are = let seen = length-map vs view in let few = are.few in omega arith

-- one name more
pub libs_more : (vs : List Value) (i : ℕ) (v : Value) (libs new : List (String Global)) (lib : String Global) (name : List ℕ) → i < length vs → v ≡ get_or vs i v → LibsSoFar vs i libs → Some name ≡ as_str (view v) → string_bytes lib ≡ name → false ≡ list_any (λ l. bytes_eq (string_bytes l) name) libs → new ≡ libs ++ lib ∷ [] → LibsSoFar vs (i + 1) new
libs_more vs i v libs new lib name within is so_far text bytes fresh pushed =
    let here = among vs i libs name false so_far fresh in
    let names = texts_in (map view (take i vs)) in
    let more = texts_more vs i v name within is text in
    record {
      each = subst (λ ls. Each IsLib (map view (take (i + 1) vs)) ls) (sym pushed) (taken_more IsLib vs i v libs lib within is so_far.each (sym text ∙ ap Some (sym bytes)));
      named = ap (map string_bytes) pushed ∙ map-append string_bytes libs (lib ∷ []) ∙ ap (λ ns. ns ++ string_bytes lib ∷ []) so_far.named ∙ ap (λ n. names ++ n ∷ []) bytes ∙ sym more;
      apart = ap (distinct bytes_eq) more ∙ distinct_snoc bytes_eq names name ∙ and_true (distinct bytes_eq names) (not (list_any (λ n. bytes_eq n name) names)) so_far.apart (ap not here);
    }

-- all names
pub all_libs : (vs : List Value) (i : ℕ) (libs : List (String Global)) → length vs ≤ i → length vs ≤ 16 → LibsSoFar vs i libs → AreLibs (map view vs) libs
all_libs vs i libs whole few so_far =
    let all : take i vs ≡ vs = take_all i vs whole in
    let seen = length-map vs view in
    record {
      each = subst (λ ws. Each IsLib (map view ws) libs) all so_far.each;
      few = omega arith;
      distinct = subst (λ ws. distinct bytes_eq (texts_in (map view ws)) ≡ true) all so_far.apart;
    }
