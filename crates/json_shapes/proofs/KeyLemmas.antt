-- Keys of an object, and what a value has under them.
use Rattle.std.proofs.Common.{◌≡◌, ℕ, Bool, true, false, ◌&&◌, ◌||◌, Bor, bytes_eq, List, [], ◌∷◌, map, Option, Some, None, is_some, option_map, option_and_then, String, Global, Ordering, Less, Equal, Greater, string_bytes, nat_cmp, is_eq, refl, sym, ap, subst, ◌∙◌}
use Rattle.std.specs.List.{list_all, list_any}
use Rattle.std.specs.Cmp.Lexicographic.{slice_cmp}
use Rattle.std.specs.Ordering.{match_ordering}
use Rattle.std.specs.Map.{keys_of}
use Rattle.std.proofs.lemmas.Map.Text.{is_eq-slice_cmp}
use Rattle.std.proofs.lemmas.Slice.Eq.{bytes_eq-Decides}
use Rattle.serde_json.specs.Data.{Data, null, boolean, number, string, array, object, Members, no_members, member}
use Rattle.serde_json.specs.Find.{get, get_member, as_object, as_array}
use Rattle.serde_json.specs.View.{view, items_of, items_view, members_view}
use Rattle.serde_json.specs.declared.value.Value.{Value}
use Rattle.json_shapes.specs.Keys.{is_key, members_only, has_only}
use Rattle.json_shapes.specs.Look.{values_in, listed_in, list_at}

abbrev pub Entry : Type 0
Entry = String Global × Value

-- a key among borrowed keys
listed_any : (ks : List (Bor (List ℕ))) (key : List ℕ) → list_any (λ k. bytes_eq k.now key) ks ≡ is_key (map (λ k. k.now) ks) key
listed_any [] key = refl
listed_any (k ∷ ks) key = ap (λ b. bytes_eq k.now key || b) (listed_any ks key)

-- the test of the keys of a map is that of the members
only_entries : (ks : List (Bor (List ℕ))) (es : List Entry) → list_all (λ (key : String Global). list_any (λ k. bytes_eq k.now (string_bytes key)) ks) (keys_of es) ≡ members_only (map (λ k. k.now) ks) (members_view es)
only_entries ks [] = refl
only_entries ks (e ∷ es) =
    ap (λ b. b && list_all (λ (key : String Global). list_any (λ k. bytes_eq k.now (string_bytes key)) ks) (keys_of es)) (listed_any ks (string_bytes e.0))
    ∙ ap (λ b. is_key (map (λ k. k.now) ks) (string_bytes e.0) && b) (only_entries ks es)

-- the values of an array
pub values_back : (ds : List Data) → values_in (items_of ds) ≡ ds
values_back [] = refl
values_back (d ∷ ds) = ap (λ rest. d ∷ rest) (values_back ds)

at_order : (keys : List (List ℕ)) (key k : List ℕ) (here : Data) (rest : Option Data) (d : Data) (o : Ordering) → slice_cmp nat_cmp key k ≡ o → is_key keys k ≡ true → (rest ≡ Some d → is_key keys key ≡ true) → match_ordering o rest (Some here) rest ≡ Some d → is_key keys key ≡ true
at_order keys key k here rest d Less order listed later found = later found
at_order keys key k here rest d Greater order listed later found = later found
at_order keys key k here rest d Equal order listed later found =
    let same : key ≡ k = (bytes_eq-Decides key k).0 (sym (is_eq-slice_cmp key k) ∙ ap is_eq order) in
    subst (λ name. is_key keys name ≡ true) (sym same) listed

-- both parts of a test
pub both_true : (a b : Bool) → (a && b) ≡ true → (a ≡ true) × (b ≡ true)
both_true true true both = (refl, refl)
both_true true false both = cc
both_true false b both = cc

-- a value is found under listed keys alone
pub found_listed : (keys : List (List ℕ)) (key : List ℕ) (ms : Members) (d : Data) → members_only keys ms ≡ true → get_member key ms ≡ Some d → is_key keys key ≡ true
found_listed keys key no_members d only found = cc
found_listed keys key (member k e ms) d only found =
    let parts = both_true (is_key keys k) (members_only keys ms) only in
    at_order keys key k e (get_member key ms) d (slice_cmp nat_cmp key k) refl parts.0 (λ later. found_listed keys key ms d parts.1 later) found

pub has_key : (keys : List (List ℕ)) (key : List ℕ) (d e : Data) → has_only keys d ≡ true → get key d ≡ Some e → is_key keys key ≡ true
has_key keys key null e only found = cc
has_key keys key (boolean b) e only found = cc
has_key keys key (number n) e only found = cc
has_key keys key (string s) e only found = cc
has_key keys key (array ds) e only found = cc
has_key keys key (object ms) e only found = found_listed keys key ms e only found

-- an object whose members are seen as entries
pub object_only : (ks : List (Bor (List ℕ))) (d : Data) (es : List Entry) (all : Bool) → Some (members_view es) ≡ as_object d → all ≡ list_all (λ (key : String Global). list_any (λ k. bytes_eq k.now (string_bytes key)) ks) (keys_of es) → all ≡ has_only (map (λ k. k.now) ks) d
object_only ks null es all is keys_all = cc
object_only ks (boolean b) es all is keys_all = cc
object_only ks (number n) es all is keys_all = cc
object_only ks (string s) es all is keys_all = cc
object_only ks (array ds) es all is keys_all = cc
object_only ks (object ms) es all is keys_all =
    let same : members_view es ≡ ms = cc in
    keys_all ∙ only_entries ks es ∙ ap (members_only (map (λ k. k.now) ks)) same

-- a list that stands under a key
pub list_found : (key : List ℕ) (d e : Data) (vs : List Value) → Some e ≡ get key d → Some (items_view vs) ≡ as_array e → Some (map view vs) ≡ list_at key d
list_found key d e vs found list =
    let inside : list_at key d ≡ option_map values_in (as_array e) = sym (ap (λ o. option_map values_in (option_and_then as_array o)) found) in
    sym (inside ∙ sym (ap (option_map values_in) list) ∙ ap Some (values_back (map view vs)))

-- a value that is an array
pub listed_found : (d : Data) (vs : List Value) → Some (items_view vs) ≡ as_array d → Some (map view vs) ≡ listed_in d
listed_found d vs list = sym (sym (ap (option_map values_in) list) ∙ ap Some (values_back (map view vs)))

-- an object that has a key has a value under it
some_under : (key : List ℕ) (d : Data) (keys : List (List ℕ)) (o : Option Data) → get key d ≡ o → is_some o ≡ true → has_only keys d ≡ true → is_key keys key ≡ true
some_under key d keys None is some only = cc
some_under key d keys (Some e) is some only = has_key keys key d e only is

pub listed : (key : List ℕ) (d : Data) (keys : List (List ℕ)) → is_some (get key d) ≡ true → has_only keys d ≡ true → is_key keys key ≡ true
listed key d keys some only = some_under key d keys (get key d) refl some only
