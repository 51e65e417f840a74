-- What the grammar finds under a key is what the value has there.
use Rattle.std.proofs.Common.{◌≡◌, ℕ, suc, Bool, true, false, cond, List, [], ◌∷◌, length, Option, Some, None, option_map, option_and_then, IfSome, bytes_eq, refl, sym, ap, ◌∙◌, subst, true≢false}
use Rattle.std.proofs.lemmas.Slice.Eq.{bytes_eq-Decides}
use Rattle.json.specs.Token.{Token}
use Rattle.json.specs.Lex.{tokens}
use Rattle.json.specs.Json as grammar
use Rattle.json.specs.Json.{if_last, value, document}
use Rattle.json.specs.Find as find
use Rattle.json.specs.Find.{BeginsWith, later_or}
use Rattle.json.proofs.Found.{Some_inj}
use Rattle.serde_json.specs.Data.{Data, array, object, Items, no_items, item, Members, no_members, put}
use Rattle.serde_json.specs.Find.{get_member, as_array}
use Rattle.serde_json.specs.Read.{of_json, of_items, of_members, read}
use Rattle.serde_json.proofs.Views.{get_member-put, get_member-put_other}
use Rattle.json_shapes.specs.Json.{IsJson}
use Rattle.json_shapes.specs.Look.{list_at, values_in}
use Rattle.json_lengths.specs.Lengths.{items_length, HasListOf, HasLength}
use Rattle.json_lengths.proofs.Deeper.{read_deeper}

-- both parts of a choice that was made
and_then_some : {A B : Type 0} (f : A → Option B) (o : Option A) (b : B) → option_and_then f o ≡ Some b → (a : A) × (o ≡ Some a) × (f a ≡ Some b)
and_then_some f None b e = absurd (cc)
and_then_some f (Some a) b e = (a, refl, e)

map_some : {A B : Type 0} (f : A → B) (o : Option A) (b : B) → option_map f o ≡ Some b → (a : A) × (o ≡ Some a) × (f a ≡ b)
map_some f None b e = absurd (cc)
map_some f (Some a) b e = (a, refl, cc)

-- ## Lists

same_length : (js : grammar.Items) (ds : Items) → of_items js ≡ Some ds → length (values_in ds) ≡ items_length js
same_length grammar.no_items ds e = ap (λ es. length (values_in es)) (sym (Some_inj no_items ds e))
same_length (grammar.item j js) ds e =
    let first = and_then_some (λ d. option_map (item d) (of_items js)) (of_json j) ds e in
    let rest = map_some (item first.0) (of_items js) ds first.2 in
    ap (λ es. length (values_in es)) (sym rest.2) ∙ ap suc (same_length js rest.0 rest.1)

-- ## Members

-- what now stands under a key: the value of the last member of that name, else what was there
abbrev Holds : List ℕ → Members → Members → Option grammar.Json → Type 0
Holds key was now None = get_member key now ≡ get_member key was
Holds key was now (Some j) = (d : Data) × (of_json j ≡ Some d) × (get_member key now ≡ Some d)

at_member : (key k : List ℕ) (j : grammar.Json) (d : Data) (was now : Members) → of_json j ≡ Some d → (b : Bool) → bytes_eq k key ≡ b → (later : Option grammar.Json) → Holds key (put k d was) now later
    → Holds key was now (later_or later (cond b (Some j) None))
at_member key k j d was now is b test (Some i) h = h
at_member key k j d was now is true test None h =
    let same : k ≡ key = (bytes_eq-Decides k key).0 test in
    (d, is, h ∙ subst (λ name. get_member name (put k d was) ≡ Some d) same (get_member-put k d was))
at_member key k j d was now is false test None h = h ∙ get_member-put_other key k d was (λ same. true≢false (sym ((bytes_eq-Decides k key).1 (sym same)) ∙ test))

holds : (key : List ℕ) (ms : grammar.Members) (was now : Members) → of_members ms was ≡ Some now → Holds key was now (find.get_member key ms)
holds key grammar.no_members was now e = ap (get_member key) (sym (Some_inj was now e))
holds key (grammar.member k j ms) was now e =
    let first = and_then_some (λ d. of_members ms (put k d was)) (of_json j) now e in
    at_member key k j first.0 was now first.1 (bytes_eq k key) refl (find.get_member key ms) (holds key ms (put k first.0 was) now first.2)

-- ## The list under a key

list_of : (key : List ℕ) (j : grammar.Json) (d : Data) (js : grammar.Items) (n : ℕ) → of_json j ≡ Some d → find.get key j ≡ Some (grammar.array js) → n ≡ items_length js → HasListOf key d n
list_of key grammar.null d js n e found count = absurd (cc)
list_of key (grammar.boolean b) d js n e found count = absurd (cc)
list_of key (grammar.number s) d js n e found count = absurd (cc)
list_of key (grammar.string s) d js n e found count = absurd (cc)
list_of key (grammar.array is) d js n e found count = absurd (cc)
list_of key (grammar.object ms) d js n e found count =
    let all = map_some object (of_members ms no_members) d e in
    let under = subst (Holds key no_members all.0) found (holds key ms no_members all.0 all.1) in
    let list = map_some array (of_items js) under.0 under.1 in
    let here : get_member key all.0 ≡ Some (array list.0) = under.2 ∙ ap Some (sym list.2) in
    record {
      entries = values_in list.0;
      list = subst (λ v. list_at key v ≡ Some (values_in list.0)) all.2 (ap (λ o. option_map values_in (option_and_then as_array o)) here);
      count = same_length js list.0 list.1 ∙ sym count;
    }

-- ## The text

last : (o : Option (grammar.Json × List Token)) (j : grammar.Json) → option_and_then (λ p. if_last p.0 p.1) o ≡ Some j → o ≡ Some (j, [])
last None j e = absurd (cc)
last (Some (i, [])) j e = ap (λ x. Some (x, [])) (Some_inj i j e)
last (Some (i, t ∷ ts)) j e = absurd (cc)

-- what the grammar reads of a text that `serde_json` reads
read_by : (text : List ℕ) (d : Data) → read text ≡ Some d → (j : grammar.Json) × (value 127 (tokens text) ≡ Some (j, [])) × (of_json j ≡ Some d)
read_by text d e = let j = and_then_some of_json _ d e in (j.0, last _ j.0 j.1, j.2)

-- the number counts the list that is found under the key
abbrev Counts : List Token → List ℕ → ℕ → Type 0
Counts ts key n = (j : grammar.Json) → BeginsWith ts j → (js : grammar.Items) × (find.get key j ≡ Some (grammar.array js)) × (n ≡ items_length js)

has_length : (text key : List ℕ) (n : ℕ) → Counts (tokens text) key n → HasLength text key n
has_length text key n found = λ d e.
    let j = read_by text d e in
    let list = found j.0 (127, [], j.1) in
    list_of key j.0 d list.0 n j.2 list.1 list.2

pub has_some_length : (text key : List ℕ) (ts : List Token) → ts ≡ tokens text → (o : Option ℕ) → IfSome o (Counts ts key) → IfSome o (HasLength text key)
has_some_length text key ts is None found = tt
has_some_length text key ts is (Some n) found = has_length text key n (subst (λ t. Counts t key n) is found)

pub no_json : (text : List ℕ) → document text ≡ None → (d : Data) → IsJson text d → ⊥
no_json text none d is = let j = read_by text d is.value in let some = read_deeper text j.0 j.1 in cc
