-- A manifest of version 1 with version 2.
use Rattle.std.proofs.Common.{◌≡◌, ℕ, Bool, true, false, ◌||◌, ◌&&◌, List, [], ◌∷◌, codes, length, nat_eq, nat_cmp, Option, unwrap_or, option_map, option_and_then, if◌then◌else◌, Ordering, Less, Equal, Greater, refl, sym, ap, subst, ◌∙◌, arith}
use Rattle.std.specs.Cmp.Lexicographic.{slice_cmp}
use Rattle.std.specs.Ordering.{match_ordering}
use Rattle.std.specs.Str.{bytes_eq}
use Rattle.serde_json.specs.Data.{Data, null, boolean, number, string, array, object, unsigned, Members, no_members, member, put}
use Rattle.serde_json.specs.Find.{get, as_array, as_number, as_u64}
use Rattle.serde_json.proofs.Views.{get_member-put, get_member-put_other}
use Rattle.json_shapes.specs.Each.{Each, none_left, one_each}
use Rattle.json_shapes.specs.Keys.{has_only, is_key, members_only}
use Rattle.json_shapes.specs.Look.{values_in}
use Rattle.manifest_shape.specs.Slots.{slot_keys, IsEntry, IsFuel, names_in}
use Rattle.json_shapes.specs.Json.{IsJson, version_of}
use Rattle.manifest_shape.specs.Manifest as shaped
use Rattle.manifest_shape.specs.declared.manifest.ManifestShape.{ManifestShape}
use Rattle.manifest_shape.specs.declared.slot.PageEntry.{PageEntry}
use Rattle.manifest_shape.specs.declared.slot.PageEntry.TheVariants.{Html, Slot}
use Rattle.json_shapes.proofs.KeyLemmas.{both_true}
use Rattle.manifest_reader.specs.Manifest.{IsManifest, ReadsManifest}
use Rattle.manifest_reader.specs.Versions.{with_version}
use Rattle.manifest_reader.specs.declared.entry.Manifest.{Manifest}
use Rattle.manifest_reader.specs.Same.{IsSame}
use Rattle.manifest_reader.proofs.ManifestLemmas.{one_value}
use Rattle.manifest_reader.proofs.SameLemmas.{one_manifest}

-- what stands under another key stays
other_key : (key : List ℕ) (d : Data) → (key ≡ codes "version" → ⊥) → get key (with_version 2 d) ≡ get key d
other_key key null apart = refl
other_key key (boolean b) apart = refl
other_key key (number n) apart = refl
other_key key (string s) apart = refl
other_key key (array ds) apart = refl
other_key key (object ms) apart = get_member-put_other key (codes "version") (number (unsigned 2)) ms apart

-- a version that was one is the new one
new_version : (d : Data) → version_of d ≡ 1 → version_of (with_version 2 d) ≡ 2
new_version null is = absurd (omega arith)
new_version (boolean b) is = absurd (omega arith)
new_version (number n) is = absurd (omega arith)
new_version (string s) is = absurd (omega arith)
new_version (array ds) is = absurd (omega arith)
new_version (object ms) is =
    ap (λ (o : Option Data). unwrap_or (option_and_then as_u64 (option_and_then as_number o)) 0) (get_member-put (codes "version") (number (unsigned 2)) ms)

joined : (a b : Bool) → a ≡ true → b ≡ true → (a && b) ≡ true
joined a b left right = ap (λ x. x && b) left ∙ right

put_at : (keys : List (List ℕ)) (k l : List ℕ) (d e : Data) (ms rest : Members) (o : Ordering) → is_key keys k ≡ true → is_key keys l ≡ true → members_only keys ms ≡ true → members_only keys rest ≡ true → members_only keys (match_ordering o (member k d (member l e ms)) (member l d ms) (member l e rest)) ≡ true
put_at keys k l d e ms rest Less listed here later put = joined (is_key keys k) (is_key keys l && members_only keys ms) listed (joined (is_key keys l) (members_only keys ms) here later)
put_at keys k l d e ms rest Equal listed here later put = joined (is_key keys l) (members_only keys ms) here later
put_at keys k l d e ms rest Greater listed here later put = joined (is_key keys l) (members_only keys rest) here put

-- keys with one more of them
put_only : (keys : List (List ℕ)) (k : List ℕ) (d : Data) (ms : Members) → is_key keys k ≡ true → members_only keys ms ≡ true → members_only keys (put k d ms) ≡ true
put_only keys k d no_members listed only = joined (is_key keys k) true listed refl
put_only keys k d (member l e ms) listed only =
    let parts = both_true (is_key keys l) (members_only keys ms) only in
    put_at keys k l d e ms (put k d ms) (slice_cmp nat_cmp k l) listed parts.0 parts.1 (put_only keys k d ms listed parts.1)

-- keys that are among others
among : (some all : List (List ℕ)) (ms : Members) → ((key : List ℕ) → is_key some key ≡ true → is_key all key ≡ true) → members_only some ms ≡ true → members_only all ms ≡ true
among some all no_members more only = refl
among some all (member k d ms) more only =
    let parts = both_true (is_key some k) (members_only some ms) only in
    joined (is_key all k) (members_only all ms) (more k parts.0) (among some all ms more parts.1)

all_among : (some all : List (List ℕ)) (d : Data) → ((key : List ℕ) → is_key some key ≡ true → is_key all key ≡ true) → has_only some d ≡ true → has_only all d ≡ true
all_among some all null more only = cc
all_among some all (boolean b) more only = cc
all_among some all (number n) more only = cc
all_among some all (string s) more only = cc
all_among some all (array ds) more only = cc
all_among some all (object ms) more only = among some all ms more only

three : (a b c : Bool) → (a || (b || false)) ≡ true → (a || (b || (c || false))) ≡ true
three true b c is = refl
three false true c is = refl
three false false c is = cc

five : (a b c d e : Bool) → (a || (b || (c || (d || false)))) ≡ true → (a || (b || (c || (d || (e || false))))) ≡ true
five true b c d e is = refl
five false true c d e is = refl
five false false true d e is = refl
five false false false true e is = refl
five false false false false e is = cc

slot_more : (key : List ℕ) → is_key (slot_keys 1) key ≡ true → is_key (slot_keys 2) key ≡ true
slot_more key is = three (bytes_eq (codes "widget") key) (bytes_eq (codes "file") key) (bytes_eq (codes "fuel") key) is

manifest_more : (key : List ℕ) → is_key (shaped.manifest_keys 1) key ≡ true → is_key (shaped.manifest_keys 2) key ≡ true
manifest_more key is = five (bytes_eq (codes "version") key) (bytes_eq (codes "page") key) (bytes_eq (codes "fuel") key) (bytes_eq (codes "libs") key) (bytes_eq (codes "channels") key) is

-- an entry of version 1 is one of version 2
entry_agrees : (d : Data) (e : PageEntry) → IsEntry 1 d e → IsEntry 2 d e
entry_agrees d (Html text) is = is
entry_agrees d (Slot slot) is =
    record { keys = all_among (slot_keys 1) (slot_keys 2) d slot_more is.keys; name = is.name; letters = is.letters; file = is.file; fuel = is.fuel }

entries_agree : (ds : List Data) (es : List PageEntry) → Each (IsEntry 1) ds es → Each (IsEntry 2) ds es
entries_agree [] [] none_left = none_left
entries_agree [] (e ∷ es) each = elim each [ ]
entries_agree (d ∷ ds) [] each = elim each [ ]
entries_agree (d ∷ ds) (e ∷ es) (one_each first rest) = one_each (entry_agrees d e first) (entries_agree ds es rest)

keys_agree : (d : Data) → has_only (shaped.manifest_keys 1) d ≡ true → has_only (shaped.manifest_keys 2) (with_version 2 d) ≡ true
keys_agree null only = cc
keys_agree (boolean b) only = cc
keys_agree (number n) only = cc
keys_agree (string s) only = cc
keys_agree (array ds) only = cc
keys_agree (object ms) only = put_only (shaped.manifest_keys 2) (codes "version") (number (unsigned 2)) ms refl (among (shaped.manifest_keys 1) (shaped.manifest_keys 2) ms manifest_more only)

rest_agrees : (names : List (List ℕ)) (d : Data) (shape : ManifestShape) → version_of d ≡ 1 → shaped.IsRest names d shape.fuel shape.libs.items shape.channels.items → shaped.IsRest names (with_version 2 d) shape.fuel shape.libs.items shape.channels.items
rest_agrees names d shape version is =
    let new = new_version d version in
    let old_keys : has_only (shaped.manifest_keys (if nat_eq 1 2 then 2 else 1)) d ≡ true = subst (λ n. has_only (shaped.manifest_keys (if nat_eq n 2 then 2 else 1)) d ≡ true) version is.keys in
    record {
      keys = subst (λ n. has_only (shaped.manifest_keys (if nat_eq n 2 then 2 else 1)) (with_version 2 d) ≡ true) (sym new) (keys_agree d old_keys);
      version = subst (λ n. (nat_eq n 1 || nat_eq n 2) ≡ true) (sym new) refl;
      fuel_is = subst (λ o. IsFuel o shape.fuel) (sym (other_key (codes "fuel") d (λ e. (let h : 4 ≡ 7 = ap length e in omega arith)))) is.fuel_is;
      libs_are = subst (λ o. shaped.IsLibs o shape.libs.items) (sym (other_key (codes "libs") d (λ e. (let h : 4 ≡ 7 = ap length e in omega arith)))) is.libs_are;
      channels_are = subst (λ o. shaped.IsChannels names o shape.channels.items) (sym (other_key (codes "channels") d (λ e. (let h : 8 ≡ 7 = ap length e in omega arith)))) is.channels_are;
    }

shape_agrees : (d : Data) (shape : ManifestShape) → version_of d ≡ 1 → shaped.IsManifest d shape → shaped.IsManifest (with_version 2 d) shape
shape_agrees d shape version is =
    let new = new_version d version in
    let old : Each (IsEntry 1) is.page shape.entries.items = subst (λ n. Each (IsEntry (if nat_eq n 2 then 2 else 1)) is.page shape.entries.items) version is.each in
    record {
      page = is.page;
      list = ap (λ o. option_map values_in (option_and_then as_array o)) (other_key (codes "page") d (λ e. (let h : 4 ≡ 7 = ap length e in omega arith))) ∙ is.list;
      each = subst (λ n. Each (IsEntry (if nat_eq n 2 then 2 else 1)) is.page shape.entries.items) (sym new) (entries_agree is.page shape.entries.items old);
      slots = is.slots;
      rest = rest_agrees (names_in is.page) d shape version is.rest;
    }

pub agree : (bytes others : List ℕ) (d : Data) (manifest : Manifest) → IsJson bytes d → IsJson others (with_version 2 d) → version_of d ≡ 1 → ReadsManifest bytes manifest → ReadsManifest others manifest
agree bytes others d manifest json other version reads =
    let same : reads.value ≡ d = one_value bytes reads.value d reads.json json in
    let is : IsManifest d manifest = subst (λ e. IsManifest e manifest) same reads.is in
    record { value = with_version 2 d; json = other; is = record { shape = is.shape; is = shape_agrees d is.shape version is.is; filled = is.filled } }

pub same : (bytes others : List ℕ) (d : Data) (one other : Manifest) → IsJson bytes d → IsJson others (with_version 2 d) → version_of d ≡ 1 → ReadsManifest bytes one → ReadsManifest others other → IsSame one other
same bytes others d one other json changed version left right = one_manifest others one other (agree bytes others d one json changed version left) right
