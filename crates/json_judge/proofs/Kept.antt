-- What a member that is put among others leaves of them.
use Rattle.std.proofs.Common.{◌≡◌, ℕ, List, [], ◌∷◌, ◌++◌, Bool, true, false, ◌&&◌, Option, Some, None, Bor, Ordering, Less, Equal, Greater, nat_cmp, is_eq, true≢false, cond, refl, subst, sym, ap, ◌∙◌}
use Rattle.std.proofs.lemmas.Map.Text.{is_eq-slice_cmp}
use Rattle.std.proofs.lemmas.Slice.Eq.{bytes_eq-Decides}
use Rattle.std.specs.BTreeMap.{is_at}
use Rattle.std.specs.BTreeSet.{BTreeSet, IsUnchanged, Updates, UpdatesBy, contains}
use Rattle.std.specs.Cmp.Lexicographic.{slice_cmp}
use Rattle.std.specs.List.{list_any}
use Rattle.std.specs.Ordering.{match_ordering}
use Rattle.code_units.specs.Permitted.{is_permitted}
use Rattle.code_units.specs.Utf8.{units_of}
use Rattle.serde_json.specs.Data.{Data, Items, Members, no_members, member, put}
use Rattle.serde_json.specs.Find.{get_member}
use Rattle.serde_json.proofs.Views.{get_member-put, get_member-put_other}
use Rattle.json_judge.specs.Names.{AreRefused, HasRefused, by_text, has_names, items_have_names, members_have_names}
use Rattle.json_judge.proofs.Turns.{items_before}

-- whether all names of an object are permitted, whatever stands in its values
abbrev pub keys_permitted : Members → Bool
keys_permitted no_members = true
keys_permitted (member k d ms) = is_permitted (units_of k) && keys_permitted ms

second : (a b : Bool) → b ≡ false → (a && b) ≡ false
second true b e = e
second false b e = refl

first : (a b : Bool) → a ≡ false → (a && b) ≡ false
first a b e = ap (λ c. c && b) e

behind : (a b c : Bool) → (a && b) ≡ false → (b ≡ false → c ≡ false) → (a && c) ≡ false
behind true b c bad later = later bad
behind false b c bad later = refl

names_refused_at : (a b c e : Bool) → (a && c) ≡ false → (c ≡ false → e ≡ false) → ((a && b) && e) ≡ false
names_refused_at false b c e h later = refl
names_refused_at true b c e h later = second b e (later h)

pub keys_refused : (ms : Members) → keys_permitted ms ≡ false → members_have_names ms ≡ false
keys_refused no_members e = e
keys_refused (member k d ms) e = names_refused_at (is_permitted (units_of k)) (has_names d) (keys_permitted ms) (members_have_names ms) e (keys_refused ms)

abbrev value_names : Option Data → Bool
value_names None = true
value_names (Some d) = has_names d

refused_at : (o : Ordering) (x : Option Data) (f d : Data) (b : Bool) (ms : Members) → match_ordering o x (Some f) x ≡ Some d → has_names d ≡ false → (x ≡ Some d → members_have_names ms ≡ false)
    → ((b && has_names f) && members_have_names ms) ≡ false
refused_at Less x f d b ms e bad later = second (b && has_names f) (members_have_names ms) (later e)
refused_at Equal x f d b ms e bad later =
    let same : has_names f ≡ false = ap (λ (o : Option Data). value_names o) e ∙ bad in
    first (b && has_names f) (members_have_names ms) (second b (has_names f) same)
refused_at Greater x f d b ms e bad later = second (b && has_names f) (members_have_names ms) (later e)

-- an object has what one of its values has
pub found_refused : (k : List ℕ) (d : Data) (ms : Members) → get_member k ms ≡ Some d → has_names d ≡ false → members_have_names ms ≡ false
found_refused k d no_members e bad = absurd (cc)
found_refused k d (member l f ms) e bad = refused_at (slice_cmp nat_cmp k l) (get_member k ms) f d (is_permitted (units_of l)) ms e bad (λ h. found_refused k d ms h bad)

pub has_refused : (k : List ℕ) (ms : Members) → HasRefused k ms → members_have_names ms ≡ false
has_refused k ms h = found_refused k h.value ms h.found h.names

-- a name that is refused stays
keys_put_at : (o : Ordering) (k l : List ℕ) (d e : Data) (ms : Members) → slice_cmp nat_cmp k l ≡ o → keys_permitted (member l e ms) ≡ false → (keys_permitted ms ≡ false → keys_permitted (put k d ms) ≡ false)
    → keys_permitted (match_ordering o (member k d (member l e ms)) (member l d ms) (member l e (put k d ms))) ≡ false
keys_put_at Less k l d e ms is bad later = second (is_permitted (units_of k)) (keys_permitted (member l e ms)) bad
keys_put_at Equal k l d e ms is bad later = bad
keys_put_at Greater k l d e ms is bad later = behind (is_permitted (units_of l)) (keys_permitted ms) (keys_permitted (put k d ms)) bad later

pub keys_put : (k : List ℕ) (d : Data) (ms : Members) → keys_permitted ms ≡ false → keys_permitted (put k d ms) ≡ false
keys_put k d no_members bad = absurd (cc)
keys_put k d (member l e ms) bad = keys_put_at (slice_cmp nat_cmp k l) k l d e ms refl bad (keys_put k d ms)

-- one that is put is there
key_put_at : (o : Ordering) (k l : List ℕ) (d e : Data) (ms : Members) → slice_cmp nat_cmp k l ≡ o → is_permitted (units_of k) ≡ false → keys_permitted (put k d ms) ≡ false
    → keys_permitted (match_ordering o (member k d (member l e ms)) (member l d ms) (member l e (put k d ms))) ≡ false
key_put_at Less k l d e ms is bad later = first (is_permitted (units_of k)) (keys_permitted (member l e ms)) bad
key_put_at Equal k l d e ms is bad later =
    let same : k ≡ l = (bytes_eq-Decides k l).0 (sym (is_eq-slice_cmp k l) ∙ ap is_eq is) in
    first (is_permitted (units_of l)) (keys_permitted ms) (ap (λ x. is_permitted (units_of x)) (sym same) ∙ bad)
key_put_at Greater k l d e ms is bad later = second (is_permitted (units_of l)) (keys_permitted (put k d ms)) later

pub key_put : (k : List ℕ) (d : Data) (ms : Members) → is_permitted (units_of k) ≡ false → keys_permitted (put k d ms) ≡ false
key_put k d no_members bad = first (is_permitted (units_of k)) true bad
key_put k d (member l e ms) bad = key_put_at (slice_cmp nat_cmp k l) k l d e ms refl bad (key_put k d ms bad)

-- ## What a kept name tells after one more member

pub kept_put : (k : List ℕ) (d : Data) (ms : Members) → has_names d ≡ false → HasRefused k (put k d ms)
kept_put k d ms bad = record { value = d; found = get_member-put k d ms; names = bad }

pub kept_other : (q k : List ℕ) (d : Data) (ms : Members) → (q ≡ k → ⊥) → HasRefused q ms → HasRefused q (put k d ms)
kept_other q k d ms apart h = record { value = h.value; found = get_member-put_other q k d ms apart ∙ h.found; names = h.names }

-- ## The names that are held

same_name : (k q : List ℕ) → is_eq (slice_cmp nat_cmp k q) ≡ true → k ≡ q
same_name k q e = (bytes_eq-Decides k q).0 (sym (is_eq-slice_cmp k q) ∙ e)

other_name : (k q : List ℕ) → is_eq (slice_cmp nat_cmp k q) ≡ false → q ≡ k → ⊥
other_name k q e same = true≢false (sym ((bytes_eq-Decides k q).1 (sym same)) ∙ sym (is_eq-slice_cmp k q) ∙ e)

pub held_none : (held : BTreeSet (Bor (List ℕ))) (ms : Members) → held.keys ≡ [] → AreRefused held ms
held_none held ms none = λ k h. absurd (true≢false (sym h ∙ ap (λ ks. list_any (is_at (by_text k)) ks) none))

module _ (old new : BTreeSet (Bor (List ℕ))) (name : Bor (List ℕ)) (d : Data) (ms : Members) (was : AreRefused old ms) where
  pub held_more : has_names d ≡ false → Updates by_text old new name true → AreRefused new (put name.now d ms)
  held_more bad updates = λ k h. at k (is_eq (by_text name k)) refl (sym (updates.0 k) ∙ h)
    where
      at : (k : Bor (List ℕ)) (b : Bool) → is_eq (by_text name k) ≡ b → cond b true (contains by_text old k) ≡ true → HasRefused k.now (put name.now d ms)
      at k true e h = subst (λ q. HasRefused q (put name.now d ms)) (same_name name.now k.now e) (kept_put name.now d ms bad)
      at k false e h = kept_other k.now name.now d ms (other_name name.now k.now e) (was k h)

  pub held_less : UpdatesBy by_text (by_text name) old new false → AreRefused new (put name.now d ms)
  held_less updates = λ k h. at k (is_eq (by_text name k)) refl (sym (updates.0 k) ∙ h)
    where
      at : (k : Bor (List ℕ)) (b : Bool) → is_eq (by_text name k) ≡ b → cond b false (contains by_text old k) ≡ true → HasRefused k.now (put name.now d ms)
      at k true e h = absurd (cc)
      at k false e h = kept_other k.now name.now d ms (other_name name.now k.now e) (was k h)

  -- one for which there is no memory is not held
  pub held_same : IsUnchanged old new → contains by_text old name ≡ false → AreRefused new (put name.now d ms)
  held_same same absent = λ k h. at k (ap (λ ks. list_any (is_at (by_text k)) ks) (sym same) ∙ h)
    where
      at : (k : Bor (List ℕ)) → contains by_text old k ≡ true → HasRefused k.now (put name.now d ms)
      at k h = kept_other k.now name.now d ms (λ e. true≢false (sym h ∙ ap (λ q. list_any (is_at (λ y. slice_cmp nat_cmp q y.now)) old.keys) e ∙ absent)) (was k h)

-- ## Items

-- whether these have permitted names
abbrev pub all_names : List Data → Bool
all_names [] = true
all_names (d ∷ ds) = has_names d && all_names ds

pub items_refused : (ds : List Data) (es : Items) → all_names ds ≡ false → items_have_names (items_before ds es) ≡ false
items_refused [] es bad = absurd (cc)
items_refused (d ∷ ds) es bad = behind (has_names d) (all_names ds) (items_have_names (items_before ds es)) bad (items_refused ds es)

pub all_before : (ds : List Data) (d : Data) → all_names ds ≡ false → all_names (ds ++ d ∷ []) ≡ false
all_before [] d bad = absurd (cc)
all_before (e ∷ ds) d bad = behind (has_names e) (all_names ds) (all_names (ds ++ d ∷ [])) bad (all_before ds d)

pub all_last : (ds : List Data) (d : Data) → has_names d ≡ false → all_names (ds ++ d ∷ []) ≡ false
all_last [] d bad = first (has_names d) true bad
all_last (e ∷ ds) d bad = second (has_names e) (all_names (ds ++ d ∷ [])) (all_last ds d bad)
