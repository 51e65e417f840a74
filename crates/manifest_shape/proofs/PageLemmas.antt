-- Entries of a page so far, and where they stop.
use Rattle.std.proofs.Common.{◌≡◌, ℕ, zero, suc, ◌+◌, ◌<◌, ◌≤◌, true, List, [], ◌∷◌, ◌++◌, length, map, take, drop, get_or, codes, Option, Some, None, option_map, option_and_then, inl, inr, refl, sym, ap, subst, ◌∙◌, append-nil, arith}
use Rattle.std.proofs.lemmas.Grind.{common_steps, flat_map-append}
use Rattle.std.proofs.lemmas.Bool.{cases_lt}
use Rattle.std.proofs.lemmas.List.{length-map, take_more, take_all, map-append}
use Rattle.std.proofs.Math.ListN.{get_or-map}
use Rattle.code_units.specs.Utf8.{units_of}
use Rattle.serde_json.specs.Data.{Data}
use Rattle.serde_json.specs.Find.{get, as_str}
use Rattle.serde_json.specs.View.{view}
use Rattle.serde_json.specs.declared.value.Value.{Value}
use Rattle.json_shapes.specs.Each.{Each, none_left}
use Rattle.json_shapes.specs.Keys.{has_only}
use Rattle.manifest_shape.specs.Slots.{IsEntry, name_list, slot_name, entry_names, names_in, are_slots, html_keys}
use Rattle.manifest_shape.specs.Manifest.{AreGoodEntries, IsLongestGoodPage, BreaksOff}
use Rattle.manifest_shape.specs.declared.slot.PageEntry.{PageEntry}
use Rattle.manifest_shape.specs.declared.slot.PageEntry.TheVariants.{Html, Slot}
use Rattle.json_shapes.proofs.EachLemmas.{each_length, each_at, taken_more}
use Rattle.json_shapes.proofs.KeyLemmas.{has_key}
use Rattle.json_shapes.proofs.EachLemmas.{taken_map, first_of_more}
use Rattle.manifest_shape.proofs.DistinctLemmas.{slots_front}

unnamed : (d : Data) (o : Option Data) → get (codes "widget") d ≡ o → has_only html_keys d ≡ true → slot_name d ≡ None
unnamed d None found only = ap (λ o. option_map units_of (option_and_then as_str o)) found
unnamed d (Some e) found only = let h = has_key html_keys (codes "widget") d e only found in cc

-- the name of an entry is that of its value
pub named_entry : (version : ℕ) (d : Data) (e : PageEntry) → IsEntry version d e → name_list (slot_name d) ≡ entry_names e
named_entry version d (Html text) is = ap name_list (unnamed d (get (codes "widget") d) refl is.keys)
named_entry version d (Slot slot) is = ap name_list is.name

-- the first i values are these entries, whose slots have these names
pub record PageSoFar (version : ℕ) (vs : List Value) (i : ℕ) (entries : List PageEntry) (names : List (List ℕ)) : Type 0 where
  pub each : Each (IsEntry version) (map view (take i vs)) entries
  pub named : names ≡ names_in (map view (take i vs))
  pub slots : are_slots names ≡ true

pub no_entry_yet : (version : ℕ) (vs : List Value) (entries : List PageEntry) (names : List (List ℕ)) → entries ≡ [] → names ≡ [] → PageSoFar version vs 0 entries names
no_entry_yet version vs entries names no_entries no_names =
    record {
      each = subst (λ (es : List PageEntry). Each (IsEntry version) [] es) (sym no_entries) none_left;
      named = no_names;
      slots = subst (λ ns. are_slots ns ≡ true) (sym no_names) refl;
    }

names_last : (ds : List Data) (d : Data) → names_in (ds ++ d ∷ []) ≡ names_in ds ++ name_list (slot_name d)
names_last ds d = flat_map-append (λ e. name_list (slot_name e)) ds (d ∷ []) ∙ ap (λ rest. names_in ds ++ rest) (append-nil (name_list (slot_name d)))

-- the names with one value more
pub names_more : (vs : List Value) (i : ℕ) (v : Value) → i < length vs → v ≡ get_or vs i v → names_in (map view (take (i + 1) vs)) ≡ names_in (map view (take i vs)) ++ name_list (slot_name (view v))
names_more vs i v within is =
    let more : take (i + 1) vs ≡ take i vs ++ v ∷ [] = take_more vs i v within ∙ ap (λ w. take i vs ++ w ∷ []) (sym is) in
    ap (λ ws. names_in (map view ws)) more ∙ ap names_in (map-append view (take i vs) (v ∷ [])) ∙ names_last (map view (take i vs)) (view v)

-- one entry more
pub page_more : (version : ℕ) (vs : List Value) (i : ℕ) (v : Value) (entries new : List PageEntry) (e : PageEntry) (names now : List (List ℕ)) → i < length vs → v ≡ get_or vs i v → PageSoFar version vs i entries names → IsEntry version (view v) e → now ≡ names ++ name_list (slot_name (view v)) → are_slots now ≡ true → new ≡ entries ++ e ∷ [] → PageSoFar version vs (i + 1) new now
page_more version vs i v entries new e names now within is so_far here named slots pushed =
    record {
      each = subst (λ es. Each (IsEntry version) (map view (take (i + 1) vs)) es) (sym pushed) (taken_more (IsEntry version) vs i v entries e within is so_far.each here);
      named = named ∙ ap (λ ns. ns ++ name_list (slot_name (view v))) so_far.named ∙ sym (names_more vs i v within is);
      slots = slots;
    }

good_entries : (version : ℕ) (vs : List Value) (i : ℕ) (entries : List PageEntry) (names : List (List ℕ)) → i ≤ length vs → PageSoFar version vs i entries names → AreGoodEntries version (map view vs) i
good_entries version vs i entries names within so_far =
    let same : map view (take i vs) ≡ take i (map view vs) = sym (taken_map i vs) in
    let seen = length-map vs view in
    record {
      within = omega arith;
      entries = entries;
      each = subst (λ ds. Each (IsEntry version) ds entries) same so_far.each;
      slots = subst (λ ds. are_slots (names_in ds) ≡ true) same (sym (ap are_slots so_far.named) ∙ so_far.slots);
    }

take_front : (ds : List Data) (a b : ℕ) → a ≤ b → take b ds ≡ take a ds ++ drop a (take b ds)
take_front ds zero b le = refl
take_front [] (suc a) zero le = refl
take_front [] (suc a) (suc b) le = refl
take_front (d ∷ ds) (suc a) zero le = absurd (omega arith)
take_front (d ∷ ds) (suc a) (suc b) le = ap (λ rest. d ∷ rest) (take_front ds a b (omega arith))

-- the slots of fewer entries
fewer_slots : (ds : List Data) (a b : ℕ) → a ≤ b → are_slots (names_in (take b ds)) ≡ true → are_slots (names_in (take a ds)) ≡ true
fewer_slots ds a b le all =
    let parts : names_in (take b ds) ≡ names_in (take a ds) ++ names_in (drop a (take b ds)) = ap names_in (take_front ds a b le) ∙ flat_map-append (λ e. name_list (slot_name e)) (take a ds) (drop a (take b ds)) in
    slots_front (names_in (take a ds)) (names_in (drop a (take b ds))) (sym (ap are_slots parts) ∙ all)

no_more : (version : ℕ) (vs : List Value) (i m : ℕ) (v : Value) (names : List (List ℕ)) → i < length vs → v ≡ get_or vs i v → names ≡ names_in (map view (take i vs)) → BreaksOff version (view v) names → i < m → AreGoodEntries version (map view vs) m → ⊥
no_more version vs i m v names within is named (inl none) lt good =
    let same : get_or (map view vs) i (view v) ≡ view v = get_or-map view vs i v ∙ ap view (sym is) in
    let fits = good.within in
    let long : i < length (take m (map view vs)) = grind (arith, common_steps) in
    let found = each_at (IsEntry version) (take m (map view vs)) good.entries i (view v) good.each long in
    none found.0 (subst (λ d. IsEntry version d found.0) (first_of_more (map view vs) i m (view v) lt ∙ same) found.1)
no_more version vs i m v names within is named (inr over) lt good =
    let here : names_in (take (i + 1) (map view vs)) ≡ names ++ name_list (slot_name (view v)) =
    ap names_in (taken_map (i + 1) vs) ∙ names_more vs i v within is ∙ ap (λ ns. ns ++ name_list (slot_name (view v))) (sym named) in
    let all = fewer_slots (map view vs) (i + 1) m (omega arith) good.slots in
    let both : are_slots (names ++ name_list (slot_name (view v))) ≡ true = sym (ap are_slots here) ∙ all in
    cc

-- they stop at an entry that breaks off
pub stops_at_entry : (version : ℕ) (vs : List Value) (i : ℕ) (v : Value) (entries : List PageEntry) (names : List (List ℕ)) → i < length vs → v ≡ get_or vs i v → PageSoFar version vs i entries names → BreaksOff version (view v) names → IsLongestGoodPage version (map view vs) i
stops_at_entry version vs i v entries names within is so_far breaks =
    record {
      good = good_entries version vs i entries names (omega arith) so_far;
      longest = λ m good. elim (cases_lt i m) as (λ _. m ≤ i) [ inl lt ↦ absurd (no_more version vs i m v names within is so_far.named breaks lt good) | inr ge ↦ ge ];
    }

pub page_length : (version : ℕ) (vs : List Value) (i : ℕ) (entries : List PageEntry) (names : List (List ℕ)) → i ≤ length vs → PageSoFar version vs i entries names → length entries ≡ i
page_length version vs i entries names within so_far =
    let same = each_length (IsEntry version) (map view (take i vs)) entries so_far.each in
    let seen = length-map (take i vs) view in
    let short : length (take i vs) ≡ i = grind (arith, common_steps) in
    omega arith

-- the place of a fault
pub page_fault_at : (version : ℕ) (vs : List Value) (i n : ℕ) → n ≡ i → i < length vs → IsLongestGoodPage version (map view vs) i → (n < length (map view vs)) × IsLongestGoodPage version (map view vs) n
page_fault_at version vs i n same within longest =
    let seen = length-map vs view in
    (omega arith, subst (λ k. IsLongestGoodPage version (map view vs) k) (sym same) longest)

-- all entries, and all their names
pub page_each : (version : ℕ) (vs : List Value) (i : ℕ) (entries : List PageEntry) (names : List (List ℕ)) → length vs ≤ i → PageSoFar version vs i entries names → Each (IsEntry version) (map view vs) entries
page_each version vs i entries names whole so_far = subst (λ ws. Each (IsEntry version) (map view ws) entries) (take_all i vs whole) so_far.each

pub page_names : (version : ℕ) (vs : List Value) (i : ℕ) (entries : List PageEntry) (names : List (List ℕ)) → length vs ≤ i → PageSoFar version vs i entries names → names ≡ names_in (map view vs)
page_names version vs i entries names whole so_far = so_far.named ∙ ap (λ ws. names_in (map view ws)) (take_all i vs whole)
