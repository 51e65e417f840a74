-- Entries that are items so far, and where they stop.
use Rattle.std.proofs.Common.{◌≡◌, ℕ, zero, suc, ◌+◌, ◌<◌, ◌≤◌, List, [], ◌∷◌, ◌++◌, length, map, take, get_or, codes, count_by, Some, MatchOption, if◌then◌else◌, inl, inr, refl, sym, ap, subst, ◌∙◌, arith}
use Rattle.std.proofs.lemmas.Grind.{common_steps}
use Rattle.std.proofs.lemmas.Bool.{cases_lt}
use Rattle.std.proofs.lemmas.List.{length-map, take_more, take_all, map-append}
use Rattle.std.proofs.Math.ListN.{get_or-map}
use Rattle.serde_json.specs.Data.{Data}
use Rattle.serde_json.specs.View.{view}
use Rattle.serde_json.specs.declared.value.Value.{Value}
use Rattle.json_shapes.specs.Each.{Each, none_left}
use Rattle.trace_reader.specs.Items.{IsItem, is_swap}
use Rattle.json_shapes.specs.Json.{judged_version}
use Rattle.json_lengths.specs.Lengths.{HasLengthOver}
use Rattle.trace_reader.specs.Trace.{AreGood, IsLongestGood, IsItemsFault, IsValueFault, IsTraceFault}
use Rattle.json_shapes.specs.declared.fault.ShapeFault.{ShapeFault}
use Rattle.json_shapes.specs.declared.fault.ShapeFault.TheVariants.{NotJson, BadShape, TooMany, Memory}
use Rattle.json_shapes.specs.Look.{list_at}
use Rattle.trace_reader.specs.declared.item.TraceItem.{TraceItem}
use Rattle.json_shapes.proofs.EachLemmas.{each_length, each_at, taken_more, taken_map, first_of_more}

-- the first i entries are these items, with so many swaps
pub record SoFar (version : ℕ) (names : List (List ℕ)) (vs : List Value) (i : ℕ) (items : List TraceItem) (swaps : ℕ) : Type 0 where
  pub each : Each (IsItem version names) (map view (take i vs)) items
  pub count : swaps ≡ count_by is_swap (map view (take i vs))
  pub few : swaps ≤ 4

pub none_yet : (version : ℕ) (names : List (List ℕ)) (vs : List Value) (items : List TraceItem) → items ≡ [] → SoFar version names vs 0 items 0
none_yet version names vs items empty = record { each = subst (λ (ts : List TraceItem). Each (IsItem version names) [] ts) (sym empty) none_left; count = refl; few = omega arith }

count_last : (ds : List Data) (d : Data) → count_by is_swap (ds ++ d ∷ []) ≡ count_by is_swap ds + (if is_swap d then 1 else 0)
count_last [] d = grind (arith, common_steps)
count_last (e ∷ ds) d = grind (arith, common_steps, count_last ds d)

-- one entry more, counted
pub count_more : (vs : List Value) (i : ℕ) (v : Value) → i < length vs → v ≡ get_or vs i v → count_by is_swap (map view (take (i + 1) vs)) ≡ count_by is_swap (map view (take i vs)) + (if is_swap (view v) then 1 else 0)
count_more vs i v within is =
    let more : take (i + 1) vs ≡ take i vs ++ v ∷ [] = take_more vs i v within ∙ ap (λ w. take i vs ++ w ∷ []) (sym is) in
    ap (λ ws. count_by is_swap (map view ws)) more ∙ ap (count_by is_swap) (map-append view (take i vs) (v ∷ [])) ∙ count_last (map view (take i vs)) (view v)

count_grows : (ds : List Data) (a b : ℕ) → a ≤ b → count_by is_swap (take a ds) ≤ count_by is_swap (take b ds)
count_grows ds zero b le = omega arith
count_grows [] (suc a) zero le = omega arith
count_grows [] (suc a) (suc b) le = omega arith
count_grows (d ∷ ds) (suc a) zero le = absurd (omega arith)
count_grows (d ∷ ds) (suc a) (suc b) le = grind (arith, common_steps, count_grows ds a b (omega arith))

-- the entries so far are good
are_good : (version : ℕ) (names : List (List ℕ)) (vs : List Value) (i : ℕ) (items : List TraceItem) (swaps : ℕ) → i ≤ length vs → SoFar version names vs i items swaps → AreGood version names (map view vs) i
are_good version names vs i items swaps within so_far =
    let same : map view (take i vs) ≡ take i (map view vs) = sym (taken_map i vs) in
    let seen = length-map vs view in
    let count = so_far.count in
    let few = so_far.few in
    let P : List Data → Type 0 = λ ds. count_by is_swap ds ≤ 4 in
    record {
      within = omega arith;
      items = items;
      each = subst (λ ds. Each (IsItem version names) ds items) same so_far.each;
      swaps = subst P same (omega arith);
    }

-- they stop at an entry that is no item
pub stops_at_item : (version : ℕ) (names : List (List ℕ)) (vs : List Value) (i : ℕ) (v : Value) (items : List TraceItem) (swaps : ℕ) → i < length vs → v ≡ get_or vs i v → SoFar version names vs i items swaps → ((t : TraceItem) → IsItem version names (view v) t → ⊥) → IsLongestGood version names (map view vs) i
stops_at_item version names vs i v items swaps within is so_far none =
    let same : get_or (map view vs) i (view v) ≡ view v = get_or-map view vs i v ∙ ap view (sym is) in
    record {
      good = are_good version names vs i items swaps (omega arith) so_far;
      longest = λ m good. elim (cases_lt i m) as (λ _. m ≤ i) [
        | inl lt ↦ (
            let fits = good.within in
            let long : i < length (take m (map view vs)) = grind (arith, common_steps) in
            let found = each_at (IsItem version names) (take m (map view vs)) good.items i (view v) good.each long in
            absurd (none found.0 (subst (λ d. IsItem version names d found.0) (first_of_more (map view vs) i m (view v) lt ∙ same) found.1)))
        | inr ge ↦ ge
      ];
    }

-- they stop at a fifth swap
pub stops_at_swap : (version : ℕ) (names : List (List ℕ)) (vs : List Value) (i : ℕ) (v : Value) (items : List TraceItem) (swaps : ℕ) → i < length vs → v ≡ get_or vs i v → SoFar version names vs i items swaps → 4 < swaps + (if is_swap (view v) then 1 else 0) → IsLongestGood version names (map view vs) i
stops_at_swap version names vs i v items swaps within is so_far many =
    let more = count_more vs i v within is in
    let count = so_far.count in
    let here : count_by is_swap (take (i + 1) (map view vs)) ≡ count_by is_swap (map view (take (i + 1) vs)) = ap (count_by is_swap) (taken_map (i + 1) vs) in
    let over : 4 < count_by is_swap (take (i + 1) (map view vs)) = omega arith in
    record {
      good = are_good version names vs i items swaps (omega arith) so_far;
      longest = λ m good. elim (cases_lt i m) as (λ _. m ≤ i) [
        | inl lt ↦ (let grows = count_grows (map view vs) (i + 1) m (omega arith) in let few = good.swaps in absurd (omega arith))
        | inr ge ↦ ge
      ];
    }

-- one item more
pub so_far_more : (version : ℕ) (names : List (List ℕ)) (vs : List Value) (i : ℕ) (v : Value) (items new : List TraceItem) (t : TraceItem) (swaps now : ℕ) → i < length vs → v ≡ get_or vs i v → SoFar version names vs i items swaps → IsItem version names (view v) t → now ≡ swaps + (if is_swap (view v) then 1 else 0) → now ≤ 4 → new ≡ items ++ t ∷ [] → SoFar version names vs (i + 1) new now
so_far_more version names vs i v items new t swaps now within is so_far here counted few pushed =
    let more = count_more vs i v within is in
    let count = so_far.count in
    record {
      each = subst (λ ts. Each (IsItem version names) (map view (take (i + 1) vs)) ts) (sym pushed) (taken_more (IsItem version names) vs i v items t within is so_far.each here);
      count = omega arith;
      few = few;
    }

-- as many items as entries so far
pub so_far_length : (version : ℕ) (names : List (List ℕ)) (vs : List Value) (i : ℕ) (items : List TraceItem) (swaps : ℕ) → i ≤ length vs → SoFar version names vs i items swaps → length items ≡ i
so_far_length version names vs i items swaps within so_far =
    let same = each_length (IsItem version names) (map view (take i vs)) items so_far.each in
    let seen = length-map (take i vs) view in
    let short : length (take i vs) ≡ i = grind (arith, common_steps) in
    omega arith

-- the place of a fault
pub fault_at : (version : ℕ) (names : List (List ℕ)) (vs : List Value) (i n : ℕ) → n ≡ i → i < length vs → IsLongestGood version names (map view vs) i → (n < length (map view vs)) × IsLongestGood version names (map view vs) n
fault_at version names vs i n same within longest =
    let seen = length-map vs view in
    (omega arith, subst (λ k. IsLongestGood version names (map view vs) k) (sym same) longest)

whole_good : (version : ℕ) (names : List (List ℕ)) (ds : List Data) (items : List TraceItem) → Each (IsItem version names) ds items → count_by is_swap ds ≤ 4 → AreGood version names ds (length ds)
whole_good version names ds items each few =
    let all : ds ≡ take (length ds) ds = sym (take_all (length ds) ds (omega arith)) in
    let P : List Data → Type 0 = λ es. count_by is_swap es ≤ 4 in
    record { within = omega arith; items = items; each = subst (λ es. Each (IsItem version names) es items) all each; swaps = subst P all few }

same_list : (key : List ℕ) (d : Data) (ds es : List Data) → Some ds ≡ list_at key d → list_at key d ≡ Some es → ds ≡ es
same_list key d ds es left right = cc

-- a fault of the entries is one of the value
pub pass_fault : (names : List (List ℕ)) (d : Data) (ds : List Data) (fault : ShapeFault) → Some ds ≡ list_at (codes "items") d → length ds ≤ 4096 → IsItemsFault (judged_version d) names ds fault → IsValueFault names d fault
pass_fault names d ds NotJson list few is = absurd is
pass_fault names d ds (TooMany n) list few is = absurd is
pass_fault names d ds Memory list few is = tt
pass_fault names d ds (BadShape item) list few is =
    record {
      few = λ n many. (let same = ap length (same_list (codes "items") d ds many.entries list many.list) in let count = many.count in let over = many.many in omega arith);
      no_trace = λ items trace.
          (let same = same_list (codes "items") d ds trace.entries list trace.list in
          let P : List Data → Type 0 = λ es. count_by is_swap es ≤ 4 in
          let good = whole_good (judged_version d) names ds items (subst (λ es. Each (IsItem (judged_version d) names) es items) (sym same) trace.each) (subst P (sym same) trace.swaps) in
          let all = is.1.longest (length ds) good in
          let some = is.0 in
          omega arith);
      place = subst (λ o. MatchOption o (item ≡ 0) (λ entries. IsLongestGood (judged_version d) names entries item)) list is.1;
    }

-- a list that is told to be too long
pub too_many : (bytes : List ℕ) (names : List (List ℕ)) (n : ℕ) → HasLengthOver bytes (codes "items") 4096 n → IsTraceFault bytes names (TooMany n)
too_many bytes names n over =
    let list = over.list in
    (over.value, over.json, record { entries = list.entries; list = list.list; count = list.count; many = over.many })
