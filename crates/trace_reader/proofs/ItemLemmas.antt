-- What is an item, and what is none.
use Rattle.std.proofs.Common.{◌≡◌, ℕ, ◌+◌, ◌<◌, ◌≤◌, true, false, List, [], ◌∷◌, ◌++◌, length, map, take, get_or, codes, Option, Some, None, is_some, option_and_then, refl, sym, ap, subst, arith}
use Rattle.std.proofs.lemmas.List.{length-map, take_all}
use Rattle.serde_json.specs.Data.{Data, null, boolean, number, string, array, object, unsigned, negative, float}
use Rattle.serde_json.specs.Find.{get, as_number, as_u64}
use Rattle.serde_json.specs.View.{view}
use Rattle.serde_json.specs.declared.value.Value.{Value}
use Rattle.json_shapes.specs.Each.{Each}
use Rattle.json_shapes.specs.Look.{number_at}
use Rattle.trace_reader.specs.Items.{event_keys, swap_keys, IsStep, IsPath, IsAdvance, IsSwap, IsItem}
use Rattle.trace_reader.specs.declared.item.TraceItem.{TraceItem}
use Rattle.trace_reader.specs.declared.item.TraceItem.TheVariants.{Event, Advance, Swap}
use Rattle.json_shapes.proofs.EachLemmas.{each_length, taken_more, no_each_value}
use Rattle.json_shapes.proofs.KeyLemmas.{listed}

-- too many steps
pub too_long : (vs : List Value) (path : List ℕ) → 200 < length vs → IsPath (map view vs) path → ⊥
too_long vs path long is =
    let same = each_length IsStep (map view vs) path is.each in
    let seen = length-map vs view in
    let short = is.short in
    omega arith

-- a number is a step
pub is_step : (d : Data) (n : ℕ) → Some n ≡ option_and_then as_u64 (as_number d) → n ≤ 4294967295 → IsStep d n
is_step null n is small = cc
is_step (boolean b) n is small = cc
is_step (number (unsigned m)) n is small = let same : m ≡ n = cc in record { is = ap (λ k. number (unsigned k)) same; small = omega arith }
is_step (number (negative z)) n is small = cc
is_step (number (float x)) n is small = cc
is_step (string s) n is small = cc
is_step (array ds) n is small = cc
is_step (object ms) n is small = cc

step_number : (d : Data) (n : ℕ) → IsStep d n → option_and_then as_u64 (as_number d) ≡ Some n
step_number d n step = ap (λ e. option_and_then as_u64 (as_number e)) step.is

pub no_number : (vs : List Value) (i : ℕ) (v : Value) (path : List ℕ) → i < length vs → v ≡ get_or vs i v → None ≡ option_and_then as_u64 (as_number (view v)) → IsPath (map view vs) path → ⊥
no_number vs i v path within is none path_is =
    no_each_value IsStep vs path i v within is (λ n step. let found = step_number (view v) n step in cc) path_is.each

pub too_large : (vs : List Value) (i : ℕ) (v : Value) (m : ℕ) (path : List ℕ) → i < length vs → v ≡ get_or vs i v → Some m ≡ option_and_then as_u64 (as_number (view v)) → 4294967295 < m → IsPath (map view vs) path → ⊥
too_large vs i v m path within is some large path_is =
    no_each_value IsStep vs path i v within is (λ n step. let found = step_number (view v) n step in let same : m ≡ n = cc in let small = step.small in omega arith) path_is.each

-- the steps of the whole list
pub all_steps : (vs : List Value) (i : ℕ) (path : List ℕ) → length vs ≤ i → length vs ≤ 200 → Each IsStep (map view (take i vs)) path → IsPath (map view vs) path
all_steps vs i path whole few each =
    let all : Each IsStep (map view vs) path = subst (λ ws. Each IsStep (map view ws) path) (take_all i vs whole) each in
    let same = each_length IsStep (map view vs) path all in
    let seen = length-map vs view in
    record { each = all; short = omega arith }

pub step_more : (vs : List Value) (i : ℕ) (v : Value) (path new : List ℕ) (n : ℕ) → i < length vs → v ≡ get_or vs i v → Each IsStep (map view (take i vs)) path → Some n ≡ option_and_then as_u64 (as_number (view v)) → n ≤ 4294967295 → new ≡ path ++ n ∷ [] → Each IsStep (map view (take (i + 1) vs)) new
step_more vs i v path new n within is so_far found small pushed =
    subst (λ ys. Each IsStep (map view (take (i + 1) vs)) ys) (sym pushed) (taken_more IsStep vs i v path n within is so_far (is_step (view v) n found small))

-- what has no value under a key has no number there
none_under : (key : List ℕ) (d : Data) (n : ℕ) (o : Option Data) → get key d ≡ o → is_some o ≡ false → number_at key d ≡ Some n → ⊥
none_under key d n None is none found = let nothing : number_at key d ≡ None = ap (λ o. option_and_then as_u64 (option_and_then as_number o)) is in cc
none_under key d n (Some e) is none found = cc

-- an advance is nothing else
pub no_advance : (version : ℕ) (names : List (List ℕ)) (d : Data) → is_some (get (codes "advance") d) ≡ true → ((ms : ℕ) → IsAdvance d ms → ⊥) → (t : TraceItem) → IsItem version names d t → ⊥
no_advance version names d some none (Event to event) is = let h = listed (codes "advance") d event_keys some is.keys in cc
no_advance version names d some none (Advance ms) is = none ms is
no_advance version names d some none (Swap to file) is = let h = listed (codes "advance") d swap_keys some is.1.keys in cc

-- nor is a swap
pub no_swap : (version : ℕ) (names : List (List ℕ)) (d : Data) → is_some (get (codes "advance") d) ≡ false → is_some (get (codes "swap") d) ≡ true → ((to : ℕ) (file : List ℕ) → version ≡ 2 → IsSwap names d to file → ⊥) → (t : TraceItem) → IsItem version names d t → ⊥
no_swap version names d apart some none (Event to event) is = let h = listed (codes "swap") d event_keys some is.keys in cc
no_swap version names d apart some none (Advance ms) is = none_under (codes "advance") d ms (get (codes "advance") d) refl apart is.time
no_swap version names d apart some none (Swap to file) is = none to _ is.0 is.1
