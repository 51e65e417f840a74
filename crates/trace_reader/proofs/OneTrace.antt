-- Bytes are one trace at most.
use Rattle.std.proofs.Common.{◌≡◌, ℕ, true, List, [], ◌∷◌, map, length, codes, Option, Some, None, MatchOption, refl, sym, ap, subst, ◌∙◌, arith}
use Rattle.std.specs.Prelude.{is_some, option_and_then, position}
use Rattle.std.specs.Str.{bytes_eq}
use Rattle.serde_json.specs.Data.{Data}
use Rattle.serde_json.specs.Find.{get, as_str, as_number, as_u64}
use Rattle.json_shapes.specs.Each.{Each, none_left, one_each}
use Rattle.json_shapes.specs.Look.{number_at, slot_at, list_at}
use Rattle.trace_reader.specs.Items.{event_keys, advance_keys, IsStep, IsValue, IsItem, IsEvent, IsAdvance, IsSwap}
use Rattle.trace_reader.specs.Said.{Said, said, an_event, an_advance, a_swap}
use Rattle.json_shapes.specs.Json.{IsJson, judged_version}
use Rattle.trace_reader.specs.Trace.{IsTrace, IsLongestGood, IsBadTrace, HasTooMany, ReadsTrace, IsTraceFault}
use Rattle.trace_reader.specs.declared.item.Happening.{Happening}
use Rattle.trace_reader.specs.declared.item.TraceItem.{TraceItem}
use Rattle.trace_reader.specs.declared.item.TraceItem.TheVariants.{Event, Advance, Swap}
use Rattle.json_shapes.specs.declared.fault.ShapeFault.{ShapeFault}
use Rattle.json_shapes.specs.declared.fault.ShapeFault.TheVariants.{NotJson, BadShape, TooMany, Memory}
use Rattle.json_shapes.proofs.EachLemmas.{each_same}
use Rattle.json_shapes.proofs.KeyLemmas.{listed}

-- bytes have one value, and a value has one list of entries
one_value : (bytes : List ℕ) (d e : Data) → IsJson bytes d → IsJson bytes e → d ≡ e
one_value bytes d e left right = let l = left.value in let r = right.value in cc

one_some : {X : Type 0} (o : Option X) (x y : X) → o ≡ Some x → o ≡ Some y → x ≡ y
one_some o x y left right = cc

one_step : (d : Data) (m n : ℕ) → IsStep d m → IsStep d n → m ≡ n
one_step d m n left right = let l = left.is in let r = right.is in cc

said_value : (o : Option Data) (a b : Option (List ℕ)) → IsValue o a → IsValue o b → a ≡ b
said_value None a b left right = left ∙ sym right
said_value (Some d) a b left right = left.1 ∙ sym left.2 ∙ right.2 ∙ sym right.1

-- ## Items

-- what has a number or a slot under a key has something there
under_number : (key : List ℕ) (d : Data) (n : ℕ) (o : Option Data) → get key d ≡ o → number_at key d ≡ Some n → is_some (get key d) ≡ true
under_number key d n None is found = let nothing : number_at key d ≡ None = ap (λ o. option_and_then as_u64 (option_and_then as_number o)) is in let no : ⊥ = cc in absurd no
under_number key d n (Some e) is found = ap is_some is

under_slot : (key : List ℕ) (names : List (List ℕ)) (d : Data) (to : ℕ) (o : Option Data) → get key d ≡ o → slot_at key names d ≡ Some to → is_some (get key d) ≡ true
under_slot key names d to None is found =
    let nothing : slot_at key names d ≡ None = ap (λ o. option_and_then (λ text. position (λ name. bytes_eq name text) names) (option_and_then as_str o)) is in
    let no : ⊥ = cc in absurd no
under_slot key names d to (Some e) is found = ap is_some is

-- an advance is no event, and a swap is neither
no_event : (names : List (List ℕ)) (d : Data) (ms to : ℕ) (event : Happening) → IsAdvance d ms → IsEvent names d to event → ⊥
no_event names d ms to event advance is =
    let h = listed (codes "advance") d event_keys (under_number (codes "advance") d ms (get (codes "advance") d) refl advance.time) is.keys in cc

swap_no_event : (names : List (List ℕ)) (d : Data) (to from : ℕ) (file : List ℕ) (event : Happening) → IsSwap names d to file → IsEvent names d from event → ⊥
swap_no_event names d to from file event swap is =
    let h = listed (codes "swap") d event_keys (under_slot (codes "swap") names d to (get (codes "swap") d) refl swap.slot) is.keys in cc

swap_no_advance : (names : List (List ℕ)) (d : Data) (to ms : ℕ) (file : List ℕ) → IsSwap names d to file → IsAdvance d ms → ⊥
swap_no_advance names d to ms file swap is =
    let h = listed (codes "swap") d advance_keys (under_slot (codes "swap") names d to (get (codes "swap") d) refl swap.slot) is.keys in cc

same_event : (to from : ℕ) (kind type : List ℕ) (path way : List ℕ) (value text : Option (List ℕ)) → to ≡ from → kind ≡ type → path ≡ way → value ≡ text → an_event to kind path value ≡ an_event from type way text
same_event to from kind type path way value text a b c e = cc

one_event : (names : List (List ℕ)) (d : Data) (to from : ℕ) (event other : Happening) → IsEvent names d to event → IsEvent names d from other → said (Event to event) ≡ said (Event from other)
one_event names d to from event other left right =
    let same : left.steps ≡ right.steps = one_some _ left.steps right.steps left.list right.list in
    same_event to from event.kind other.kind event.path.items other.path.items event.value other.value
    (one_some _ to from left.slot right.slot)
    (one_some _ event.kind other.kind left.kind right.kind)
    (each_same IsStep right.steps event.path.items other.path.items one_step (subst (λ steps. Each IsStep steps event.path.items) same left.path.each) right.path.each)
    (said_value _ event.value other.value left.value right.value)

one_swap : (names : List (List ℕ)) (d : Data) (to from : ℕ) (file other : List ℕ) → IsSwap names d to file → IsSwap names d from other → a_swap to file ≡ a_swap from other
one_swap names d to from file other left right =
    let places : to ≡ from = one_some _ to from left.slot right.slot in
    let files : file ≡ other = one_some _ file other left.text right.text in
    ap (λ n. a_swap n file) places ∙ ap (a_swap from) files

pub one_item : (version : ℕ) (names : List (List ℕ)) (d : Data) (t u : TraceItem) → IsItem version names d t → IsItem version names d u → said t ≡ said u
one_item version names d (Event to event) (Event from other) left right = one_event names d to from event other left right
one_item version names d (Event to event) (Advance ms) left right = absurd (no_event names d ms to event right left)
one_item version names d (Event to event) (Swap from file) left right = absurd (swap_no_event names d from to _ event right.1 left)
one_item version names d (Advance ms) (Event to event) left right = absurd (no_event names d ms to event left right)
one_item version names d (Advance ms) (Advance time) left right = ap an_advance (one_some _ ms time left.time right.time)
one_item version names d (Advance ms) (Swap to file) left right = absurd (swap_no_advance names d to ms _ right.1 left)
one_item version names d (Swap to file) (Event from event) left right = absurd (swap_no_event names d to from _ event left.1 right)
one_item version names d (Swap to file) (Advance ms) left right = absurd (swap_no_advance names d to ms _ left.1 right)
one_item version names d (Swap to file) (Swap from other) left right = one_swap names d to from _ _ left.1 right.1

-- a value is an item that says this
record IsSaid (version : ℕ) (names : List (List ℕ)) (d : Data) (s : Said) : Type 0 where
  item : TraceItem
  is : IsItem version names d item
  same : said item ≡ s

as_said : (version : ℕ) (names : List (List ℕ)) (ds : List Data) (items : List TraceItem) → Each (IsItem version names) ds items → Each (IsSaid version names) ds (map said items)
as_said version names [] [] none_left = none_left
as_said version names [] (t ∷ items) each = elim each [ ]
as_said version names (d ∷ ds) [] each = elim each [ ]
as_said version names (d ∷ ds) (t ∷ items) (one_each first rest) = one_each (record { item = t; is = first; same = refl }) (as_said version names ds items rest)

one_said : (version : ℕ) (names : List (List ℕ)) (d : Data) (s t : Said) → IsSaid version names d s → IsSaid version names d t → s ≡ t
one_said version names d s t left right = sym left.same ∙ one_item version names d left.item right.item left.is right.is ∙ right.same

one_of_value : (names : List (List ℕ)) (d : Data) (items others : List TraceItem) → IsTrace names d items → IsTrace names d others → map said items ≡ map said others
one_of_value names d items others left right =
    let version = judged_version d in
    let same : left.entries ≡ right.entries = one_some _ left.entries right.entries left.list right.list in
    each_same (IsSaid version names) right.entries (map said items) (map said others) (one_said version names)
    (subst (λ ds. Each (IsSaid version names) ds (map said items)) same (as_said version names left.entries items left.each))
    (as_said version names right.entries others right.each)

pub one_trace : (bytes : List ℕ) (names : List (List ℕ)) (items others : List TraceItem) → ReadsTrace bytes names items → ReadsTrace bytes names others → map said items ≡ map said others
one_trace bytes names items others left right =
    one_of_value names right.value items others (subst (λ d. IsTrace names d items) (one_value bytes left.value right.value left.json right.json) left.trace) right.trace

-- ## Refusals

one_longest : (version : ℕ) (names : List (List ℕ)) (entries : List Data) (m n : ℕ) → IsLongestGood version names entries m → IsLongestGood version names entries n → m ≡ n
one_longest version names entries m n left right =
    let up = right.longest m left.good in let down = left.longest n right.good in omega arith

one_place : (version : ℕ) (names : List (List ℕ)) (o : Option (List Data)) (m n : ℕ) → MatchOption o (m ≡ 0) (λ entries. IsLongestGood version names entries m) → MatchOption o (n ≡ 0) (λ entries. IsLongestGood version names entries n) → m ≡ n
one_place version names None m n left right = left ∙ sym right
one_place version names (Some entries) m n left right = one_longest version names entries m n left right

one_bad : (names : List (List ℕ)) (d : Data) (m n : ℕ) → IsBadTrace names d m → IsBadTrace names d n → m ≡ n
one_bad names d m n left right = one_place (judged_version d) names (list_at (codes "items") d) m n left.place right.place

one_count : (d : Data) (m n : ℕ) → HasTooMany d m → HasTooMany d n → m ≡ n
one_count d m n left right = sym left.count ∙ ap length (one_some _ left.entries right.entries left.list right.list) ∙ right.count

pub one_fault : (bytes : List ℕ) (names : List (List ℕ)) (fault other : ShapeFault) → IsTraceFault bytes names fault → IsTraceFault bytes names other → (fault ≡ Memory → ⊥) → (other ≡ Memory → ⊥) → fault ≡ other
one_fault bytes names Memory other left right here there = absurd (here refl)
one_fault bytes names NotJson Memory left right here there = absurd (there refl)
one_fault bytes names (BadShape m) Memory left right here there = absurd (there refl)
one_fault bytes names (TooMany m) Memory left right here there = absurd (there refl)
one_fault bytes names NotJson NotJson left right here there = refl
one_fault bytes names NotJson (BadShape n) left right here there = absurd (left right.0 right.1)
one_fault bytes names NotJson (TooMany n) left right here there = absurd (left right.0 right.1)
one_fault bytes names (BadShape m) NotJson left right here there = absurd (right left.0 left.1)
one_fault bytes names (TooMany m) NotJson left right here there = absurd (right left.0 left.1)
one_fault bytes names (BadShape m) (BadShape n) left right here there =
    ap BadShape (one_bad names right.0 m n (subst (λ d. IsBadTrace names d m) (one_value bytes left.0 right.0 left.1 right.1) left.2) right.2)
one_fault bytes names (BadShape m) (TooMany n) left right here there =
    absurd (left.2.few n (subst (λ d. HasTooMany d n) (one_value bytes right.0 left.0 right.1 left.1) right.2))
one_fault bytes names (TooMany m) (BadShape n) left right here there =
    absurd (right.2.few m (subst (λ d. HasTooMany d m) (one_value bytes left.0 right.0 left.1 right.1) left.2))
one_fault bytes names (TooMany m) (TooMany n) left right here there =
    ap TooMany (one_count right.0 m n (subst (λ d. HasTooMany d m) (one_value bytes left.0 right.0 left.1 right.1) left.2) right.2)

few_enough : (names : List (List ℕ)) (d : Data) (items : List TraceItem) (n : ℕ) → IsTrace names d items → HasTooMany d n → ⊥
few_enough names d items n trace many =
    let same : length trace.entries ≡ length many.entries = ap length (one_some _ trace.entries many.entries trace.list many.list) in
    let few = trace.few in
    let count = many.count in
    let over = many.many in
    omega arith

pub refused : (bytes : List ℕ) (names : List (List ℕ)) (items : List TraceItem) (fault : ShapeFault) → ReadsTrace bytes names items → IsTraceFault bytes names fault → fault ≡ Memory
refused bytes names items NotJson reads is = absurd (is reads.value reads.json)
refused bytes names items (BadShape n) reads is = absurd (is.2.no_trace items (subst (λ d. IsTrace names d items) (one_value bytes reads.value is.0 reads.json is.1) reads.trace))
refused bytes names items (TooMany n) reads is = absurd (few_enough names is.0 items n (subst (λ d. IsTrace names d items) (one_value bytes reads.value is.0 reads.json is.1) reads.trace) is.2)
refused bytes names items Memory reads is = refl
