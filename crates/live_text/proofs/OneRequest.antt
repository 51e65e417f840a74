-- A line asks for one thing at most.
use Rattle.std.proofs.Common.{◌≡◌, ℕ, true, false, List, [], ◌∷◌, codes, Option, Some, None, is_some, option_and_then, unwrap_or, refl, sym, ap, subst}
use Rattle.serde_json.specs.Data.{Data}
use Rattle.serde_json.specs.Find.{get, as_bool}
use Rattle.json_shapes.specs.Json.{IsJson}
use Rattle.json_shapes.specs.Keys.{has_only}
use Rattle.json_shapes.proofs.KeyLemmas.{both_true, listed}
use Rattle.trace_reader.specs.Items.{event_keys, advance_keys, swap_keys, IsItem}
use Rattle.trace_reader.specs.declared.item.TraceItem.{TraceItem}
use Rattle.trace_reader.specs.declared.item.TraceItem.TheVariants.{Event, Advance, Swap}
use Rattle.trace_reader.proofs.OneTrace.{one_item}
use Rattle.live_text.specs.Request.{is_report, IsRequest, ReadsRequest, IsRequestFault, an_item, asked}
use Rattle.live_text.specs.declared.request.Request.{Request}
use Rattle.live_text.specs.declared.request.Request.TheVariants.{Item, Report}
use Rattle.live_text.specs.declared.request.RequestFault.{RequestFault}
use Rattle.live_text.specs.declared.request.RequestFault.TheVariants.{NotJson, BadShape, Memory}

-- bytes have one value
one_value : (bytes : List ℕ) (d e : Data) → IsJson bytes d → IsJson bytes e → d ≡ e
one_value bytes d e left right = let l = left.value in let r = right.value in cc

-- what is true stands there
under_flag : (o : Option Data) → unwrap_or (option_and_then as_bool o) false ≡ true → is_some o ≡ true
under_flag None is = cc
under_flag (Some d) is = refl

-- the request for a report is no item
no_item : (names : List (List ℕ)) (d : Data) (item : TraceItem) → is_some (get (codes "report") d) ≡ true → IsItem 2 names d item → ⊥
no_item names d (Event to event) some is = let h = listed (codes "report") d event_keys some is.keys in cc
no_item names d (Advance ms) some is = let h = listed (codes "report") d advance_keys some is.keys in cc
no_item names d (Swap to file) some is = let h = listed (codes "report") d swap_keys some is.1.keys in cc

report_no_item : (names : List (List ℕ)) (d : Data) (item : TraceItem) → is_report d ≡ true → IsItem 2 names d item → ⊥
report_no_item names d item report is =
    let parts = both_true (has_only (codes "report" ∷ []) d) (unwrap_or (option_and_then as_bool (get (codes "report") d)) false) report in
    no_item names d item (under_flag (get (codes "report") d) parts.1) is

one_of_value : (names : List (List ℕ)) (d : Data) (request other : Request) → IsRequest names d request → IsRequest names d other → asked request ≡ asked other
one_of_value names d (Item item) (Item other) left right = ap an_item (one_item 2 names d item other left right)
one_of_value names d (Item item) Report left right = absurd (report_no_item names d item right left)
one_of_value names d Report (Item item) left right = absurd (report_no_item names d item left right)
one_of_value names d Report Report left right = refl

pub one_request : (bytes : List ℕ) (names : List (List ℕ)) (request other : Request) → ReadsRequest bytes names request → ReadsRequest bytes names other → asked request ≡ asked other
one_request bytes names request other left right =
    one_of_value names right.value request other (subst (λ d. IsRequest names d request) (one_value bytes left.value right.value left.json right.json) left.asks) right.asks

pub one_fault : (bytes : List ℕ) (names : List (List ℕ)) (fault other : RequestFault) → IsRequestFault bytes names fault → IsRequestFault bytes names other → (fault ≡ Memory → ⊥) → (other ≡ Memory → ⊥) → fault ≡ other
one_fault bytes names Memory other left right here there = absurd (here refl)
one_fault bytes names NotJson Memory left right here there = absurd (there refl)
one_fault bytes names BadShape Memory left right here there = absurd (there refl)
one_fault bytes names NotJson NotJson left right here there = refl
one_fault bytes names NotJson BadShape left right here there = absurd (left right.0 right.1)
one_fault bytes names BadShape NotJson left right here there = absurd (right left.0 left.1)
one_fault bytes names BadShape BadShape left right here there = refl

pub refused : (bytes : List ℕ) (names : List (List ℕ)) (request : Request) (fault : RequestFault) → ReadsRequest bytes names request → IsRequestFault bytes names fault → fault ≡ Memory
refused bytes names request NotJson reads is = absurd (is reads.value reads.json)
refused bytes names request BadShape reads is =
    absurd (is.2 request (subst (λ d. IsRequest names d request) (one_value bytes reads.value is.0 reads.json is.1) reads.asks))
refused bytes names request Memory reads is = refl

-- ## What is read

pub reads_report : (bytes : List ℕ) (names : List (List ℕ)) (d : Data) → IsJson bytes d → true ≡ is_report d → ReadsRequest bytes names Report
reads_report bytes names d json report = record { value = d; json = json; asks = sym report }

pub reads_item : (bytes : List ℕ) (names : List (List ℕ)) (d : Data) (item : TraceItem) → IsJson bytes d → IsItem 2 names d item → ReadsRequest bytes names (Item item)
reads_item bytes names d item json is = record { value = d; json = json; asks = is }

-- no item and no request for a report
no_request : (names : List (List ℕ)) (d : Data) → false ≡ is_report d → ((item : TraceItem) → IsItem 2 names d item → ⊥) → (request : Request) → IsRequest names d request → ⊥
no_request names d no_report none (Item item) is = none item is
no_request names d no_report none Report is = cc

pub bad_request : (bytes : List ℕ) (names : List (List ℕ)) (d : Data) → IsJson bytes d → false ≡ is_report d → ((item : TraceItem) → IsItem 2 names d item → ⊥) → IsRequestFault bytes names BadShape
bad_request bytes names d json no_report none = (d, json, no_request names d no_report none)
