-- A trace as a JSON value, and where one is out of shape.
use Rattle.std.specs.Prelude.{◌≡◌, ◌≤◌, ◌<◌, ⊤, ℕ, IsTrue, List, [], ◌∷◌, length, take, codes, count_by, MatchOption, Some}
use Rattle.serde_json.specs.Data.{Data}
use Rattle.json_shapes.specs.Each.{Each}
use Rattle.json_shapes.specs.Json.{IsJson, has_version, judged_version}
use Rattle.json_shapes.specs.Keys.{has_only}
use Rattle.json_shapes.specs.Look.{list_at}
use Rattle.trace_reader.specs.Items.{IsItem, is_swap, most_swaps}
use Rattle.trace_reader.specs.declared.item.TraceItem.{TraceItem}
use Rattle.json_shapes.specs.declared.fault.ShapeFault.{ShapeFault}
use Rattle.json_shapes.specs.declared.fault.ShapeFault.TheVariants.{NotJson, BadShape, TooMany, Memory}

-- the items that a trace may have
abbrev pub most_items : ℕ
most_items = 4096

-- the keys of a trace
abbrev pub trace_keys : List (List ℕ)
trace_keys = codes "version" ∷ codes "items" ∷ []

-- the value is a trace of these items
pub record IsTrace (names : List (List ℕ)) (d : Data) (items : List TraceItem) : Type 0 where
  pub keys : IsTrue (has_only trace_keys d)
  pub version : IsTrue (has_version d)
  pub entries : List Data
  pub list : list_at (codes "items") d ≡ Some entries
  pub few : length entries ≤ most_items
  pub each : Each (IsItem (judged_version d) names) entries items
  pub swaps : count_by is_swap entries ≤ most_swaps

-- the first n entries break no rule, alone or together
pub record AreGood (version : ℕ) (names : List (List ℕ)) (entries : List Data) (n : ℕ) : Type 0 where
  pub within : n ≤ length entries
  pub items : List TraceItem
  pub each : Each (IsItem version names) (take n entries) items
  pub swaps : count_by is_swap (take n entries) ≤ most_swaps

-- they do, and no more of them do
pub record IsLongestGood (version : ℕ) (names : List (List ℕ)) (entries : List Data) (n : ℕ) : Type 0 where
  pub good : AreGood version names entries n
  pub longest : (m : ℕ) → AreGood version names entries m → m ≤ n

-- the value is an object whose list of items is too long
pub record HasTooMany (d : Data) (items : ℕ) : Type 0 where
  pub entries : List Data
  pub list : list_at (codes "items") d ≡ Some entries
  pub count : length entries ≡ items
  pub many : most_items < items

-- the value is no trace, and its item is the number of good entries, 0 where it has no list of them
pub record IsBadTrace (names : List (List ℕ)) (d : Data) (item : ℕ) : Type 0 where
  pub few : (items : ℕ) → ¬ HasTooMany d items
  pub no_trace : (items : List TraceItem) → ¬ IsTrace names d items
  pub place : MatchOption (list_at (codes "items") d) (item ≡ 0) (λ entries. IsLongestGood (judged_version d) names entries item)

-- why entries are no items
abbrev pub IsItemsFault : ℕ → List (List ℕ) → List Data → ShapeFault → Type 0
IsItemsFault version names entries NotJson = ⊥
IsItemsFault version names entries (BadShape item) = (item < length entries) × IsLongestGood version names entries item
IsItemsFault version names entries (TooMany items) = ⊥
IsItemsFault version names entries Memory = ⊤

-- why a value is no trace
abbrev pub IsValueFault : List (List ℕ) → Data → ShapeFault → Type 0
IsValueFault names d NotJson = ⊥
IsValueFault names d (BadShape item) = IsBadTrace names d item
IsValueFault names d (TooMany items) = HasTooMany d items
IsValueFault names d Memory = ⊤

-- the bytes are a trace of these items
pub record ReadsTrace (bytes : List ℕ) (names : List (List ℕ)) (items : List TraceItem) : Type 0 where
  pub value : Data
  pub json : IsJson bytes value
  pub trace : IsTrace names value items

-- why bytes are no trace: each cause with what shows it
abbrev pub IsTraceFault : List ℕ → List (List ℕ) → ShapeFault → Type 0
IsTraceFault bytes names NotJson = (d : Data) → ¬ IsJson bytes d
IsTraceFault bytes names (BadShape item) = (d : Data) × IsJson bytes d × IsBadTrace names d item
IsTraceFault bytes names (TooMany items) = (d : Data) × IsJson bytes d × HasTooMany d items
IsTraceFault bytes names Memory = ⊤
