-- How long the list under a key of a JSON text is.
use Rattle.std.specs.Prelude.{◌≡◌, ◌<◌, ℕ, zero, suc, Bool, true, false, List, length, Some, None}
use Rattle.json.specs.Json as grammar
use Rattle.serde_json.specs.Data.{Data}
use Rattle.serde_json.specs.Read.{read}
use Rattle.json_shapes.specs.Json.{IsJson}
use Rattle.json_shapes.specs.Look.{list_at}

-- how many items there are
abbrev pub items_length : grammar.Items → ℕ
items_length grammar.no_items = zero
items_length (grammar.item j js) = suc (items_length js)

-- the value has a list of this length under a key
pub record HasListOf (key : List ℕ) (d : Data) (n : ℕ) : Type 0 where
  pub entries : List Data
  pub list : list_at key d ≡ Some entries
  pub count : length entries ≡ n

-- if the text is JSON, its value has such a list
abbrev pub HasLength : List ℕ → List ℕ → ℕ → Type 0
HasLength text key n = (d : Data) → read text ≡ Some d → HasListOf key d n

-- the bytes are JSON with such a list, which is longer than it may be
pub record HasLengthOver (bytes key : List ℕ) (most n : ℕ) : Type 0 where
  pub value : Data
  pub json : IsJson bytes value
  pub list : HasListOf key value n
  pub many : most < n

-- whether a text is JSON
abbrev pub TellsJson : List ℕ → Bool → Type 0
TellsJson text true = (d : Data) × (read text ≡ Some d)
TellsJson text false = read text ≡ None
