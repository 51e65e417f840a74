-- What a line asks for.
use Rattle.std.specs.Prelude.{⊤, ℕ, Bool, true, false, IsTrue, List, [], ◌∷◌, codes, ◌&&◌, option_and_then, unwrap_or}
use Rattle.serde_json.specs.Data.{Data}
use Rattle.serde_json.specs.Find.{get, as_bool}
use Rattle.json_shapes.specs.Json.{IsJson}
use Rattle.json_shapes.specs.Keys.{has_only}
use Rattle.trace_reader.specs.Items.{IsItem}
use Rattle.trace_reader.specs.Said.{Said, said}
use Rattle.live_text.specs.declared.request.Request.{Request}
use Rattle.live_text.specs.declared.request.Request.TheVariants.{Item, Report}
use Rattle.live_text.specs.declared.request.RequestFault.{RequestFault}
use Rattle.live_text.specs.declared.request.RequestFault.TheVariants.{NotJson, BadShape, Memory}

-- an object whose one key is `report`, and its value is true
abbrev pub is_report : Data → Bool
is_report d = has_only (codes "report" ∷ []) d && unwrap_or (option_and_then as_bool (get (codes "report") d)) false

-- the value asks for this: an item of a trace of version 2, or the report
abbrev pub IsRequest : List (List ℕ) → Data → Request → Type 0
IsRequest names d (Item item) = IsItem 2 names d item
IsRequest names d Report = IsTrue (is_report d)

-- the bytes ask for this
pub record ReadsRequest (bytes : List ℕ) (names : List (List ℕ)) (request : Request) : Type 0 where
  pub value : Data
  pub json : IsJson bytes value
  pub asks : IsRequest names value request

-- why bytes ask for nothing: each cause with what shows it
abbrev pub IsRequestFault : List ℕ → List (List ℕ) → RequestFault → Type 0
IsRequestFault bytes names NotJson = (d : Data) → ¬ IsJson bytes d
IsRequestFault bytes names BadShape = (d : Data) × IsJson bytes d × ((request : Request) → ¬ IsRequest names d request)
IsRequestFault bytes names Memory = ⊤

-- what is asked, in plain data
pub data Asked : Type 0 where
  an_item : Said → Asked
  a_report : Asked

abbrev pub asked : Request → Asked
asked (Item item) = an_item (said item)
asked Report = a_report
