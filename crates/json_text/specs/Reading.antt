-- What is done with a value that was read.
use Rattle.std.specs.Prelude.{◌≡◌, ℕ, List, length, Some, None}
use Rattle.code_units.specs.Utf8.{utf8_of}
use Rattle.serde_json.specs.Data as json
use Rattle.serde_json.specs.Read.{read}
use Rattle.serde_json.specs.View.{view}
use Rattle.json_judge.specs.Verdicts.{IsRefused}
use Rattle.widget_meaning.specs.OwnState.{Amounts, State}
use Rattle.widget_meaning.specs.Plan.{Plan}
use Rattle.widget_meaning.specs.Costs.{cost}
use Rattle.widget_meaning.specs.JsonValues.{cells_at, give_read, has_numbers, read_value, texts_in, value_at}
use Rattle.json_text.specs.declared.reading.Found.{Found}
use Rattle.json_text.specs.declared.reading.Found.TheVariants as found
use Rattle.json_text.specs.declared.weighing.Weight.{Weight}

-- what is made of UTF-8: its value, or it is no JSON
abbrev pub IsMade : List ℕ → Found → Type 0
IsMade bytes found.NotJson = read bytes ≡ None
IsMade bytes found.Refused = ⊥
IsMade bytes (found.Value json) = read bytes ≡ Some (view json)

-- what a text is found to be
abbrev pub Parses : List ℕ → Found → Type 0
Parses t found.NotJson = read (utf8_of t) ≡ None
Parses t found.Refused = IsRefused (utf8_of t)
Parses t (found.Value json) = read (utf8_of t) ≡ Some (view json)

-- the cost of a weight
abbrev pub weight_cost : Weight → Amounts
weight_cost a = cost a.units a.cells a.slots 0

-- its names are judged, and then the extra is taken
abbrev pub read_plan : ℕ → json.Data → State → Plan
read_plan extra d s = read_value extra d (cells_at (length s.own.heap) d) (value_at (length s.own.heap) d) s

-- the stops, the cost, and then all is born
abbrev pub born_plan : json.Data → State → Plan
born_plan d s =
    give_read (has_numbers d) (value_at (length s.own.heap) d) (cells_at (length s.own.heap) d)
    (texts_in (value_at (length s.own.heap) d) (cells_at (length s.own.heap) d)) s
