-- What the value of a JSON text costs, and what is wrong with it.
use Rattle.std.specs.Prelude.{ℕ, ◌+◌, true, ◌&&◌, not, List, length}
use Rattle.serde_json.specs.Data as json
use Rattle.code_units.specs.Utf8.{units_of}
use Rattle.code_units.specs.Permitted.{is_permitted}
use Rattle.widget_meaning.specs.JsonValues.{is_number}
use Rattle.widget_meaning.specs.NativeForms.{is_too_long}
use Rattle.json_text.specs.declared.weighing.Weight.{Weight}

-- nothing
abbrev pub no_weight : Weight
no_weight = record { cells = 0; slots = 0; units = 0; named = true; whole = true; short = true }

-- both
abbrev pub plus : Weight → Weight → Weight
plus a b = record {
  cells = a.cells + b.cells;
  slots = a.slots + b.slots;
  units = a.units + b.units;
  named = a.named && b.named;
  whole = a.whole && b.whole;
  short = a.short && b.short;
}

-- an object or array
abbrev pub cell_weight : Weight
cell_weight = record no_weight { cells = 1 }

-- the place of an element
abbrev pub slot_weight : Weight
slot_weight = record no_weight { slots = 1 }

-- the name of a member
abbrev pub name_weight : List ℕ → Weight
name_weight x = record no_weight { slots = 1; named = is_permitted x }

-- a text
abbrev pub text_weight : List ℕ → Weight
text_weight t = record no_weight { units = length t; short = not (is_too_long t) }

-- a number
abbrev pub number_weight : json.Num → Weight
number_weight x = record no_weight { whole = is_number x }

-- a value, whole
abbrev mutual
  pub weight : json.Data → Weight
  weight json.null = no_weight
  weight (json.boolean b) = no_weight
  weight (json.number x) = number_weight x
  weight (json.string bs) = text_weight (units_of bs)
  weight (json.array ds) = plus cell_weight (items_weight ds)
  weight (json.object ms) = plus cell_weight (members_weight ms)

  pub items_weight : json.Items → Weight
  items_weight json.no_items = no_weight
  items_weight (json.item d ds) = plus (plus slot_weight (weight d)) (items_weight ds)

  pub members_weight : json.Members → Weight
  members_weight json.no_members = no_weight
  members_weight (json.member k d ms) = plus (plus (name_weight (units_of k)) (weight d)) (members_weight ms)
