-- The items of a trace.
use Rattle.std.specs.Prelude.{◌≡◌, ◌≤◌, ◌<◌, ◌^◌, ℕ, Bool, IsTrue, List, [], ◌∷◌, length, codes, string_bytes, is_some, Option, Some, None, option_map}
use Rattle.code_units.specs.Utf8.{units_of}
use Rattle.plain_tree.specs.Words.{is_event_type}
use Rattle.serde_json.specs.Data.{Data, number, unsigned}
use Rattle.serde_json.specs.Find.{get, as_str}
use Rattle.json_shapes.specs.Each.{Each}
use Rattle.json_shapes.specs.Keys.{has_only}
use Rattle.json_shapes.specs.Look.{number_at, text_at, list_at, slot_at}
use Rattle.trace_reader.specs.declared.item.Happening.{Happening}
use Rattle.trace_reader.specs.declared.item.TraceItem.{TraceItem}
use Rattle.trace_reader.specs.declared.item.TraceItem.TheVariants.{Event, Advance, Swap}

-- a step of a path: a whole number below 2^32
pub record IsStep (d : Data) (n : ℕ) : Type 0 where
  pub is : d ≡ number (unsigned n)
  pub small : n < 2 ^ 32

-- the steps that a path may have
abbrev pub longest_path : ℕ
longest_path = 200

-- a path: at most 200 steps
pub record IsPath (steps : List Data) (path : List ℕ) : Type 0 where
  pub each : Each IsStep steps path
  pub short : length path ≤ longest_path

-- the units that the value of an event may have
abbrev pub longest_value : ℕ
longest_value = 65536

-- the value of an event, if it has one: a text of at most 65,536 units
abbrev pub IsValue : Option Data → Option (List ℕ) → Type 0
IsValue None value = value ≡ None
IsValue (Some d) value = (units : List ℕ) × (value ≡ Some units) × (option_map units_of (as_str d) ≡ Some units) × (length units ≤ longest_value)

-- the keys of the three kinds of items
abbrev pub advance_keys : List (List ℕ)
advance_keys = codes "advance" ∷ []

abbrev pub event_keys : List (List ℕ)
event_keys = codes "to" ∷ codes "event" ∷ codes "path" ∷ codes "value" ∷ []

abbrev pub swap_keys : List (List ℕ)
swap_keys = codes "swap" ∷ codes "file" ∷ []

-- the milliseconds that an advance may have
abbrev pub longest_advance : ℕ
longest_advance = 60000

-- an advance of time: at most a minute
pub record IsAdvance (d : Data) (ms : ℕ) : Type 0 where
  pub keys : IsTrue (has_only advance_keys d)
  pub time : number_at (codes "advance") d ≡ Some ms
  pub short : ms ≤ longest_advance

-- an event at a node of a slot: its type, the path to the node, and its value
pub record IsEvent (names : List (List ℕ)) (d : Data) (to : ℕ) (event : Happening) : Type 0 where
  pub keys : IsTrue (has_only event_keys d)
  pub slot : slot_at (codes "to") names d ≡ Some to
  pub kind : option_map units_of (text_at (codes "event") d) ≡ Some event.kind
  pub letters : IsTrue (is_event_type event.kind)
  pub steps : List Data
  pub list : list_at (codes "path") d ≡ Some steps
  pub path : IsPath steps event.path.items
  pub value : IsValue (get (codes "value") d) event.value

-- another file for a slot
pub record IsSwap (names : List (List ℕ)) (d : Data) (to : ℕ) (file : List ℕ) : Type 0 where
  pub keys : IsTrue (has_only swap_keys d)
  pub slot : slot_at (codes "swap") names d ≡ Some to
  pub text : text_at (codes "file") d ≡ Some file

-- an item of a version; only version 2 has swaps
abbrev pub IsItem : ℕ → List (List ℕ) → Data → TraceItem → Type 0
IsItem version names d (Event to event) = IsEvent names d to event
IsItem version names d (Advance ms) = IsAdvance d ms
IsItem version names d (Swap to file) = (version ≡ 2) × IsSwap names d to (string_bytes file)

-- the swaps that a trace may have
abbrev pub most_swaps : ℕ
most_swaps = 4

-- an entry that would be a swap
abbrev pub is_swap : Data → Bool
is_swap d = is_some (get (codes "swap") d)
