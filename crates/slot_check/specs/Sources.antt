-- A slot with its files.
use Rattle.std.specs.Prelude.{◌≡◌, ℕ, ◌-◌, List, map, take, drop, Some, position, slice_get}
use Rattle.std.specs.Str.{bytes_eq}
use Rattle.code_units.specs.Utf8.{units_of}
use Rattle.widget_form.specs.declared.form.Span.{Span}

-- a file under its name; both are bytes
pub record Source : Type 0 where
  pub name : List ℕ
  pub bytes : List ℕ

-- a slot: its name as units, its file, and the libraries of its manifest in order
pub record Slot : Type 0 where
  pub name : List ℕ
  pub file : Source
  pub libs : List Source

-- the name of a file as units
abbrev pub key_of : Source → List ℕ
key_of source = units_of source.name

abbrev pub keys_of : List Source → List (List ℕ)
keys_of libs = map key_of libs

-- the library of a name is the first that has it
pub record IsLibrary (libs : List Source) (name : List ℕ) (place : ℕ) (lib : Source) : Type 0 where
  pub first : position (bytes_eq name) (keys_of libs) ≡ Some place
  pub there : slice_get libs place ≡ Some lib

-- the text of a script that stands there in a file
abbrev pub script_text : List ℕ → Span → List ℕ
script_text bytes span = take (span.to - span.from) (drop span.from bytes)
