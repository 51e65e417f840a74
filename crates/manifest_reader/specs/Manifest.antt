-- A manifest as a JSON value, and where one is refused.
use Rattle.std.specs.Prelude.{◌≡◌, ◌≤◌, ⊤, ℕ, List, map, codes, MatchOption, Option}
use Rattle.serde_json.specs.Data.{Data}
use Rattle.json_shapes.specs.Look.{list_at}
use Rattle.json_shapes.specs.Json.{IsJson, judged_version}
use Rattle.manifest_shape.specs.Manifest as shaped
use Rattle.json_shapes.specs.declared.fault.ShapeFault.{ShapeFault}
use Rattle.json_shapes.specs.declared.fault.ShapeFault.TheVariants.{NotJson, BadShape, TooMany, Memory}
use Rattle.manifest_shape.specs.declared.manifest.ManifestShape.{ManifestShape}
use Rattle.manifest_reader.specs.Page.{Part, part_of, AreFilled}
use Rattle.manifest_reader.specs.declared.entry.Manifest.{Manifest}

-- a manifest of this shape
pub record IsOfShape (shape : ManifestShape) (manifest : Manifest) : Type 0 where
  pub entries : AreFilled shape.fuel shape.entries.items (map part_of manifest.entries.items)
  pub libs : manifest.libs.items ≡ shape.libs.items
  pub channels : manifest.channels.items ≡ shape.channels.items

-- the value is this manifest
pub record IsManifest (d : Data) (manifest : Manifest) : Type 0 where
  pub shape : ManifestShape
  pub is : shaped.IsManifest d shape
  pub filled : IsOfShape shape manifest

-- the first n entries of a page break no rule, alone or together
pub record AreGoodEntries (version : ℕ) (page : List Data) (n : ℕ) : Type 0 where
  pub shape : shaped.AreGoodEntries version page n
  pub given : Option ℕ
  pub parts : List Part
  pub filled : AreFilled given shape.entries parts

-- they do, and no more of them do
pub record IsLongestGoodPage (version : ℕ) (page : List Data) (n : ℕ) : Type 0 where
  pub good : AreGoodEntries version page n
  pub longest : (m : ℕ) → AreGoodEntries version page m → m ≤ n

-- the value is no manifest, and its item is the number of good entries, 0 where it has no page
pub record IsBadManifest (d : Data) (item : ℕ) : Type 0 where
  pub no_manifest : (manifest : Manifest) → ¬ IsManifest d manifest
  pub place : MatchOption (list_at (codes "page") d) (item ≡ 0) (λ page. IsLongestGoodPage (judged_version d) page item)

-- why a value is no manifest
abbrev pub IsValueFault : Data → ShapeFault → Type 0
IsValueFault d NotJson = ⊥
IsValueFault d (BadShape item) = IsBadManifest d item
IsValueFault d (TooMany items) = ⊥
IsValueFault d Memory = ⊤

-- why bytes are no manifest: each cause with what shows it
abbrev pub IsManifestFault : List ℕ → ShapeFault → Type 0
IsManifestFault bytes NotJson = (d : Data) → ¬ IsJson bytes d
IsManifestFault bytes (BadShape item) = (d : Data) × IsJson bytes d × IsBadManifest d item
IsManifestFault bytes (TooMany items) = ⊥
IsManifestFault bytes Memory = ⊤

-- the bytes are this manifest
pub record ReadsManifest (bytes : List ℕ) (manifest : Manifest) : Type 0 where
  pub value : Data
  pub json : IsJson bytes value
  pub is : IsManifest value manifest
