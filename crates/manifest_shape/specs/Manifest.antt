-- A manifest as a JSON value, the markup of its page aside, and where one is out of shape.
use Rattle.std.specs.Prelude.{◌≡◌, ◌≤◌, ◌<◌, ◌⊎◌, ◌++◌, false, ⊤, ℕ, Bool, IsTrue, List, [], ◌∷◌, length, take, codes, String, string_bytes, position, slice_get, option_and_then, nat_eq, ◌&&◌, Option, Some, None, MatchOption, if◌then◌else◌}
use Rattle.std.specs.List.{flat_map}
use Rattle.std.specs.Str.{bytes_eq}
use Rattle.std.specs.declared.alloc.Global.{Global}
use Rattle.serde_json.specs.Data.{Data}
use Rattle.serde_json.specs.Find.{get, as_str}
use Rattle.manifest_shape.specs.Distinct.{distinct}
use Rattle.json_shapes.specs.Each.{Each}
use Rattle.json_shapes.specs.Keys.{has_only}
use Rattle.json_shapes.specs.Look.{listed_in, list_at}
use Rattle.manifest_shape.specs.Slots.{IsEntry, IsFuel, name_list, slot_name, names_in, are_slots}
use Rattle.json_shapes.specs.Json.{has_version, judged_version}
use Rattle.json_shapes.specs.declared.fault.ShapeFault.{ShapeFault}
use Rattle.json_shapes.specs.declared.fault.ShapeFault.TheVariants.{NotJson, BadShape, TooMany, Memory}
use Rattle.manifest_shape.specs.declared.manifest.ManifestShape.{ManifestShape}
use Rattle.manifest_shape.specs.declared.slot.PageEntry.{PageEntry}

-- the name of a library file
abbrev pub IsLib : Data → String Global → Type 0
IsLib d lib = as_str d ≡ Some (string_bytes lib)

-- the texts among some values
abbrev pub texts_in : List Data → List (List ℕ)
texts_in ds = flat_map (λ d. name_list (as_str d)) ds

-- the libraries that a manifest may name
abbrev pub most_libs : ℕ
most_libs = 16

-- at most 16 texts, no two the same
pub record AreLibs (texts : List Data) (libs : List (String Global)) : Type 0 where
  pub each : Each IsLib texts libs
  pub few : length texts ≤ most_libs
  pub distinct : IsTrue (distinct bytes_eq (texts_in texts))

-- the libraries, none where they are not given
abbrev pub IsLibs : Option Data → List (String Global) → Type 0
IsLibs None libs = libs ≡ []
IsLibs (Some d) libs = (texts : List Data) × (listed_in d ≡ Some texts) × AreLibs texts libs

-- the number of the slot whose name stands at a place of a list
abbrev pub slot_in : List (List ℕ) → ℕ → List Data → Option ℕ
slot_in names at ends = option_and_then (λ text. position (λ name. bytes_eq name text) names) (option_and_then as_str (slice_get ends at))

-- a channel: the names of two slots, the sender first, as their numbers
pub record IsChannel (names : List (List ℕ)) (d : Data) (channel : ℕ × ℕ) : Type 0 where
  pub ends : List Data
  pub list : listed_in d ≡ Some ends
  pub two : length ends ≡ 2
  pub from : slot_in names 0 ends ≡ Some channel.0
  pub to : slot_in names 1 ends ≡ Some channel.1
  pub apart : ¬ (channel.0 ≡ channel.1)

-- the two are one channel
abbrev pub same_channel : ℕ × ℕ → ℕ × ℕ → Bool
same_channel a b = nat_eq a.0 b.0 && nat_eq a.1 b.1

-- the channels that a manifest may have
abbrev pub most_channels : ℕ
most_channels = 64

-- at most 64 channels, no two the same
pub record AreChannels (names : List (List ℕ)) (pairs : List Data) (channels : List (ℕ × ℕ)) : Type 0 where
  pub each : Each (IsChannel names) pairs channels
  pub few : length pairs ≤ most_channels
  pub distinct : IsTrue (distinct same_channel channels)

-- the channels, none where they are not given
abbrev pub IsChannels : List (List ℕ) → Option Data → List (ℕ × ℕ) → Type 0
IsChannels names None channels = channels ≡ []
IsChannels names (Some d) channels = (pairs : List Data) × (listed_in d ≡ Some pairs) × AreChannels names pairs channels

-- the keys of a manifest; only version 2 has channels
abbrev pub manifest_keys : ℕ → List (List ℕ)
manifest_keys version =
    if nat_eq version 2
    then codes "version" ∷ codes "page" ∷ codes "fuel" ∷ codes "libs" ∷ codes "channels" ∷ []
    else codes "version" ∷ codes "page" ∷ codes "fuel" ∷ codes "libs" ∷ []

-- what a manifest has beside its page, whose slots have these names
pub record IsRest (names : List (List ℕ)) (d : Data) (fuel : Option ℕ) (libs : List (String Global)) (channels : List (ℕ × ℕ)) : Type 0 where
  pub keys : IsTrue (has_only (manifest_keys (judged_version d)) d)
  pub version : IsTrue (has_version d)
  pub fuel_is : IsFuel (get (codes "fuel") d) fuel
  pub libs_are : IsLibs (get (codes "libs") d) libs
  pub channels_are : IsChannels names (get (codes "channels") d) channels

-- the value is this manifest
pub record IsManifest (d : Data) (manifest : ManifestShape) : Type 0 where
  pub page : List Data
  pub list : list_at (codes "page") d ≡ Some page
  pub each : Each (IsEntry (judged_version d)) page manifest.entries.items
  pub slots : IsTrue (are_slots (names_in page))
  pub rest : IsRest (names_in page) d manifest.fuel manifest.libs.items manifest.channels.items

-- the first n entries of a page break no rule, alone or together
pub record AreGoodEntries (version : ℕ) (page : List Data) (n : ℕ) : Type 0 where
  pub within : n ≤ length page
  pub entries : List PageEntry
  pub each : Each (IsEntry version) (take n page) entries
  pub slots : IsTrue (are_slots (names_in (take n page)))

-- they do, and no more of them do
pub record IsLongestGoodPage (version : ℕ) (page : List Data) (n : ℕ) : Type 0 where
  pub good : AreGoodEntries version page n
  pub longest : (m : ℕ) → AreGoodEntries version page m → m ≤ n

-- the value is no manifest, and its item is the number of good entries, 0 where it has no page
pub record IsBadManifest (d : Data) (item : ℕ) : Type 0 where
  pub no_manifest : (manifest : ManifestShape) → ¬ IsManifest d manifest
  pub place : MatchOption (list_at (codes "page") d) (item ≡ 0) (λ page. IsLongestGoodPage (judged_version d) page item)

-- an entry after slots of these names is none, or is one slot too many or named again
abbrev pub BreaksOff : ℕ → Data → List (List ℕ) → Type 0
BreaksOff version d names = ((e : PageEntry) → ¬ IsEntry version d e) ⊎ (are_slots (names ++ name_list (slot_name d)) ≡ false)

-- why entries are no page
abbrev pub IsPageFault : ℕ → List Data → ShapeFault → Type 0
IsPageFault version page NotJson = ⊥
IsPageFault version page (BadShape item) = (item < length page) × IsLongestGoodPage version page item
IsPageFault version page (TooMany items) = ⊥
IsPageFault version page Memory = ⊤

-- why a value is no manifest
abbrev pub IsManifestFault : Data → ShapeFault → Type 0
IsManifestFault d NotJson = ⊥
IsManifestFault d (BadShape item) = IsBadManifest d item
IsManifestFault d (TooMany items) = ⊥
IsManifestFault d Memory = ⊤
