-- A manifest and the files that it names, a trace and the files of its swaps, and a certificate.
use Rattle.std.specs.Prelude.{◌≡◌, ℕ, ◌<◌, ◌≤◌, List, [], ◌∷◌, ◌++◌, map, length, take, drop, Some, string_bytes, String, IsTrue}
use Rattle.std.specs.List.{flat_map}
use Rattle.std.specs.declared.alloc.Global.{Global}
use Rattle.host_io.specs.Files.{FileMap}
use Rattle.manifest_reader.specs.declared.entry.Entry.{Entry}
use Rattle.manifest_reader.specs.declared.entry.Entry.TheVariants as entry
use Rattle.manifest_reader.specs.declared.entry.Manifest.{Manifest}
use Rattle.manifest_reader.specs.Manifest.{ReadsManifest}
use Rattle.manifest_reader.specs.Page.{Part, part_of}
use Rattle.manifest_shape.specs.Slots.{are_slots}
use Rattle.trace_reader.specs.declared.item.TraceItem.{TraceItem}
use Rattle.trace_reader.specs.Said.{Said, an_event, an_advance, a_swap, said}
use Rattle.trace_reader.specs.Trace.{ReadsTrace}
use Rattle.slot_check.specs.Sources.{Source, Slot}
use Rattle.slot_check.specs.Line.{slots_over}

-- the bytes of each word
abbrev pub texts : List (String Global) → List (List ℕ)
texts words = map string_bytes words

-- the name of an entry that is a slot
abbrev pub entry_name : Entry → List (List ℕ)
entry_name (entry.Html content) = []
entry_name (entry.Slot name file fuel) = name ∷ []

-- the file of an entry that is a slot
abbrev pub entry_file : Entry → List (List ℕ)
entry_file (entry.Html content) = []
entry_file (entry.Slot name file fuel) = string_bytes file ∷ []

-- the names of the slots of a manifest, in order
abbrev pub slot_names : List Entry → List (List ℕ)
slot_names entries = flat_map entry_name entries

-- and their files
abbrev pub slot_files : List Entry → List (List ℕ)
slot_files entries = flat_map entry_file entries

-- the files that a manifest names, in the order in which they are read: those of the slots, and the libraries
abbrev pub files_named : Manifest → List (List ℕ)
files_named manifest = slot_files manifest.entries.items ++ texts manifest.libs.items

-- the bytes that a widget file, the file of a swap or a library may have
abbrev pub file_limit : ℕ
file_limit = 262144

-- the bytes that a manifest may have
abbrev pub manifest_limit : ℕ
manifest_limit = 1048576

-- the file of a name is there and within the limit
pub record IsRead (files : FileMap) (limit : ℕ) (name : List ℕ) (source : Source) : Type 0 where
  pub named : source.name ≡ name
  pub there : files name ≡ Some source.bytes
  pub within : length source.bytes ≤ limit

-- so is each of these
pub data AreRead (files : FileMap) (limit : ℕ) : List (List ℕ) → List Source → Type 0 where
  none : AreRead files limit [] []
  more : {name : List ℕ} {source : Source} {names : List (List ℕ)} {sources : List Source} → IsRead files limit name source → AreRead files limit names sources → AreRead files limit (name ∷ names) (source ∷ sources)

-- the first of these files that is not so has more bytes
pub data IsFirstLong (files : FileMap) (limit : ℕ) : List (List ℕ) → Type 0 where
  here : {name file : List ℕ} {rest : List (List ℕ)} → files name ≡ Some file → limit < length file → IsFirstLong files limit (name ∷ rest)
  later : {name : List ℕ} {source : Source} {rest : List (List ℕ)} → IsRead files limit name source → IsFirstLong files limit rest → IsFirstLong files limit (name ∷ rest)

-- the file of a name is this manifest
pub record HasManifest (files : FileMap) (name : List ℕ) (manifest : Manifest) : Type 0 where
  pub source : Source
  pub read : IsRead files manifest_limit name source
  pub reads : ReadsManifest source.bytes manifest

-- some bytes are this manifest
pub record IsManifest (manifest : Manifest) : Type 0 where
  pub bytes : List ℕ
  pub reads : ReadsManifest bytes manifest

-- the slots of these names with their files, which come first, and the libraries behind them
abbrev pub slots_with : List (List ℕ) → List Source → List Slot
slots_with names sources = slots_over (drop (length names) sources) names (take (length names) sources)

-- the slots of a manifest, with the files that it names
abbrev pub slots_of : Manifest → List Source → List Slot
slots_of manifest sources = slots_with (slot_names manifest.entries.items) sources

-- the entries of a manifest as plain data
abbrev pub parts : Manifest → List Part
parts manifest = map part_of manifest.entries.items

-- the slots of a manifest are at most 16, and no two of them have one name
abbrev pub HasSlots : Manifest → Type 0
HasSlots manifest = IsTrue (are_slots (slot_names manifest.entries.items))

-- the bytes that a trace may have
abbrev pub trace_limit : ℕ
trace_limit = 1048576

-- the file of a name is a trace of these items, for slots of these names
pub record HasTrace (files : FileMap) (names : List (List ℕ)) (trace : List ℕ) (items : List TraceItem) : Type 0 where
  pub source : Source
  pub read : IsRead files trace_limit trace source
  pub reads : ReadsTrace source.bytes names items

-- the file of an item that is a swap
abbrev pub swap_file : Said → List (List ℕ)
swap_file (an_event to kind path value) = []
swap_file (an_advance ms) = []
swap_file (a_swap to file) = file ∷ []

-- the files of the swaps among items, in order of the swaps: one for each swap, also where two name one file
abbrev pub files_swapped : List Said → List (List ℕ)
files_swapped items = flat_map swap_file items

abbrev pub swap_files : List TraceItem → List (List ℕ)
swap_files items = files_swapped (map said items)

-- the bytes that a certificate may have, written or read
abbrev pub cert_limit : ℕ
cert_limit = 16777216

-- the file of a name has these bytes, and they are within the limit
abbrev pub HasBytes : FileMap → ℕ → List ℕ → List ℕ → Type 0
HasBytes files limit name bytes = IsRead files limit name (record { name = name; bytes = bytes })
