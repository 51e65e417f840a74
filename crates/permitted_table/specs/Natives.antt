-- The natives of the language, in the order of the table.
use Rattle.std.specs.Prelude.{ℕ, ◌+◌, List, ◌∷◌, map}
use denote.Enum.Declared.{tag_of}
use Rattle.permitted_table.specs.declared.native.NativeId.{NativeId}
use Rattle.permitted_table.specs.declared.native.NativeId.TheVariants as native
use Rattle.permitted_table.specs.contracts.native.GlobalNative.{the_type as global_natives}
use Rattle.permitted_table.specs.contracts.native.MathNative.{the_type as math_natives}
use Rattle.permitted_table.specs.contracts.native.PrototypeNative.{the_type as prototype_natives}
use Rattle.permitted_table.specs.contracts.native.TextNative.{the_type as text_natives}
use Rattle.permitted_table.specs.contracts.native.ListNative.{the_type as list_natives}
use Rattle.permitted_table.specs.contracts.native.AdsafeNative.{the_type as adsafe_natives}
use Rattle.permitted_table.specs.contracts.native.DomNative.{the_type as dom_natives}
use Rattle.permitted_table.specs.contracts.native.ReadNative.{the_type as read_natives}
use Rattle.permitted_table.specs.contracts.native.WriteNative.{the_type as write_natives}
use Rattle.permitted_table.specs.declared.table.Home.{Home}
use Rattle.permitted_table.specs.declared.table.TheConstants.{ROWS, GLOBALS, MATHS, PROTOTYPES, TEXTS, LISTS, ADSAFES, DOMS, READS, WRITES}

-- the number of a native in their order: by families, and in each in the order of its variants
abbrev pub number_of : NativeId → ℕ
number_of native.Bubble = 0
number_of (native.Global n) = GLOBALS + tag_of global_natives n
number_of (native.Math n) = MATHS + tag_of math_natives n
number_of (native.Prototype n) = PROTOTYPES + tag_of prototype_natives n
number_of (native.Text n) = TEXTS + tag_of text_natives n
number_of (native.List n) = LISTS + tag_of list_natives n
number_of (native.Adsafe n) = ADSAFES + tag_of adsafe_natives n
number_of (native.Dom n) = DOMS + tag_of dom_natives n
number_of (native.Read n) = READS + tag_of read_natives n
number_of (native.Write n) = WRITES + tag_of write_natives n

-- A row of the table: where a native is found first, its name there, and the native.
abbrev pub Row : Type 0
Row = Home × List ℕ × NativeId

-- the rows of the table, of all natives with a home
abbrev pub rows : List Row
rows = map (λ r. (r.0, r.1.now, r.2)) ROWS

-- all natives, in their order; `bubble` has no home
abbrev pub natives : List NativeId
natives = native.Bubble ∷ map (λ r. r.2) rows
