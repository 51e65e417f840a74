-- The path by which a script comes to a native: an object of the host or a kind of value, a point, the name.
use Rattle.std.specs.Prelude.{ℕ, List, [], ◌++◌, codes, map}
use Rattle.permitted_table.specs.declared.native.NativeId.TheVariants as native
use Rattle.permitted_table.specs.declared.native.GlobalNative.TheVariants as global
use Rattle.permitted_table.specs.declared.native.HostEntry.{HostEntry}
use Rattle.permitted_table.specs.declared.native.HostEntry.TheVariants as entry
use Rattle.permitted_table.specs.declared.table.Home.{Home}
use Rattle.permitted_table.specs.declared.table.Home.TheVariants as home
use Rattle.permitted_table.specs.Natives.{rows}

-- what stands before the name, as docs/API.md writes it: of a prototype the kind of values that have its methods; of natives `String` alone has one
abbrev pub front_of : HostEntry → List ℕ
front_of entry.ObjectPrototype = codes "object."
front_of entry.ArrayPrototype = codes "array."
front_of entry.FunctionPrototype = codes "function."
front_of entry.BunchPrototype = codes "bunch."
front_of entry.TextPrototype = codes "text."
front_of entry.NumberPrototype = codes "number."
front_of entry.BooleanPrototype = codes "truth."
front_of entry.Math = codes "Math."
front_of entry.Adsafe = codes "ADSAFE."
front_of entry.Dom = codes "dom."
front_of (entry.Native (native.Global global.StringOf)) = codes "String."
front_of (entry.Native _) = []

-- the path to a name in a home; a listed global is its name
abbrev pub path_to : Home → List ℕ → List ℕ
path_to home.Globals name = name
path_to (home.Of e) name = front_of e ++ name

-- the paths of the rows, in their order
abbrev pub paths : List (List ℕ)
paths = map (λ r. path_to r.0 r.1) rows
