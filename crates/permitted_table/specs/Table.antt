-- The permitted table: what the host's objects have that a widget may hold, and the listed globals.
use Rattle.std.specs.Prelude.{ℕ, suc, ◌+◌, List, [], ◌∷◌, ◌++◌, Option, Some, None, codes, map, nat_eq, if◌then◌else◌}
use Rattle.std.specs.List.{flat_map}
use Rattle.permitted_table.specs.declared.native.NativeId.TheVariants as native
use Rattle.permitted_table.specs.declared.native.GlobalNative.TheVariants as global
use Rattle.permitted_table.specs.declared.native.PrototypeNative.TheVariants as prototype
use Rattle.permitted_table.specs.declared.native.HostEntry.{HostEntry}
use Rattle.permitted_table.specs.declared.native.HostEntry.TheVariants as entry
use Rattle.permitted_table.specs.declared.table.Home.{Home}
use Rattle.permitted_table.specs.declared.table.Home.TheVariants as home
use Rattle.permitted_table.specs.Natives.{Row, natives, number_of, rows}

-- the number of an entry in their order
abbrev pub entry_number : HostEntry → ℕ
entry_number entry.ObjectPrototype = 0
entry_number entry.ArrayPrototype = 1
entry_number entry.FunctionPrototype = 2
entry_number entry.BunchPrototype = 3
entry_number entry.TextPrototype = 4
entry_number entry.NumberPrototype = 5
entry_number entry.BooleanPrototype = 6
entry_number entry.Math = 7
entry_number entry.Adsafe = 8
entry_number entry.Dom = 9
entry_number (entry.Native n) = 10 + number_of n

-- the number of a home
abbrev pub home_number : Home → ℕ
home_number home.Globals = 0
home_number (home.Of e) = suc (entry_number e)

-- the name of a row of that home, with the entry to which it leads
abbrev pub name_in : ℕ → Row → List (List ℕ × HostEntry)
name_in n r = if nat_eq (home_number r.0) n then (r.1, entry.Native r.2) ∷ [] else []

-- the names that the rows give a home
abbrev pub named_in : Home → List (List ℕ × HostEntry)
named_in h = flat_map (name_in (home_number h)) rows

-- `hasOwnProperty`, for a home that stands on nothing
abbrev pub has_own_property : List ℕ × HostEntry
has_own_property = (codes "hasOwnProperty", entry.Native (native.Prototype prototype.HasOwnProperty))

-- the names of an entry in the order that `keys` gives, each with the entry to which it leads; of natives `String` alone has one
abbrev pub names_of : HostEntry → List (List ℕ × HostEntry)
names_of (entry.Native (native.Global global.StringOf)) = named_in (home.Of (entry.Native (native.Global global.StringOf)))
names_of (entry.Native n) = []
names_of entry.NumberPrototype = named_in (home.Of entry.NumberPrototype) ++ has_own_property ∷ []
names_of entry.BooleanPrototype = named_in (home.Of entry.BooleanPrototype) ++ has_own_property ∷ []
names_of e = named_in (home.Of e)

-- the prototype of an entry: those of objects, numbers and truth values stand on nothing, a native on that of functions, all else on that of objects
abbrev pub prototype_of : HostEntry → Option HostEntry
prototype_of entry.ObjectPrototype = None
prototype_of entry.NumberPrototype = None
prototype_of entry.BooleanPrototype = None
prototype_of (entry.Native n) = Some entry.FunctionPrototype
prototype_of _ = Some entry.ObjectPrototype

-- What a listed global is: `undefined`, `NaN`, or an entry.
pub data Global : Type 0 where
  Undefined : Global
  NaN : Global
  Leads : HostEntry → Global

-- the listed globals, in the order of the Global cell
abbrev pub globals : List (List ℕ × Global)
globals =
    map (λ p. (p.0, Leads p.1)) (named_in home.Globals) ++ ((codes "undefined", Undefined)
    ∷ (codes "NaN", NaN)
    ∷ (codes "Math", Leads entry.Math)
    ∷ (codes "ADSAFE", Leads entry.Adsafe) ∷ [])

-- the entries that are no natives, in the order of the table
abbrev pub objects : List HostEntry
objects =
    entry.ObjectPrototype ∷ entry.ArrayPrototype ∷ entry.FunctionPrototype ∷ entry.BunchPrototype ∷ entry.TextPrototype
    ∷ entry.NumberPrototype ∷ entry.BooleanPrototype ∷ entry.Math ∷ entry.Adsafe ∷ entry.Dom ∷ []

-- all entries, in the order of the table
abbrev pub entries : List HostEntry
entries = objects ++ map entry.Native natives
