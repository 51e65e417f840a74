-- The permitted table as values: what the host's objects have, and the listed globals.
use Rattle.std.specs.Prelude.{map, Option, option_map}
use Rattle.permitted_table.specs.declared.native.NativeId.{NativeId}
use Rattle.permitted_table.specs.declared.native.HostEntry.{HostEntry}
use Rattle.permitted_table.specs.declared.native.HostEntry.TheVariants as host
use Rattle.permitted_table.specs.Table as table
use Rattle.permitted_table.specs.Table.{Global, Leads, names_of, prototype_of}
use Rattle.widget_meaning.specs.Values.{Value, Undefined, NaN, Host}
use Rattle.widget_meaning.specs.OwnState.{Pairs}

-- a native as a value
abbrev pub native : NativeId → Value
native w = Host (host.Native w)

-- the names of each entry, in the order that `keys` gives
abbrev pub host_pairs : HostEntry → Pairs
host_pairs h = map (λ p. (p.0, Host p.1)) (names_of h)

-- the prototype of each entry, if it has one
abbrev pub host_prototype : HostEntry → Option Value
host_prototype h = option_map Host (prototype_of h)

-- a listed global as a value
abbrev pub global_value : Global → Value
global_value table.Undefined = Undefined
global_value table.NaN = NaN
global_value (Leads h) = Host h

-- the listed globals, which a name gives that no scope has
abbrev pub globals : Pairs
globals = map (λ g. (g.0, global_value g.1)) table.globals
