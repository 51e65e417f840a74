-- The natives of this crate.
use Rattle.std.specs.Prelude.{Bool, true, false}
use Rattle.permitted_table.specs.declared.native.NativeId.{NativeId}
use Rattle.permitted_table.specs.declared.native.NativeId.TheVariants as native
use Rattle.permitted_table.specs.declared.native.PrototypeNative.{PrototypeNative}
use Rattle.permitted_table.specs.declared.native.PrototypeNative.TheVariants as prototype

-- of prototypes each `toString` but that of arrays
abbrev pub is_here : PrototypeNative → Bool
is_here prototype.HasOwnProperty = false
is_here prototype.ArrayToString = false
is_here _ = true

-- whether a native stands in this crate
abbrev pub is_part : NativeId → Bool
is_part (native.Global n) = true
is_part (native.Math n) = true
is_part (native.Prototype n) = is_here n
is_part (native.Text n) = true
is_part _ = false
