-- The natives of this crate.
use Rattle.std.specs.Prelude.{Bool, true, false}
use Rattle.permitted_table.specs.declared.native.NativeId.{NativeId}
use Rattle.permitted_table.specs.declared.native.NativeId.TheVariants as native
use Rattle.permitted_table.specs.declared.native.DomNative.{DomNative}
use Rattle.permitted_table.specs.declared.native.DomNative.TheVariants as dom
use Rattle.permitted_table.specs.declared.native.ReadNative.TheVariants as read

-- whether a native of `dom` makes or moves nodes
abbrev pub is_made : DomNative → Bool
is_made dom.DomQuery = false
is_made _ = true

-- whether a native stands in this crate
abbrev pub is_part : NativeId → Bool
is_part native.Bubble = true
is_part (native.Dom n) = is_made n
is_part (native.Read read.Explode) = true
is_part (native.Write n) = true
is_part _ = false
