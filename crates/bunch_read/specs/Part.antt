-- The natives of this crate.
use Rattle.std.specs.Prelude.{Bool, true, false}
use Rattle.permitted_table.specs.declared.native.NativeId.{NativeId}
use Rattle.permitted_table.specs.declared.native.NativeId.TheVariants as native
use Rattle.permitted_table.specs.declared.native.DomNative.TheVariants as dom
use Rattle.permitted_table.specs.declared.native.ReadNative.{ReadNative}
use Rattle.permitted_table.specs.declared.native.ReadNative.TheVariants as method

-- whether a method changes nothing of the page; `explode` makes a Bunch a node, and stands with those that write
abbrev pub is_read : ReadNative → Bool
is_read method.Explode = false
is_read _ = true

-- whether a native stands in this crate
abbrev pub is_part : NativeId → Bool
is_part (native.Dom dom.DomQuery) = true
is_part (native.Read n) = is_read n
is_part _ = false
