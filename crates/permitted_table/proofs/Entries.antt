-- Each entry stands at its number.
use Rattle.std.proofs.Common.{◌≡◌, refl, Some, slice_get}
use Rattle.permitted_table.specs.declared.native.NativeId.{NativeId}
use Rattle.permitted_table.specs.declared.native.NativeId.TheVariants as native
use Rattle.permitted_table.specs.declared.native.GlobalNative.TheVariants.{BooleanOf}
use Rattle.permitted_table.specs.declared.native.MathNative.TheVariants.{Abs}
use Rattle.permitted_table.specs.declared.native.PrototypeNative.TheVariants.{HasOwnProperty}
use Rattle.permitted_table.specs.declared.native.TextNative.TheVariants.{CharAt}
use Rattle.permitted_table.specs.declared.native.ListNative.TheVariants.{Join}
use Rattle.permitted_table.specs.declared.native.AdsafeNative.TheVariants.{Create}
use Rattle.permitted_table.specs.declared.native.DomNative.TheVariants.{DomQuery}
use Rattle.permitted_table.specs.declared.native.ReadNative.TheVariants.{Query}
use Rattle.permitted_table.specs.declared.native.WriteNative.TheVariants.{Append}
use Rattle.permitted_table.specs.declared.native.HostEntry.{HostEntry}
use Rattle.permitted_table.specs.declared.native.HostEntry.TheVariants as entry
use Rattle.permitted_table.specs.Table.{entries, entry_number}

-- one of each family is named, and `_` are all others
native_stands : (n : NativeId) → slice_get entries (entry_number (entry.Native n)) ≡ Some (entry.Native n)
native_stands native.Bubble = refl
native_stands (native.Global BooleanOf) = refl
native_stands (native.Global _) = refl
native_stands (native.Math Abs) = refl
native_stands (native.Math _) = refl
native_stands (native.Prototype HasOwnProperty) = refl
native_stands (native.Prototype _) = refl
native_stands (native.Text CharAt) = refl
native_stands (native.Text _) = refl
native_stands (native.List Join) = refl
native_stands (native.List _) = refl
native_stands (native.Adsafe Create) = refl
native_stands (native.Adsafe _) = refl
native_stands (native.Dom DomQuery) = refl
native_stands (native.Dom _) = refl
native_stands (native.Read Query) = refl
native_stands (native.Read _) = refl
native_stands (native.Write Append) = refl
native_stands (native.Write _) = refl

pub stands : (e : HostEntry) → slice_get entries (entry_number e) ≡ Some e
stands entry.ObjectPrototype = refl
stands entry.ArrayPrototype = refl
stands entry.FunctionPrototype = refl
stands entry.BunchPrototype = refl
stands entry.TextPrototype = refl
stands entry.NumberPrototype = refl
stands entry.BooleanPrototype = refl
stands entry.Math = refl
stands entry.Adsafe = refl
stands entry.Dom = refl
stands (entry.Native n) = native_stands n
