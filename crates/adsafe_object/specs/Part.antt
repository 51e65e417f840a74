-- The natives that stand here.
use Rattle.std.specs.Prelude.{Bool, true, false}
use Rattle.permitted_table.specs.declared.native.NativeId.{NativeId}
use Rattle.permitted_table.specs.declared.native.NativeId.TheVariants as native
use Rattle.permitted_table.specs.declared.native.AdsafeNative.TheVariants as adsafe
use Rattle.permitted_table.specs.declared.native.PrototypeNative.TheVariants as prototype

-- those of `ADSAFE`, and `hasOwnProperty`
abbrev pub is_part : NativeId → Bool
is_part (native.Adsafe n) = true
is_part (native.Prototype prototype.HasOwnProperty) = true
is_part _ = false

-- whether a native changes the log, the posts or the timers
abbrev pub keeps_note : NativeId → Bool
keeps_note (native.Adsafe adsafe.Later) = true
keeps_note (native.Adsafe adsafe.LogValue) = true
keeps_note (native.Adsafe adsafe.Post) = true
keeps_note _ = false
