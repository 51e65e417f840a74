-- Each native stands in its room.
use Rattle.std.proofs.Common.{◌≡◌, true, refl}
use Rattle.permitted_table.specs.declared.native.NativeId.{NativeId}
use Rattle.permitted_table.specs.declared.native.NativeId.TheVariants as native
use Rattle.permitted_table.specs.declared.native.PrototypeNative.TheVariants.{ArrayToString, HasOwnProperty}
use Rattle.permitted_table.specs.declared.native.AdsafeNative.TheVariants.{Later, LogValue, Post}
use Rattle.permitted_table.specs.declared.native.DomNative.TheVariants.{DomQuery}
use Rattle.permitted_table.specs.declared.native.ReadNative.TheVariants.{Explode}
use Rattle.natives.specs.Rooms.{is_of, room_of}

pub in_room : (which : NativeId) → is_of (room_of which) which ≡ true
in_room native.Bubble = refl
in_room (native.Prototype HasOwnProperty) = refl
in_room (native.Prototype ArrayToString) = refl
in_room (native.Prototype _) = refl
in_room (native.Adsafe Later) = refl
in_room (native.Adsafe LogValue) = refl
in_room (native.Adsafe Post) = refl
in_room (native.Adsafe _) = refl
in_room (native.Dom DomQuery) = refl
in_room (native.Dom _) = refl
in_room (native.Read Explode) = refl
in_room (native.Read _) = refl
in_room _ = refl
