-- Each native that needs the store alone stands in its room.
use Rattle.std.proofs.Common.{◌≡◌, refl, subst, Option, Some}
use Rattle.std.specs.Prelude.{IfSome, is_some}
use Rattle.permitted_table.specs.declared.native.NativeId.{NativeId}
use Rattle.permitted_table.specs.declared.native.NativeId.TheVariants as native
use Rattle.permitted_table.specs.declared.native.AdsafeNative.TheVariants.{Later, LogValue, Post}
use Rattle.permitted_table.specs.declared.native.PrototypeNative.TheVariants.{ArrayToString, HasOwnProperty}
use Rattle.store_natives.specs.Rooms.{IsOf, needs_store, store_room}
use Rattle.store_natives.specs.declared.rooms.StoreRoom.{StoreRoom}

pub rooms : (which : NativeId) → IfSome (store_room which) (λ r. IsOf r which)
rooms (native.Global n) = refl
rooms (native.Math n) = refl
rooms (native.Prototype HasOwnProperty) = (refl, refl)
rooms (native.Prototype ArrayToString) = refl
rooms (native.Prototype _) = refl
rooms (native.Text n) = refl
rooms (native.List n) = refl
rooms (native.Adsafe Later) = tt
rooms (native.Adsafe LogValue) = tt
rooms (native.Adsafe Post) = tt
rooms (native.Adsafe _) = (refl, refl)
rooms _ = tt

pub in_room : (which : NativeId) (r : StoreRoom) → store_room which ≡ Some r → IsOf r which
in_room which r e = subst (λ (o : Option StoreRoom). IfSome o (λ x. IsOf x which)) e (rooms which)

-- and each that stands there has one
pub every : (which : NativeId) → is_some (store_room which) ≡ needs_store which
every (native.Global n) = refl
every (native.Math n) = refl
every (native.Prototype HasOwnProperty) = refl
every (native.Prototype ArrayToString) = refl
every (native.Prototype _) = refl
every (native.Text n) = refl
every (native.List n) = refl
every (native.Adsafe Later) = refl
every (native.Adsafe LogValue) = refl
every (native.Adsafe Post) = refl
every (native.Adsafe _) = refl
every _ = refl
