-- The rooms of natives that need the store alone.
use Rattle.std.specs.Prelude.{◌≡◌, Bool, true, false, not, ◌&&◌, ◌||◌, Option, None, Some}
use Rattle.permitted_table.specs.declared.native.NativeId.{NativeId}
use Rattle.permitted_table.specs.declared.native.NativeId.TheVariants as native
use Rattle.permitted_table.specs.declared.native.AdsafeNative.{AdsafeNative}
use Rattle.permitted_table.specs.declared.native.AdsafeNative.TheVariants as adsafe_native
use Rattle.permitted_table.specs.declared.native.PrototypeNative.{PrototypeNative}
use Rattle.permitted_table.specs.declared.native.PrototypeNative.TheVariants as prototype
use Rattle.text_methods.specs.Part as texts
use Rattle.list_methods.specs.Parts as lists
use Rattle.adsafe_object.specs.Part as adsafe
use Rattle.store_natives.specs.declared.rooms.StoreRoom.{StoreRoom}
use Rattle.store_natives.specs.declared.rooms.StoreRoom.TheVariants as room

-- whether a native is of a room
abbrev pub IsOf : StoreRoom → NativeId → Type 0
IsOf room.Texts which = texts.is_part which ≡ true
IsOf room.Lists which = lists.is_part which ≡ true
IsOf room.Adsafe which = (adsafe.is_part which ≡ true) × (adsafe.keeps_note which ≡ false)

-- whether a native needs the store alone: it stands in one of these crates, and keeps no note
abbrev pub needs_store : NativeId → Bool
needs_store which = texts.is_part which || lists.is_part which || (adsafe.is_part which && not (adsafe.keeps_note which))

-- the room of a native of prototypes
abbrev pub prototype_room : PrototypeNative → StoreRoom
prototype_room prototype.HasOwnProperty = room.Adsafe
prototype_room prototype.ArrayToString = room.Lists
prototype_room _ = room.Texts

-- the room of a native of `ADSAFE`: what keeps a note needs more than the store
abbrev pub adsafe_room : AdsafeNative → Option StoreRoom
adsafe_room adsafe_native.Later = None
adsafe_room adsafe_native.LogValue = None
adsafe_room adsafe_native.Post = None
adsafe_room _ = Some room.Adsafe

-- the room of a native that needs the store alone
abbrev pub store_room : NativeId → Option StoreRoom
store_room (native.Global n) = Some room.Texts
store_room (native.Math n) = Some room.Texts
store_room (native.Prototype n) = Some (prototype_room n)
store_room (native.Text n) = Some room.Texts
store_room (native.List n) = Some room.Lists
store_room (native.Adsafe n) = adsafe_room n
store_room _ = None
