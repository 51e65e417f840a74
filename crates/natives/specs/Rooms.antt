-- The rooms of natives.
use Rattle.std.specs.Prelude.{Bool}
use Rattle.std.specs.Option.{option_map_or}
use Rattle.permitted_table.specs.declared.native.NativeId.{NativeId}
use Rattle.permitted_table.specs.declared.native.NativeId.TheVariants as native
use Rattle.permitted_table.specs.declared.native.DomNative.{DomNative}
use Rattle.permitted_table.specs.declared.native.DomNative.TheVariants as dom
use Rattle.permitted_table.specs.declared.native.ReadNative.{ReadNative}
use Rattle.permitted_table.specs.declared.native.ReadNative.TheVariants as read
use Rattle.text_methods.specs.Part as texts
use Rattle.list_methods.specs.Parts as lists
use Rattle.adsafe_object.specs.Part as adsafe
use Rattle.store_natives.specs.Rooms.{store_room}
use Rattle.store_natives.specs.declared.rooms.StoreRoom.{StoreRoom}
use Rattle.store_natives.specs.declared.rooms.StoreRoom.TheVariants as store
use Rattle.bunch_read.specs.Part as reads
use Rattle.bunch_write.specs.Part as writes
use Rattle.natives.specs.declared.rooms.Room.{Room}
use Rattle.natives.specs.declared.rooms.Room.TheVariants as room

-- the natives of a room
abbrev pub is_of : Room → NativeId → Bool
is_of room.Texts which = texts.is_part which
is_of room.Lists which = lists.is_part which
is_of room.Adsafe which = adsafe.is_part which
is_of room.Reads which = reads.is_part which
is_of room.Writes which = writes.is_part which

-- the room of a native of `dom`
abbrev pub dom_room : DomNative → Room
dom_room dom.DomQuery = room.Reads
dom_room _ = room.Writes

-- the room of a method of Bunches that reads
abbrev pub read_room : ReadNative → Room
read_room read.Explode = room.Writes
read_room _ = room.Reads

-- the same room of natives that need the store alone
abbrev pub room_in_store : StoreRoom → Room
room_in_store store.Texts = room.Texts
room_in_store store.Lists = room.Lists
room_in_store store.Adsafe = room.Adsafe

-- the room of a native that needs more
abbrev pub room_beside : NativeId → Room
room_beside (native.Adsafe n) = room.Adsafe
room_beside (native.Dom n) = dom_room n
room_beside (native.Read n) = read_room n
room_beside _ = room.Writes

-- the room of a native
abbrev pub room_of : NativeId → Room
room_of which = option_map_or room_in_store (store_room which) (room_beside which)
