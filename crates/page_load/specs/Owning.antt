-- What a widget has in the store when it begins.
use Rattle.std.specs.Prelude.{[], ◌∷◌, Some}
use Rattle.store_cells.specs.Host.{object_prototype}
use Rattle.object_store.specs.Owned as store
use Rattle.object_store.specs.Owned.{Owned, first_cell}

-- the object `lib` alone, and that it is paid
abbrev pub one_object : Owned
one_object = record {
  heap = first_cell store.Object (store.Other object_prototype) ∷ [];
  scopes = [];
  paid = Some (record { cells = 1; slots = 0; units = 0 });
}
