-- The index of nodes by their `id`.
use Rattle.std.specs.Prelude.{◌≡◌, ℕ, ◌≤◌, List, Option, Some, true, not, ◌&&◌, ◌||◌, ◌==◌, slice_get}
use Rattle.code_units.specs.declared.owner.Owner.{Owner}
use Rattle.page_nodes.specs.declared.ids.Ids.{Ids}
use Rattle.page_nodes.specs.Entries.{Entry, at, listed}
use Rattle.page_nodes.specs.Ids.{has_id, is_under, numbers_at, room_at_id, rises}
use Rattle.page_nodes.specs.Owners.{is_owner, slot}

-- the numbers of an owner's place with an id
abbrev pub indexed : Ids → ℕ → List ℕ → List ℕ
indexed ids s value = numbers_at (slice_get ids.owners.items s) value

-- for how many more there is room
abbrev pub room_for : Ids → ℕ → List ℕ → ℕ
room_for ids s value = room_at_id (slice_get ids.owners.items s) value

-- there is room for a number, where there is an id
pub record HasRoom (ids : Ids) (s : ℕ) (id : Option (List ℕ)) : Type 0 where
  pub room : (value : List ℕ) → id ≡ Some value → 1 ≤ room_for ids s value

-- all numbers rise
abbrev pub AreRising : Ids → Type 0
AreRising ids = (s : ℕ) (value : List ℕ) → rises 0 (indexed ids s value) ≡ true

-- the same numbers stand under each id
abbrev pub SameNumbers : Ids → Ids → Type 0
SameNumbers old new = (s : ℕ) (value : List ℕ) → indexed new s value ≡ indexed old s value

-- a number more stands under an id, where there is one
pub record Puts (old new : Ids) (s : ℕ) (id : Option (List ℕ)) (n : ℕ) : Type 0 where
  pub in_order : AreRising new
  pub exact : (t : ℕ) (value : List ℕ) (x : ℕ) → listed x (indexed new t value) ≡ (listed x (indexed old t value) || (is_under s id t value && (n == x)))

-- a number less stands under an id, where there is one
pub record Takes (old new : Ids) (s : ℕ) (id : Option (List ℕ)) (n : ℕ) : Type 0 where
  pub in_order : AreRising new
  pub exact : (t : ℕ) (value : List ℕ) (x : ℕ) → listed x (indexed new t value) ≡ (listed x (indexed old t value) && not (is_under s id t value && (n == x)))
  pub room : (t : ℕ) (value : List ℕ) → room_for old t value ≤ room_for new t value

-- each owner's nodes stand under their ids, and no others
pub record IsIndex (k : List Entry) (ids : Ids) : Type 0 where
  pub in_order : AreRising ids
  pub exact : (o : Owner) (value : List ℕ) (x : ℕ) → is_owner o ≡ true → listed x (indexed ids (slot o) value) ≡ has_id o value (at k x)
