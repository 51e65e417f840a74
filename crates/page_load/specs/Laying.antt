-- A page whose slots come one after another.
use Rattle.std.specs.Prelude.{◌≡◌, ℕ, ◌<◌, ◌≤◌, ◌++◌, List, [], length, Some, slice_get}
use Rattle.js_tree.specs.Forest.{Forest}
use Rattle.store_cells.specs.Cells.{Cells}
use Rattle.store_cells.specs.Host.{nothing_paid}
use Rattle.object_store.specs.Owned.{Owned, owned}
use Rattle.js_image.specs.Held.{IsConfined}
use Rattle.page_tree.specs.declared.page.Page.{Page}
use Rattle.page_build.specs.Homes.{HaveRaws, IsAway, IsPlaced}
use Rattle.page_build.specs.Layout.{IsLot, home_of, lot_of}
use Rattle.page_build.specs.Standing.{HavePlaces, IsLaidBy, IsStanding}
use Rattle.page_plan.specs.declared.SlotSpec.{SlotSpec}
use Rattle.page_plan.specs.Pages.{PagePiece}

-- a widget that has nothing in the store, and has paid nothing
abbrev pub nothing_owned : Owned
nothing_owned = record { heap = []; scopes = []; paid = Some nothing_paid }

-- The widgets from a number on have nothing in the store, and all are confined.
pub record IsUnused (s : Cells) (first : ℕ) : Type 0 where
  pub nothing : (v : ℕ) → first ≤ v → v < 32 → owned v s ≡ nothing_owned
  pub confined : (fs : List Forest) (v : ℕ) → IsConfined fs v s

-- Under this number nobody has a cell.
pub record HasNoCells (v : ℕ) (s : Cells) : Type 0 where
  pub heap : (owned v s).heap ≡ []
  pub scopes : (owned v s).scopes ≡ []

-- Under this number nobody has a cell, and nothing was paid for it where it is one of a life.
pub record IsBare (v : ℕ) (s : Cells) : Type 0 where
  pub cells : HasNoCells v s
  pub unpaid : v < 32 → owned v s ≡ nothing_owned

-- These nodes stand in the first slots, each what is to stand there; of the other widgets nothing is on the page, and no widget has anything in the store.
pub record AreLaid (slots : List SlotSpec) (roots : List ℕ) (s : Cells) (p : Page) : Type 0 where
  pub within : length roots ≤ length slots
  pub placed : (w : ℕ) (slot : SlotSpec) → w < length roots → slice_get slots w ≡ Some slot → IsPlaced p w slot.content
  pub lots : (w n : ℕ) (slot : SlotSpec) → slice_get roots w ≡ Some n → slice_get slots w ≡ Some slot → IsLot p (lot_of slot.name (home_of w slot.content)) n
  pub stand : (w n : ℕ) → slice_get roots w ≡ Some n → IsStanding p n
  pub away : (w : ℕ) → length roots ≤ w → w < 32 → IsAway p w
  pub raws : HaveRaws s p
  pub unused : IsUnused s 0
  pub free : (v : ℕ) → IsBare v s

-- The page shows these pieces, with these nodes in the slots that came, whichever come behind them; and each of these slots is among the pieces.
pub record LaysOut (p : Page) (roots : List ℕ) (pieces : List PagePiece) : Type 0 where
  pub laid : (more : List ℕ) → IsLaidBy p (roots ++ more) pieces
  pub places : HavePlaces (length roots) pieces
