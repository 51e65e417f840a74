-- What holds of a widget in store, page and loop together, and what its calls keep.
use Rattle.std.specs.Prelude.{◌≡◌, ◌≢◌, ℕ, ◌<◌, ◌≤◌, true, false, List, is_some, length, nat_eq}
use Rattle.std.specs.List.{AllByRecursion, IsDistinct}
use Rattle.js_tree.specs.Forest.{Forest}
use Rattle.store_cells.specs.Born.{raw_place}
use Rattle.store_cells.specs.Cells.{Cells, PlainCell}
use Rattle.object_store.specs.Grows.{Grows}
use Rattle.object_store.specs.Owned.{owned, visible_at}
use Rattle.query_grammar.specs.Finds.{has_number}
use Rattle.page_tree.specs.declared.page.Page.{Page}
use Rattle.event_loop.specs.Kept.{nothing}
use Rattle.event_loop.specs.declared.around.Loop.{Loop}
use Rattle.event_loop.specs.Around as around
use Rattle.js_image.specs.Held.{CountsRise, HoldNodes, IsConfined}
use Rattle.page_image.specs.Held.{OptionIn}
use Rattle.page_image.specs.Image.{HasRoot, number, own, owns, root_of}
use Rattle.page_image.specs.Stays.{HostStays, OthersStay}

-- a visible cell of the widget
abbrev pub IsOwnCell : ℕ → List PlainCell → ℕ → Type 0
IsOwnCell w cells i = (i < length cells) × (visible_at w cells i ≡ true)

-- a page node has its cell
abbrev pub HasRaw : List PlainCell → ℕ → Type 0
HasRaw cells n = is_some (raw_place n cells) ≡ true

-- The widget has a root, and all that it holds of page and loop is its own: the nodes of its Bunches, the node with the focus, the functions in handlers and timers; nothing is kept with nodes of others. It holds also after want of memory.
pub record HoldsOwn (w : ℕ) (s : Cells) (p : Page) (l : Loop) : Type 0 where
  pub home : HasRoot p w
  pub bunches : HoldNodes (owns p w) w s
  pub handlers : (n : ℕ) → AllByRecursion (λ h. IsOwnCell w s.cells h.1) (around.kept l n).handlers
  pub timers : AllByRecursion (λ t. IsOwnCell w s.cells t.func) (around.timers l)
  pub focus : OptionIn (owns p w) (around.focus l)
  pub elsewhere : (n : ℕ) → owns p w n ≡ false → around.kept l n ≡ nothing

-- The same, and each node of a widget has its cell.
pub record IsSound (w : ℕ) (s : Cells) (p : Page) (l : Loop) : Type 0 where
  pub holds : HoldsOwn w s p l
  pub raws : (v n : ℕ) → owns p v n ≡ true → HasRaw s.cells n

-- Nodes of a widget that differ; they are no more than it may have.
pub record AreNodes (p : Page) (w : ℕ) (ns : List ℕ) : Type 0 where
  pub own : (n : ℕ) → has_number ns n ≡ true → owns p w n ≡ true
  pub apart : IsDistinct nat_eq ns
  pub few : length ns ≤ 16384

-- What a call keeps of the store: the widget stays confined, what is there stays under its numbers, others have what they had, under the numbers that it had, and stay confined, and no count of what the widget has paid falls.
pub record KeepsStore (w : ℕ) (old new : Cells) : Type 0 where
  pub confined : (fs : List Forest) → IsConfined fs w old → IsConfined fs w new
  pub grows : Grows w old.cells new.cells
  pub others : (v : ℕ) → (w ≡ v → ⊥) → owned v new ≡ owned v old
  pub others_grow : (v : ℕ) → (w ≡ v → ⊥) → Grows v old.cells new.cells
  pub others_confined : (fs : List Forest) (v : ℕ) → (w ≡ v → ⊥) → IsConfined fs v old → IsConfined fs v new
  pub counts : CountsRise (owned w old).paid (owned w new).paid

-- What a call keeps of the page: no node goes, each has its owner and number; the trees of others stay, and the roots.
pub record KeepsPage (w : ℕ) (old new : Page) : Type 0 where
  pub owners : (v n : ℕ) → owns old v n ≡ true → owns new v n ≡ true
  pub numbers : (v n : ℕ) → owns old v n ≡ true → number new v n ≡ number old v n
  pub made : length (own old w) ≤ length (own new w)
  pub others : (v : ℕ) → v ≢ w → own new v ≡ own old v
  pub trees : OthersStay old new w
  pub roots : (v : ℕ) → v < 32 → root_of new v ≡ root_of old v

-- What a call keeps, also after want of memory: that of the store, that of the page, what the host has of the page, and what the widget holds is its own.
pub record KeepsAll (w : ℕ) (s t : Cells) (p q : Page) (l : Loop) : Type 0 where
  pub store : KeepsStore w s t
  pub page : KeepsPage w p q
  pub host : HostStays p q
  pub holds : HoldsOwn w t q l
