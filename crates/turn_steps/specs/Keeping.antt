-- What a step of a turn keeps, also after want of memory.
use Rattle.std.specs.Prelude.{◌≡◌, ℕ, List}
use Rattle.js_tree.specs.Forest.{Forest}
use Rattle.store_cells.specs.Cells.{Cells}
use Rattle.object_store.specs.Grows.{Grows}
use Rattle.object_store.specs.Owned.{owned}
use Rattle.page_tree.specs.declared.page.Page.{Page}
use Rattle.page_image.specs.Stays.{HostStays}
use Rattle.event_loop.specs.declared.around.Loop.{Loop}
use Rattle.js_image.specs.Held.{IsConfined}
use Rattle.native_image.specs.Sound.{HoldsOwn, KeepsPage}
use Rattle.native_image.specs.declared.handed.Shared.{Shared}
use Rattle.native_image.specs.declared.handed.Widget.{Widget}
use Rattle.turn_steps.specs.Turning.{forests}

-- By the trees of its scripts: the widget stays confined, what is there stays under its numbers, others have what they had, under its numbers, and stay confined by any trees; of the page no node goes, and the trees of others and what the host has stay; and what the widget holds of page and loop is its own.
pub record KeepsTurn (fs : List Forest) (w : ℕ) (s t : Cells) (p q : Page) (l : Loop) : Type 0 where
  pub confined : IsConfined fs w s → IsConfined fs w t
  pub grows : Grows w s.cells t.cells
  pub others : (v : ℕ) → (w ≡ v → ⊥) → owned v t ≡ owned v s
  pub others_grow : (v : ℕ) → (w ≡ v → ⊥) → Grows v s.cells t.cells
  pub others_confined : (gs : List Forest) (v : ℕ) → (w ≡ v → ⊥) → IsConfined gs v s → IsConfined gs v t
  pub page : KeepsPage w p q
  pub host : HostStays p q
  pub holds : HoldsOwn w t q l

-- What a step of a widget's turn keeps: that, by the trees of its own scripts; its number, and these trees.
pub record Keeps (old new : Shared) (v u : Widget) : Type 0 where
  pub turn : KeepsTurn (forests old) v.id.index old.store new.store old.page new.page u.around
  pub number : u.id.index ≡ v.id.index
  pub codes : new.codes ≡ old.codes
