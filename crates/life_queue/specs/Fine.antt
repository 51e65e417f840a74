-- What holds of a life.
use Rattle.std.specs.Prelude.{◌≡◌, ℕ, ◌+◌, ◌*◌, ◌<◌, ◌≤◌, ◌^◌, List, Option, None, Some, IfSome}
use Rattle.std.specs.List.{AllByRecursion}
use Rattle.js_tree.specs.Forest.{Forest}
use Rattle.store_cells.specs.declared.value.Value.TheVariants as value
use Rattle.store_cells.specs.Cells.{Cells}
use Rattle.object_store.specs.Grows.{Grows}
use Rattle.object_store.specs.Owned.{owned}
use Rattle.widget_meaning.specs.Alone.{lib}
use Rattle.page_tree.specs.declared.page.Page.{Page}
use Rattle.page_image.specs.Stays.{HostStays}
use Rattle.js_image.specs.Held.{IsConfined, IsHeld}
use Rattle.js_image.specs.Image.{seen}
use Rattle.native_image.specs.Sound.{HoldsOwn, IsSound, KeepsPage}
use Rattle.life_laws.specs.Life.{potentials}
use Rattle.turn_dispatch.specs.Held.{FineDoing, IsScriptOf}
use Rattle.turn_dispatch.specs.Waiting.{FineLevels}
use Rattle.life_queue.specs.declared.life.Life.{Life}
use Rattle.turn_dispatch.specs.declared.turn.Turn.{Turn}
use Rattle.life_queue.specs.declared.life.Work.{Work}
use Rattle.life_queue.specs.declared.life.Work.TheVariants as work
use Rattle.native_image.specs.declared.handed.Shared.{Shared}
use Rattle.life_queue.specs.Lives.{trees_in, works_of}

-- the most fuel of a turn
abbrev pub most_fuel : ℕ
most_fuel = 1000000

-- a queued script is one of the life's
abbrev pub FineWork : List Forest → Work → Type 0
FineWork fs (work.Library c) = IsScriptOf fs c.code c.fun
FineWork fs (work.Go c) = IsScriptOf fs c.code c.fun
FineWork fs i = Unit {0}

-- What a turn in progress holds is the life's, and it has no more fuel than it was granted.
pub record FineTurn (fs : List Forest) (w : ℕ) (s : Cells) (p : Page) (grant : ℕ) (t : Turn) : Type 0 where
  pub doing : FineDoing fs w s p t.doing
  pub levels : FineLevels fs w s.cells p t.calls.levels.items
  pub left : t.left ≤ grant

-- The object `lib` of a life is the first of its objects.
pub record HasLib (w : ℕ) (s : Cells) (l : Life) : Type 0 where
  pub held : IsHeld w s.cells l.lib
  pub first : seen w s.cells (value.Ref l.lib) ≡ lib

-- turns and events that were counted, and those that the queue may still make
abbrev pub tally : Shared → ℕ → Life → ℕ
tally h w l = l.records.turns + (l.records.missed + (l.records.gone + potentials (works_of h w l)))

-- fuel that may have been spent in the turn in progress
abbrev pub held_back : Option Turn → ℕ
held_back None = 0
held_back (Some t) = most_fuel

-- Counts of a life are no more than its turns allow.
pub record FineCounts (h : Shared) (w : ℕ) (l : Life) : Type 0 where
  pub grant : l.grant ≤ most_fuel
  pub spent : l.records.spent + held_back l.turn ≤ l.records.turns * most_fuel
  pub room : tally h w l < 2 ^ 32

-- A life is confined and sound, what its queue and its turn in progress hold is its own, and its counts have room.
pub record FineLife (h : Shared) (w : ℕ) (l : Life) : Type 0 where
  pub number : l.widget.id.index ≡ w
  pub confined : IsConfined (trees_in h) w h.store
  pub sound : IsSound w h.store h.page l.widget.around
  pub lib : HasLib w h.store l
  pub works : AllByRecursion (FineWork (trees_in h)) l.queue.items
  pub turn : IfSome l.turn (FineTurn (trees_in h) w h.store h.page l.grant)
  pub counts : FineCounts h w l

-- What a call for widget w keeps of the store, by the trees of its scripts: the widget stays confined, what is there stays under its numbers, and other widgets have what they had and stay confined by any trees.
pub record KeepsCells (fs : List Forest) (w : ℕ) (old new : Cells) : Type 0 where
  pub confined : IsConfined fs w old → IsConfined fs w new
  pub grows : Grows w old.cells new.cells
  pub others : (v : ℕ) → (w ≡ v → ⊥) → owned v new ≡ owned v old
  pub others_grow : (v : ℕ) → (w ≡ v → ⊥) → Grows v old.cells new.cells
  pub others_confined : (gs : List Forest) (v : ℕ) → (w ≡ v → ⊥) → IsConfined gs v old → IsConfined gs v new

-- What a call for one life keeps of all lives, also after want of memory: the scripts, what is said of the store and of the page, what the host has of the page, that what the life holds is its own, its number and its slot, and whether it was accepted.
pub record KeepsLife (w : ℕ) (h k : Shared) (a b : Life) : Type 0 where
  pub codes : k.codes ≡ h.codes
  pub cells : KeepsCells (trees_in h) w h.store k.store
  pub page : KeepsPage w h.page k.page
  pub host : HostStays h.page k.page
  pub holds : HoldsOwn w k.store k.page b.widget.around
  pub number : b.widget.id.index ≡ a.widget.id.index
  pub slot : b.slot ≡ a.slot
  pub accepted : b.accepted ≡ a.accepted
