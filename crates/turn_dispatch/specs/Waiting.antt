-- What waits in a turn is the widget's.
use Rattle.std.specs.Prelude.{◌≡◌, ℕ, List, true}
use Rattle.std.specs.List.{AllByRecursion}
use Rattle.js_tree.specs.Forest.{Forest}
use Rattle.store_cells.specs.Cells.{PlainCell}
use Rattle.page_tree.specs.declared.page.Page.{Page}
use Rattle.page_image.specs.Image.{owns}
use Rattle.js_image.specs.Held.{IsFine, IsHeld}
use Rattle.plan_ends.specs.Ends.{ByValue}
use Rattle.js_flow.specs.Fine.{FineFrames}
use Rattle.js_steps.specs.Ending.{Awaits}
use Rattle.turn_dispatch.specs.declared.level.Firing.{Firing}
use Rattle.turn_dispatch.specs.declared.level.Level.{Level}
use Rattle.turn_dispatch.specs.declared.level.Level.TheVariants as level
use Rattle.turn_dispatch.specs.Held.{FineHearing}

-- An event that is fired at nodes of the widget.
pub record FineFiring (w : ℕ) (cells : List PlainCell) (p : Page) (f : Firing) : Type 0 where
  pub nodes : AllByRecursion (λ n. owns p w n ≡ true) f.nodes.items
  pub last : IsFine w cells f.last

module _ (fs : List Forest) (w : ℕ) (cells : List PlainCell) (p : Page) where
  -- one thing that waits
  abbrev pub FineLevel : Level → Type 0
  FineLevel (level.Keeps lib x) = IsHeld w cells lib
  FineLevel (level.Hears h n) = FineHearing w cells p h.value
  FineLevel (level.Fires f n) = FineFiring w cells p f.value
  FineLevel (level.Waits t) = (t.value.widget ≡ w) × FineFrames fs w cells t.value.frames.list.items × Awaits fs w cells ByValue t.value.frames.list.items

  -- all that waits
  abbrev pub FineLevels : List Level → Type 0
  FineLevels levels = AllByRecursion FineLevel levels
