-- One part of a list is done, and the parts after it are still to be done.
use Rattle.std.specs.Prelude.{◌≡◌, ℕ, ◌-◌, ◌≤◌, List, []}
use Rattle.js_tree.specs.Forest.{Forest}
use Rattle.store_cells.specs.Cells.{Cells}
use Rattle.widget_meaning.specs.OwnState.{State}
use Rattle.widget_meaning.specs.Plan.{Plan}
use Rattle.js_image.specs.Image.{Rest, image}
use Rattle.js_direct.specs.Reduces.{Reduces}
use Rattle.js_direct.specs.declared.run.Run.{Run}

-- a plan in the old store goes on as another in the new one, for the units that were paid; nothing waits
pub record GoesOn (fs : List Forest) (w : ℕ) (old new : Cells) (p q : State → Plan) (had has : Run) : Type 0 where
  pub units : has.units ≤ had.units
  pub reduces : (r : Rest) → Reduces (had.units - has.units) (p (image fs r w old)) (q (image fs r w new))
  pub none : has.waits.items ≡ []
