-- The state of a widget in a turn, with its open dispatches, of which the innermost stands last.
use Rattle.std.specs.Prelude.{ℕ, List, Bool, Option, drop, reverse, slice_get}
use Rattle.js_tree.specs.Forest.{Forest}
use Rattle.store_cells.specs.Cells.{Cells}
use Rattle.widget_meaning.specs.OwnState.{State}
use Rattle.page_tree.specs.declared.page.Page.{Page}
use Rattle.event_loop.specs.declared.around.Loop.{Loop}
use Rattle.native_image.specs.Image.{Outside, beside, image}

-- what no native of the page sees: the dispatches around the innermost one among it
abbrev pub outside_of : Outside → List Bool → Outside
outside_of x dispatches = record x { outer = drop 1 (reverse dispatches) }

-- whether `bubble` was called in the innermost one, if one is open
abbrev pub bubbled_of : List Bool → Option Bool
bubbled_of dispatches = slice_get (reverse dispatches) 0

-- the state
abbrev pub turn_image : List Forest → Outside → ℕ → Cells → Page → Loop → List Bool → State
turn_image fs x w s p l dispatches = image fs (outside_of x dispatches) w (beside s p l (bubbled_of dispatches))
