-- All that a native may change of a widget, and the widget's state by it.
use Rattle.std.specs.Prelude.{ℕ, List, Bool, Option, map}
use Rattle.js_tree.specs.Forest.{Forest}
use Rattle.store_cells.specs.Cells.{Cells}
use Rattle.page_tree.specs.declared.page.Page.{Page}
use Rattle.event_loop.specs.declared.around.Loop.{Loop}
use Rattle.widget_meaning.specs.OwnState.{State}
use Rattle.adsafe_object.specs.Notes.{post_of}
use Rattle.native_image.specs.Image.{Outside, Parts, beside, image}
use Rattle.native_image.specs.declared.handed.Shared.{Shared}
use Rattle.native_image.specs.declared.handed.Widget.{Widget}

-- The store, the page, the widget's loop and its innermost dispatch; its log; and the posts that it has kept, by receiver and text.
pub record Reach : Type 0 where
  pub parts : Parts
  pub log : List (List ℕ)
  pub posts : List (List ℕ × List ℕ)

-- these together
abbrev pub reach : Cells → Page → Loop → Option Bool → List (List ℕ) → List (List ℕ × List ℕ) → Reach
reach s p l b log posts = record { parts = beside s p l b; log = log; posts = posts }

-- of a widget, beside what all share
abbrev pub reach_of : Shared → Widget → Reach
reach_of h v = reach h.store h.page v.around v.bubbled v.log.items v.posts.items

-- the host's records of the widget, with this log and these posts
abbrev pub with_notes : List (List ℕ) → List (List ℕ × List ℕ) → Outside → Outside
with_notes log posts x = record x { log = log; posts = map post_of posts }

-- the state of widget w, by the trees of functions; of x the log and the posts are passed over
abbrev pub state : List Forest → Outside → ℕ → Reach → State
state fs x w h = image fs (with_notes h.log h.posts x) w h.parts
