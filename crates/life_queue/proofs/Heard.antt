-- The turn of an event, where a node listens.
use Rattle.std.proofs.Common.{◌≡◌, ℕ, List, Bool, ap, sym, ◌∙◌, Option, Some, None}
use Rattle.js_tree.specs.Forest.{Forest}
use Rattle.store_cells.specs.Cells.{Cells, own_count}
use Rattle.widget_meaning.specs.Dispatch as meaning
use Rattle.widget_meaning.specs.Dispatch.{dispatch, hear_found, nearest}
use Rattle.widget_meaning.specs.OwnState.{State}
use Rattle.widget_meaning.specs.Turns.{begun}
use Rattle.widget_meaning.specs.Values.{Value}
use Rattle.page_image.specs.Around.{Shows}
use Rattle.event_loop.specs.declared.around.Loop.{Loop}
use Rattle.native_image.specs.Image.{Outside, beside, image}
use Rattle.native_image.specs.Sound.{IsSound}
use Rattle.native_image.proofs.Joint.{image_shows}
use Rattle.turn_dispatch.specs.declared.level.Heard.{Heard}
use Rattle.turn_dispatch.specs.Levels.{heard_plan}
use Rattle.life_queue.specs.declared.life.Life.{Life}
use Rattle.native_image.specs.declared.handed.Shared.{Shared}
use Rattle.life_queue.specs.Lives.{own_of, trees_in}
use Rattle.life_queue.proofs.Passing.{counted}

pub heard_so : (h : Shared) (w : ℕ) (a : Life) (new : Cells) → IsSound w h.store h.page a.widget.around → (kind : List ℕ) (n : ℕ) (v u : Value) (at : ℕ) (fs : List ℕ)
    → ((s : State) → Shows h.page w (own_count w h.store.cells) a.widget.around s.own → nearest s (Some n) kind ≡ Some (at, fs))
    → u ≡ v → (found : Heard)
    → ((gs : List Forest) (x : Outside) (l : Loop) (b : Option Bool) → IsSound w h.store h.page l
    → meaning.hear kind n u 0 at fs (image gs x w (beside h.store h.page l b)) ≡ heard_plan w new.cells h.page found (image gs x w (beside new h.page l b)))
    → dispatch kind n v 0 (begun (own_of h w a)) ≡ heard_plan w new.cells h.page found (image (trees_in h) (counted h w a new h.page) w (beside new h.page a.widget.around None))
heard_so h w a new sound kind n v u at fs near e found hear =
    ap (λ o. hear_found o kind n v 0 (begun (own_of h w a))) (near (begun (own_of h w a)) (image_shows w (trees_in h) (counted h w a h.store h.page) h.store h.page a.widget.around None sound.holds))
    ∙ ap (λ x. meaning.hear kind n x 0 at fs (begun (own_of h w a))) (sym e)
    ∙ hear (trees_in h) (counted h w a h.store h.page) a.widget.around None sound
