-- Image: what one widget is by itself, of the store, the page and its loop together.
use Rattle.std.specs.Prelude.{ℕ, List, [], ◌∷◌, Bool, Option, None, Some, length, map}
use Rattle.js_tree.specs.Forest.{Forest}
use Rattle.store_cells.specs.Cells.{Cells, own_count}
use Rattle.object_store.specs.Owned.{owned}
use Rattle.widget_meaning.specs.Values.{Stop}
use Rattle.widget_meaning.specs.OwnState.{Post, State}
use Rattle.page_tree.specs.declared.page.Page.{Page}
use Rattle.event_loop.specs.declared.around.Loop.{Loop}
use Rattle.event_loop.specs.Around as around
use Rattle.js_image.specs.Image.{meant_cell, meant_counts, meant_scope}
use Rattle.page_image.specs.Image as page
use Rattle.page_image.specs.Around.{own_focus, own_kept, own_timers}

-- What no native of the page sees: the host's records of the widget, and the open dispatches but the innermost.
pub record Outside : Type 0 where
  pub log : List (List ℕ)
  pub uncaught : List (List ℕ)
  pub posts : List Post
  pub turns : ℕ
  pub spent : ℕ
  pub missed : ℕ
  pub gone : ℕ
  pub stop : Option Stop
  pub grant : ℕ
  pub outer : List Bool

-- What a widget has to do with: the store, the page, its loop and, where a dispatch runs, whether `bubble` was called in the innermost one.
pub record Parts : Type 0 where
  pub store : Cells
  pub page : Page
  pub around : Loop
  pub bubbled : Option Bool

-- the store beside a page and a loop
abbrev pub beside : Cells → Page → Loop → Option Bool → Parts
beside s p l b = record { store = s; page = p; around = l; bubbled = b }

-- the open dispatches
abbrev pub dispatches_of : Option Bool → List Bool → List Bool
dispatches_of None outer = []
dispatches_of (Some b) outer = b ∷ outer

-- the state of widget w, by the trees of functions
abbrev pub image : List Forest → Outside → ℕ → Parts → State
image fs x w h = record {
  own = record {
    heap = map (meant_cell fs (page.own h.page w)) (owned w h.store).heap;
    scopes = map meant_scope (owned w h.store).scopes;
    forest = page.forest h.page w;
    kept = own_kept h.page w (own_count w h.store.cells) h.around;
    timers = own_timers (own_count w h.store.cells) h.around;
    clock = around.clock h.around;
    focus = own_focus h.page w h.around;
    log = x.log;
    uncaught = x.uncaught;
    posts = x.posts;
    counts = meant_counts (length (page.own h.page w)) (owned w h.store).paid;
    turns = x.turns;
    spent = x.spent;
    missed = x.missed;
    gone = x.gone;
    stop = x.stop;
    grant = x.grant;
  };
  dispatches = dispatches_of h.bubbled x.outer;
}
