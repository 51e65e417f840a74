-- The places of all lives with which a host begins, while they are made.
use Rattle.std.specs.Prelude.{◌≡◌, ℕ, ◌+◌, ◌<◌, ◌≤◌, ◌^◌, ◌++◌, List, [], ◌∷◌, false, true, length, Option, None, Some, IfSome, slice_get, slice_index_or}
use Rattle.plain_tree.specs.Trees.{size}
use Rattle.tree_ops.specs.Trees.{numbered}
use Rattle.js_tree.specs.Trees.{program_of}
use Rattle.js_names.specs.Code.{tree_in, trees_of}
use Rattle.store_cells.specs.declared.value.Value.TheVariants as value
use Rattle.store_cells.specs.Cells.{Cells}
use Rattle.object_store.specs.Owned.{owned}
use Rattle.js_image.specs.Held.{IsHeld}
use Rattle.js_image.specs.Image.{seen}
use Rattle.page_nodes.specs.Entries.{body}
use Rattle.page_tree.specs.declared.page.Page.{Page}
use Rattle.page_image.specs.Image.{HasRoot, forest, own}
use Rattle.event_loop.specs.Around.{clock, focus, kept, timers}
use Rattle.event_loop.specs.Kept.{nothing}
use Rattle.widget_meaning.specs.Alone.{Content, beginning, call_parts, lib}
use Rattle.life_laws.specs.Life.{waiting}
use Rattle.native_image.specs.declared.handed.Shared.{Shared}
use Rattle.native_image.specs.declared.handed.Widget.{Widget}
use Rattle.slot_picks.specs.life.Life.{Life}
use Rattle.slot_picks.specs.QueueLives.{life_seen}
use Rattle.slot_picks.specs.Fine.{FineLife, tally}
use Rattle.slot_picks.specs.declared.lives.Place.{Place}
use Rattle.slot_picks.specs.Places.{lent}
use Rattle.page_build.specs.Homes.{HaveRaws}
use Rattle.page_load.specs.declared.codes.Scripts.{Scripts}
use Rattle.page_load.specs.declared.codes.Start.{Start}
use Rattle.page_load.specs.Laying.{IsUnused}
use Rattle.page_load.specs.Queues.{IsQueued, go_works, libraries_works, loads, programs_of}

-- ## Before

-- A widget has its root alone, with what is below it.
pub record HasTree (p : Page) (w : ℕ) : Type 0 where
  pub home : HasRoot p w
  pub trees : numbered 0 (forest p w) ≡ forest p w
  pub nodes : length (own p w) ≡ size (forest p w)

-- each widget that has scripts has its root
abbrev pub HaveTrees : Page → List Start → Type 0
HaveTrees p starts = (w : ℕ) (a : Start) → slice_get starts w ≡ Some a → IfSome a.scripts (λ s. HasTree p w)

-- the widget with a number, by what is on the page and by these scripts
abbrev pub content_at : Page → ℕ → Scripts → Content
content_at p w s = record {
  root = forest p w;
  libraries = programs_of s.libs.items;
  script = program_of (tree_in s.script);
}

-- ## One life

-- The cell is the object `lib` of a widget.
pub record IsLib (w : ℕ) (s : Cells) (cell : ℕ) : Type 0 where
  pub held : IsHeld w s.cells cell
  pub first : seen w s.cells (value.Ref cell) ≡ lib

-- Nothing is kept for a widget with this number.
pub record IsBlank (w : ℕ) (a : Widget) : Type 0 where
  pub number : a.id.index ≡ w
  pub kept_none : (n : ℕ) → kept a.around n ≡ nothing
  pub no_timers : timers a.around ≡ []
  pub no_time : clock a.around ≡ 0
  pub no_focus : focus a.around ≡ None
  pub no_log : a.log.items ≡ []
  pub no_posts : a.posts.items ≡ []

-- Nothing is recorded of a life, and no turn is in progress.
pub record IsNew (l : Life) : Type 0 where
  pub uncaught : l.records.uncaught.items ≡ []
  pub turns : l.records.turns ≡ 0
  pub spent : l.records.spent ≡ 0
  pub missed : l.records.missed ≡ 0
  pub gone : l.records.gone ≡ 0
  pub stop : l.records.stop ≡ None
  pub rests : l.turn ≡ None

-- An accepted life that has done nothing.
pub record IsNewLife (w grant : ℕ) (l : Life) : Type 0 where
  pub accepted : l.accepted ≡ true
  pub granted : l.grant ≡ grant
  pub blank : IsBlank w l.widget
  pub new : IsNew l

-- A new life with the trees of these scripts, and their load turns in its queue.
pub record IsReady (w fuel : ℕ) (s : Scripts) (a : Place) : Type 0 where
  pub codes : a.codes.items ≡ s.libs.items ++ s.script ∷ []
  pub many : length a.codes.items ≤ 2 ^ 31
  pub life : IsNewLife w fuel a.life
  pub queue : IsQueued (trees_of a.codes.items) [] a.life.queue.items (libraries_works (programs_of s.libs.items) ++ go_works (call_parts (program_of (tree_in s.script))))

-- What making one life keeps: the page, which trees are shared, that nodes have their cells, what all others have in the store, what is seen of all other lives, and that they are sound; and the widgets behind it have nothing yet.
pub record KeepsOthers (w : ℕ) (h k : Shared) : Type 0 where
  pub codes : k.codes ≡ h.codes
  pub page : k.page ≡ h.page
  pub raws : HaveRaws k.store k.page
  pub unused : IsUnused k.store (w + 1)
  pub others : (v : ℕ) → (w ≡ v → ⊥) → owned v k.store ≡ owned v h.store
  pub fine : (v : ℕ) (a : Place) → v < 32 → (w ≡ v → ⊥) → FineLife (lent h a) v a.life → FineLife (lent k a) v a.life
  pub seen : (v : ℕ) (a : Place) → v < 32 → (w ≡ v → ⊥) → FineLife (lent h a) v a.life → life_seen (lent k a) v a.life ≡ life_seen (lent h a) v a.life

-- ## All lives

-- A life with these scripts begins, and it has their trees.
pub record IsBegun (h : Shared) (w fuel : ℕ) (s : Scripts) (a : Place) : Type 0 where
  pub codes : a.codes.items ≡ s.libs.items ++ s.script ∷ []
  pub accepted : a.life.accepted ≡ true
  pub fine : FineLife (lent h a) w a.life
  pub seen : life_seen (lent h a) w a.life ≡ waiting (beginning (content_at h.page w s) fuel) (loads (content_at h.page w s))
  pub few : tally (lent h a) w a.life ≤ 2 ^ 31

-- The life of a place is of this slot, and no round has taken a post of it.
pub record IsIn (w : ℕ) (a : Place) : Type 0 where
  pub slot : a.life.slot ≡ w
  pub told : a.told ≡ 0

-- No life is accepted in a place, and no trees are there.
pub record IsUnborn (a : Place) : Type 0 where
  pub refused : a.life.accepted ≡ false
  pub codes : a.codes.items ≡ []

-- where a slot has no scripts no life is accepted
abbrev pub IsPlaceWith : Shared → ℕ → ℕ → Option Scripts → Place → Type 0
IsPlaceWith h w fuel None a = IsUnborn a
IsPlaceWith h w fuel (Some s) a = IsBegun h w fuel s a

-- nor where there is no slot
abbrev pub IsPlaceOf : Shared → ℕ → Option Start → Place → Type 0
IsPlaceOf h w None a = IsUnborn a
IsPlaceOf h w (Some start) a = IsPlaceWith h w start.fuel start.scripts a

-- no accepted life has this number
abbrev pub IsNobodys : List Place → ℕ → Type 0
IsNobodys places v = (a : Place) → slice_get places v ≡ Some a → a.life.accepted ≡ false

-- the node that stands for each life in its slot is one of these; behind them it is `body`
abbrev pub HaveRoots : List ℕ → List Place → Type 0
HaveRoots roots places = (v : ℕ) (a : Place) → slice_get places v ≡ Some a → a.root ≡ slice_index_or roots v body

-- so it is with each place
abbrev pub ArePlaces : Shared → List Start → List Place → Type 0
ArePlaces h starts places = (v : ℕ) (a : Place) → slice_get places v ≡ Some a → IsIn v a × IsPlaceOf h v (slice_get starts v) a
