-- What a host begins with, for the page that it loads.
use Rattle.std.specs.Prelude.{◌≡◌, ℕ, zero, suc, ◌+◌, ◌<◌, ◌≤◌, ◌^◌, List, [], ◌∷◌, false, true, length, map, Option, None, Some, slice_get}
use Rattle.js_tree.specs.declared.tree.Tree.{Tree}
use Rattle.adsafe_rules.specs.declared.accepted.Accepted.{Accepted}
use Rattle.adsafe_rules.specs.Accepts.{tree_of}
use Rattle.js_names.specs.Code.{tree_in}
use Rattle.store_cells.specs.Cells.{Cells}
use Rattle.object_store.specs.Owned.{owned}
use Rattle.page_nodes.specs.Entries.{body}
use Rattle.page_tree.specs.declared.page.Page.{Page}
use Rattle.page_image.specs.Image.{own}
use Rattle.widget_meaning.specs.Alone.{Content, beginning, loaded}
use Rattle.life_laws.specs.Life.{due, image}
use Rattle.native_image.specs.declared.handed.Shared.{Shared}
use Rattle.slot_picks.specs.QueueLives.{life_seen}
use Rattle.slot_picks.specs.Fine.{FineLife, most_fuel, tally}
use Rattle.slot_picks.specs.declared.lives.Place.{Place}
use Rattle.slot_picks.specs.declared.slots.Slot.{Slot}
use Rattle.slot_picks.specs.Places.{lent}
use Rattle.slot_picks.specs.Lives.{AreStanding, chains_of, spots_of}
use Rattle.page_plan.specs.declared.PageSpec.{PageSpec}
use Rattle.page_plan.specs.declared.SlotContent.{SlotContent}
use Rattle.page_plan.specs.declared.SlotSpec.{SlotSpec}
use Rattle.page_plan.specs.Contents.{content_of, HasScriptsIn}
use Rattle.page_plan.specs.Pages.{piece_of}
use Rattle.page_build.specs.Homes.{HaveRaws, IsAway}
use Rattle.page_build.specs.Standing.{HavePlaces, IsLaidBy}
use Rattle.page_load.specs.Homes.{fuels_of, names_of}
use Rattle.page_load.specs.Laying.{HasNoCells, nothing_owned}
use Rattle.page_load.specs.Lives.{IsNobodys}
use Rattle.page_load.specs.declared.loading.Loaded.{Loaded}

-- the scripts of a slot, over the libraries of its page
abbrev pub HasScripts : List Accepted → SlotContent → List Tree → Type 0
HasScripts libs content own = HasScriptsIn (map tree_of libs) content own

-- A life of this widget begins: it is sound over the trees of its own scripts, it is as the widget begins, and when its queue is done, as the widget is after its load.
pub record Begins (h : Shared) (w fuel : ℕ) (c : Content) (a : Place) : Type 0 where
  pub accepted : a.life.accepted ≡ true
  pub fine : FineLife (lent h a) w a.life
  pub shows : image (life_seen (lent h a) w a.life) ≡ beginning c fuel
  pub comes : due (life_seen (lent h a) w a.life) ≡ loaded c fuel
  pub few : tally (lent h a) w a.life ≤ 2 ^ 31

-- the first life of a slot: of one that was refused it is not accepted
abbrev pub IsFirstLife : Shared → ℕ → ℕ → Option Content → Place → Type 0
IsFirstLife h w fuel None a = a.life.accepted ≡ false
IsFirstLife h w fuel (Some c) a = Begins h w fuel c a

-- no slot has more fuel than a turn may have
abbrev pub HaveFewFuel : List Slot → Type 0
HaveFewFuel slots = (w : ℕ) (s : Slot) → slice_get slots w ≡ Some s → s.fuel ≤ most_fuel

-- slots from a number on, each with one life
abbrev pub singles : ℕ → ℕ → List (List ℕ)
singles v zero = []
singles v (suc n) = (v ∷ []) ∷ singles (v + 1) n

-- Under this number nobody has a cell or a node; and nothing was paid for it, and it has no root, where it is one of a life.
pub record HasNothing (v : ℕ) (s : Cells) (p : Page) : Type 0 where
  pub cells : HasNoCells v s
  pub nodes : own p v ≡ []
  pub unpaid : v < 32 → owned v s ≡ nothing_owned
  pub away : v < 32 → IsAway p v

-- A host begins with twenty places: the first life of each slot in order, with the trees of its own scripts, and the rest not yet born. Each life is of the slot with its number, and no round has taken a post of it. A number that is no accepted life's has nothing. No trees are shared. Each node of the page, the host's own too, has its RawNode. The page shows its pieces, and in its slots the nodes of the first lives. The libraries stay for lives that come later.
pub record LoadsPage (spec : PageSpec) (l : Loaded) : Type 0 where
  pub few : length spec.slots.items ≤ 16
  pub names : map (λ (s : Slot). s.name) l.slots.items ≡ names_of spec.slots.items
  pub fuels : map (λ (s : Slot). s.fuel) l.slots.items ≡ fuels_of spec.slots.items
  pub fuel : HaveFewFuel l.slots.items
  pub chains : chains_of l.slots.items ≡ singles 0 (length spec.slots.items)
  pub libs : map tree_in l.libs.items ≡ map tree_of spec.libs.items
  pub channels : l.channels.items ≡ spec.channels.items
  pub twenty : length l.lives.places.items ≡ 20
  pub homes : (v : ℕ) (a : Place) → slice_get l.lives.places.items v ≡ Some a → a.life.slot ≡ v
  pub told : (v : ℕ) (a : Place) → slice_get l.lives.places.items v ≡ Some a → a.told ≡ 0
  pub slots : (w : ℕ) (s : SlotSpec) (a : Place) → slice_get spec.slots.items w ≡ Some s → slice_get l.lives.places.items w ≡ Some a
      → IsFirstLife l.lives.shared w s.fuel (content_of spec.libs.items s.content) a
  pub scripts : (w : ℕ) (s : SlotSpec) (a : Place) → slice_get spec.slots.items w ≡ Some s → slice_get l.lives.places.items w ≡ Some a
      → HasScripts spec.libs.items s.content (map tree_in a.codes.items)
  pub unshared : l.lives.shared.codes.items ≡ []
  pub journal : l.lives.journal.items ≡ []
  pub raws : HaveRaws l.lives.shared.store l.lives.shared.page
  pub standing : AreStanding l.lives l.slots.items
  pub laid : IsLaidBy l.lives.shared.page (spots_of l.lives l.slots.items) (map piece_of spec.pieces.items)
  pub places : HavePlaces (length spec.slots.items) (map piece_of spec.pieces.items)
  pub others : (v : ℕ) → IsNobodys l.lives.places.items v → HasNothing v l.lives.shared.store l.lives.shared.page
  pub rest : (v : ℕ) (a : Place) → length spec.slots.items ≤ v → slice_get l.lives.places.items v ≡ Some a → (a.life.accepted ≡ false) × (a.root ≡ body)
