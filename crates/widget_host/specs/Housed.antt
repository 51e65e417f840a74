-- A host as plain data: what is seen of its lives, what holds of it, and what its calls do.
use Rattle.std.specs.Prelude.{◌≡◌, ◌≢◌, ◌<◌, ◌≤◌, ◌+◌, ◌*◌, ◌^◌, ◌++◌, ℕ, zero, suc, List, [], ◌∷◌, map, length, nat_eq, ◌&&◌, Bool, true, false, slice_get, slice_set, slice_index_or, Option, Some, None, option_map, if◌then◌else◌}
use Rattle.std.specs.List.{IsDistinct, list_any}
use Rattle.std.specs.Str.{bytes_eq}
use Rattle.std.specs.declared.alloc.Global.{Global}
use Rattle.std.specs.declared.vec.Vec.{Vec}
use Rattle.js_tree.specs.declared.tree.Tree.{Tree}
use Rattle.js_tree.specs.Forest.{Forest}
use Rattle.js_tree.specs.Trees.{trees}
use Rattle.js_names.specs.declared.code.Code.{Code}
use Rattle.js_names.specs.Code.{tree_in}
use Rattle.js_image.specs.Plans.{meant_cause}
use Rattle.adsafe_rules.specs.Accepts.{tree_of}
use Rattle.life_laws.specs.Life.{Seen, due, image}
use Rattle.page_nodes.specs.Entries.{body}
use Rattle.life_laws.specs.declared.entry.PickEntry.{PickEntry}
use Rattle.life_laws.specs.declared.entry.Picked.{Picked}
use Rattle.life_laws.specs.Journal.{on_at}
use Rattle.life_laws.specs.Slots.{IsTail, has}
use Rattle.life_laws.specs.Chains.{PickedIn, Unspent, joins, last_life, last_at}
use Rattle.slot_picks.specs.Feeding.{sum_of}
use Rattle.slot_picks.specs.Places.{HoldsItsOwn, codes_of, homes_of, is_accepted, roots_of, told_of}
use Rattle.slot_picks.specs.declared.lives.Place.{Place}
use Rattle.slot_picks.specs.declared.slots.Slot.{Slot}
use Rattle.slot_picks.specs.Lives.{AreHoused, AreStanding, FewLives, OwnLives, chains_of, present_of, seens_of, spots_of}
use Rattle.widget_meaning.specs.Limits.{max_posts}
use Rattle.widget_meaning.specs.Values as meaning
use Rattle.widget_meaning.specs.OwnState.{OwnState}
use Rattle.widget_meaning.specs.Items.{Item, Occurs, Advance, item}
use Rattle.widget_meaning.specs.Alone.{Content, beginning, loaded}
use Rattle.native_image.specs.declared.handed.Shared.{Shared}
use Rattle.slot_picks.specs.QueueLives.{event_of}
use Rattle.page_plan.specs.declared.PageSpec.{PageSpec}
use Rattle.page_plan.specs.declared.SlotContent.{SlotContent}
use Rattle.page_plan.specs.declared.SlotSpec.{SlotSpec}
use Rattle.page_plan.specs.Contents.{content_of, HasScriptsIn, content_in}
use Rattle.page_plan.specs.Pages.{PagePiece, piece_of}
use Rattle.page_build.specs.Homes.{HaveRaws}
use Rattle.page_build.specs.Standing.{HavePlaces, IsLaidBy, PagePasses}
use Rattle.page_load.specs.Joining.{PageJoins}
use Rattle.page_load.specs.Loads.{HasNothing}
pub use Rattle.page_load.specs.Loads.{HasScripts, singles}
use Rattle.widget_host.specs.declared.host.Host.{Host}
use Rattle.widget_host.specs.declared.items.HostItem.{HostItem}
use Rattle.widget_host.specs.declared.items.HostItem.TheVariants as host
use Rattle.widget_host.specs.declared.lines.RunLine.{RunLine}
use Rattle.widget_host.specs.declared.lines.LifeStop.{LifeStop}
use Rattle.widget_host.specs.declared.lines.LifeStop.TheVariants as stop

-- ## A host

-- what is seen of each of its lives; the place of a life is its number
unfoldable pub seens : Host → List Seen
seens h = seens_of h.lives

-- the lives of each slot: the present one, then those whose swap waits
unfoldable pub chains : Host → List (List ℕ)
chains h = chains_of h.slots.items

-- the slot of each life; of a place where none was born, the place itself
unfoldable pub homes : Host → List ℕ
homes h = homes_of h.lives.places.items

-- whether the file of a life was accepted
unfoldable pub accepts : Host → ℕ → Bool
accepts h v = is_accepted h.lives.places.items v

-- its lives, each with the trees of its scripts; the place of a life is its number
unfoldable pub places : Host → List Place
places h = h.lives.places.items

-- what all of them share: the store and the page
unfoldable pub shared : Host → Shared
shared h = h.lives.shared

-- the last picks that were not idle
unfoldable pub journal : Host → List PickEntry
journal h = h.lives.journal.items

-- the scripts of a life: those of the libraries that its file names, in order, and its last script; none where no life is
unfoldable pub scripts : Host → ℕ → List Tree
scripts h v = slice_index_or (map (λ (codes : Vec Code Global). map tree_in codes.items) (codes_of h.lives.places.items)) v []

-- the plain trees of their nodes
abbrev pub own_trees : Host → ℕ → List Forest
own_trees h v = map trees (scripts h v)

-- the pairs of slots between which posts go, the sender first
unfoldable pub channels : Host → List (ℕ × ℕ)
channels h = h.channels.items

-- the name of each slot
unfoldable pub names : Host → List (List ℕ)
names h = map (λ (s : Slot). s.name) h.slots.items

-- the fuel of each turn of the lives of a slot
unfoldable pub fuels : Host → List ℕ
fuels h = map (λ (s : Slot). s.fuel) h.slots.items

-- the libraries of the page, each as its tree
unfoldable pub libraries : Host → List Tree
libraries h = map tree_in h.libs.items

-- the node that stands in each slot: that of the life that is present
unfoldable pub spots : Host → List ℕ
spots h = spots_of h.lives h.slots.items

-- the life that each swap that was given ends, in order
unfoldable pub ends : Host → List ℕ
ends h = h.ends.items

-- how many swaps it was given
abbrev pub swaps : Host → ℕ
swaps h = length (ends h)

-- how many posts of a life rounds have taken
unfoldable pub told : Host → List ℕ
told h = told_of h.lives.places.items

-- how many items it was given
unfoldable pub given : Host → ℕ
given h = h.given

-- whether a call wanted memory: then it does nothing more
unfoldable pub marked : Host → Bool
marked h = h.marked

-- the most turns and events of a life after so many items: what its load may make, and less than 400000 an item, since an advance of a minute makes at most 384130
abbrev pub most_after : ℕ → ℕ
most_after n = 2 ^ 31 + n * 400000

-- What holds also after want of memory: each accepted life holds its own alone, and a number that is no accepted life's has no cell and no node; in each slot stands the node of its present life; no two slots have one name.
pub record IsApart (h : Host) : Type 0 where
  pub twenty : length h.lives.places.items ≡ 20
  pub own : OwnLives h.lives
  pub others : (v : ℕ) → accepts h v ≡ false → HasNothing v h.lives.shared.store h.lives.shared.page
  pub standing : AreStanding h.lives h.slots.items
  pub distinct : IsDistinct bytes_eq (names h)

-- Its lives are in their slots, their counts have room, and each accepted one is sound (`FineLife`): it is confined, and what its turn, its queue and its loop hold is its own. Each node of the page has its RawNode. Where no life was born yet the place is free.
pub record IsWhole (h : Host) : Type 0 where
  pub slots : AreHoused (16 + swaps h) h.lives h.slots.items
  pub room : FewLives (most_after h.given + sum_of (told h)) h.lives
  pub raws : HaveRaws h.lives.shared.store h.lives.shared.page
  pub free : (v : ℕ) → 16 + swaps h ≤ v → (accepts h v ≡ false) × (slice_index_or (roots_of h.lives.places.items) v body ≡ body) × (slice_index_or (told h) v 0 ≡ 0)
  pub told : (v n : ℕ) → slice_get (told h) v ≡ Some n → n ≤ max_posts
  pub fuels : (w n : ℕ) → slice_get (fuels h) w ≡ Some n → n ≤ 1000000
  pub given : h.given ≤ 4096
  pub swaps : swaps h ≤ 4

-- so it is of a host: whole unless it is marked, and its lives apart
unfoldable pub IsHoused : Host → Type 0
IsHoused h = IsApart h × (marked h ≡ false → IsWhole h)

-- each accepted life holds its own alone, in the store and on the page as they are
abbrev pub HoldAll : Host → Type 0
HoldAll h = (v : ℕ) (p : Place) → slice_get (places h) v ≡ Some p → p.life.accepted ≡ true → HoldsItsOwn (shared h) v p

-- who has the root in each slot: its present life, if its file was accepted
abbrev pub rooted : (ℕ → Bool) → List (List ℕ) → List (Option ℕ)
rooted accepted cs = map (λ c. if accepted (present_of c) then Some (present_of c) else None) cs

-- its slots have these names, and its page these pieces, among them each slot
unfoldable pub IsLaid : Host → List (List ℕ) → List PagePiece → Type 0
IsLaid h xs pieces = (xs ≡ names h) × HavePlaces (length xs) pieces × IsLaidBy h.lives.shared.page (spots h) pieces

-- ## What stays

-- What no call changes, also after want of memory: the channels, the libraries, the names of the slots and their fuel.
pub record KeepsPlan (old new : Host) : Type 0 where
  pub channels : channels new ≡ channels old
  pub libraries : libraries new ≡ libraries old
  pub names : names new ≡ names old
  pub fuels : fuels new ≡ fuels old

-- What each call but `give_swap` keeps, also after want of memory: that; the slot of each life, whether its file was accepted, and its scripts; the swaps that were given; what stays of the page, whichever slots are picked: the nodes of the host and the order of the children of `body`, among which in each slot stands the node of its present life (`PagePasses`), the owners and numbers of nodes, the roots; and of which pieces the page is made.
pub record KeepsHost (old new : Host) : Type 0 where
  pub plan : KeepsPlan old new
  pub homes : homes new ≡ homes old
  pub accepts : (v : ℕ) → accepts new v ≡ accepts old v
  pub scripts : (v : ℕ) → scripts new v ≡ scripts old v
  pub ends : ends new ≡ ends old
  pub page : PagePasses (shared old).page (shared new).page (spots old) (spots new)
  pub laid : (xs : List (List ℕ)) (pieces : List PagePiece) → IsLaid old xs pieces → IsLaid new xs pieces

-- What a pick of the slot with a number keeps beside it, also after want of memory: the lives of each other slot, and what is seen of each life that is none of this slot's. Of its own lives the first ones may have ended.
pub record KeepsBeside (w : ℕ) (old new : Host) : Type 0 where
  pub slots : (u : ℕ) → u ≢ w → slice_get (chains new) u ≡ slice_get (chains old) u
  pub own : IsTail (slice_index_or (chains old) w []) (slice_index_or (chains new) w [])
  pub lives : (v : ℕ) → has v (slice_index_or (chains old) w []) ≡ false → slice_get (seens new) v ≡ slice_get (seens old) v

-- ## Picks one after the other

-- Slots were picked with this slice, one after the other, each pick from what the one before left; and after each, in the store and on the page as they were then, each accepted life held its own alone.
pub data Passes (k : ℕ) (old : Host) : Host → Type 0 where
  no_pick : Passes k old old
  one_pick : {w : ℕ} {r : Picked} {mid new : Host} → Passes k old mid
      → PickedIn w k r (chains mid) (chains new) (seens mid) (seens new) (journal mid) (journal new)
      → HoldAll new → Passes k old new

-- Memory was wanted in a pick of a slot: the picks that are kept stay, and so does all beside the slot.
pub record WantsMemory (old new : Host) : Type 0 where
  pub slot : ℕ
  pub journal : journal new ≡ journal old
  pub beside : KeepsBeside slot old new

-- Such picks were made, and led to this host; or memory was wanted after them.
pub record PassesUntil (k : ℕ) (old : Host) (ended : Bool) (new : Host) : Type 0 where
  pub last : Host
  pub picks : Passes k old last
  pub is : ended ≡ true → new ≡ last
  pub wanted : ended ≡ false → WantsMemory last new

-- ## Items

-- an item as its meaning has it
abbrev pub item_of : HostItem → Item
item_of (host.Event to e) = Occurs (event_of e)
item_of (host.Advance ms) = Advance ms

-- it is for one of so many slots, and no advance is long
abbrev pub IsItem : HostItem → ℕ → Type 0
IsItem (host.Event to e) n = to < n
IsItem (host.Advance ms) n = ms ≤ 60000

-- whether it is for a life: an event for the last one of its slot, an advance for the last one of each
abbrev pub is_for : List (List ℕ) → HostItem → ℕ → Bool
is_for cs (host.Event to e) v = nat_eq (last_at to cs) v
is_for cs (host.Advance ms) v = list_any (λ c. nat_eq (last_life c) v) cs

-- and that one is accepted
abbrev pub reaches : Host → HostItem → ℕ → Bool
reaches h i v = accepts h v && is_for (chains h) i v

-- what lives from a number on come to, with this item more
abbrev pub dues_after : Host → HostItem → ℕ → List OwnState → List OwnState
dues_after h i v [] = []
dues_after h i v (o ∷ os) = (if reaches h i v then item o (item_of i) else o) ∷ dues_after h i (v + 1) os

-- The item was given: it is due where it is for, and nothing else changes.
pub record GivesItem (i : HostItem) (old new : Host) : Type 0 where
  pub dues : map due (seens new) ≡ dues_after old i 0 (map due (seens old))
  pub images : map image (seens new) ≡ map image (seens old)
  pub told : told new ≡ told old
  pub chains : chains new ≡ chains old
  pub given : given new ≡ given old + 1
  pub journal : journal new ≡ journal old
  pub same : shared new ≡ shared old
  pub stays : KeepsHost old new

-- It was given, and then picks with this slice were made; or memory was wanted to queue it, and no pick was made.
pub data ItemPasses (k : ℕ) (i : HostItem) (old : Host) (ended : Bool) (new : Host) : Type 0 where
  queued : {mid : Host} → GivesItem i old mid → PassesUntil k mid ended new → ItemPasses k i old ended new
  unqueued : ended ≡ false → map image (seens new) ≡ map image (seens old) → journal new ≡ journal old → shared new ≡ shared old → ItemPasses k i old ended new

-- ## Swaps

-- a life with this widget has it to load; one that was refused has none
abbrev pub LoadsLife : Host → ℕ → ℕ → Option Content → Type 0
LoadsLife h v fuel None = accepts h v ≡ false
LoadsLife h v fuel (Some c) = (accepts h v ≡ true) × ((s : Seen) → slice_get (seens h) v ≡ Some s → (image s ≡ beginning c fuel) × (due s ≡ loaded c fuel))

-- the number of the life that the next swap begins
abbrev pub newborn : Host → ℕ
newborn h = 16 + swaps h

-- A life with this content was born behind the last one of a slot, which it will end.
pub record BearsLife (to : ℕ) (content : SlotContent) (old new : Host) : Type 0 where
  pub ends : ends new ≡ ends old ++ last_at to (chains old) ∷ []
  pub chains : chains new ≡ on_at to (joins (newborn old)) (chains old)
  pub homes : homes new ≡ slice_set (homes old) (newborn old) to
  pub life : LoadsLife new (newborn old) (slice_index_or (fuels old) to 0) (content_in (libraries old) content)
  pub scripts : HasScriptsIn (libraries old) content (scripts new (newborn old))
  pub told : told new ≡ slice_set (told old) (newborn old) 0

-- What `give_swap` keeps, also after want of memory: what no call changes; of each other life what is seen of it, whether it was accepted and its scripts; the picks that are kept; what stands in each slot, the children of `body` and what else the host had on the page; and of which pieces the page is made.
pub record KeepsOthers (old new : Host) : Type 0 where
  pub plan : KeepsPlan old new
  pub seens : (v : ℕ) → v ≢ newborn old → slice_get (seens new) v ≡ slice_get (seens old) v
  pub accepts : (v : ℕ) → v ≢ newborn old → accepts new v ≡ accepts old v
  pub scripts : (v : ℕ) → v ≢ newborn old → scripts new v ≡ scripts old v
  pub journal : journal new ≡ journal old
  pub spots : spots new ≡ spots old
  pub page : PageJoins (newborn old) (shared old).page (shared new).page
  pub laid : (xs : List (List ℕ)) (pieces : List PagePiece) → IsLaid old xs pieces → IsLaid new xs pieces

-- A swap of a slot was given: its life was born, and nothing else changes.
pub record GivesSwap (to : ℕ) (content : SlotContent) (old new : Host) : Type 0 where
  pub life : BearsLife to content old new
  pub given : given new ≡ given old + 1
  pub stays : KeepsOthers old new

-- ## A page that is loaded

-- A page was loaded, and nothing was done yet.
pub record Loads (spec : PageSpec) (h : Host) : Type 0 where
  pub housed : IsHoused h
  pub unmarked : marked h ≡ false
  pub twenty : length (seens h) ≡ 20
  pub chains : chains h ≡ singles 0 (length spec.slots.items)
  pub homes : (v w : ℕ) → slice_get (homes h) v ≡ Some w → w ≡ v
  pub slots : (w : ℕ) (s : SlotSpec) → slice_get spec.slots.items w ≡ Some s → LoadsLife h w s.fuel (content_of spec.libs.items s.content)
  pub none_else : (v : ℕ) → length spec.slots.items ≤ v → accepts h v ≡ false
  pub scripts : (w : ℕ) (s : SlotSpec) → slice_get spec.slots.items w ≡ Some s → HasScripts spec.libs.items s.content (scripts h w)
  pub channels : channels h ≡ spec.channels.items
  pub libraries : libraries h ≡ map tree_of spec.libs.items
  pub apart : IsDistinct bytes_eq (names h)
  pub names : names h ≡ map (λ (s : SlotSpec). s.name) spec.slots.items
  pub fuels : fuels h ≡ map (λ (s : SlotSpec). s.fuel) spec.slots.items
  pub told : (v n : ℕ) → slice_get (told h) v ≡ Some n → n ≡ 0
  pub given : given h ≡ 0
  pub unspent : Unspent 0 (seens h)
  pub ends : ends h ≡ []
  pub journal : journal h ≡ []
  pub laid : IsLaid h (map (λ (s : SlotSpec). s.name) spec.slots.items) (map piece_of spec.pieces.items)

-- ## What is told of a host

-- the present life of the slot with a number
abbrev pub present : ℕ → List (List ℕ) → ℕ
present w [] = 0
present zero (c ∷ cs) = present_of c
present (suc w) (c ∷ cs) = present w cs

-- why a life has stopped
abbrev pub meant_stop : LifeStop → meaning.Stop
meant_stop stop.Fuel = meaning.Fuel
meant_stop (stop.Limit c) = meaning.PastLimit (meant_cause c)

-- A line has what a life did.
pub record IsLineOf (l : RunLine) (own : OwnState) : Type 0 where
  pub stop : own.stop ≡ option_map meant_stop l.stop
  pub turns : own.turns ≡ l.turns
  pub spent : own.spent ≡ l.spent
  pub missed : own.missed ≡ l.missed
  pub gone : own.gone ≡ l.gone
  pub log : own.log ≡ l.log.items
  pub uncaught : own.uncaught ≡ l.uncaught.items

-- a life shows this own state, or none where its file was refused
abbrev pub IsShown : Host → ℕ → Option OwnState → Type 0
IsShown h v None = accepts h v ≡ false
IsShown h v (Some own) = (accepts h v ≡ true) × ((s : Seen) × (slice_get (seens h) v ≡ Some s) × (image s ≡ own))

-- so does the present life of each of these slots
abbrev pub AreShown : Host → List (List ℕ) → List (Option OwnState) → Type 0
AreShown h [] [] = Unit {0}
AreShown h (c ∷ cs) (e ∷ es) = IsShown h (present_of c) e × AreShown h cs es
AreShown h _ _ = ⊥
