-- A life comes, and waits: its swap is not taken yet.
use Rattle.std.specs.Prelude.{◌≡◌, ◌≢◌, ℕ, ◌<◌, ◌≤◌, ◌^◌, List, false, true, length, map, None, Some, slice_get, slice_set}
use Rattle.js_tree.specs.declared.tree.Tree.{Tree}
use Rattle.js_names.specs.Code.{tree_in}
use Rattle.object_store.specs.Owned.{owned}
use Rattle.page_nodes.specs.Adds.{Older}
use Rattle.page_nodes.specs.Entries.{at, body}
use Rattle.page_tree.specs.declared.page.Page.{Page}
use Rattle.page_tree.specs.Pages.{nodes}
use Rattle.page_image.specs.Image.{number, own, owns, root_of}
use Rattle.page_image.specs.Stays.{OthersStay}
use Rattle.page_build.specs.Homes.{HaveRaws}
use Rattle.page_build.specs.Layout.{IsLot, Lot, lot_of}
use Rattle.page_build.specs.Standing.{AreSpots, IsSpare, IsStanding}
use Rattle.slot_picks.specs.declared.lives.Lives.{Lives}
use Rattle.slot_picks.specs.declared.lives.Place.{Place}
use Rattle.slot_picks.specs.declared.slots.Slot.{Slot}
use Rattle.slot_picks.specs.Places.{is_accepted, seen_at}
use Rattle.slot_picks.specs.Lives.{FewLives, FineLives, OwnLives, seens_of}
use Rattle.page_load.specs.declared.joining.Coming.{Coming}
use Rattle.page_plan.specs.Contents.{HasScriptsIn, content_in}
use Rattle.page_load.specs.Loads.{HasNothing, IsFirstLife}

-- ## Before

-- A place is free: no life was accepted in it, and its number has nothing.
pub record IsFree (v : ℕ) (c : Lives) : Type 0 where
  pub refused : (a : Place) → slice_get c.places.items v ≡ Some a → a.life.accepted ≡ false
  pub nothing : HasNothing v c.shared.store c.shared.page

-- ## What stays

-- A tree may come that stands under nothing, of the life with a number or of the host. All older nodes stay as they are, and with them all that stands under `body` and in the slots, and what all other lives have of the page.
pub record PageJoins (v : ℕ) (p q : Page) : Type 0 where
  pub older : Older (nodes p) (nodes q)
  pub top : at (nodes q) body ≡ at (nodes p) body
  pub owners : (u n : ℕ) → owns p u n ≡ true → owns q u n ≡ true
  pub numbers : (u n : ℕ) → owns p u n ≡ true → number q u n ≡ number p u n
  pub nodes : (u : ℕ) → u ≢ v → own q u ≡ own p u
  pub trees : OthersStay p q v
  pub roots : (u : ℕ) → u < 32 → u ≢ v → root_of q u ≡ root_of p u
  pub standing : (n : ℕ) → IsStanding p n → IsStanding q n
  pub spare : (n : ℕ) → IsSpare p n → IsSpare q n
  pub lots : (lot : Lot) (n : ℕ) → IsLot p lot n → IsLot q lot n
  pub spots : (spots : List ℕ) → AreSpots p spots → AreSpots q spots

-- What the coming of a life keeps, also after want of memory: all other places, the picks that are kept and which trees are shared; that each accepted life holds its own alone; what all others have in the store; that a number that is no accepted life's has nothing; that each node has its RawNode; what stays of the page; and what is seen of all other lives.
pub record KeepsRest (v : ℕ) (c d : Lives) : Type 0 where
  pub place : Place
  pub places : d.places.items ≡ slice_set c.places.items v place
  pub journal : d.journal ≡ c.journal
  pub codes : d.shared.codes ≡ c.shared.codes
  pub holds : OwnLives c → OwnLives d
  pub cells : (u : ℕ) → u ≢ v → owned u d.shared.store ≡ owned u c.shared.store
  pub nothing : (u : ℕ) → is_accepted d.places.items u ≡ false → HasNothing u c.shared.store c.shared.page → HasNothing u d.shared.store d.shared.page
  pub raws : HaveRaws d.shared.store d.shared.page
  pub page : PageJoins v c.shared.page d.shared.page
  pub seens : (u : ℕ) → u ≢ v → slice_get (seens_of d) u ≡ slice_get (seens_of c) u

-- Where memory was wanted no life came, or one that is accepted, whose root stands under nothing.
pub data HasSeat (v : ℕ) (c d : Lives) : Type 0 where
  none_came : d.places.items ≡ c.places.items → HasSeat v c d
  came : (a : Place) → d.places.items ≡ slice_set c.places.items v a → a.life.accepted ≡ true → root_of d.shared.page v ≡ Some a.root → IsSpare d.shared.page a.root → length (nodes c.shared.page) ≤ a.root → HasSeat v c d

-- ## The life

-- The life came: of its slot, as its widget begins and with its load turns, or not accepted where its file was refused, with the trees of its own scripts; and no round has taken a post of it. Its root, or where its file was refused an empty `div` of the host with the slot's name as `id`, is none that was there, and stands under nothing. All lives are sound, and no other is seen otherwise.
pub record Comes (ts : List Tree) (s : Slot) (x : Coming) (c d : Lives) : Type 0 where
  pub place : Place
  pub places : d.places.items ≡ slice_set c.places.items x.v place
  pub home : place.life.slot ≡ x.to
  pub life : IsFirstLife d.shared x.v s.fuel (content_in ts x.content) place
  pub scripts : HasScriptsIn ts x.content (map tree_in place.codes.items)
  pub told : place.told ≡ 0
  pub spare : IsSpare d.shared.page place.root
  pub fresh : length (nodes c.shared.page) ≤ place.root
  pub root : place.life.accepted ≡ true → root_of d.shared.page x.v ≡ Some place.root
  pub div : place.life.accepted ≡ false → IsLot d.shared.page (lot_of s.name None) place.root
  pub fine : FineLives d
  pub few : (n : ℕ) → 2 ^ 31 ≤ n → FewLives n c → FewLives n d
  pub seens : seens_of d ≡ slice_set (seens_of c) x.v (seen_at d.shared x.v place)
