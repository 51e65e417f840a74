-- A page that was loaded, while its items are given.
use Rattle.std.specs.Prelude.{◌≡◌, ◌<◌, ◌≤◌, ℕ, List, [], ◌∷◌, map, length, take, false, true, slice_get, Option, Some}
use Rattle.adsafe_rules.specs.Accepts.{tree_of}
use Rattle.trace_reader.specs.Items.{longest_advance}
use Rattle.trace_reader.specs.Said as said
use Rattle.trace_reader.specs.Said.{Said}
use Rattle.life_laws.specs.Life.{Seen, image}
use Rattle.life_laws.specs.Slots.{has}
use Rattle.life_laws.specs.Chains.{last_at, listed}
use Rattle.page_plan.specs.declared.PageSpec.{PageSpec}
use Rattle.page_plan.specs.declared.SlotContent.{SlotContent}
use Rattle.page_plan.specs.declared.SlotSpec.{SlotSpec}
use Rattle.page_plan.specs.Loadable.{IsSwapLoadable}
use Rattle.page_plan.specs.Pages.{piece_of}
use Rattle.slot_lives.specs.Lives.{last_life, swaps_in}
use Rattle.widget_host.specs.declared.host.Host.{Host}
use Rattle.widget_host.specs.Given.{AreEnded}
use Rattle.widget_host.specs.Housed.{IsHoused, IsLaid, Loads, accepts, chains, channels, ends, fuels, given, homes, journal, libraries, marked, names, seens, singles}
use Rattle.widget_host.specs.Rounds.{AreFed, is_last}
use Rattle.page_play.specs.Played.{name_of, fed_of, begun_in, ended_in, HasScriptsOf, HaveScriptsOf}
use Rattle.page_play.specs.Settled.{GivesAll}

-- the fuel of the turns of a slot
abbrev pub fuel_of : SlotSpec → ℕ
fuel_of s = s.fuel

-- The host has loaded the page, and was given these items, of which the swaps bring the first of these; nothing was done with them yet. Its last lives and those that swaps end were given what the trace gives them.
pub record Plays (spec : PageSpec) (swaps : List SlotContent) (items : List Said) (h : Host) : Type 0 where
  pub housed : IsHoused h
  pub unmarked : marked h ≡ false
  pub slots : length (chains h) ≡ length spec.slots.items
  pub laid : IsLaid h (map name_of spec.slots.items) (map piece_of spec.pieces.items)
  pub channels : channels h ≡ spec.channels.items
  pub names : names h ≡ map name_of spec.slots.items
  pub fuels : fuels h ≡ map fuel_of spec.slots.items
  pub libraries : libraries h ≡ map tree_of spec.libs.items
  pub given : given h ≡ length items
  pub swapped : length (ends h) ≡ swaps_in items
  pub journal : journal h ≡ []
  pub first : Host
  pub loads : Loads spec first
  pub gives : GivesAll first items (take (swaps_in items) swaps) h
  pub unspent : (v : ℕ) (s : Seen) → accepts h v ≡ true → slice_get (seens h) v ≡ Some s → (image s).spent ≡ 0
  pub lasts : AreFed h (begun_in spec swaps items)
  pub ended : AreEnded h (ends h) (ended_in spec swaps items)
  pub none_else : (v : ℕ) → listed v (chains h) ≡ false → accepts h v ≡ false
  pub leave : (v : ℕ) → listed v (chains h) ≡ true → is_last v (chains h) ≡ false → has v (ends h) ≡ true
  pub scripts : (w : ℕ) (s : SlotSpec) → slice_get spec.slots.items w ≡ Some s → HasScriptsOf h (last_at w (chains h)) (fed_of spec.libs.items s.fuel (last_life s.content swaps items w))
  pub ended_scripts : HaveScriptsOf h (ends h) (ended_in spec swaps items)
  pub firsts : swaps_in items ≡ 0 → chains h ≡ singles 0 (length spec.slots.items)
  pub own : swaps_in items ≡ 0 → (v w : ℕ) → slice_get (homes h) v ≡ Some w → w ≡ v

-- an item may be given to a host, with these contents left for swaps
pub data MayGive (left : List SlotContent) (h : Host) : Said → Type 0 where
  an_event : {to : ℕ} {kind path : List ℕ} {value : Option (List ℕ)} → to < length (chains h) → MayGive left h (said.an_event to kind path value)
  an_advance : {ms : ℕ} → ms ≤ longest_advance → MayGive left h (said.an_advance ms)
  a_swap : {to : ℕ} {file : List ℕ} (content : SlotContent) (more : List SlotContent) → to < length (chains h) → length (ends h) < 4 → left ≡ content ∷ more
      → ((name : List ℕ) → slice_get (names h) to ≡ Some name → IsSwapLoadable (length (libraries h)) name content) → MayGive left h (said.a_swap to file)
