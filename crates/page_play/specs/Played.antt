-- What a host has done with the page, the items and the swaps that it was handed.
use Rattle.std.specs.Prelude.{◌≡◌, ◌<◌, ◌≤◌, ◌+◌, ◌++◌, ℕ, List, [], ◌∷◌, map, length, false, slice_get, slice_index_or, Option, Some, None, option_map}
use Rattle.js_tree.specs.declared.tree.Tree.{Tree}
use Rattle.js_tree.specs.Trees.{program_of}
use Rattle.adsafe_rules.specs.declared.accepted.Accepted.{Accepted}
use Rattle.trace_reader.specs.Items.{longest_advance}
use Rattle.trace_reader.specs.Said.{Said, an_event, an_advance, a_swap}
use Rattle.widget_meaning.specs.Alone.{Content}
use Rattle.life_laws.specs.Fed.{Fed, RoundsTo}
use Rattle.life_laws.specs.Slots.{has}
use Rattle.life_laws.specs.Journal.{ready_from}
use Rattle.life_laws.specs.Chains.{last_at, last_life, listed}
use Rattle.life_laws.specs.Settled.{slot_flags}
use Rattle.page_plan.specs.declared.PageSpec.{PageSpec}
use Rattle.page_plan.specs.declared.SlotContent.{SlotContent}
use Rattle.page_plan.specs.declared.SlotSpec.{SlotSpec}
use Rattle.page_plan.specs.Contents.{content_of}
use Rattle.page_plan.specs.Pages.{piece_of}
use Rattle.slot_lives.specs.Lives as lives
use Rattle.slot_lives.specs.Lives.{Life, swaps_in}
use Rattle.slot_lives.specs.Ends.{end_of}
use Rattle.widget_host.specs.declared.host.Host.{Host}
use Rattle.widget_host.specs.Given.{AreRetired}
use Rattle.widget_host.specs.Housed.{IsHoused, IsLaid, AreShown, accepts, chains, channels, ends, given, marked, names, scripts, seens, singles}

-- ## What is given

-- the name of a slot
abbrev pub name_of : SlotSpec → List ℕ
name_of s = s.name

-- an item for a page with so many slots
abbrev pub IsFor : ℕ → Said → Type 0
IsFor slots (an_event to kind path value) = to < slots
IsFor slots (an_advance ms) = ms ≤ longest_advance
IsFor slots (a_swap to file) = to < slots

-- what a life with this fuel begins with: its widget and what of the trace goes to it; none where its file was refused
abbrev pub fed_of : List Accepted → ℕ → Life SlotContent → Option Fed
fed_of libs fuel life = option_map (λ (c : Content). record { content = c; grant = fuel; items = life.items; told = 0 }) (content_of libs life.runs)

-- of a page, on which the swaps among the items bring these
module _ (spec : PageSpec) (swaps : List SlotContent) where
  -- what the last lives of slots from a number on begin with, after these items
  abbrev pub begun_from : List Said → ℕ → List SlotSpec → List (Option Fed)
  begun_from items w [] = []
  begun_from items w (s ∷ ss) = fed_of spec.libs.items s.fuel (lives.last_life s.content swaps items w) ∷ begun_from items (w + 1) ss

  -- and those of all slots
  abbrev pub begun_in : List Said → List (Option Fed)
  begun_in items = begun_from items 0 spec.slots.items

  -- what the lives begin with that swaps end, in the order of these swaps: of the items behind others, each is the last life of its slot until then
  abbrev pub ended_from : List Said → List Said → List (Option Fed)
  ended_from before [] = []
  ended_from before (an_event to kind path value ∷ items) = ended_from (before ++ an_event to kind path value ∷ []) items
  ended_from before (an_advance ms ∷ items) = ended_from (before ++ an_advance ms ∷ []) items
  ended_from before (a_swap to file ∷ items) = slice_index_or (begun_in before) to None ∷ ended_from (before ++ a_swap to file ∷ []) items

  -- those of all items
  abbrev pub ended_in : List Said → List (Option Fed)
  ended_in items = ended_from [] items

-- ## What became of it

-- these trees are the scripts of a widget: its libraries in order, and its last script
abbrev pub AreScriptsOf : Content → List Tree → Type 0
AreScriptsOf c ts = map program_of ts ≡ c.libraries ++ c.script ∷ []

-- a life has the scripts of the widget with which it begins, if it has one
abbrev pub HasScriptsOf : Host → ℕ → Option Fed → Type 0
HasScriptsOf h v None = Unit {0}
HasScriptsOf h v (Some f) = AreScriptsOf f.content (scripts h v)

-- lives have the scripts of these, in order
abbrev pub HaveScriptsOf : Host → List ℕ → List (Option Fed) → Type 0
HaveScriptsOf h [] [] = Unit {0}
HaveScriptsOf h (v ∷ vs) (f ∷ fs) = HasScriptsOf h v f × HaveScriptsOf h vs fs
HaveScriptsOf h _ _ = ⊥

-- The host has loaded the page, was given these items, among them swaps that bring this, and has done with them: each slot shows what its last life comes to, which begins with what the trace gives it, and then has the posts of rounds to their end; each life that a swap has ended shows what it comes to by itself, and stands in no slot; no other life is accepted; and each life has the scripts of its widget.
pub record IsPlayed (spec : PageSpec) (swaps : List SlotContent) (items : List Said) (h : Host) : Type 0 where
  pub housed : IsHoused h
  pub unmarked : marked h ≡ false
  pub slots : length (chains h) ≡ length spec.slots.items
  pub laid : IsLaid h (map name_of spec.slots.items) (map piece_of spec.pieces.items)
  pub channels : channels h ≡ spec.channels.items
  pub names : names h ≡ map name_of spec.slots.items
  pub given : given h ≡ length items
  pub swapped : length (ends h) ≡ swaps_in items
  -- no turn is in progress, and every queue is empty; each slot has its last life alone
  pub quiet : ready_from 0 (slot_flags (seens h) (chains h)) ≡ []
  pub alone : map (λ c. last_life c ∷ []) (chains h) ≡ chains h
  pub fed : List (Option Fed)
  pub rounds : RoundsTo spec.channels.items (map name_of spec.slots.items) (begun_in spec swaps items) fed
  pub shown : AreShown h (chains h) (map end_of fed)
  pub ended : AreRetired h (ends h) (map end_of (ended_in spec swaps items))
  pub none_else : (v : ℕ) → listed v (chains h) ≡ false → has v (ends h) ≡ false → accepts h v ≡ false
  pub scripts : (w : ℕ) (f : Option Fed) → slice_get (begun_in spec swaps items) w ≡ Some f → HasScriptsOf h (last_at w (chains h)) f
  pub ended_scripts : HaveScriptsOf h (ends h) (ended_in spec swaps items)
  -- without a swap each slot has its first life
  pub firsts : swaps_in items ≡ 0 → chains h ≡ singles 0 (length spec.slots.items)
