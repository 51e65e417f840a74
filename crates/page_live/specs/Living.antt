-- A page that takes its items one after the other: between two of them rounds of posts follow to their end.
use Rattle.std.specs.Prelude.{◌≡◌, ◌<◌, ◌++◌, ℕ, List, [], ◌∷◌, map, length, false, slice_index_or, Option}
use Rattle.trace_reader.specs.Said.{Said, a_swap}
use Rattle.life_laws.specs.Fed.{Fed, RoundsTo}
use Rattle.life_laws.specs.RoundLaws.{fed_at}
use Rattle.life_laws.specs.Slots.{Each, has}
use Rattle.life_laws.specs.Chains.{last_life, listed}
use Rattle.life_laws.specs.Settled.{slot_flags}
use Rattle.life_laws.specs.Journal.{ready_from}
use Rattle.page_plan.specs.declared.PageSpec.{PageSpec}
use Rattle.page_plan.specs.declared.SlotContent.{SlotContent}
use Rattle.page_plan.specs.Contents.{content_of}
use Rattle.page_plan.specs.Pages.{piece_of}
use Rattle.adsafe_rules.specs.Accepts.{tree_of}
use Rattle.slot_lives.specs.Lives.{swaps_in}
use Rattle.slot_lives.specs.Ends.{end_of}
use Rattle.page_play.specs.Host.{Host}
use Rattle.page_play.specs.HostItem.{HostItem}
use Rattle.page_play.specs.Given.{AreRetired, begins, begun, with_item, with_swap}
use Rattle.page_play.specs.Housed.{IsHoused, IsLaid, AreShown, accepts, chains, channels, ends, fuels, given, libraries, marked, names, newborn, seens, singles}
use Rattle.page_play.specs.Rounds.{AreFed}
use Rattle.page_play.specs.Played.{name_of, HaveScriptsOf}
use Rattle.page_play.specs.Playing.{fuel_of}
use Rattle.page_play.specs.Settled.{said_of}

-- ## What lives were given

-- of a page
module _ (spec : PageSpec) where
  -- rounds of posts to their end
  abbrev pub Rounds : List (Option Fed) → List (Option Fed) → Type 0
  Rounds fs gs = RoundsTo spec.channels.items (map name_of spec.slots.items) fs gs

  -- the life that begins where a swap brings this to the slot with a number
  abbrev pub brought_to : ℕ → SlotContent → Option Fed
  brought_to to content = begins (slice_index_or (map fuel_of spec.slots.items) to 0) (content_of spec.libs.items content)

  -- What the last lives of its slots were given when these items were taken, among them swaps that bring these, and what the lives were given that the swaps ended, in order of the swaps. The page is loaded, and each item is given to it; after the load and after each item there are rounds of posts to their end, before the next item is given.
  pub data LivesOn : List Said → List SlotContent → List (Option Fed) → List (Option Fed) → Type 0 where
    loaded : {fs : List (Option Fed)} → Rounds (begun spec.libs.items spec.slots.items) fs → LivesOn [] [] fs []
    takes_item : {items : List Said} {swaps : List SlotContent} {fs es gs : List (Option Fed)} (i : HostItem) → LivesOn items swaps fs es
        → Rounds (with_item i 0 fs) gs → LivesOn (items ++ said_of i ∷ []) swaps gs es
    takes_swap : {items : List Said} {swaps : List SlotContent} {fs es gs : List (Option Fed)} (to : ℕ) (file : List ℕ) (content : SlotContent) → LivesOn items swaps fs es
        → Rounds (with_swap to (brought_to to content) 0 fs) gs → LivesOn (items ++ a_swap to file ∷ []) (swaps ++ content ∷ []) gs (es ++ fed_at fs to ∷ [])

-- ## What its host has done

-- The host has loaded the page and has taken these items, one after the other, among them swaps that bring this; after each it has done with all: each slot shows what its last life comes to by itself on what it was given (`LivesOn`); each life that a swap has ended shows what it came to by itself, and stands in no slot; no other life is accepted; and each life has the scripts of its widget.
pub record IsLive (spec : PageSpec) (swaps : List SlotContent) (items : List Said) (h : Host) : Type 0 where
  pub housed : IsHoused h
  pub unmarked : marked h ≡ false
  pub slots : length (chains h) ≡ length spec.slots.items
  pub laid : IsLaid h (map name_of spec.slots.items) (map piece_of spec.pieces.items)
  pub channels : channels h ≡ spec.channels.items
  pub names : names h ≡ map name_of spec.slots.items
  pub fuels : fuels h ≡ map fuel_of spec.slots.items
  pub libraries : libraries h ≡ map tree_of spec.libs.items
  pub given : given h ≡ length items
  pub swapped : length (ends h) ≡ swaps_in items
  -- no turn is in progress, and every queue is empty; each slot has its last life alone
  pub quiet : ready_from 0 (slot_flags (seens h) (chains h)) ≡ []
  pub alone : map (λ c. last_life c ∷ []) (chains h) ≡ chains h
  pub fed : List (Option Fed)
  pub out : List (Option Fed)
  pub lives : LivesOn spec items swaps fed out
  pub taken : AreFed h fed
  pub shown : AreShown h (chains h) (map end_of fed)
  pub ended : AreRetired h (ends h) (map end_of out)
  pub none_else : (v : ℕ) → listed v (chains h) ≡ false → has v (ends h) ≡ false → accepts h v ≡ false
  pub scripts : HaveScriptsOf h (map last_life (chains h)) fed
  pub ended_scripts : HaveScriptsOf h (ends h) out
  pub born : Each (λ v. v < newborn h) (ends h)
  -- without a swap each slot has its first life
  pub firsts : swaps_in items ≡ 0 → chains h ≡ singles 0 (length spec.slots.items)
