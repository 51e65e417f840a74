-- Laws of what lives come to.
use Rattle.std.specs.Prelude.{◌≡◌, ℕ, ◌<◌, List, [], ◌∷◌, ◌++◌, length, slice_get, slice_index_or, Option, Some, None, is_some, true, false}
use Rattle.trace_text.specs.declared.line.Rule.{Rule}
use Rattle.trace_reader.specs.Said.{Said}
use Rattle.slot_check.specs.Sources.{Source}
use Rattle.slot_check.specs.Slot.{SlotFirst}
use Rattle.widget_meaning.specs.OwnState.{OwnState}
use Rattle.widget_meaning.specs.Items.{Item}
use Rattle.widget_meaning.specs.Alone.{Content, alone}
use Rattle.life_laws.specs.Fed.{Fed}
use Rattle.page_check.specs.Runs.{SlotRun}
use Rattle.page_check.specs.Widgets.{HasWidget}
use Rattle.slot_lives.specs.Lives.{Life, is_swap, swaps_in}
use Rattle.slot_lives.specs.LifeLaws.{swaps}
use Rattle.slot_lives.specs.Ends.{AreEnded}
use Rattle.slot_lives.specs.Outcome.{last_lives, ComeTo}

-- what a slot comes to on what it is given: the own state of its widget by itself; or none, where it breaks a rule
pub data IsEnd (run : SlotRun) (items : List Item) : Option OwnState → Type 0 where
  by_itself : {content : Content} → HasWidget run.slot content → IsEnd run items (Some (alone content run.fuel items))
  not_accepted : {rule : Rule} {file : Source} {at : ℕ} → SlotFirst run.slot rule file at → IsEnd run items None

-- of the slot with a number: its own state, and what it was given by the end of all rounds
abbrev pub end_at : List (Option OwnState) → ℕ → Option OwnState
end_at ends w = slice_index_or ends w None

abbrev pub items_of : Option Fed → List Item
items_of None = []
items_of (Some f) = f.items

abbrev pub given_at : List (Option Fed) → ℕ → List Item
given_at feds w = items_of (slice_index_or feds w None)

-- the last life of a slot comes to what its widget comes to by itself on the items of the trace, and then on what rounds give it, which without channels is nothing
pub record EndsOn (channels : List (ℕ × ℕ)) (fed : List (Option Fed)) (w : ℕ) (life : Life SlotRun) (end : Option OwnState) : Type 0 where
  pub more : List Item
  pub given : is_some end ≡ true → given_at fed w ≡ life.items ++ more
  pub no_channels : channels ≡ [] → more ≡ []
  pub is : IsEnd life.runs (life.items ++ more) end

-- so it is for each last life, and an ended one comes to what its widget comes to on the items of the trace alone
pub record EndLaws (channels : List (ℕ × ℕ)) (lives : List (Life SlotRun)) (ends : List (Option OwnState)) : Type 0 where
  pub last : (come : ComeTo channels lives ends) (w : ℕ) (life : Life SlotRun) → slice_get lives w ≡ Some life → EndsOn channels come.fed w life (end_at ends w)
  pub ended : (lines : List ℕ) → AreEnded lives ends lines → (n : ℕ) (life : Life SlotRun) → slice_get lives n ≡ Some life → IsEnd life.runs life.items (end_at ends n)

-- "The other slots of a swap": without channels, where a swap is left out of a trace and its file out of the files, every other slot has the same last life, and it comes to the same
abbrev pub OtherEnds : Type 0
OtherEnds = (runs : List SlotRun) (before after : List Source) (file : Source) (front back : List Said) (i : Said) (ends others : List (Option OwnState))
    → is_swap i ≡ true → length before ≡ swaps_in front
    → ComeTo [] (last_lives (before ++ file ∷ after) (front ++ i ∷ back) 0 runs) ends → ComeTo [] (last_lives (before ++ after) (front ++ back) 0 runs) others
    → (w : ℕ) → w < length runs → swaps w i ≡ false
    → (slice_get (last_lives (before ++ file ∷ after) (front ++ i ∷ back) 0 runs) w ≡ slice_get (last_lives (before ++ after) (front ++ back) 0 runs) w) × (end_at ends w ≡ end_at others w)
