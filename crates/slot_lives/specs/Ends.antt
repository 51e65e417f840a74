-- What lives come to.
use Rattle.std.specs.Prelude.{ℕ, List, [], ◌∷◌, ◌++◌, Option, Some, None, Bool, not, is_some}
use Rattle.std.specs.List.{list_any}
use Rattle.std.specs.Option.{option_map}
use Rattle.code_units.specs.Places.{place_at as place}
use Rattle.trace_text.specs.declared.line.Rule.{Rule}
use Rattle.trace_text.specs.Report.{refused_life}
use Rattle.slot_check.specs.Sources.{Source}
use Rattle.slot_check.specs.Slot.{SlotFirst}
use Rattle.widget_meaning.specs.OwnState.{OwnState}
use Rattle.widget_meaning.specs.Alone.{Content}
use Rattle.life_laws.specs.Fed.{Fed, state}
use Rattle.page_check.specs.Runs.{SlotRun}
use Rattle.page_check.specs.Widgets.{HasWidget}
use Rattle.slot_lives.specs.Lives.{Life}
use Rattle.slot_lives.specs.Lines.{life_line}

-- the name of a slot
abbrev pub run_name : SlotRun → List ℕ
run_name run = run.slot.name

-- the name of the slot of a life
abbrev pub life_name : Life SlotRun → List ℕ
life_name life = run_name life.runs

-- what a life begins with: its widget and what of the trace goes to it; or none, where its file breaks a rule
pub data Begins (life : Life SlotRun) : Option Fed → Type 0 where
  accepted : {content : Content} → HasWidget life.runs.slot content → Begins life (Some (record { content = content; grant = life.runs.fuel; items = life.items; told = 0 }))
  broken : {rule : Rule} {file : Source} {at : ℕ} → SlotFirst life.runs.slot rule file at → Begins life None

-- the line of a life that comes to this own state; or of one that is refused, with the first rule that it breaks
pub data IsLine (life : Life SlotRun) : Option OwnState → List ℕ → Type 0 where
  ran : {own : OwnState} → IsLine life (Some own) (life_line life.runs.slot.name life.until own)
  refused : {rule : Rule} {file : Source} {at : ℕ} → SlotFirst life.runs.slot rule file at → IsLine life None (refused_life life.runs.slot.name life.until file.name rule (place file.bytes at))

-- the own state of a life: that of its widget by itself on what it was given
abbrev pub end_of : Option Fed → Option OwnState
end_of fed = option_map state fed

-- these lives begin so, in order
pub data AllBegin : List (Life SlotRun) → List (Option Fed) → Type 0 where
  no_life : AllBegin [] []
  one_life : {life : Life SlotRun} {fed : Option Fed} {lives : List (Life SlotRun)} {feds : List (Option Fed)} → Begins life fed → AllBegin lives feds → AllBegin (life ∷ lives) (fed ∷ feds)

-- these are the lines of lives that come to this
pub data AreLines : List (Life SlotRun) → List (Option OwnState) → List ℕ → Type 0 where
  no_line : AreLines [] [] []
  one_line : {life : Life SlotRun} {end : Option OwnState} {line : List ℕ} {lives : List (Life SlotRun)} {ends : List (Option OwnState)} {lines : List ℕ} → IsLine life end line → AreLines lives ends lines → AreLines (life ∷ lives) (end ∷ ends) (line ++ lines)

-- an ended life comes to what it begins with, by itself: the posts of rounds are for last lives alone
pub data AreEnded : List (Life SlotRun) → List (Option OwnState) → List ℕ → Type 0 where
  no_end : AreEnded [] [] []
  one_end : {life : Life SlotRun} {fed : Option Fed} {line : List ℕ} {lives : List (Life SlotRun)} {ends : List (Option OwnState)} {lines : List ℕ} → Begins life fed → IsLine life (end_of fed) line → AreEnded lives ends lines → AreEnded (life ∷ lives) (end_of fed ∷ ends) (line ++ lines)

-- whether a life is refused
abbrev pub some_refused : List (Option OwnState) → Bool
some_refused ends = list_any (λ end. not (is_some end)) ends
