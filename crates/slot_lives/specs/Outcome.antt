-- What a page comes to.
use Rattle.std.specs.Prelude.{◌≡◌, ℕ, ◌+◌, List, [], ◌∷◌, ◌++◌, map, length, Option, Bool}
use Rattle.page_output.specs.Printing.{Prints}
use Rattle.trace_text.specs.Report.{page_line}
use Rattle.trace_reader.specs.Said.{Said}
use Rattle.manifest_reader.specs.Page.{Part}
use Rattle.slot_check.specs.Sources.{Source}
use Rattle.widget_meaning.specs.OwnState.{OwnState}
use Rattle.life_laws.specs.Fed.{Fed, RoundsTo}
use Rattle.page_plan.specs.Pages.{roots, page_of}
use Rattle.page_check.specs.Runs.{SlotRun, pieces, with_file}
use Rattle.slot_lives.specs.Lives.{Life, lives, last_life, ended_lives}
use Rattle.slot_lives.specs.Ends.{run_name, life_name, end_of, AllBegin, AreLines, AreEnded, some_refused}

-- over the files of the swaps of a trace, in their order
module _ (files : List Source) (items : List Said) where
  -- the lives of slots that are numbered from w on: each has its own file first, and then those of its swaps
  abbrev pub all_lives : ℕ → List SlotRun → List (List (Life SlotRun))
  all_lives w [] = []
  all_lives w (run ∷ runs) = lives run (map (with_file run) files) items w ∷ all_lives (w + 1) runs

  -- the last one of each
  abbrev pub last_lives : ℕ → List SlotRun → List (Life SlotRun)
  last_lives w [] = []
  last_lives w (run ∷ runs) = last_life run (map (with_file run) files) items w ∷ last_lives (w + 1) runs

-- what the last lives of all slots come to: they begin, rounds of posts follow to their end, and the own states are those of their widgets by themselves on all that they were given
pub record ComeTo (channels : List (ℕ × ℕ)) (lasts : List (Life SlotRun)) (ends : List (Option OwnState)) : Type 0 where
  pub begun : List (Option Fed)
  pub begin : AllBegin lasts begun
  pub fed : List (Option Fed)
  pub rounds : RoundsTo channels (map life_name lasts) begun fed
  pub ends_are : ends ≡ map end_of fed

-- what a page comes to: the own states of the last lives of its slots, whether some life is refused, and the lines of the last lives and then of the ended ones
pub record Outcome (channels : List (ℕ × ℕ)) (runs : List SlotRun) (files : List Source) (items : List Said) (refused : Bool) (ends : List (Option OwnState)) (lines : List ℕ) : Type 0 where
  pub lasts : ComeTo channels (last_lives files items 0 runs) ends
  pub last_text : List ℕ
  pub last_lines : AreLines (last_lives files items 0 runs) ends last_text
  pub before : List (Option OwnState)
  pub ended_text : List ℕ
  pub ended : AreEnded (ended_lives (all_lives files items 0 runs) (length items)) before ended_text
  pub flag : refused ≡ some_refused (ends ++ before)
  pub text : lines ≡ last_text ++ ended_text

-- the report on a page: the lines of its lives, and the page line
pub record IsReport (parts : List Part) (channels : List (ℕ × ℕ)) (runs : List SlotRun) (files : List Source) (items : List Said) (refused : Bool) (bytes : List ℕ) : Type 0 where
  pub ends : List (Option OwnState)
  pub lines : List ℕ
  pub outcome : Outcome channels runs files items refused ends lines
  pub text : List ℕ
  pub printed : Prints (page_of (pieces parts) (roots (map run_name runs) ends)) [] text
  pub whole : bytes ≡ lines ++ page_line text
