-- What is written of the lives of a host.
use Rattle.std.specs.Prelude.{◌≡◌, ◌++◌, ℕ, List, [], ◌∷◌, Bool, map, length, not, is_some, Option}
use Rattle.std.specs.List.{zip}
use Rattle.plain_tree.specs.Trees.{PlainTrees}
use Rattle.page_output.specs.Printing.{Prints}
use Rattle.trace_text.specs.Report.{page_line}
use Rattle.trace_reader.specs.Said.{Said}
use Rattle.slot_check.specs.Sources.{Source}
use Rattle.widget_meaning.specs.OwnState.{OwnState}
use Rattle.page_plan.specs.declared.PageSpec.{PageSpec}
use Rattle.page_plan.specs.declared.SlotContent.{SlotContent}
use Rattle.page_plan.specs.Pages.{PagePiece, page_of, roots}
use Rattle.page_check.specs.Runs.{SlotRun}
use Rattle.reach_cert.specs.Certs.{cert_text}
use Rattle.widget_host.specs.States.{cert_of_states}
use Rattle.slot_lives.specs.Ends.{AllBegin, run_name}
use Rattle.slot_lives.specs.Lives.{ended_lives}
use Rattle.slot_lives.specs.Outcome.{Outcome, all_lives, last_lives}
use Rattle.widget_host.specs.declared.host.Host.{Host}
use Rattle.widget_host.specs.Given.{AreRetired}
use Rattle.widget_host.specs.Housed.{IsHoused, AreShown, chains, ends}
use Rattle.page_play.specs.declared.findings.Findings.{Findings}
use Rattle.page_play.specs.Findings.{Told, AreEven, AreFindings, lasts_told, ended_told, lines_of}
use Rattle.page_play.specs.Played.{IsPlayed, begun_in, ended_in}

-- a life has an own state exactly where nothing was found of its file
abbrev pub AreMatched : List Told → List (Option OwnState) → Type 0
AreMatched [] [] = Unit {0}
AreMatched (t ∷ ts) (own ∷ owns) = (is_some t.found ≡ not (is_some own)) × AreMatched ts owns
AreMatched _ _ = ⊥

-- the last lives of slots of a host show these own states, and the lives that swaps ended those, as it was found
pub record AreTold (f : Findings) (h : Host) (owns before : List (Option OwnState)) : Type 0 where
  pub even : AreEven f
  pub housed : IsHoused h
  pub slots : length (chains h) ≡ length f.names.items
  pub swaps : length (ends h) ≡ length f.swaps.slots.items
  pub shown : AreShown h (chains h) owns
  pub ended : AreRetired h (ends h) before
  pub lasts : AreMatched (lasts_told f) owns
  pub others : AreMatched (ended_told f) before

-- a host has played a page of which this was found
pub record IsFound (f : Findings) (h : Host) : Type 0 where
  pub spec : PageSpec
  pub swaps : List SlotContent
  pub items : List Said
  pub runs : List SlotRun
  pub files : List Source
  pub played : IsPlayed spec swaps items h
  pub findings : AreFindings spec swaps items runs files f

-- the page line of trees was appended
pub record AppendsPage (trees : PlainTrees) (old new : List ℕ) : Type 0 where
  pub text : List ℕ
  pub printed : Prints trees [] text
  pub appended : new ≡ old ++ page_line text

-- the report on a page of these pieces: the lines of its last lives, those of its ended ones, and the page line
pub record Reports (f : Findings) (names : List (List ℕ)) (pieces : List PagePiece) (owns before : List (Option OwnState)) (bytes : List ℕ) : Type 0 where
  pub text : List ℕ
  pub printed : Prints (page_of pieces (roots names owns)) [] text
  pub whole : bytes ≡ (lines_of (lasts_told f) owns ++ lines_of (ended_told f) before) ++ page_line text

-- the lives of a page that was played begin with what was judged of their files
pub record AreBegun (spec : PageSpec) (swaps : List SlotContent) (items : List Said) (runs : List SlotRun) (files : List Source) : Type 0 where
  pub lasts : AllBegin (last_lives files items 0 runs) (begun_in spec swaps items)
  pub ended : AllBegin (ended_lives (all_lives files items 0 runs) (length items)) (ended_in spec swaps items)

-- the certificate of reach of a page: of each slot by what its last life comes to
pub record IsAudit (channels : List (ℕ × ℕ)) (runs : List SlotRun) (files : List Source) (items : List Said) (refused : Bool) (bytes : List ℕ) : Type 0 where
  pub ends : List (Option OwnState)
  pub lines : List ℕ
  pub outcome : Outcome channels runs files items refused ends lines
  pub whole : bytes ≡ cert_text (cert_of_states (zip (map run_name runs) ends))
