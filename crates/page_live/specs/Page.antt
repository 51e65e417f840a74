-- A page that lives, and what is written of it.
use Rattle.std.specs.Prelude.{◌≡◌, ◌≢◌, ◌≤◌, ◌++◌, ℕ, List, [], ◌∷◌, All, map, length, take, drop, codes, Bool, true, false, slice_get, slice_index_or, nat_eq, Option, Some, None}
use Rattle.std.specs.List.{flat_map}
use Rattle.trace_reader.specs.Said.{Said, an_event, an_advance, a_swap}
use Rattle.trace_text.specs.Report.{page_line}
use Rattle.manifest_reader.specs.declared.entry.Manifest.{Manifest}
use Rattle.manifest_reader.specs.Page.{Part, part_of}
use Rattle.slot_check.specs.Sources.{Source}
use Rattle.slot_check.specs.Verdicts.{sources_of, IsSmall}
use Rattle.page_output.specs.Printing.{Prints}
use Rattle.widget_meaning.specs.OwnState.{OwnState}
use Rattle.life_laws.specs.Fed.{Fed}
use Rattle.page_plan.specs.declared.PageSpec.{PageSpec}
use Rattle.page_plan.specs.declared.SlotContent.{SlotContent}
use Rattle.page_plan.specs.Pages.{PagePiece, page_of, piece_of, root_of, roots}
use Rattle.page_check.specs.Runs.{SlotRun, pieces, runs_over, slots_named}
use Rattle.page_check.specs.Judged.{JudgesOver}
use Rattle.slot_lives.specs.Ends.{end_of}
use Rattle.page_play.specs.Housed.{IsLaid}
use Rattle.page_play.specs.declared.findings.Findings.{Findings}
use Rattle.page_play.specs.Findings.{Told, AreFindings, ended_told, found_after, lasts_told, line_of, lines_of}
use Rattle.page_play.specs.Told.{AreTold}
use Rattle.live_text.specs.Answer.{Shown, answer_text, quoted, slot_text}
use Rattle.page_live.specs.declared.page.LivePage.{LivePage}
use Rattle.page_live.specs.Living.{LivesOn, IsLive}

-- ## The page of a manifest

-- its entries as plain data, and the names of its slots
abbrev pub parts_in : Manifest → List Part
parts_in manifest = map part_of manifest.entries.items

abbrev pub names_in : Manifest → List (List ℕ)
names_in manifest = map (λ (n : List ℕ × ℕ). n.0) (slots_named (parts_in manifest))

-- its slots with their fuel and their files, which come first, and the libraries behind them
abbrev pub runs_with : List (List ℕ × ℕ) → List Source → List SlotRun
runs_with names sources = runs_over (drop (length names) sources) names (take (length names) sources)

abbrev pub runs_of : Manifest → List Source → List SlotRun
runs_of manifest sources = runs_with (slots_named (parts_in manifest)) sources

-- ## A page that lives

-- the libraries stand behind the files of the slots
abbrev pub libs_of : LivePage → List Source
libs_of p = sources_of (drop (length p.findings.names.items) p.sources.items)

-- the page of these parts, channels and slots was loaded and has taken these items, whose swaps have these files; and files of swaps to come can be judged over its libraries
pub record Lives (parts : List Part) (pairs : List (ℕ × ℕ)) (runs : List SlotRun) (files : List Source) (items : List Said) (p : LivePage) : Type 0 where
  pub spec : PageSpec
  pub swaps : List SlotContent
  pub laid : map piece_of spec.pieces.items ≡ pieces parts
  pub channels : spec.channels.items ≡ pairs
  pub live : IsLive spec swaps items p.host
  pub found : AreFindings spec swaps items runs files p.findings
  pub taken : p.taken ≡ length items
  pub some : 1 ≤ p.slice
  pub over : JudgesOver (libs_of p) spec.libs.items p.later
  pub libs : (w : ℕ) (run : SlotRun) → slice_get runs w ≡ Some run → run.slot.libs ≡ libs_of p
  pub enough : length p.findings.names.items ≤ length p.sources.items
  pub small : All IsSmall p.sources.items

-- so some page was
pub record IsAlive (p : LivePage) : Type 0 where
  pub parts : List Part
  pub pairs : List (ℕ × ℕ)
  pub runs : List SlotRun
  pub files : List Source
  pub items : List Said
  pub is : Lives parts pairs runs files items p

-- ## What it comes to

-- what a page comes to that has taken these items one after the other: what was found of its files, the own states of the last lives of its slots, and those of the lives that swaps ended
pub record ComesTo (parts : List Part) (pairs : List (ℕ × ℕ)) (runs : List SlotRun) (files : List Source) (items : List Said) (f : Findings) (owns before : List (Option OwnState)) : Type 0 where
  pub spec : PageSpec
  pub swaps : List SlotContent
  pub laid : map piece_of spec.pieces.items ≡ pieces parts
  pub channels : spec.channels.items ≡ pairs
  pub found : AreFindings spec swaps items runs files f
  pub fed : List (Option Fed)
  pub out : List (Option Fed)
  pub lives : LivesOn spec items swaps fed out
  pub owns_are : owns ≡ map end_of fed
  pub before_are : before ≡ map end_of out

-- the report on it: the lines of the last lives, those of the ended ones, and the page line
pub record IsLiveReport (parts : List Part) (pairs : List (ℕ × ℕ)) (runs : List SlotRun) (files : List Source) (items : List Said) (bytes : List ℕ) : Type 0 where
  pub f : Findings
  pub owns : List (Option OwnState)
  pub before : List (Option OwnState)
  pub comes : ComesTo parts pairs runs files items f owns before
  pub text : List ℕ
  pub printed : Prints (page_of (pieces parts) (roots f.names.items owns)) [] text
  pub whole : bytes ≡ (lines_of (lasts_told f) owns ++ lines_of (ended_told f) before) ++ page_line text

-- ## Entries

-- the last lives of its slots show these own states, and its page is laid out by these pieces
pub record Shows (p : LivePage) (pieces : List PagePiece) (owns : List (Option OwnState)) : Type 0 where
  pub before : List (Option OwnState)
  pub told : AreTold p.findings p.host owns before
  pub laid : IsLaid p.host p.findings.names.items pieces

pub record IsShowing (p : LivePage) : Type 0 where
  pub pieces : List PagePiece
  pub owns : List (Option OwnState)
  pub shows : Shows p pieces owns

-- what is told of the last life of a slot
abbrev pub told_at : Findings → ℕ → Told
told_at f w = record { name = slice_index_or f.names.items w []; until = None; found = found_after f w (length f.swaps.slots.items) }

-- the line of a life that comes to this, without its line feed
abbrev pub IsEntryLine : Told → Option OwnState → List ℕ → Type 0
IsEntryLine t own line = line ++ codes "\n" ≡ line_of t.name t.until t.found own

-- the text of what stands in its slot, in quotes
pub record IsEntryRoot (t : Told) (own : Option OwnState) (root : List ℕ) : Type 0 where
  pub text : List ℕ
  pub printed : Prints (root_of t.name own) [] text
  pub is : root ≡ quoted text

-- what is to be written for a slot
pub record IsEntry (t : Told) (own : Option OwnState) (s : Shown) : Type 0 where
  pub line : IsEntryLine t own s.line
  pub root : IsEntryRoot t own s.root

-- and for each slot, in order
pub record AreEntries (f : Findings) (owns : List (Option OwnState)) (ss : List Shown) : Type 0 where
  pub many : length ss ≡ length f.names.items
  pub each : (w : ℕ) (own : Option OwnState) (s : Shown) → slice_get owns w ≡ Some own → slice_get ss w ≡ Some s → IsEntry (told_at f w) own s

-- ## Answers

-- What was written for a slot, what is written for it from now on, and whether that is written anew: where it is another. Whether another text stands in a slot, whose line is the same, is asked where something was given to this slot alone.
pub data IsRenewed (t : Told) (own : Option OwnState) : Bool → Shown → Shown → Bool → Type 0 where
  anew : {looks : Bool} {old new : Shown} → IsEntry t own new → new ≢ old → IsRenewed t own looks old new true
  same : {looks : Bool} {old : Shown} → IsEntry t own old → IsRenewed t own looks old old false
  same_line : {old : Shown} → IsEntryLine t own old.line → IsRenewed t own false old old false

-- the slot to which an item gives something and to no other: that of an event, or of a swap
abbrev pub touched_by : Said → Option ℕ
touched_by (an_event to kind path value) = Some to
touched_by (an_advance ms) = None
touched_by (a_swap to file) = Some to

abbrev pub is_at : Option ℕ → ℕ → Bool
is_at None w = false
is_at (Some v) w = nat_eq v w

-- so it is with each slot, in order
pub record AreRenewed (f : Findings) (owns : List (Option OwnState)) (touched : Option ℕ) (old new : List Shown) (flags : List Bool) : Type 0 where
  pub many : length new ≡ length old
  pub flagged : length flags ≡ length old
  pub each : (w : ℕ) (own : Option OwnState) (o n : Shown) (b : Bool) → slice_get owns w ≡ Some own → slice_get old w ≡ Some o → slice_get new w ≡ Some n → slice_get flags w ≡ Some b
      → IsRenewed (told_at f w) own (is_at touched w) o n b

-- the elements with a flag
abbrev pub picked : {A : Type 0} → List Bool → List A → List A
picked (true ∷ bs) (x ∷ xs) = x ∷ picked bs xs
picked (false ∷ bs) (x ∷ xs) = picked bs xs
picked _ _ = []

-- the answer to an item that has a number was appended
pub record AppendsAnswer (f : Findings) (owns : List (Option OwnState)) (touched : Option ℕ) (number : ℕ) (old new : List Shown) (from to : List ℕ) : Type 0 where
  pub flags : List Bool
  pub renewed : AreRenewed f owns touched old new flags
  pub appended : to ≡ from ++ answer_text number (picked flags new)

-- ## What it begins with

-- a line for each slot
abbrev pub slots_text : List Shown → List ℕ
slots_text ss = flat_map slot_text ss

-- the lines of slots, and the page line of trees
pub record AppendsFirst (f : Findings) (owns : List (Option OwnState)) (pieces : List PagePiece) (ss : List Shown) (from to : List ℕ) : Type 0 where
  pub entries : AreEntries f owns ss
  pub text : List ℕ
  pub printed : Prints (page_of pieces (roots f.names.items owns)) [] text
  pub appended : to ≡ from ++ (slots_text ss ++ page_line text)
