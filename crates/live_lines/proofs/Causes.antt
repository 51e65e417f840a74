-- Which answers say that a file was not there.
use Rattle.std.proofs.Common.{◌≡◌, ℕ, List, [], ◌∷◌, ◌++◌, map, get_or, nat_eq, Option, Bool, true, false, sym, ap, ◌∙◌}
use Rattle.std.proofs.lemmas.List.{append_cancel_left}
use Rattle.trace_reader.specs.Said.{Said, an_event, an_advance, a_swap}
use Rattle.manifest_reader.specs.Page.{Part}
use Rattle.slot_check.specs.Sources.{Source}
use Rattle.widget_meaning.specs.OwnState.{OwnState}
use Rattle.page_plan.specs.Pages.{PagePiece}
use Rattle.page_check.specs.Runs.{SlotRun, pieces}
use Rattle.slot_lives.specs.Ends.{end_of}
use Rattle.live_text.specs.declared.answer.Cause.{Cause}
use Rattle.live_text.specs.declared.answer.Cause.TheVariants as cause
use Rattle.live_text.specs.Request.{a_report, an_item}
use Rattle.live_text.specs.Answer.{Shown, answer_text, refused_text, shown}
use Rattle.page_live.specs.declared.session.Session.{Session}
use Rattle.page_live.specs.Page.{AppendsAnswer, Lives, Shows, touched_by}
use Rattle.page_live.proofs.Showing.{live_shows}
use Rattle.live_lines.specs.Transcript.{Stands}

-- ## Texts

abbrev pub is_no_file : Cause → Bool
is_no_file cause.NoFile = true
is_no_file _ = false

apart : false ≡ true → ⊥
apart e = cc

-- the letter at this place of a text
abbrev has_letter : ℕ → ℕ → List ℕ → Bool
has_letter place letter text = nat_eq (get_or text place 0) letter

-- the other causes have another third letter than `NoFile`
differs : (why : Cause) → is_no_file why ≡ false → refused_text why ≡ refused_text cause.NoFile → ⊥
differs cause.NotJson other same = apart (ap (has_letter 14 70) same)
differs cause.BadShape other same = apart (ap (has_letter 14 70) same)
differs cause.TooLong other same = apart (ap (has_letter 14 70) same)
differs cause.NoFile other same = apart (sym other)
differs cause.TooLarge other same = apart (ap (has_letter 14 70) same)

-- an answer to an item begins otherwise than a refusal
item_differs : (number : ℕ) (slots : List Shown) → answer_text number slots ≡ refused_text cause.NoFile → ⊥
item_differs number slots same = apart (ap (has_letter 2 114) same)

pub other_refused : {P : Type 0} (why : Cause) (from to : List ℕ) → is_no_file why ≡ false → to ≡ from ++ refused_text why → to ≡ from ++ refused_text cause.NoFile → P
other_refused why from to other appended same = absurd (differs why other (append_cancel_left from (refused_text why) (refused_text cause.NoFile) (sym appended ∙ same)))

-- a swap that was taken is not refused
pub swap_taken : {P : Type 0} (to_slot : ℕ) (file : List ℕ) (source : Source) (old new : Session) (from to : List ℕ) → Stands old
    → ((parts : List Part) (pairs : List (ℕ × ℕ)) (runs : List SlotRun) (files : List Source) (items : List Said) (name : List ℕ) → Lives parts pairs runs files items old.page → Lives parts pairs runs (files ++ source ∷ []) (items ++ a_swap to_slot name ∷ []) new.page)
    → ((ps : List PagePiece) (owns : List (Option OwnState)) (name : List ℕ) → Shows new.page ps owns → AppendsAnswer new.page.findings owns (touched_by (a_swap to_slot name)) new.page.taken (map shown old.written.items) (map shown new.written.items) from to)
    → to ≡ from ++ refused_text cause.NoFile → P
swap_taken to_slot file source old new from to stands lives answer same =
    let at = stands.state in
    let l = lives stands.parts stands.pairs stands.runs at.files at.items file stands.at.lives in
    let a = answer (pieces stands.parts) (map end_of l.live.fed) file (live_shows stands.parts stands.pairs stands.runs (at.files ++ source ∷ []) (at.items ++ a_swap to_slot file ∷ []) new.page l) in
    absurd (item_differs new.page.taken _ (append_cancel_left from _ (refused_text cause.NoFile) (sym a.appended ∙ same)))

-- ## What is asked

pub event_no_swap : {P : Type 0} (x : Said) (to t : ℕ) (kind path file : List ℕ) (value : Option (List ℕ)) → x ≡ an_event to kind path value → x ≡ a_swap t file → P
event_no_swap x to t kind path file value is swaps = absurd (let e = sym is ∙ swaps in cc)

pub advance_no_swap : {P : Type 0} (x : Said) (ms t : ℕ) (file : List ℕ) → x ≡ an_advance ms → x ≡ a_swap t file → P
advance_no_swap x ms t file is swaps = absurd (let e = sym is ∙ swaps in cc)

pub same_file : (x : Said) (to t : ℕ) (name file : List ℕ) → x ≡ a_swap to name → x ≡ a_swap t file → name ≡ file
same_file x to t name file is swaps = (let e = sym is ∙ swaps in cc)

pub report_no_item : {P : Type 0} (x : Said) → a_report ≡ an_item x → P
report_no_item x same = absurd (let e = same in cc)

pub same_item : (x y : Said) → an_item x ≡ an_item y → x ≡ y
same_item x y same = cc
