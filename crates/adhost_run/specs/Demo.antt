-- The page and the items of `demo`, and what comes of them.
use Rattle.std.specs.Prelude.{◌≡◌, ℕ, zero, suc, ◌+◌, ◌*◌, ◌/◌, ◌%◌, ◌^◌, List, [], ◌∷◌, ◌++◌, map, length, codes, nat_eq, if◌then◌else◌, Option, Some, None, false}
use Rattle.std.specs.List.{flat_map}
use Rattle.trace_reader.specs.Said.{Said, an_event, an_advance}
use Rattle.manifest_reader.specs.Page.{Part, Widget, usual_fuel}
use Rattle.slot_check.specs.Sources.{Source}
use Rattle.page_check.specs.Runs.{SlotRun}
use Rattle.widget_meaning.specs.OwnState.{OwnState}
use Rattle.page_play.specs.Host.{Host}
use Rattle.page_play.specs.Housed.{IsHoused, AreShown, chains}
use Rattle.run_steps.specs.declared.ending.Status.{Status}
use Rattle.run_steps.specs.declared.ending.Status.TheVariants as status
use Rattle.slot_lives.specs.Lines.{short_line}
use Rattle.slot_lives.specs.Ends.{some_refused}
use Rattle.slot_lives.specs.Outcome.{ComeTo, last_lives}

-- the names of its 16 slots
abbrev pub demo_names : List (List ℕ)
demo_names =
    codes "WA_" ∷ codes "WB_" ∷ codes "WC_" ∷ codes "WD_" ∷ codes "WE_" ∷ codes "WF_" ∷ codes "WG_" ∷ codes "WH_"
    ∷ codes "WI_" ∷ codes "WJ_" ∷ codes "WK_" ∷ codes "WL_" ∷ codes "WM_" ∷ codes "WN_" ∷ codes "WO_" ∷ codes "WP_" ∷ []

-- the pieces of the text of a counter behind each of which its slot's name stands, and the last one
abbrev pub counter_pieces : List (List ℕ)
counter_pieces =
    codes "<div id=\""
    ∷ codes "\">\n<p id=\""
    ∷ codes "out\">0</p>\n<button id=\""
    ∷ codes "add\" type=\"button\">Add</button>\n<script>\nADSAFE.go(\""
    ∷ codes "\", function (dom, lib) {\n    \"use strict\";\n    var n = 0, out = dom.q(\"#"
    ∷ codes "out\");\n    dom.q(\"#"
    ∷ []

abbrev pub counter_end : List ℕ
counter_end = codes "add\").on(\"click\", function (e) {\n        n += 1;\n        out.value(n).style(\"color\", \"red\");\n        ADSAFE.log(\"clicks \" + n);\n    });\n});\n</script>\n</div>"

-- the file of a slot of this name: it counts the clicks on its button
abbrev pub counter_text : List ℕ → List ℕ
counter_text name = flat_map (λ piece. piece ++ name) counter_pieces ++ counter_end

abbrev pub counter_of : List ℕ → Source
counter_of name = record { name = []; bytes = counter_text name }

-- a slot of this name with its file, and the fuel of a slot to which none is given
abbrev pub demo_run : List ℕ → SlotRun
demo_run name = record { slot = record { name = name; file = counter_of name; libs = [] }; fuel = usual_fuel }

abbrev pub demo_runs : List SlotRun
demo_runs = map demo_run demo_names

-- its parts: the slots alone, without a file's name
abbrev pub demo_part : List ℕ → Part
demo_part name = Widget name [] usual_fuel

abbrev pub demo_parts : List Part
demo_parts = map demo_part demo_names

-- the number behind a number
abbrev pub next_number : ℕ → ℕ
next_number x = (x * 1103515245 + 12345) % 2 ^ 31

-- the i-th item, with its number: each seventh is an advance by 20 milliseconds, each other one a click on the button of a slot
abbrev pub demo_item : ℕ → ℕ → Said
demo_item x i = if nat_eq (i % 7) 0 then an_advance 20 else an_event ((x / 65536) % 16) (codes "click") (3 ∷ []) None

-- k items from the i-th on, behind the number x
abbrev pub demo_from : ℕ → ℕ → ℕ → List Said
demo_from x i zero = []
demo_from x i (suc k) = demo_item (next_number x) i ∷ demo_from (next_number x) (i + 1) k

-- the items of `demo` with a number
abbrev pub demo_items : ℕ → List Said
demo_items count = demo_from count 1 count

-- of slots with these own states
abbrev pub short_lines : List (List ℕ) → List (Option OwnState) → List ℕ
short_lines (name ∷ names) (Some own ∷ owns) = short_line name own ++ short_lines names owns
short_lines (name ∷ names) (None ∷ owns) = short_lines names owns
short_lines _ _ = []

-- what is answered to `demo`: the short lines of its slots, each by its widget by itself
pub data DemoAnswer (count : ℕ) : Status → List ℕ → Type 0 where
  short_report : {ends : List (Option OwnState)} → ComeTo [] (last_lives [] (demo_items count) 0 demo_runs) ends → some_refused ends ≡ false → DemoAnswer count status.Ok (short_lines demo_names ends)

-- the last lives of slots of these names show these own states, and none of them is refused
pub record AreAccepted (names : List (List ℕ)) (h : Host) (owns : List (Option OwnState)) : Type 0 where
  pub housed : IsHoused h
  pub slots : length (chains h) ≡ length names
  pub shown : AreShown h (chains h) owns
  pub even : length names ≡ length owns
  pub accepted : some_refused owns ≡ false
