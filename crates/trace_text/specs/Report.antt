-- The lines of a report, as UTF-8 bytes.
use Rattle.std.specs.Prelude.{◌≡◌, ℕ, false, ◌/◌, ◌%◌, List, [], ◌∷◌, ◌++◌, codes, decimal, nat_eq, nat_lt, ◌||◌, if◌then◌else◌, string_bytes, Option, Some, None}
use Rattle.std.specs.List.{flat_map}
use Rattle.std.specs.Fmt.{digit_glyph}
use Rattle.code_units.specs.declared.place.Place.{Place}
use Rattle.code_units.specs.Utf8.{utf8_of}
use Rattle.trace_text.specs.declared.line.Line.{Line}
use Rattle.trace_text.specs.declared.line.Line.TheVariants.{Ran, Short, Refused, Accepted, LibAccepted, LibRefused, Page}
use Rattle.trace_text.specs.declared.line.Rule.{Rule}
use Rattle.trace_text.specs.declared.line.Rule.TheVariants.{A, M}
use Rattle.trace_text.specs.declared.line.RunText.{RunText}
use Rattle.trace_text.specs.declared.line.State.{State}
use Rattle.trace_text.specs.declared.line.State.TheVariants.{Live, Fuel, Number, Depth, Cells, Slots, Units, LongText, Nodes}

-- how a byte of a text stands between quotes
abbrev pub escape : ℕ → List ℕ
escape b =
    if nat_eq b 34 || nat_eq b 92 then codes "\\" ++ b ∷ []
    else if nat_eq b 8 then codes "\\b"
    else if nat_eq b 9 then codes "\\t"
    else if nat_eq b 10 then codes "\\n"
    else if nat_eq b 12 then codes "\\f"
    else if nat_eq b 13 then codes "\\r"
    else if nat_lt b 32 then codes "\\u00" ++ digit_glyph false (b / 16) ∷ digit_glyph false (b % 16) ∷ []
    else b ∷ []

-- a text between quotes, without them
abbrev pub escaped : List ℕ → List ℕ
escaped text = flat_map escape text

-- what stands before the number of a rule: its letter, and a zero before a single digit
abbrev pub rule_mark : Rule → List ℕ
rule_mark (M n) = if nat_lt n 10 then codes "M0" else codes "M"
rule_mark (A n) = if nat_lt n 10 then codes "A0" else codes "A"

-- the number of a rule
abbrev pub rule_number : Rule → ℕ
rule_number (M n) = n
rule_number (A n) = n

-- the name of a state
abbrev pub state_name : State → List ℕ
state_name Live = codes "live"
state_name Fuel = codes "fuel"
state_name Number = codes "number"
state_name Depth = codes "depth"
state_name Cells = codes "cells"
state_name Slots = codes "slots"
state_name Units = codes "units"
state_name LongText = codes "longtext"
state_name Nodes = codes "nodes"

-- a text of units between quotes, without them: UTF-8, U+FFFD for each lone surrogate
abbrev pub text_inside : List ℕ → List ℕ
text_inside units = escaped (utf8_of units)

-- a text of units and its quotes
abbrev pub quoted : List ℕ → List ℕ
quoted units = codes "\"" ++ (text_inside units ++ codes "\"")

-- a text of a list after its first
abbrev pub next_quoted : List ℕ → List ℕ
next_quoted units = codes "," ++ quoted units

-- the texts of a list, with commas between
abbrev pub quoted_list : List (List ℕ) → List ℕ
quoted_list [] = []
quoted_list (first ∷ rest) = quoted first ++ flat_map next_quoted rest

-- the position of the swap that ended a life, where one did
abbrev pub until_member : Option ℕ → List ℕ
until_member None = []
until_member (Some n) = codes ",\"until\":" ++ decimal n

-- the parts of a line, one after the other
abbrev pub concat : List (List ℕ) → List ℕ
concat parts = flat_map (λ part. part) parts

-- Each line is a JSON object without blanks, and a line feed.
-- A library breaks no rule: {"file":"..","accepted":true}
abbrev pub lib_accepted : List ℕ → List ℕ
lib_accepted file = concat (codes "{\"file\":\"" ∷ escaped file ∷ codes "\",\"accepted\":true}\n" ∷ [])

-- a library breaks a rule first: {"file":"..","refused":"A04","at":[2,31]}, with line and column
abbrev pub lib_refused : List ℕ → Rule → Place → List ℕ
lib_refused file rule at =
    concat (codes "{\"file\":\"" ∷ escaped file
    ∷ codes "\",\"refused\":\"" ∷ rule_mark rule ∷ decimal (rule_number rule)
    ∷ codes "\",\"at\":[" ∷ decimal at.line ∷ codes "," ∷ decimal at.column ∷ codes "]}\n" ∷ [])

-- a slot breaks no rule: {"widget":"..","file":"..","accepted":true}
abbrev pub accepted_slot : List ℕ → List ℕ → List ℕ
accepted_slot name file =
    concat (codes "{\"widget\":\"" ∷ text_inside name ∷ codes "\",\"file\":\"" ∷ escaped file ∷ codes "\",\"accepted\":true}\n" ∷ [])

-- a life whose files break a rule: {"widget":"..","file":"..","refused":"M03","at":[1,7]}, with `until` before the file where a swap ended it
abbrev pub refused_life : List ℕ → Option ℕ → List ℕ → Rule → Place → List ℕ
refused_life name until file rule at =
    concat (codes "{\"widget\":\"" ∷ text_inside name ∷ codes "\"" ∷ until_member until
    ∷ codes ",\"file\":\"" ∷ escaped file
    ∷ codes "\",\"refused\":\"" ∷ rule_mark rule ∷ decimal (rule_number rule)
    ∷ codes "\",\"at\":[" ∷ decimal at.line ∷ codes "," ∷ decimal at.column ∷ codes "]}\n" ∷ [])

-- what a life did, up to the events that it no longer took: {"widget":"..","state":"live","turns":..,"spent":..,"missed":..,"gone":..
unfoldable pub run_members : RunText → List ℕ
run_members run =
    concat (codes "{\"widget\":\"" ∷ text_inside run.name ∷ codes "\"" ∷ until_member run.until
    ∷ codes ",\"state\":\"" ∷ state_name run.state ∷ codes "\",\"turns\":" ∷ decimal run.turns
    ∷ codes ",\"spent\":" ∷ decimal run.spent ∷ codes ",\"missed\":" ∷ decimal run.missed
    ∷ codes ",\"gone\":" ∷ decimal run.gone ∷ [])

-- its log and its uncaught notes: ,"log":[..],"uncaught":[..]
unfoldable pub run_notes : List (List ℕ) → List (List ℕ) → List ℕ
run_notes log uncaught =
    concat (codes ",\"log\":[" ∷ quoted_list log ∷ codes "],\"uncaught\":[" ∷ quoted_list uncaught ∷ codes "]" ∷ [])

-- the end of a line
abbrev pub line_end : List ℕ
line_end = codes "}\n"

-- a life without its notes
abbrev pub short_life : RunText → List ℕ
short_life run = run_members run ++ line_end

-- a life with its notes
abbrev pub ran_life : RunText → List ℕ
ran_life run = run_members run ++ (run_notes run.log.items run.uncaught.items ++ line_end)

-- the text of a page, which stands as UTF-8: {"page":".."}
abbrev pub page_line : List ℕ → List ℕ
page_line text = concat (codes "{\"page\":\"" ∷ escaped text ∷ codes "\"}\n" ∷ [])

-- a line of a report
abbrev pub line_text : Line → List ℕ
line_text (Ran run) = ran_life run
line_text (Short run) = short_life run
line_text (Refused name until file rule at) = refused_life name until (string_bytes file) rule at
line_text (Accepted name file) = accepted_slot name (string_bytes file)
line_text (LibAccepted file) = lib_accepted (string_bytes file)
line_text (LibRefused file rule at) = lib_refused (string_bytes file) rule at
line_text (Page text) = page_line text.items

-- a part of a text was appended, and its rest is missing
pub record AppendsPart (old new text : List ℕ) : Type 0 where
  pub part : List ℕ
  pub rest : List ℕ
  pub whole : text ≡ part ++ rest
  pub appended : new ≡ old ++ part
