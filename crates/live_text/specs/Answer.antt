-- What is answered, as UTF-8 bytes. Each answer is a JSON object without blanks, and a line feed.
use Rattle.std.specs.Prelude.{ℕ, List, [], ◌∷◌, ◌++◌, ◌-◌, codes, decimal, length, take}
use Rattle.std.specs.List.{flat_map}
use Rattle.trace_text.specs.Report.{concat, escaped, line_text}
use Rattle.trace_text.specs.declared.line.Line.{Line}
use Rattle.live_text.specs.declared.entry.Entry.{Entry}
use Rattle.live_text.specs.declared.answer.Cause.{Cause}
use Rattle.live_text.specs.declared.answer.Cause.TheVariants.{NotJson, BadShape, TooLong, NoFile, TooLarge}

-- a line of a report without its line feed
abbrev pub object_of : Line → List ℕ
object_of line = take (length (line_text line) - 1) (line_text line)

-- UTF-8 bytes, escaped, in quotes
abbrev pub quoted : List ℕ → List ℕ
quoted text = codes "\"" ++ (escaped text ++ codes "\"")

-- what is written for a slot: its line, and the quoted text of what stands in it
pub record Shown : Type 0 where
  pub line : List ℕ
  pub root : List ℕ

abbrev pub shown : Entry → Shown
shown entry = record { line = entry.line.items; root = entry.root.items }

-- a slot: {"line":{..},"root":".."}
abbrev pub entry_text : Shown → List ℕ
entry_text s = concat (codes "{\"line\":" ∷ s.line ∷ codes ",\"root\":" ∷ s.root ∷ codes "}" ∷ [])

-- a slot as it stands before the first item
abbrev pub slot_text : Shown → List ℕ
slot_text s = entry_text s ++ codes "\n"

-- a slot of a list after its first
abbrev pub next_entry : Shown → List ℕ
next_entry s = codes "," ++ entry_text s

-- slots, with commas between
abbrev pub entries_text : List Shown → List ℕ
entries_text [] = []
entries_text (first ∷ rest) = entry_text first ++ flat_map next_entry rest

-- the answer to an item: {"item":1,"slots":[..]}
abbrev pub answer_text : ℕ → List Shown → List ℕ
answer_text number slots = concat (codes "{\"item\":" ∷ decimal number ∷ codes ",\"slots\":[" ∷ entries_text slots ∷ codes "]}\n" ∷ [])

-- why a line is refused, by name
abbrev pub cause_name : Cause → List ℕ
cause_name NotJson = codes "NotJson"
cause_name BadShape = codes "BadShape"
cause_name TooLong = codes "TooLong"
cause_name NoFile = codes "NoFile"
cause_name TooLarge = codes "TooLarge"

-- the answer to a line that is refused: {"refused":"NotJson"}
abbrev pub refusal : List ℕ → List ℕ
refusal name = concat (codes "{\"refused\":\"" ∷ name ∷ codes "\"}\n" ∷ [])

abbrev pub refused_text : Cause → List ℕ
refused_text cause = refusal (cause_name cause)

-- the end, when the page took as many items as it may: {"full":4096}
abbrev pub full_text : List ℕ
full_text = codes "{\"full\":4096}\n"
