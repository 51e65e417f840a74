-- The line of a life that ran.
use Rattle.std.specs.Prelude.{ℕ, List, [], ◌∷◌, ◌++◌, codes, decimal, Option, Some, None}
use Rattle.trace_text.specs.Report.{concat, text_inside, until_member, run_notes, line_end}
use Rattle.widget_meaning.specs.Values.{Stop, Fuel, PastLimit, StopCause, Number, Depth, Cells, Slots, Units, LongText, Nodes}
use Rattle.widget_meaning.specs.OwnState.{OwnState}

-- the means that ran out
abbrev pub cause_word : StopCause → List ℕ
cause_word Number = codes "number"
cause_word Depth = codes "depth"
cause_word Cells = codes "cells"
cause_word Slots = codes "slots"
cause_word Units = codes "units"
cause_word LongText = codes "longtext"
cause_word Nodes = codes "nodes"

-- how a widget stands at its end
abbrev pub state_word : Option Stop → List ℕ
state_word None = codes "live"
state_word (Some Fuel) = codes "fuel"
state_word (Some (PastLimit cause)) = cause_word cause

-- the line of a life by its own state in the end, up to the events that it no longer took: {"widget":"..","state":"live","turns":..,"spent":..,"missed":..,"gone":.., with `until` before the state where a swap ended it
abbrev pub life_start : List ℕ → Option ℕ → OwnState → List ℕ
life_start name until o =
    concat (codes "{\"widget\":\"" ∷ text_inside name ∷ codes "\"" ∷ until_member until
    ∷ codes ",\"state\":\"" ∷ state_word o.stop ∷ codes "\",\"turns\":" ∷ decimal o.turns
    ∷ codes ",\"spent\":" ∷ decimal o.spent ∷ codes ",\"missed\":" ∷ decimal o.missed
    ∷ codes ",\"gone\":" ∷ decimal o.gone ∷ [])

-- the whole line: ..,"log":[..],"uncaught":[..]}
abbrev pub life_line : List ℕ → Option ℕ → OwnState → List ℕ
life_line name until o = life_start name until o ++ (run_notes o.log o.uncaught ++ line_end)

-- and the short one, without log and notes
abbrev pub short_line : List ℕ → OwnState → List ℕ
short_line name o = life_start name None o ++ line_end
