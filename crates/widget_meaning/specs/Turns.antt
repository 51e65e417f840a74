-- Turns: the calls of one turn within one grant of fuel, and how a turn ends.
use Rattle.std.specs.Prelude.{ℕ, ◌+◌, ◌-◌, List, [], ◌∷◌, ◌++◌, length, nat_lt, if◌then◌else◌, codes, Option, Some}
use Rattle.widget_meaning.specs.Limits.{max_units}
use Rattle.widget_meaning.specs.Values.{Value, Text, Own, Host, Throw, Stop, Fuel, PastLimit, Units, to_text}
use Rattle.widget_meaning.specs.OwnState.{OwnState, State, cell_at, lookup}
use Rattle.widget_meaning.specs.Plan.{Plan, Out, End, Ended, Stopped, OutOfFuel}
use Rattle.widget_meaning.specs.Costs.{cost, sum}
use Rattle.widget_meaning.specs.Meaning.{run_plan}

-- the text of an uncaught object by its own `name` and `message`, where both are texts
abbrev pub named_note : Option Value → Option Value → List ℕ
named_note (Some (Text x)) (Some (Text m)) = x ++ (codes ": " ++ m)
named_note x m = codes "[object]"

-- the text of an uncaught value: of a primitive its text, of an object its own `name` and `message`, else `[object]`
abbrev pub note_text : State → Value → List ℕ
note_text s (Own n) =
    named_note (lookup (cell_at s n).pairs (codes "name")) (lookup (cell_at s n).pairs (codes "message"))
note_text s (Host h) = codes "[object]"
note_text s v = to_text v

-- a widget that has stopped for good
abbrev pub stopped : Stop → OwnState → OwnState
stopped c o = record o { stop = Some c }

-- a note costs its units and one more; one that does not fit is not kept, and the widget stops
abbrev pub noted : List ℕ → OwnState → OwnState
noted t o =
    if nat_lt max_units (o.counts.units + (length t + 1)) then stopped (PastLimit Units) o
    else record o { uncaught = o.uncaught ++ t ∷ []; counts = sum o.counts (cost (length t + 1) 0 0 0) }

-- a turn begins: it counts, and no dispatch is open
abbrev pub begun : OwnState → State
begun o = record { own = record o { turns = o.turns + 1 }; dispatches = [] }

-- how it ends: what fell of the grant is spent; an uncaught throw is noted; a stop is kept
abbrev pub end_turn : End → State → OwnState → OwnState
end_turn (Ended (Throw v)) s o = noted (note_text s v) o
end_turn (Ended e) s o = o
end_turn (Stopped c) s o = stopped (PastLimit c) o
end_turn OutOfFuel s o = stopped Fuel o

-- what a turn cannot change is as before it; what it spends is added
abbrev pub after_turn : OwnState → Out → OwnState
after_turn o r = end_turn r.how r.state (record r.state.own {
  turns = o.turns + 1;
  spent = o.spent + (o.grant - r.left);
  missed = o.missed;
  gone = o.gone;
  stop = o.stop;
  grant = o.grant;
})

-- a turn of what this plan does
abbrev pub turn : (State → Plan) → OwnState → OwnState
turn k o = after_turn o (run_plan o.grant (k (begun o)))
