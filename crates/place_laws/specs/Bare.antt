-- Widgets and their states with the places of their programs forgotten: each place is 0.
use Rattle.std.specs.Prelude.{map}
use Rattle.js_grammar.specs.Unplaced.{unplaced_fun, unplaced_stmts}
use Rattle.widget_meaning.specs.OwnState.{OwnState, Cell, Kind, Object, Array, Function, Bunch}
use Rattle.widget_meaning.specs.Alone.{Content}

-- what an object is
abbrev pub bare_kind : Kind → Kind
bare_kind Object = Object
bare_kind (Array n) = Array n
bare_kind (Function f scope) = Function (unplaced_fun f) scope
bare_kind (Bunch ns) = Bunch ns

-- an object
abbrev pub bare_cell : Cell → Cell
bare_cell c = record { kind = bare_kind c.kind; prototype = c.prototype; pairs = c.pairs }

-- an own state: but for the functions among its objects it is as it was
abbrev pub bare_own : OwnState → OwnState
bare_own o = record o { heap = map bare_cell o.heap }

-- a widget
abbrev pub bare_content : Content → Content
bare_content w = record { root = w.root; libraries = map unplaced_stmts w.libraries; script = unplaced_stmts w.script }
