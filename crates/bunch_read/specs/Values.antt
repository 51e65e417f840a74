-- The texts of nodes.
use Rattle.std.specs.Prelude.{ℕ, ◌+◌, List, [], Bool, false, length, map, sum_by}
use Rattle.plain_tree.specs.Trees.{ElementOf, Label, TextOf}
use Rattle.widget_meaning.specs.BunchReads.{value_of}
use Rattle.store_cells.specs.declared.value.Value.{Value}
use Rattle.store_cells.specs.declared.value.Value.TheVariants as value
use Rattle.widget_meaning.specs.NativeForms.{is_too_long}
use Rattle.widget_meaning.specs.OwnState.{State}
use Rattle.widget_meaning.specs.Costs.{give, make_text}
use Rattle.widget_meaning.specs.Plan.{Plan, charge}
use Rattle.widget_meaning.specs.Values.{Text}

-- the units of the values of nodes, together
abbrev pub all_units : State → List ℕ → ℕ
all_units s ns = sum_by length (map (value_of s) ns)

-- what a node has by itself: a text node its units, an element none
abbrev pub own_text : Label → List ℕ
own_text (TextOf t) = t
own_text (ElementOf tag attributes) = []

-- whether a value is a text that is longer than a text can be
abbrev pub is_long : Value → Bool
is_long (value.Text t) = is_too_long t
is_long v = false

-- a text that is made and given, at a charge for nodes and its units
abbrev pub value_plan : ℕ → List ℕ → State → Plan
value_plan n t s = charge (n + length t) s (make_text t s (give (Text t)))
