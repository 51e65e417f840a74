-- Expressions that neither change the store nor name themselves.
use Rattle.js_tree.specs.declared.nodes.Expr.{Expr}
use Rattle.js_tree.specs.declared.nodes.Expr.TheVariants as expr
use Rattle.js_flow.specs.declared.frame.FormFrame.{FormFrame}
use Rattle.js_flow.specs.declared.frame.FormFrame.TheVariants as frame

abbrev pub IsSimple : Expr → Type 0
IsSimple (expr.Array ids) = ⊥
IsSimple (expr.Object ps) = ⊥
IsSimple (expr.Function id) = ⊥
IsSimple (expr.Name x) = ⊥
IsSimple (expr.Call e ids) = ⊥
IsSimple _ = Unit {0}

-- frames that go on with a value and leave the store as it is
abbrev pub GoesOn : FormFrame → Type 0
GoesOn (frame.SubBase e p) = Unit {0}
GoesOn (frame.TargetSubBase e p) = Unit {0}
GoesOn frame.Found = Unit {0}
GoesOn (frame.Right op e p) = Unit {0}
GoesOn (frame.And e p) = Unit {0}
GoesOn (frame.Or e p) = Unit {0}
GoesOn (frame.Choose a b p) = Unit {0}
GoesOn frame.Delete = Unit {0}
GoesOn (frame.StepTarget op p) = Unit {0}
GoesOn (frame.AssignTarget op e p) = Unit {0}
GoesOn _ = ⊥

-- frames that wait for the conversion of an operand
abbrev pub IsConversion : FormFrame → Type 0
IsConversion (frame.ConvertedLeft op v d) = Unit {0}
IsConversion (frame.ConvertedRight op v) = Unit {0}
IsConversion (frame.ConvertedPrefix op) = Unit {0}
IsConversion (frame.StepConverted op r p) = Unit {0}
IsConversion _ = ⊥
