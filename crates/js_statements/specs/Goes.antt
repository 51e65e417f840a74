-- Frames of statements.
use Rattle.js_flow.specs.declared.frame.StatementFrame.{StatementFrame}
use Rattle.js_flow.specs.declared.frame.StatementFrame.TheVariants as frame

-- it goes on with a value, or passes it on, and leaves the store as it is
abbrev pub GoesOn : StatementFrame → Type 0
GoesOn (frame.Declared i n p) = ⊥
GoesOn (frame.ForInOver i p) = ⊥
GoesOn (frame.Finally i p) = ⊥
GoesOn _ = Unit {0}
