-- How jobs end: an expression, a call and a native by a value or a throw, a target by a reference too.
use Rattle.widget_meaning.specs.Values.{Completion, Is, Refers, Throw}
use Rattle.widget_meaning.specs.Plan.{Job, Target, Exec, Pass}

-- the ways in which a form ends
pub data Way : Type 0 where
  ByValue : Way
  ByReference : Way
  Anyhow : Way

-- a completion of a way; a throw passes, and so does a value where a reference is wanted
abbrev pub Ends : Way → Completion → Type 0
Ends ByValue (Is v) = Unit {0}
Ends ByValue (Throw v) = Unit {0}
Ends ByValue o = ⊥
Ends ByReference (Is v) = Unit {0}
Ends ByReference (Refers r) = Unit {0}
Ends ByReference (Throw v) = Unit {0}
Ends ByReference o = ⊥
Ends Anyhow o = Unit {0}

-- the way of a job; of a statement and a pass of a loop nothing is said, since the end of the call takes all of theirs
abbrev pub way_of : Job → Way
way_of (Target e p) = ByReference
way_of (Exec i p) = Anyhow
way_of (Pass l p) = Anyhow
way_of j = ByValue
