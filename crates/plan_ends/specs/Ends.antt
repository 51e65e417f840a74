-- How plans end, in the ways of jobs.
use Rattle.widget_meaning.specs.Values.{Completion}
use Rattle.widget_meaning.specs.OwnState.{State}
use Rattle.widget_meaning.specs.Plan.{Plan, Ret, Halt, Need, Tick, Do, End, Ended}
pub use Rattle.widget_meaning.specs.Ways.{Way, ByValue, ByReference, Anyhow, Ends, way_of}

-- a plan that ends in a way, however its jobs end in theirs and whatever state they leave
unfoldable pub Yields : Way → Plan → Type 0
Yields way (Ret o s) = Ends way o
Yields way (Halt c s) = Unit {0}
Yields way (Need c s p) = Yields way p
Yields way (Tick s p) = Yields way p
Yields way (Do j s k) = (o : Completion) (t : State) → Ends (way_of j) o → Yields way (k o t)

-- an end of a way; a stop and want of fuel are in each
abbrev pub EndsAs : Way → End → Type 0
EndsAs way (Ended o) = Ends way o
EndsAs way e = Unit {0}
