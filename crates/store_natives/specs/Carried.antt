-- What is carried out of an answer of a room that does not know the page.
use Rattle.std.specs.Prelude.{Option, None, Some}
use Rattle.js_values.specs.declared.outcome.NativeOut.{NativeOut}
use Rattle.js_values.specs.declared.outcome.NativeOut.TheVariants as native
use Rattle.js_values.specs.declared.outcome.Plan.{Plan as Calls}
use Rattle.js_values.specs.declared.outcome.Plan.TheVariants as calls

-- the calls that it asks for, and for handlers, which it asks for at no node, what comes after them
abbrev pub without_fire : Calls → NativeOut
without_fire (calls.Fire kind nodes last) = native.Value last
without_fire p = native.Call p

-- an answer; none where fuel is wanting
abbrev pub carried : NativeOut → Option NativeOut
carried (native.Call p) = Some (without_fire p)
carried native.OutOfFuel = None
carried o = Some o
