-- Which frames take an abrupt end, and which pass it on.
use Rattle.std.specs.Prelude.{◌≡◌, List, [], Bool, true, false, length, slice_get, ◌-◌, IsSomeAnd, not}
use Rattle.js_flow.specs.declared.job.Completion.{Completion}
use Rattle.js_flow.specs.declared.job.Completion.TheVariants as completion
use Rattle.js_flow.specs.declared.frame.StatementFrame.{StatementFrame}
use Rattle.js_flow.specs.declared.frame.StatementFrame.TheVariants as statement
use Rattle.js_flow.specs.declared.frame.CallFrame.{CallFrame}
use Rattle.js_flow.specs.declared.frame.CallFrame.TheVariants as call
use Rattle.js_flow.specs.declared.frame.Frame.{Frame}
use Rattle.js_flow.specs.declared.frame.Frame.TheVariants as frame
use Rattle.js_steps.specs.declared.stack.Unwound.{Unwound}
use Rattle.js_steps.specs.declared.stack.Unwound.TheVariants as unwound

-- an end that is neither normal nor a value nor a reference
abbrev pub IsAbrupt : Completion → Type 0
IsAbrupt completion.Normal = ⊥
IsAbrupt (completion.Is v) = ⊥
IsAbrupt (completion.Refers r) = ⊥
IsAbrupt _ = Unit {0}

abbrev pub is_break : Completion → Bool
is_break completion.Break = true
is_break _ = false

abbrev pub is_throw : Completion → Bool
is_throw (completion.Throw v) = true
is_throw _ = false

-- a loop takes a break and a continue
abbrev pub ends_pass : Completion → Bool
ends_pass completion.Break = true
ends_pass completion.Continue = true
ends_pass _ = false

-- a loop, a switch, a catch and a finally
abbrev pub statement_takes : StatementFrame → Completion → Bool
statement_takes (statement.LoopNext i p) o = ends_pass o
statement_takes (statement.ForInNext l p) o = ends_pass o
statement_takes statement.SwitchEnd o = is_break o
statement_takes (statement.Caught i p) o = is_throw o
statement_takes (statement.Finally i p) o = true
statement_takes f o = false

-- a call takes all but a throw
abbrev pub call_takes : CallFrame → Completion → Bool
call_takes call.CallEnd o = not (is_throw o)
call_takes f o = false

-- a frame takes an abrupt end, or passes it on
abbrev pub takes : Frame → Completion → Bool
takes (frame.Form f) o = false
takes (frame.Statement f) o = statement_takes f o
takes (frame.Call f) o = call_takes f o

-- what unwinding came to: the last frame that is left takes the end, or none is left
abbrev pub IsUnwound : List Frame → Completion → Unwound → Type 0
IsUnwound frames o (unwound.Resumed p) = (p ≡ o) × IsSomeAnd (slice_get frames (length frames - 1)) (λ f. takes f o ≡ true)
IsUnwound frames o (unwound.Over p) = (p ≡ o) × (frames ≡ [])
