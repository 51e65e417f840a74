-- How much frames may take up before they come to a charge, a native or an end.
use Rattle.std.specs.Prelude.{ℕ, ◌+◌, List, [], ◌∷◌}
use Rattle.js_flow.specs.declared.job.Job.{Job}
use Rattle.js_flow.specs.declared.job.Job.TheVariants as job
use Rattle.js_flow.specs.declared.job.Next.{Next}
use Rattle.js_flow.specs.declared.job.Next.TheVariants as next
use Rattle.js_flow.specs.declared.frame.FormFrame.{FormFrame}
use Rattle.js_flow.specs.declared.frame.FormFrame.TheVariants as form
use Rattle.js_flow.specs.declared.frame.StatementFrame.{StatementFrame}
use Rattle.js_flow.specs.declared.frame.StatementFrame.TheVariants as statement
use Rattle.js_flow.specs.declared.frame.CallFrame.{CallFrame}
use Rattle.js_flow.specs.declared.frame.CallFrame.TheVariants as call
use Rattle.js_flow.specs.declared.frame.Frame.{Frame}
use Rattle.js_flow.specs.declared.frame.Frame.TheVariants as frame
use Rattle.js_flow.specs.declared.task.Control.{Control}
use Rattle.js_flow.specs.declared.task.Control.TheVariants as control
use Rattle.js_flow.specs.Left.{Left, all_frames}

-- Each frame weighs at least what it may put in its place with no charge.
abbrev pub form_free : FormFrame → ℕ
form_free (form.Right op e p) = 8
form_free (form.Operate op v d) = 8
form_free (form.ConvertedLeft op v d) = 4
form_free (form.Prefix op p) = 4
form_free (form.StepTarget op p) = 4
form_free (form.AssignTarget op e p) = 12
form_free (form.AssignWith a) = 12
form_free f = 1

abbrev pub statement_free : StatementFrame → ℕ
statement_free (statement.Branch i p) = 2
statement_free (statement.LoopNext i p) = 4
statement_free (statement.ForInOver i p) = 4
statement_free (statement.Switch i p) = 4
statement_free (statement.Case v i n p) = 2
statement_free (statement.Caught i p) = 2
statement_free (statement.Finally i p) = 4
statement_free f = 1

abbrev pub call_free : CallFrame → ℕ
call_free (call.Callee e p) = 4
call_free (call.Argument a) = 4
call_free call.TextOf = 4
call_free f = 1

abbrev pub frame_free : Frame → ℕ
frame_free (frame.Form f) = form_free f
frame_free (frame.Statement f) = statement_free f
frame_free (frame.Call f) = call_free f

-- what an expression, a statement, a pass or a call is weighs at most this
abbrev pub job_free : ℕ
job_free = 15

-- what a native that is waited for may give weighs less than this
abbrev pub native_free : ℕ
native_free = 16

-- what a job is: a target may be an expression that begins with no charge
abbrev pub job_weight : Job → ℕ
job_weight (job.Target e p) = 17
job_weight (job.RunNative c) = native_free
job_weight j = job_free

-- what is next
abbrev pub next_free : Next → ℕ
next_free next.Nothing = 0
next_free (next.Go j) = 0
next_free (next.Begin j) = job_weight j + 1
next_free (next.Run b p) = 2
next_free (next.Give o) = 1
next_free (next.Pay n) = 2
next_free (next.Native c) = native_free
next_free (next.Stop c) = 0
next_free (next.Done o) = 0

-- all frames together
abbrev pub frames_free : List Frame → ℕ
frames_free [] = 0
frames_free (f ∷ frames) = frame_free f + frames_free frames

-- what a form leaves
abbrev pub left_free : Left → ℕ
left_free l = frames_free l.above + next_free l.next

-- all frames, and what is next
abbrev pub flow_free : Left → ℕ
flow_free l = frames_free (all_frames l) + next_free l.next

-- what a task is at
abbrev pub control_free : Control → ℕ
control_free (control.Begin j) = job_weight j + 1
control_free (control.Give o) = 1
control_free (control.Pay n) = 2
control_free (control.Waits d) = native_free
control_free c = 0

-- a task
abbrev pub free : Control → List Frame → ℕ
free c frames = control_free c + frames_free frames
