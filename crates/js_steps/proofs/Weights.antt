-- The weight of frames and of jobs, one by one: only a native weighs as much as one.
use Rattle.std.proofs.Common.{◌≡◌, ℕ, ◌+◌, ◌≤◌, List, [], ◌∷◌, ◌++◌, arith}
use Rattle.js_flow.specs.declared.frame.Frame.{Frame}
use Rattle.js_flow.specs.declared.job.Job.{Job}
use Rattle.js_flow.specs.declared.job.Job.TheVariants as job
use Rattle.js_flow.specs.declared.frame.CallFrame.{CallFrame}
use Rattle.js_flow.specs.declared.frame.CallFrame.TheVariants as call
use Rattle.js_flow.specs.declared.frame.FormFrame.{FormFrame}
use Rattle.js_flow.specs.declared.frame.FormFrame.TheVariants as form
use Rattle.js_flow.specs.declared.frame.Frame.TheVariants as frame
use Rattle.js_flow.specs.declared.frame.StatementFrame.{StatementFrame}
use Rattle.js_flow.specs.declared.frame.StatementFrame.TheVariants as statement
use Rattle.js_flow.specs.declared.job.Next.{Next}
use Rattle.js_flow.specs.declared.job.Next.TheVariants as next
use Rattle.js_flow.specs.Fine.{IsBegun}
use Rattle.js_flow.specs.Left.{Left}
use Rattle.js_flow.specs.Free.{call_free, form_free, frame_free, frames_free, job_weight, left_free, native_free, next_free, statement_free}
use Rattle.js_steps.specs.Ending.{IsNative}

pub free_last : (below : List Frame) (f : Frame) → frames_free (below ++ f ∷ []) ≡ frame_free f + frames_free below
free_last [] f = omega arith
free_last (x ∷ below) f = omega (arith, free_last below f)

pub weight_most : (j : Job) → job_weight j ≤ 17
weight_most (job.Eval e p) = omega arith
weight_most (job.Target e p) = omega arith
weight_most (job.Exec i p) = omega arith
weight_most (job.Pass i p) = omega arith
weight_most (job.PassIn l p) = omega arith
weight_most (job.Call c) = omega arith
weight_most (job.RunNative c) = omega arith

form_some : (f : FormFrame) → (1 ≤ form_free f) × (form_free f ≤ 12)
form_some (form.Right op e p) = (omega arith, omega arith)
form_some (form.Operate op v d) = (omega arith, omega arith)
form_some (form.ConvertedLeft op v d) = (omega arith, omega arith)
form_some (form.Prefix op p) = (omega arith, omega arith)
form_some (form.StepTarget op p) = (omega arith, omega arith)
form_some (form.AssignTarget op e p) = (omega arith, omega arith)
form_some (form.AssignWith a) = (omega arith, omega arith)
form_some f = (omega arith, omega arith)

statement_some : (f : StatementFrame) → (1 ≤ statement_free f) × (statement_free f ≤ 12)
statement_some (statement.Branch i p) = (omega arith, omega arith)
statement_some (statement.LoopNext i p) = (omega arith, omega arith)
statement_some (statement.ForInOver i p) = (omega arith, omega arith)
statement_some (statement.Switch i p) = (omega arith, omega arith)
statement_some (statement.Case v i n p) = (omega arith, omega arith)
statement_some (statement.Caught i p) = (omega arith, omega arith)
statement_some (statement.Finally i p) = (omega arith, omega arith)
statement_some f = (omega arith, omega arith)

call_some : (f : CallFrame) → (1 ≤ call_free f) × (call_free f ≤ 12)
call_some (call.Callee e p) = (omega arith, omega arith)
call_some (call.Argument a) = (omega arith, omega arith)
call_some call.TextOf = (omega arith, omega arith)
call_some f = (omega arith, omega arith)

pub frame_some : (f : Frame) → (1 ≤ frame_free f) × (frame_free f ≤ 12)
frame_some (frame.Form f) = form_some f
frame_some (frame.Statement f) = statement_some f
frame_some (frame.Call f) = call_some f

-- what weighs less than a native is none
pub no_native : (n : Next) → next_free n ≤ 15 → IsNative n → ⊥
no_native (next.Native c) h k = absurd (omega (arith, h))
no_native next.Nothing h k = k
no_native (next.Go j) h k = k
no_native (next.Begin j) h k = k
no_native (next.Run b p) h k = k
no_native (next.Give o) h k = k
no_native (next.Pay n) h k = k
no_native (next.Stop c) h k = k
no_native (next.Done o) h k = k

pub native_weighs : (n : Next) (m : ℕ) → next_free n ≤ m → IsNative n → native_free ≤ m
native_weighs (next.Native c) m h k = h
native_weighs next.Nothing m h k = absurd k
native_weighs (next.Go j) m h k = absurd k
native_weighs (next.Begin j) m h k = absurd k
native_weighs (next.Run b p) m h k = absurd k
native_weighs (next.Give o) m h k = absurd k
native_weighs (next.Pay n) m h k = absurd k
native_weighs (next.Stop c) m h k = absurd k
native_weighs (next.Done o) m h k = absurd k

pub left_light : (l : Left) → left_free l ≤ 15 → IsNative l.next → ⊥
left_light l h = no_native l.next (omega (arith, h))

-- an expression is no native
pub no_begun : (j : Job) → IsBegun j → native_free ≤ job_weight j → ⊥
no_begun (job.Eval e p) h k = absurd (omega (arith, k))
no_begun (job.Target e p) h k = h
no_begun (job.Exec i p) h k = h
no_begun (job.Pass i p) h k = h
no_begun (job.PassIn l p) h k = h
no_begun (job.Call c) h k = h
no_begun (job.RunNative c) h k = h
