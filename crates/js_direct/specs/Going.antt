-- What is carried out in place.
use Rattle.std.specs.Prelude.{Bool, true, false, Option, Some, None}
use Rattle.js_flow.specs.declared.job.Completion.{Completion}
use Rattle.js_flow.specs.declared.job.Completion.TheVariants as completion
use Rattle.js_flow.specs.declared.job.Job.{Job}
use Rattle.js_flow.specs.declared.job.Job.TheVariants as job
use Rattle.js_flow.specs.declared.job.Next.{Next}
use Rattle.js_flow.specs.declared.job.Next.TheVariants as next
use Rattle.js_direct.specs.declared.run.Ended.{Ended}
use Rattle.js_direct.specs.declared.run.Ended.TheVariants as ended

-- a job of ids, or a call
abbrev pub is_direct_job : Job → Bool
is_direct_job (job.Eval e p) = true
is_direct_job (job.Target e p) = true
is_direct_job (job.Exec i p) = true
is_direct_job (job.Pass i p) = true
is_direct_job (job.Call c) = true
is_direct_job _ = false

-- such a job, or a block
abbrev pub is_direct : Next → Bool
is_direct (next.Go j) = is_direct_job j
is_direct (next.Run b p) = true
is_direct _ = false

-- an end as frames take it; none where a form is suspended
abbrev pub how_of : Option Completion → Ended
how_of None = ended.Left
how_of (Some o) = ended.Normal

abbrev pub end_of : Option Completion → Completion
end_of None = completion.Normal
end_of (Some o) = o
