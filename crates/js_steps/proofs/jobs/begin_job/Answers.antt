use Rattle.std.proofs.Common.{ap, arith}
use Rattle.std.proofs.lemmas.Result.{IfOk-weaker}
use Rattle.js_flow.specs.Free.{job_weight}
use Rattle.js_steps.proofs.jobs.begin_job.Goals as goal

pub returns-in-Call-clause-near : goal.returns-in-Call-clause-near
returns-in-Call-clause-near c = IfOk-weaker c.call.result _ _ (λ n h. omega (arith, h, ap job_weight c.in-Call.is)) c.call.ensures.near
