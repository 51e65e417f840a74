-- The charge of what a task is at, and what it is at after that.
use Rattle.std.specs.Prelude.{ℕ, Bool, true, false}
use Rattle.js_flow.specs.declared.job.Completion.TheVariants as completion
use Rattle.js_flow.specs.declared.job.Job.{Job}
use Rattle.js_flow.specs.declared.job.Job.TheVariants as job
use Rattle.js_flow.specs.declared.task.Control.{Control}
use Rattle.js_flow.specs.declared.task.Control.TheVariants as control

-- a job costs one unit before it begins
abbrev pub charge_of : Control → ℕ
charge_of (control.Do j) = 1
charge_of (control.Pay n) = n
charge_of c = 0

-- what a task is at once its charge was taken
abbrev pub after_charge : Control → Control
after_charge (control.Do j) = control.Begin j
after_charge (control.Pay n) = control.Give completion.Normal
after_charge c = c

-- a job that holds ids alone, no box
abbrev pub is_of_ids : Job → Bool
is_of_ids (job.Eval e p) = true
is_of_ids (job.Target e p) = true
is_of_ids (job.Exec i p) = true
is_of_ids (job.Pass i p) = true
is_of_ids _ = false

-- what a task is at is such a job, before its charge
abbrev pub starts_in_place : Control → Bool
starts_in_place (control.Do j) = is_of_ids j
starts_in_place _ = false
