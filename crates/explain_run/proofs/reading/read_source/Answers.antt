use Rattle.std.proofs.lemmas.Result.{err_from_is_err_and}
use Rattle.std.proofs.Common.{arith}
use Rattle.slot_check.specs.Verdicts.{source_of}
use Rattle.run_steps.specs.Page.{file_limit}
use Rattle.explain_run.specs.Page.{HasBytes, IsRead}
use Rattle.explain_run.specs.Steps.{NoFile}
use Rattle.explain_run.proofs.Stepping.{ended, given, no_memory_left}
use Rattle.explain_run.proofs.reading.read_source.Goals as goal

pub returns-in_err-bytes-clause-step : goal.returns-in_err-bytes-clause-step
returns-in_err-bytes-clause-step g c =
    let p = err_from_is_err_and c.from_residual.result c.from_residual.ensures.1 in
    rw (p.1, p.2) (ended g.F.Files.told g.F.Files.faults (λ m v. HasBytes m file_limit c.args.name.now v.items) (λ m s. IsRead m file_limit c.args.name.now (source_of s)) (λ m. NoFile m file_limit c.args.name.now) (λ m. NoFile m file_limit c.args.name.now) c.in_err-bytes.ensures.step (λ m s is. is))

pub returns-in_err-name-clause-step : goal.returns-in_err-name-clause-step
returns-in_err-name-clause-step g c =
    let p = err_from_is_err_and c.from_residual-in_err-name.result c.from_residual-in_err-name.ensures.1 in
    rw (p.1, p.2) (no_memory_left g.F.Files.told g.F.Files.faults (λ m v. HasBytes m file_limit c.args.name.now v.items) (λ m s. IsRead m file_limit c.args.name.now (source_of s)) (λ m. NoFile m file_limit c.args.name.now) (λ m. NoFile m file_limit c.args.name.now) c.in_ok-bytes.ensures.step)

pub returns-clause-step : goal.returns-clause-step
returns-clause-step g c =
    given g.F.Files.told g.F.Files.faults (λ m v. HasBytes m file_limit c.args.name.now v.items) (λ m s. IsRead m file_limit c.args.name.now (source_of s)) (λ m. NoFile m file_limit c.args.name.now) (λ m. NoFile m file_limit c.args.name.now) c.in_ok-bytes.ensures.step (record { name = c.in_ok-name.name; bytes = c.in_ok-bytes.bytes })
    (λ m has. record { named = c.in_ok-name.ensures.ok; has = has })

pub returns-clause-small : goal.returns-clause-small
returns-clause-small g c = omega (arith, c.in_ok-bytes.ensures.within)
