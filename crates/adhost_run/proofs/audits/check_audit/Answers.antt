use Rattle.std.proofs.Common.{◌≤◌, length, sym, subst, IsSome}
use Rattle.std.proofs.lemmas.Result.{err_from_is_err_and}
use Rattle.run_steps.specs.Page.{cert_limit, HasBytes}
use Rattle.run_steps.specs.Steps.{NoBytes}
use Rattle.adhost_run.specs.Answer.{CertAnswer}
use Rattle.adhost_run.proofs.Auditing.{cert_answered}
use Rattle.adhost_run.proofs.Stepping.{stopped, went_on}
use Rattle.adhost_run.proofs.audits.check_audit.Goals as goal

pub judge_cert-requires : goal.judge_cert-requires
judge_cert-requires g c = subst (λ xs. length xs ≤ cert_limit) (sym c.deref.ensures.value) c.in_ok-bytes.ensures.within

pub returns-in_err-bytes-clause-answered : goal.returns-in_err-bytes-clause-answered
returns-in_err-bytes-clause-answered g c =
    let p = err_from_is_err_and c.from_residual.result c.from_residual.ensures.1 in
    let name = c.args.name.now in
    rw (p.1, p.2) (stopped g.F.Files.told g.F.Files.calm g.F.Files.faults (λ v. v.items) (λ m v. HasBytes m cert_limit name v) (λ m. NoBytes m cert_limit name) (λ m. CertAnswer) (λ m. IsSome (m name)) (λ m. IsSome (m name)) c.in_err-bytes.ensures.step (λ m has. has))

pub returns-clause-answered : goal.returns-clause-answered
returns-clause-answered g c =
    let name = c.args.name.now in
    went_on g.F.Files.told g.F.Files.calm g.F.Files.faults (λ v. v.items) (λ m v. HasBytes m cert_limit name v) (λ m. NoBytes m cert_limit name) (λ m. CertAnswer) (λ m. IsSome (m name)) (λ m. IsSome (m name)) (λ m. Unit {0}) c.in_ok-bytes.ensures.step
    (cert_answered g.F.Files.told g.F.Files.calm g.F.Files.faults c.deref.result.now c.in_ok-bytes.bytes.items c.deref.ensures.value c.judge_cert.result c.judge_cert.ensures.ok c.judge_cert.ensures.stop) (λ m has. has) (λ m given has. tt)
