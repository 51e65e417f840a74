use Rattle.std.proofs.Common.{subst}
use Rattle.adhost_run.specs.Answer.{ending, CertAnswer}
use Rattle.adhost_run.proofs.Auditing.{bad_found}
use Rattle.adhost_run.proofs.audits.judge_cert.Goals as goal

pub returns-in_ok-found_report-in-Ok-clause-ok : goal.returns-in_ok-found_report-in-Ok-clause-ok
returns-in_ok-found_report-in-Ok-clause-ok c =
    let r = c.in_ok-found_report-in-Ok.field-0 in
    let told = c.in-Ok.ensures.judged in
    subst (λ b. CertAnswer b (ending r.refused) r.bytes.items) told.2 (c.in_ok-found_report-in-Ok.ensures.answer told.0 told.1 told.3)

pub returns-in-Err-BadCert-clause-stop : goal.returns-in-Err-BadCert-clause-stop
returns-in-Err-BadCert-clause-stop c = bad_found c.one_answer.ensures.no_cert c.args.bytes.now c.in-Err-BadCert.field-0 c.in-Err-BadCert.field-0-is c.in-Err-BadCert.ensures.line
