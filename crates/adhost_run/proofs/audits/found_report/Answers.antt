use Rattle.adhost_run.proofs.Auditing.{kept_report_of, leak_report_of}
use Rattle.adhost_run.proofs.audits.found_report.Goals as goal

pub returns-in-None-clause-answer : goal.returns-in-None-clause-answer
returns-in-None-clause-answer c = kept_report_of c.args.leak c.in-None.is c.kept_report.result c.kept_report.ensures

pub returns-in-Some-clause-answer : goal.returns-in-Some-clause-answer
returns-in-Some-clause-answer c = leak_report_of c.args.leak c.in-Some.line c.in-Some.is c.leak_report.result c.leak_report.ensures
