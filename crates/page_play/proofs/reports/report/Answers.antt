use Rattle.page_play.proofs.Reporting.{found_told, all_reported}
use Rattle.page_play.proofs.reports.report.Goals as goal

pub report_of-requires : goal.report_of-requires
report_of-requires c = record { told = found_told c.args.findings.now c.args.host.now c.requires }

pub returns : goal.returns
returns c = all_reported c.args.findings.now c.args.host.now c.report_of.result c.report_of.ensures
