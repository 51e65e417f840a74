use Rattle.std.proofs.Common.{◌++◌}
use Rattle.trace_text.specs.Report.{run_members, run_notes, line_end}
use Rattle.trace_text.proofs.Parts.{first_part, later_part, both_parts}
use Rattle.trace_text.proofs.report.push_ran.Goals as goal

pub returns-in_err-push_run_members-clause-part : goal.returns-in_err-push_run_members-clause-part
returns-in_err-push_run_members-clause-part c = first_part _ _ (run_members c.args.run.now) (run_notes c.args.run.now.log.items c.args.run.now.uncaught.items ++ line_end) c.push_run_members.ensures.part

pub returns-clause-ok : goal.returns-clause-ok
returns-clause-ok c = both_parts _ _ _ (run_members c.args.run.now) (run_notes c.args.run.now.log.items c.args.run.now.uncaught.items ++ line_end) _ c.in_ok-push_run_members.ensures.ok c.push_ran_end.ensures.ok

pub returns-clause-part : goal.returns-clause-part
returns-clause-part c = later_part _ _ _ (run_members c.args.run.now) (run_notes c.args.run.now.log.items c.args.run.now.uncaught.items ++ line_end) c.in_ok-push_run_members.ensures.ok c.push_ran_end.ensures.part
