use Rattle.reach_cert.proofs.Ends.{end_found, end_none}
use Rattle.reach_cert.proofs.lines.line_end.Goals as goal

pub returns-in-Some : goal.returns-in-Some
returns-in-Some c = end_found c.args.bytes.now _ c.in-Some.ensures

pub returns-in-None : goal.returns-in-None
returns-in-None c = end_none c.args.bytes.now c.in-None.ensures
