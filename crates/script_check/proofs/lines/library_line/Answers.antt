use Rattle.script_check.proofs.Written.{clean_lines, broken_lines}
use Rattle.script_check.proofs.lines.library_line.Goals as goal

pub returns-in-Ok : goal.returns-in-Ok
returns-in-Ok c = clean_lines c.args.name.now c.args.library.now c.in-Ok.accepted c.accepted_line.result c.in-Ok.ensures.accepted c.accepted_line.ensures.line c.accepted_line.ensures.clean

pub returns-in-Err-Broken : goal.returns-in-Err-Broken
returns-in-Err-Broken c = broken_lines c.args.name.now c.args.library.now c.in-Err-Broken.field-0 c.in-Err-Broken.breach c.in-Err-Broken.ensures.refused c.in-Err-Broken.field-0-is c.refused_line.result c.refused_line.ensures.line c.refused_line.ensures.refused
