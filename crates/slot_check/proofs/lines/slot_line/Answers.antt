use Rattle.slot_check.specs.Verdicts.{slot_of}
use Rattle.slot_check.proofs.Written.{accepted_text, refused_text}
use Rattle.slot_check.proofs.lines.slot_line.Goals as goal

pub returns-in-Ok-clause-line : goal.returns-in-Ok-clause-line
returns-in-Ok-clause-line c = accepted_text (slot_of c.args.name.now c.args.file.now c.args.libs.now) c.as_str.result.now c.in-Ok.widget c.accepted_line.result c.as_str.ensures.value c.in-Ok.ensures.accepted c.accepted_line.ensures.line c.accepted_line.ensures.clean

pub returns-in-Err-Broken-clause-line : goal.returns-in-Err-Broken-clause-line
returns-in-Err-Broken-clause-line c = refused_text (slot_of c.args.name.now c.args.file.now c.args.libs.now) c.in-Err-Broken.field-0 c.in-Err-Broken.refusal c.refused_line.result c.in-Err-Broken.ensures.refused c.in-Err-Broken.field-0-is c.refused_line.ensures.line c.refused_line.ensures.refused
