use Rattle.script_check.proofs.Written.{clean_texts, broken_texts}
use Rattle.script_check.proofs.lines.tidied_library.Goals as goal

pub returns-in-Ok : goal.returns-in-Ok
returns-in-Ok c = clean_texts c.args.name.now c.args.library.now c.in-Ok.accepted c.tidied_text.result c.in-Ok.ensures.accepted c.tidied_text.ensures.spelled c.tidied_text.ensures.clean

pub returns-in-Err-Broken : goal.returns-in-Err-Broken
returns-in-Err-Broken c = broken_texts c.args.name.now c.args.library.now c.in-Err-Broken.field-0 c.in-Err-Broken.breach c.in-Err-Broken.ensures.refused c.in-Err-Broken.field-0-is c.refused_line.result c.refused_line.ensures.line c.refused_line.ensures.refused
