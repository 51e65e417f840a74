use Rattle.slot_check.specs.Verdicts.{slot_of}
use Rattle.explain_run.proofs.Telling.{clean_slot, refused_by}
use Rattle.explain_run.proofs.refusals.tell_slot.Goals as goal

pub returns-in-Ok-clause-text : goal.returns-in-Ok-clause-text
returns-in-Ok-clause-text c = clean_slot (slot_of c.args.name.now c.args.file.now c.args.libs.now) c.in-Ok.widget c.args.out.now.items c.in-Ok.ensures.accepted

pub returns-in_ok-push_refusal-in-Err-Broken-clause-text : goal.returns-in_ok-push_refusal-in-Err-Broken-clause-text
returns-in_ok-push_refusal-in-Err-Broken-clause-text c =
    refused_by (slot_of c.args.name.now c.args.file.now c.args.libs.now) c.in-Err-Broken.field-0 c.in-Err-Broken.refusal c.as_str.result.now c.args.out.now.items c.push_refusal.new.out.items c.as_str.ensures.value c.in-Err-Broken.ensures.refused c.in-Err-Broken.field-0-is c.in_ok-push_refusal-in-Err-Broken.ensures
