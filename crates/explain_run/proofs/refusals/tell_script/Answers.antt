use Rattle.explain_run.proofs.Telling.{clean_library_text, broken_library_text}
use Rattle.explain_run.proofs.refusals.tell_script.Goals as goal

pub returns-in-Ok : goal.returns-in-Ok
returns-in-Ok c = clean_library_text c.args.name.now c.args.library.now c.in-Ok.accepted c.args.out.now.items c.in-Ok.ensures.accepted

pub returns-in_ok-push_refusal-in-Err-Broken : goal.returns-in_ok-push_refusal-in-Err-Broken
returns-in_ok-push_refusal-in-Err-Broken c =
    broken_library_text c.args.name.now c.args.library.now c.in-Err-Broken.field-0 c.in-Err-Broken.breach c.place_in-at.result c.args.out.now.items c.push_refusal.new.out.items
    c.in-Err-Broken.ensures.refused c.in-Err-Broken.field-0-is c.place_in-at.ensures c.in_ok-push_refusal-in-Err-Broken.ensures
