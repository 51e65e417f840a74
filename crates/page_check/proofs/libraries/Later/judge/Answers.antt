use Rattle.std.proofs.Common.{length}
use Rattle.slot_check.specs.Verdicts.{slot_of}
use Rattle.page_check.proofs.Slotted.{libs_within, accepted_slot, judged_refused, refused_fits}
use Rattle.page_check.proofs.libraries.Later.judge.Goals as goal

pub runs-requires : goal.runs-requires
runs-requires c =
    libs_within c.requires.over.0 c.args.self.now.places.items (slot_of c.args.name.now c.args.file.now c.args.libs.now) c.in-Ok.widget c.requires.over.1.kept c.in-Ok.ensures.accepted

pub returns-in_ok-content-in-Ok-clause-is : goal.returns-in_ok-content-in-Ok-clause-is
returns-in_ok-content-in-Ok-clause-is c = λ scripts over.
    accepted_slot scripts c.args.self.now.places.items (slot_of c.args.name.now c.args.file.now c.args.libs.now) c.in-Ok.widget over.kept c.in-Ok.ensures.accepted c.in_ok-content-in-Ok.content (c.in_ok-content-in-Ok.ensures.content scripts)

pub returns-in_ok-content-in-Ok-clause-loadable : goal.returns-in_ok-content-in-Ok-clause-loadable
returns-in_ok-content-in-Ok-clause-loadable c = λ scripts over.
    c.in_ok-content-in-Ok.ensures.loadable (slot_of c.args.name.now c.args.file.now c.args.libs.now) scripts over.kept c.in-Ok.ensures.accepted

pub returns-in-Err-Broken-clause-is : goal.returns-in-Err-Broken-clause-is
returns-in-Err-Broken-clause-is c = λ scripts over.
    judged_refused c.refused.result c.in-Err-Broken.refusal (rw c.in-Err-Broken.field-0-is at c.refused.ensures) scripts (slot_of c.args.name.now c.args.file.now c.args.libs.now) c.in-Err-Broken.field-0 c.in-Err-Broken.ensures.refused c.in-Err-Broken.field-0-is

pub returns-in-Err-Broken-clause-loadable : goal.returns-in-Err-Broken-clause-loadable
returns-in-Err-Broken-clause-loadable c = λ scripts over.
    refused_fits c.refused.result c.in-Err-Broken.refusal (rw c.in-Err-Broken.field-0-is at c.refused.ensures) (length scripts) c.args.name.now

pub returns-in_ok-content-in-Ok-clause-stays : goal.returns-in_ok-content-in-Ok-clause-stays
returns-in_ok-content-in-Ok-clause-stays c = λ scripts over. record { judged = c.in-Ok.ensures.judged; kept = over.kept }

pub returns-in-Err-Broken-clause-stays : goal.returns-in-Err-Broken-clause-stays
returns-in-Err-Broken-clause-stays c = λ scripts over. record { judged = c.in-Err-Broken.ensures.judged; kept = over.kept }
