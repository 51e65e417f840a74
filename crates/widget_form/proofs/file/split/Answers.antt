use Rattle.first_breach.proofs.Narrowing.{clean_of, first_of}
use Rattle.std.proofs.Common.{None, Some}
use Rattle.plain_tree.specs.Plains.{placed_all}
use Rattle.markup_rules.specs.Rows.{Breaks}
use Rattle.widget_form.proofs.Body.{good_scripts}
use Rattle.widget_form.proofs.Splitting.{judged}
use Rattle.widget_form.proofs.file.split.Goals as goal

pub form_of-requires : goal.form_of-requires
form_of-requires c = good_scripts c.args.name.now c.args.libs.now (placed_all c.args.content.items) (clean_of (Breaks c.args.name.now c.args.libs.now (placed_all c.args.content.items)) (judged c.args.name.now c.args.libs.now c.deref.result.now c.args.content.items c.in_ok-first.field-0 None c.deref.ensures.value c.in-None.is c.in_ok-first.ensures))

pub returns-in-Some-clause-first : goal.returns-in-Some-clause-first
returns-in-Some-clause-first c = first_of (Breaks c.args.name.now c.args.libs.now (placed_all c.args.content.items)) c.in-Some.first (judged c.args.name.now c.args.libs.now c.deref.result.now c.args.content.items c.in_ok-first.field-0 (Some c.in-Some.first) c.deref.ensures.value c.in-Some.is c.in_ok-first.ensures)

pub returns-in_ok-form_of-in-None-clause-good : goal.returns-in_ok-form_of-in-None-clause-good
returns-in_ok-form_of-in-None-clause-good c = clean_of (Breaks c.args.name.now c.args.libs.now (placed_all c.args.content.items)) (judged c.args.name.now c.args.libs.now c.deref.result.now c.args.content.items c.in_ok-first.field-0 None c.deref.ensures.value c.in-None.is c.in_ok-first.ensures)
