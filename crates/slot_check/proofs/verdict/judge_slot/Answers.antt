use Rattle.std.proofs.Common.{◌≡◌, subst, ◌∙◌}
use Rattle.std.specs.Prelude.{All, true}
use Rattle.std.specs.List.{list_any}
use Rattle.std.specs.Str.{bytes_eq}
use Rattle.slot_check.specs.Slot.{IsIdClean}
use Rattle.slot_check.specs.Verdicts.{slot_of, AreNamedClean}
use Rattle.slot_check.proofs.Accepting.{file_of, widget_is}
use Rattle.slot_check.proofs.Sourced.{listed_keys}
use Rattle.slot_check.proofs.Refusals.{slot_markup, slot_id, slot_named, slot_last}
use Rattle.slot_check.proofs.verdict.judge_slot.Goals as goal

pub returns-in_err-form-clause-refused : goal.returns-in_err-form-clause-refused
returns-in_err-form-clause-refused c = slot_markup (slot_of c.args.name.now c.args.file.now c.args.libs.now) c.deref.result.now c.from_residual.result c.in_err-form.field-0.0 (c.deref.ensures.value ∙ c.requires.judged.keyed) c.from_residual.ensures.1 c.in_err-form.ensures.broken

pub returns-in_err-judge_id-clause-refused : goal.returns-in_err-judge_id-clause-refused
returns-in_err-judge_id-clause-refused c =
    let slot = slot_of c.args.name.now c.args.file.now c.args.libs.now in
    let h = c.in_ok-form.ensures.form in
    let has = file_of slot c.deref.result.now c.in_ok-form.form (c.deref.ensures.value ∙ c.requires.judged.keyed) h in
    slot_id slot h.file has c.in_ok-form.form.id_script c.from_residual-in_err-judge_id.result c.in_err-judge_id.field-0.0 h.parts.id_script c.from_residual-in_err-judge_id.ensures.1 c.in_err-judge_id.ensures.broken

pub judge_named-requires-clause-listed : goal.judge_named-requires-clause-listed
judge_named-requires-clause-listed c =
    subst (λ keys. All (λ n. list_any (bytes_eq n) keys ≡ true) c.deref-2.result.now) c.deref.ensures.value
    (listed_keys c.args.name.now c.deref.result.now c.args.file.now.bytes.items c.in_ok-form.form c.deref-2.result.now c.deref-2.ensures.value c.in_ok-form.ensures.form)

pub returns-in_err-places-clause-refused : goal.returns-in_err-places-clause-refused
returns-in_err-places-clause-refused c =
    let slot = slot_of c.args.name.now c.args.file.now c.args.libs.now in
    let h = c.in_ok-form.ensures.form in
    let has = file_of slot c.deref.result.now c.in_ok-form.form (c.deref.ensures.value ∙ c.requires.judged.keyed) h in
    let id = subst (IsIdClean slot.name slot.file.bytes) h.parts.id_script c.in_ok-judge_id.ensures.clean in
    slot_named slot h.file has id c.deref-2.result.now c.from_residual-in_err-places.result c.in_err-places.field-0.0 (c.deref-2.ensures.value ∙ h.parts.libs) c.from_residual-in_err-places.ensures.1 c.in_err-places.ensures.broken

pub returns-in_err-script-clause-refused : goal.returns-in_err-script-clause-refused
returns-in_err-script-clause-refused c =
    let slot = slot_of c.args.name.now c.args.file.now c.args.libs.now in
    let h = c.in_ok-form.ensures.form in
    let has = file_of slot c.deref.result.now c.in_ok-form.form (c.deref.ensures.value ∙ c.requires.judged.keyed) h in
    let id = subst (IsIdClean slot.name slot.file.bytes) h.parts.id_script c.in_ok-judge_id.ensures.clean in
    slot_last slot h.file has id c.deref-2.result.now c.in_ok-places.places.items c.in_ok-form.form.script c.in_ok-share.field-0 c.from_residual-in_err-script.result c.in_err-script.field-0.0 (c.deref-2.ensures.value ∙ h.parts.libs) c.in_ok-places.ensures.clean h.parts.script c.in_ok-share.ensures c.from_residual-in_err-script.ensures.1 c.in_err-script.ensures.broken

pub returns-clause-accepted : goal.returns-clause-accepted
returns-clause-accepted c =
    let slot = slot_of c.args.name.now c.args.file.now c.args.libs.now in
    let h = c.in_ok-form.ensures.form in
    let has = file_of slot c.deref.result.now c.in_ok-form.form (c.deref.ensures.value ∙ c.requires.judged.keyed) h in
    widget_is slot h.file (record { form = c.in_ok-form.form; libs = c.in_ok-places.places; script = c.in_ok-script.script }) c.in_ok-share.field-0 has h.parts c.in_ok-judge_id.ensures.clean (subst (λ ns. AreNamedClean slot.libs ns c.in_ok-places.places.items) c.deref-2.ensures.value c.in_ok-places.ensures.clean) c.in_ok-share.ensures c.in_ok-script.ensures.accepted
