use Rattle.std.proofs.Common.{sym, ◌∙◌, rules}
use Rattle.std.specs.Result.{IsErrOf}
use Rattle.serde_json.specs.View.{view}
use Rattle.json_shapes.specs.declared.fault.Misfit.TheVariants as misfit
use Rattle.manifest_shape.proofs.SlotLemmas.{no_html, no_slot}
use Rattle.manifest_shape.proofs.slot.read_entry.Goals as goal

pub returns-in_err-read_html-clause-misfit : goal.returns-in_err-read_html-clause-misfit
returns-in_err-read_html-clause-misfit c = λ err.
    let here : IsErrOf c.read_html.result misfit.Shape = search rules in
    no_html c.args.version (view c.args.entry.now) (sym c.has_key.ensures ∙ c.if-has_key.true) (c.read_html.ensures.misfit here)

pub returns-in_err-read_slot-clause-misfit : goal.returns-in_err-read_slot-clause-misfit
returns-in_err-read_slot-clause-misfit c = λ err.
    let here : IsErrOf c.read_slot.result misfit.Shape = search rules in
    no_slot c.args.version (view c.args.entry.now) (sym c.has_key.ensures ∙ c.if-has_key.false) (c.read_slot.ensures.misfit here)
