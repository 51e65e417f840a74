use Rattle.std.proofs.Common.{sym, ◌∙◌}
use Rattle.std.proofs.lemmas.Result.{IfOk-weaker}
use Rattle.widget_meaning.specs.Values.{to_text}
use Rattle.js_image.specs.Image.{image}
use Rattle.js_names.specs.Code.{trees_of}
use Rattle.js_values.specs.Operands.{plain}
use Rattle.js_calls.proofs.Converted.{made_is, other_text, primitive_else}
use Rattle.js_calls.proofs.converting.text_of.Goals as goal

pub returns-in_ok-from_units-in-Ref-clause-fine : goal.returns-in_ok-from_units-in-Ref-clause-fine
returns-in_ok-from_units-in-Ref-clause-fine c = IfOk-weaker c.made.result _ _ (λ k h. h (trees_of c.args.codes.now.items) c.args.w c.args.store.now.cells) c.made.ensures.fine

pub returns-in_ok-to_text-in_default-clause-plan : goal.returns-in_ok-to_text-in_default-clause-plan
returns-in_ok-to_text-in_default-clause-plan c =
    let fs = trees_of c.args.codes.now.items in
    let w = c.args.w in
    let s = c.args.store.now in
    let v = c.args.value in
    IfOk-weaker c.made-in_default.result _ _
    (λ k h r. h fs w s.cells (image fs r w s) ∙ made_is c.in_ok-to_text-in_default.field-0 (to_text (plain v)) (image fs r w s) c.in_ok-to_text-in_default.ensures
    ∙ sym (other_text w s.cells v (image fs r w s) (primitive_else v c.in_default.not-Ref) c.in_default.not-Text))
    c.made-in_default.ensures.plan

pub returns-in_ok-to_text-in_default-clause-fine : goal.returns-in_ok-to_text-in_default-clause-fine
returns-in_ok-to_text-in_default-clause-fine c = IfOk-weaker c.made-in_default.result _ _ (λ k h. h (trees_of c.args.codes.now.items) c.args.w c.args.store.now.cells) c.made-in_default.ensures.fine
