use Rattle.std.proofs.Common.{None, ap, ◌∙◌, subst}
use Rattle.js_values.specs.Answers.{IsFineOut}
use Rattle.js_values.specs.declared.outcome.NativeOut.TheVariants as native
use Rattle.native_image.specs.Image.{beside}
use Rattle.native_image.specs.Refines.{FiresAtOwn}
use Rattle.turn_steps.proofs.Answering.{nodes_own}
use Rattle.turn_steps.proofs.carrying.answer.Goals as goal

pub fire-requires-clause-firing : goal.fire-requires-clause-firing
fire-requires-clause-firing c =
    let h = c.args.shared.now in
    let v = c.args.widget.now in
    let is = c.in-Call-Fire.is ∙ ap native.Call c.in-Call-Fire.field-0-is in
    record {
      nodes = nodes_own h.page v.id.index c.in-Call-Fire.nodes.items (subst (FiresAtOwn v.id.index (beside h.store h.page v.around None)) is c.requires.fires);
      last = subst (IsFineOut v.id.index h.store.cells) is c.requires.out;
    }
