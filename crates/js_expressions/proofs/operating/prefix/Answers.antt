use Rattle.std.proofs.Common.{sym, ◌∙◌, arith}
use Rattle.std.proofs.lemmas.Result.{IfOk-weaker}
use Rattle.js_image.specs.Image.{image, seen}
use Rattle.js_names.specs.Code.{trees_of}
use Rattle.js_flow.specs.Views.{place_of}
use Rattle.js_expressions.proofs.Values.{prefix_other}
use Rattle.js_expressions.proofs.operating.prefix.Goals as goal

pub returns-in_default : goal.returns-in_default
returns-in_default c =
    let fs = trees_of c.args.codes.now.items in
    let w = c.args.w in
    let s = c.args.store.now in
    record {
      plan = IfOk-weaker c.convert_prefix.result _ _
          (λ n h r. h r ∙ sym (prefix_other c.args.op.0 (seen w s.cells c.args.value) (place_of w s.cells c.args.op.1) (image fs r w s) c.in_default.not-TypeOf c.in_default.not-Not))
          c.convert_prefix.ensures.plan;
      fine = c.convert_prefix.ensures.fine;
      near = IfOk-weaker c.convert_prefix.result _ _ (λ n h. omega (arith, h)) c.convert_prefix.ensures.near;
      kept = c.convert_prefix.ensures.kept;
      below = c.convert_prefix.ensures.below;
    }
