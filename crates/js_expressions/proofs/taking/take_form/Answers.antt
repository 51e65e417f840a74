use Rattle.std.proofs.Common.{ap, refl}
use Rattle.std.proofs.lemmas.Result.{IfOk-weaker}
use Rattle.js_image.specs.Image.{image}
use Rattle.js_image.proofs.Grown.{kept_same}
use Rattle.js_names.specs.Code.{trees_of}
use Rattle.js_flow.specs.Views.{completion_of}
use Rattle.js_expressions.proofs.Passing.{abrupt, passed}
use Rattle.js_expressions.proofs.taking.take_form.Goals as goal

pub returns-in_default : goal.returns-in_default
returns-in_default c =
    let fs = trees_of c.args.codes.now.items in
    let w = c.args.w in
    let s = c.args.store.now in
    record {
      plan = IfOk-weaker c.pass_on.result _ _
          (λ k e. rw e (λ r. (passed fs w s.cells c.args.frame.now).1 (completion_of w s.cells c.args.how) (image fs r w s) (abrupt w s.cells c.args.how c.in_default.not-Is c.in_default.not-Refers))) c.pass_on.ensures;
      fine = IfOk-weaker c.pass_on.result _ _ (λ k e. rw e (tt, c.requires.held.1)) c.pass_on.ensures;
      near = IfOk-weaker c.pass_on.result _ _ (λ k e. rw e (passed fs w s.cells c.args.frame.now).0) c.pass_on.ensures;
      kept = kept_same fs w s s refl;
      below = IfOk-weaker c.pass_on.result _ _ (λ k e. ap (λ l. l.below) e) c.pass_on.ensures;
    }
