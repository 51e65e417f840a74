use Rattle.std.proofs.Common.{◌∙◌, Option, ap, subst}
use Rattle.std.specs.Prelude.{IfSome}
use Rattle.std.proofs.lemmas.Option.{IfSome_then}
use Rattle.js_tree.specs.Trees.{trees}
use Rattle.js_tree.specs.Forest.{plain_form}
use Rattle.js_tree.specs.declared.nodes.Expr.{Expr}
use Rattle.store_cells.specs.declared.value.Value.{Value}
use Rattle.widget_meaning.specs.Expressions.{expression}
use Rattle.widget_meaning.specs.Meaning.{body}
use Rattle.widget_meaning.specs.Plan.{Do, Ret}
use Rattle.widget_meaning.specs.Values as meaning
use Rattle.widget_meaning.proofs.Runs.{and_then_ret}
use Rattle.js_image.specs.Image.{Rest, image, seen}
use Rattle.js_names.specs.Code.{trees_of}
use Rattle.js_flow.specs.declared.frame.Frame.TheVariants as frame
use Rattle.js_flow.specs.declared.frame.FormFrame.TheVariants as form
use Rattle.js_flow.specs.declared.job.Job.TheVariants as job
use Rattle.js_flow.specs.Frames.{taken}
use Rattle.js_flow.specs.Parts.{forest_at}
use Rattle.js_flow.specs.Views.{job_of, place_of}
use Rattle.js_direct.specs.Reduces.{Reduces}
use Rattle.js_direct.proofs.Reaching.{at_eval}
use Rattle.js_direct.proofs.Reducing.{paid, starts}
use Rattle.js_direct.proofs.summing.compared.Goals as goal

pub returns-in-Binary-clause-paid : goal.returns-in-Binary-clause-paid
returns-in-Binary-clause-paid c =
    let fs = trees_of c.args.here.now.site.now.codes.now.items in
    let w = c.args.here.now.site.now.widget in
    let s = c.args.store.now in
    let at = c.args.here.now.at in
    let f = trees c.args.here.now.tree.now in
    let g = forest_at fs at.code in
    let pl = place_of w s.cells at in
    let j = job_of fs w s.cells (job.Eval c.args.e at) in
    IfSome_then c.told.result c.told.ensures
    (λ b h r. let x = image fs r w s in
    paid 2 j x Ret _ (starts 2 _ _ _
    (and_then_ret (body j x) ∙ at_eval fs at.code f c.args.e c.expr.result.now c.requires.tree c.expr.ensures.same pl x ∙ ap (λ (e : Expr). expression (plain_form g e) pl x) c.in-Binary.is)
    (subst (λ (o : Option Value). IfSome o (λ v. (q : Rest) → Reduces 2 (Do (job_of fs w s.cells (job.Eval c.in-Binary.a at)) (image fs q w s) (taken fs w s.cells (frame.Form (form.Right c.in-Binary.op c.in-Binary.b at)))) (Ret (meaning.Is (seen w s.cells v)) (image fs q w s)))) h c.computed.ensures.paid r)))
