use Rattle.std.proofs.Common.{sym, subst}
use Rattle.std.proofs.lemmas.Option.{IfSome_then}
use Rattle.js_tree.specs.Forest.{expr_at}
use Rattle.js_tree.specs.declared.nodes.UnOp.{UnOp}
use Rattle.widget_meaning.specs.Expressions.{prefix_form}
use Rattle.widget_meaning.specs.Plan.{Ret}
use Rattle.widget_meaning.specs.Values as meaning
use Rattle.js_image.specs.Image.{image}
use Rattle.js_names.specs.Code.{trees_of}
use Rattle.js_flow.specs.Parts.{forest_at}
use Rattle.js_flow.specs.Views.{place_of}
use Rattle.js_direct.specs.Reduces.{Reduces}
use Rattle.js_direct.proofs.Adding.{plus_gives}
use Rattle.js_direct.proofs.summing.counted.Goals as goal

pub returns-in-Plus-clause-paid : goal.returns-in-Plus-clause-paid
returns-in-Plus-clause-paid c =
    let fs = trees_of c.args.here.now.site.now.codes.now.items in
    let w = c.args.here.now.site.now.widget in
    let s = c.args.store.now in
    let e = expr_at (forest_at fs c.args.here.now.at.code) c.args.e in
    let pl = place_of w s.cells c.args.here.now.at in
    IfSome_then c.right_side.result c.right_side.ensures
    (λ y h r. subst (λ (op : UnOp). Reduces 1 (prefix_form op e pl (image fs r w s)) (Ret (meaning.Is (meaning.Num y)) (image fs r w s))) (sym c.in-Plus.is) (plus_gives e pl y (image fs r w s) (h r)))
