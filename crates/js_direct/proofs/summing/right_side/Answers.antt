use Rattle.std.proofs.Common.{ap, sym, ◌∙◌}
use Rattle.std.proofs.lemmas.Option.{IfSome_then}
use Rattle.js_tree.specs.Trees.{trees}
use Rattle.js_tree.specs.Forest.{plain_form}
use Rattle.js_tree.specs.declared.nodes.Expr.{Expr}
use Rattle.widget_meaning.specs.Expressions.{expression, literal}
use Rattle.widget_meaning.specs.Plan.{Ret}
use Rattle.widget_meaning.specs.Values as meaning
use Rattle.js_image.specs.Image.{image, seen}
use Rattle.js_names.specs.Code.{trees_of}
use Rattle.js_flow.specs.Parts.{forest_at}
use Rattle.js_flow.specs.Views.{place_of}
use Rattle.js_direct.proofs.Reaching.{at_eval}
use Rattle.js_direct.proofs.summing.right_side.Goals as goal

pub returns-in-Num : goal.returns-in-Num
returns-in-Num c =
    let fs = trees_of c.args.here.now.site.now.codes.now.items in
    let w = c.args.here.now.site.now.widget in
    let s = c.args.store.now in
    let code = c.args.here.now.at.code in
    let pl = place_of w s.cells c.args.here.now.at in
    IfSome_then c.whole_read.result c.whole_read.ensures
    (λ y h r. at_eval fs code (trees c.args.here.now.tree.now) c.args.e c.expr.result.now c.requires.tree c.expr.ensures.same pl (image fs r w s)
    ∙ ap (λ (e : Expr). expression (plain_form (forest_at fs code) e) pl (image fs r w s)) c.in-Num.is
    ∙ ap (λ n. Ret (meaning.Is (literal n)) (image fs r w s)) (sym c.number.ensures ∙ h))

pub returns-in-Name : goal.returns-in-Name
returns-in-Name c =
    let fs = trees_of c.args.here.now.site.now.codes.now.items in
    let w = c.args.here.now.site.now.widget in
    let s = c.args.store.now in
    let code = c.args.here.now.at.code in
    let pl = place_of w s.cells c.args.here.now.at in
    IfSome_then c.whole_at.result c.whole_at.ensures
    (λ y h r. at_eval fs code (trees c.args.here.now.tree.now) c.args.e c.expr.result.now c.requires.tree c.expr.ensures.same pl (image fs r w s)
    ∙ ap (λ (e : Expr). expression (plain_form (forest_at fs code) e) pl (image fs r w s)) c.in-Name.is
    ∙ ap (λ v. Ret (meaning.Is v) (image fs r w s)) (sym (c.variable_at.ensures.found fs r w c.args.here.now.at.depth c.requires.confined c.requires.held.0.1) ∙ ap (seen w s.cells) h))
