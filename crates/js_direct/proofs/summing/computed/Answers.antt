use Rattle.std.proofs.Common.{◌≡◌, rules, sym, ◌∙◌}
use mir.Val.{of_z, to_z}
use mir.Syntax.{w64}
use Rattle.std.proofs.lemmas.Option.{IfSome_then}
use Rattle.js_tree.specs.Forest.{expr_at}
use Rattle.widget_meaning.specs.Expressions.{operate}
use Rattle.widget_meaning.specs.Values as meaning
use Rattle.js_image.specs.Image.{image, seen}
use Rattle.js_names.specs.Code.{trees_of}
use Rattle.js_flow.specs.Parts.{forest_at}
use Rattle.js_flow.specs.Views.{place_of}
use Rattle.js_direct.proofs.Adding.{operated}
use Rattle.js_direct.proofs.summing.computed.Goals as goal

pub right_side-requires-clause-confined : goal.right_side-requires-clause-confined
right_side-requires-clause-confined c = c.requires.confined

pub right_side-requires-clause-held : goal.right_side-requires-clause-held
right_side-requires-clause-held c = c.requires.held.0

pub right_side-requires-2-clause-confined : goal.right_side-requires-2-clause-confined
right_side-requires-2-clause-confined c = c.requires.confined

pub right_side-requires-2-clause-held : goal.right_side-requires-2-clause-held
right_side-requires-2-clause-held c = c.requires.held.1

pub returns-clause-paid : goal.returns-clause-paid
returns-clause-paid c =
    let fs = trees_of c.args.here.now.site.now.codes.now.items in
    let w = c.args.here.now.site.now.widget in
    let s = c.args.store.now in
    let at = c.args.here.now.at in
    let g = forest_at fs at.code in
    let pl = place_of w s.cells at in
    let x = c.in_ok-x.x in
    let y = c.in_ok-y.y in
    let x_same : to_z w64 (of_z w64 x) ≡ x = search rules in
    let y_same : to_z w64 (of_z w64 y) ≡ y = search rules in
    IfSome_then c.on_wholes.result c.on_wholes.ensures.gives
    (λ v h r. operated c.args.op (expr_at g c.args.parts.0) (expr_at g c.args.parts.1) pl x y (seen w s.cells v) (image fs r w s) (c.in_ok-x.ensures r) (c.in_ok-y.ensures r)
    ((λ i. operate c.args.op (meaning.Num (sym x_same i)) (meaning.Num (sym y_same i)) pl.depth (image fs r w s)) ∙ h w s.cells pl.depth (image fs r w s)))

pub returns-clause-fine : goal.returns-clause-fine
returns-clause-fine c = IfSome_then c.on_wholes.result c.on_wholes.ensures.fine (λ v h. h c.args.here.now.site.now.widget c.args.store.now.cells)
