use Rattle.std.proofs.Common.{◌≡◌, ℤ, rules, subst}
use mir.Val.{of_z, to_z}
use mir.Syntax.{w64}
use Rattle.std.proofs.lemmas.Option.{IfSome_then}
use Rattle.js_tree.specs.Forest.{expr_at}
use Rattle.js_image.specs.Image.{image}
use Rattle.js_names.specs.Code.{trees_of}
use Rattle.js_flow.specs.Parts.{forest_at}
use Rattle.js_flow.specs.Views.{place_of}
use Rattle.js_direct.specs.Adds.{Added, Adds}
use Rattle.js_direct.proofs.Adding.{summed}
use Rattle.js_direct.proofs.summing.added.Goals as goal

pub sum_at-requires-clause-confined : goal.sum_at-requires-clause-confined
sum_at-requires-clause-confined c = c.requires.confined

pub sum_at-requires-clause-place : goal.sum_at-requires-clause-place
sum_at-requires-clause-place c = c.requires.held.0.1

pub returns-clause-paid : goal.returns-clause-paid
returns-clause-paid c =
    let fs = trees_of c.args.here.now.site.now.codes.now.items in
    let w = c.args.here.now.site.now.widget in
    let s = c.args.store.now in
    let t = c.sum_at.new.store in
    let at = c.args.here.now.at in
    let x = c.args.name.now in
    let pl = place_of w s.cells at in
    let y = c.in_ok-y.y in
    let by = c.in_ok-more.more in
    let y_same : to_z w64 (of_z w64 y) ≡ y = search rules in
    let by_same : to_z w64 (of_z w64 by) ≡ by = search rules in
    let adds = subst (λ (k : ℤ). Adds c.args.by.0 k by) y_same c.in_ok-more.ensures in
    IfSome_then c.sum_at.result c.sum_at.ensures.sum
    (λ sum h r. summed c.args.by.0 (expr_at (forest_at fs at.code) c.args.by.1) pl x y by sum (image fs r w s) (image fs r w t) (c.in_ok-y.ensures r) adds
    (subst (λ (k : ℤ). Added pl x k sum (image fs r w s) (image fs r w t)) by_same (h r)))

pub returns-clause-none : goal.returns-clause-none
returns-clause-none c = c.sum_at.ensures.none

pub returns-clause-kept : goal.returns-clause-kept
returns-clause-kept c = c.sum_at.ensures.kept
