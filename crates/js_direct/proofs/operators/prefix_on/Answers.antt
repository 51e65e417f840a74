use Rattle.std.proofs.Common.{arith}
use Rattle.widget_meaning.specs.Expressions.{unary_on}
use Rattle.js_image.specs.Image.{image, seen}
use Rattle.js_names.specs.Code.{trees_of}
use Rattle.js_flow.specs.Views.{place_of}
use Rattle.js_direct.proofs.Handing.{is_shared}
use Rattle.js_direct.proofs.operators.prefix_on.Goals as goal

pub returns-in-Some-clause-comes : goal.returns-in-Some-clause-comes
returns-in-Some-clause-comes c =
    let fs = trees_of c.args.here.now.site.now.codes.now.items in
    let w = c.args.here.now.site.now.widget in
    let s = c.args.store.now in
    let pl = place_of w s.cells c.args.here.now.at in
    is_shared fs w s 4 (unary_on c.args.op (seen w s.cells c.args.out.now) pl) c.args.run.now c.in-Some.value c.set_value.new.out c.set_value.ensures c.requires.ready.2
    (λ r. c.in-Some.ensures.gives w s.cells pl (image fs r w s)) (c.in-Some.ensures.fine w s.cells) (omega arith)
