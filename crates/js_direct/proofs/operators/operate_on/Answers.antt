use Rattle.std.proofs.Common.{arith}
use Rattle.widget_meaning.specs.Expressions.{operate}
use Rattle.js_image.specs.Image.{image, seen}
use Rattle.js_names.specs.Code.{trees_of}
use Rattle.js_direct.proofs.FormFrames.{gives_value}
use Rattle.js_direct.proofs.operators.operate_on.Goals as goal

pub returns-in-Some-clause-comes : goal.returns-in-Some-clause-comes
returns-in-Some-clause-comes c =
    let fs = trees_of c.args.site.now.codes.now.items in
    let w = c.args.site.now.widget in
    let s = c.args.store.now in
    gives_value fs w s s 8 (operate c.args.op (seen w s.cells c.args.left.now) (seen w s.cells c.args.out.now) c.args.depth) c.args.run.now c.in-Some.value c.requires.ready.2
    (λ r. c.in-Some.ensures.gives w s.cells c.args.depth (image fs r w s)) (c.in-Some.ensures.fine w s.cells) (omega arith)
