use Rattle.std.proofs.Common.{subst}
use Rattle.std.specs.Prelude.{IfOk}
use Rattle.store_cells.specs.declared.value.Value.{Value}
use Rattle.widget_meaning.specs.Expressions.{operate}
use Rattle.js_image.specs.Image.{seen}
use Rattle.js_names.specs.Code.{trees_of}
use Rattle.js_direct.specs.Comes.{Comes}
use Rattle.js_direct.proofs.operators.operate_by_frames.Goals as goal

pub returns-clause-comes : goal.returns-clause-comes
returns-clause-comes c =
    let fs = trees_of c.args.site.now.codes.now.items in
    let w = c.args.site.now.widget in
    let old = c.args.store.now in
    subst (λ (v : Value). IfOk c.taken_by_frames.result (λ h. Comes fs w old c.taken_by_frames.new.store 8 (operate c.args.op (seen w old.cells v) (seen w old.cells c.args.out.now) c.args.depth) c.args.run.now c.taken_by_frames.new.run h c.taken_by_frames.new.out))
    c.in_ok-share.ensures c.taken_by_frames.ensures.comes
