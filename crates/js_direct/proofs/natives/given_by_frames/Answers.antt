use Rattle.std.proofs.Common.{arith}
use Rattle.std.proofs.lemmas.Result.{IfOk-weaker}
use Rattle.js_names.specs.Code.{trees_of}
use Rattle.js_flow.specs.Free.{left_free}
use Rattle.js_calls.specs.Called.{given}
use Rattle.js_direct.proofs.Parts.{more}
use Rattle.js_direct.proofs.natives.given_by_frames.Goals as goal

pub returns-clause-comes : goal.returns-clause-comes
returns-clause-comes c =
    let fs = trees_of c.args.site.now.codes.now.items in
    let w = c.args.site.now.widget in
    let old = c.args.store.now in
    let new = c.answer.new.store in
    let left = c.in_ok-answer.ensures in
    IfOk-weaker c.handed.result _ _
    (λ how x node. more fs w old new (left_free c.answer.new.flow) 15 (given w old.cells node c.args.depth c.args.found) c.args.run.now c.handed.new.run how _
    (x fs w old new (given w old.cells node c.args.depth c.args.found) (left.plan node) left.fine (omega (arith, left.near))) left.near)
    c.handed.ensures.comes
