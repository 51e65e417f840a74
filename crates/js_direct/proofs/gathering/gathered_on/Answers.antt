use Rattle.std.proofs.Common.{arith}
use Rattle.std.proofs.lemmas.Result.{IfOk-weaker}
use Rattle.js_names.specs.Code.{trees_of}
use Rattle.js_flow.specs.Free.{left_free}
use Rattle.js_calls.specs.Called.{gather_left}
use Rattle.js_direct.proofs.Parts.{more}
use Rattle.js_direct.proofs.gathering.gathered_on.Goals as goal

pub returns-clause-comes : goal.returns-clause-comes
returns-clause-comes c =
    let fs = trees_of c.args.site.now.codes.now.items in
    let w = c.args.site.now.widget in
    let old = c.args.store.now in
    let new = c.gather.new.store in
    let left = c.in_ok-gather.ensures in
    IfOk-weaker c.handed.result _ _
    (λ how x. more fs w old new (left_free c.gather.new.flow) 15 (gather_left w old.cells c.args.g.value) c.args.run.now c.handed.new.run how _
    (x fs w old new (gather_left w old.cells c.args.g.value) left.plan left.fine (omega (arith, left.near))) (omega (arith, left.near)))
    c.handed.ensures.comes
