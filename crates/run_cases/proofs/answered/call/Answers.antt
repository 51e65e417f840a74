use Rattle.js_names.specs.Code.{trees_of}
use Rattle.run_cases.proofs.Tasks.{first_ready}
use Rattle.run_cases.proofs.answered.call.Goals as goal

pub finish-requires-clause-ready : goal.finish-requires-clause-ready
finish-requires-clause-ready c =
    let fs = trees_of c.args.codes.now.items in
    let func = rw c.in-Cell.is at c.in_ok-func.ensures.fine in
    let held = c.in_ok-task.ensures.held fs 0 c.make.new.store func tt in
    first_ready c.args.codes.now.items c.args.store.now c.make.new.store c.in_ok-task.task c.requires.first
    (c.make.ensures.kept fs c.requires.function) c.in_ok-task.ensures.widget held
