use Rattle.std.proofs.Common.{subst}
use Rattle.js_names.specs.Code.{trees_of}
use Rattle.page_load.specs.Queues.{IsScriptIn, program_with}
use Rattle.page_load.proofs.Growing.{none_go, push_go}
use Rattle.page_load.proofs.queues.push_go.Goals as goal

pub returns-in_ok-push_back : goal.returns-in_ok-push_back
returns-in_ok-push_back c =
    let fs = trees_of c.args.codes.now in
    let p = program_with c.args.codes.now c.args.n in
    push_go fs p c.args.queue.now.items c.in-Some.script (subst (IsScriptIn fs p) c.in-Some.is c.in_ok-script.ensures) c.push_back.new.self.items c.in_ok-push_back.ensures.items

pub returns-in_default : goal.returns-in_default
returns-in_default c =
    let fs = trees_of c.args.codes.now in
    let p = program_with c.args.codes.now c.args.n in
    none_go fs p c.args.queue.now.items (subst (IsScriptIn fs p) c.in_default.is c.in_ok-script.ensures)
