use Rattle.std.proofs.Common.{◌-◌, [], arith, length, subst, take}
use Rattle.js_names.specs.Code.{trees_of}
use Rattle.page_load.specs.Queues.{IsQueued, libraries_works, programs_of}
use Rattle.page_load.proofs.Growing.{all_queued}
use Rattle.page_load.proofs.queues.load_turns.Goals as goal

pub returns-clause-queued : goal.returns-clause-queued
returns-clause-queued c = λ libs script are.
    let codes = c.args.codes.now in
    let fs = trees_of codes in
    let mid = c.push_libraries.new.queue.items in
    all_queued codes libs script are fs [] mid c.push_go.new.queue.items (length codes - 1) (omega (arith, c.requires))
    (subst (λ q. IsQueued fs q mid (libraries_works (programs_of (take (length codes - 1) codes)))) c.new-queue.ensures.items c.in_ok-push_libraries.ensures) c.in_ok-push_go.ensures

pub returns-clause-few : goal.returns-clause-few
returns-clause-few c = omega (arith, c.if-codes-gt-MOST_SCRIPTS.false)
