use Rattle.std.proofs.Common.{◌≡◌, arith, subst, take}
use Rattle.js_names.specs.Code.{trees_of}
use Rattle.page_load.specs.Queues.{IsQueued, libraries_works, programs_of}
use Rattle.page_load.proofs.Growing.{queued_more, queued_none}
use Rattle.page_load.proofs.queues.push_libraries.Goals as goal

pub libs-init : goal.libs-init
libs-init c = record { few = omega arith; queued = queued_none (trees_of c.args.codes.now) c.args.queue.now.items }

pub libs-preserved : goal.libs-preserved
libs-preserved c = record {
  few = omega (arith, c.libs-test.true);
  queued = queued_more c.args.codes.now c.libs.n (trees_of c.args.codes.now) c.args.queue.now.items c.libs.queue.items c.push_library.new.queue.items (omega (arith, c.libs-test.true, c.requires)) c.libs.invariant.queued c.in_ok-push_library.ensures;
}

pub returns : goal.returns
returns c =
    let all : c.libs.n ≡ c.args.many = omega (arith, c.libs.invariant.few, c.libs-test.false) in
    subst (λ n. IsQueued (trees_of c.args.codes.now) c.args.queue.now.items c.libs.queue.items (libraries_works (programs_of (take n c.args.codes.now)))) all c.libs.invariant.queued
