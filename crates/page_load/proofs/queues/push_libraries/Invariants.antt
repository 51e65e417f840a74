use Rattle.std.proofs.Common.{◌≤◌, take}
use Rattle.js_names.specs.Code.{trees_of}
use Rattle.page_load.specs.Queues.{IsQueued, libraries_works, programs_of}
use Rattle.page_load.proofs.queues.push_libraries.Given as goal

abbrev pub invariant-libs : goal.invariant-libs
invariant-libs l = record {
  few : l.n ≤ l.many;
  queued : IsQueued (trees_of l.codes) l.initial.queue.items l.queue.items (libraries_works (programs_of (take l.n l.codes)));
}
