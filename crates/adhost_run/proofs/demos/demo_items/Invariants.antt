use Rattle.std.proofs.Common.{◌≡◌, ◌+◌, ◌-◌, ◌<◌, ◌++◌, map}
use Rattle.std.specs.Prelude.{◌^◌}
use Rattle.trace_reader.specs.Said.{said}
use Rattle.adhost_run.specs.Demo.{demo_from, demo_items}
use Rattle.adhost_run.proofs.demos.demo_items.Given as goal

abbrev pub invariant-items : goal.invariant-items
invariant-items l = record {
  below : l.x < 2 ^ 31;
  rest : map said l.items.items ++ demo_from l.x (l.i + 1) (l.fn.count - l.i) ≡ demo_items l.fn.count;
}
