use Rattle.std.proofs.Common.{◌≡◌, map, take}
use Rattle.slot_check.specs.Verdicts.{sources_of}
use Rattle.adhost_run.specs.Demo.{counter_of}
use Rattle.adhost_run.proofs.demos.counters.Given as goal

abbrev pub invariant-names : goal.invariant-names
invariant-names l = sources_of l.files.items ≡ map (λ n. counter_of n.now) (take l.name-index l.names)
