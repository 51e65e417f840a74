use Rattle.std.proofs.Common.{◌≡◌, drop}
use Rattle.std.specs.List.{list_any}
use Rattle.bunch_read.specs.Values.{is_long}
use Rattle.bunch_read.proofs.texts.any_long.Given as goal

abbrev pub invariant-loop-v : goal.invariant-loop-v
invariant-loop-v l = list_any is_long (drop l.v-index l.values) ≡ list_any is_long l.values
