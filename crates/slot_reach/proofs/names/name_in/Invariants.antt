use Rattle.std.proofs.Common.{◌≡◌, drop}
use Rattle.slot_reach.specs.Lasts.{name_in}
use Rattle.slot_reach.proofs.names.name_in.Given as goal

-- none of the slots before has it as its last life
abbrev pub invariant-each : goal.invariant-each
invariant-each l = name_in l.slots l.v ≡ name_in (drop l.slot-index l.slots) l.v
