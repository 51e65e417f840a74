use Rattle.std.proofs.Common.{◌≡◌, map, take}
use Rattle.reach_cert.specs.Certs.{slot_of}
use Rattle.slot_reach.specs.Lasts.{slot_read}
use Rattle.slot_reach.proofs.slots.read_slots.Given as goal

-- the slots before
abbrev pub invariant-each : goal.invariant-each
invariant-each l = map slot_of l.blocks.items ≡ map (slot_read l.names l.lives) (take l.slot-index l.slots)
