use Rattle.std.proofs.Common.{map, length}
use Rattle.reach_cert.specs.Blocks.{words_of, AreBlocks}
use Rattle.reach_cert.specs.Certs.{slot_of}
use Rattle.reach_cert.proofs.reading.read_blocks.Given as goal

abbrev pub invariant-each : goal.invariant-each
invariant-each l = AreBlocks (words_of l.names.items) l.fn.lines l.lines (map slot_of l.blocks.items)

abbrev pub decreases-each : goal.decreases-each
decreases-each l = length l.lines.lines
