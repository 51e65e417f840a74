use Rattle.std.proofs.Common.{List, length}
use Rattle.std.specs.List.{flat_map}
use Rattle.reach_cert.specs.Blocks.{words_of, AreBlocks}
use Rattle.reach_cert.specs.Certs.{Slot}
use Rattle.reach_cert.specs.Judged.{IsLeak}
use Rattle.reach_cert.specs.Walks.{slot_leaks}
use Rattle.reach_cert.proofs.judging.judge_blocks.Given as goal

abbrev pub invariant-each : goal.invariant-each
invariant-each l = (slots : List Slot) × AreBlocks (words_of l.names.items) l.fn.lines l.lines slots × IsLeak l.fn.lines.number l.lines.number (flat_map slot_leaks slots) l.leak

abbrev pub decreases-each : goal.decreases-each
decreases-each l = length l.lines.lines
