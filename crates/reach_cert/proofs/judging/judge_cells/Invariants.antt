use Rattle.std.proofs.Common.{length}
use Rattle.reach_cert.specs.Judged.{AreCells}
use Rattle.reach_cert.proofs.judging.judge_cells.Given as goal

abbrev pub invariant-each : goal.invariant-each
invariant-each l = AreCells l.own l.fn.lines l.lines l.needs.items

abbrev pub decreases-each : goal.decreases-each
decreases-each l = length l.lines.lines
