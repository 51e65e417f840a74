use Rattle.std.proofs.Common.{◌-◌, ◌≤◌, length, take}
use Rattle.host_io.specs.Lines.{IsLine}
use Rattle.host_io.proofs.cuts.line_len.Given as goal

abbrev pub invariant-bytes : goal.invariant-bytes
invariant-bytes l = (l.at ≤ length l.bytes) × IsLine (take l.at l.bytes)

abbrev pub decreases-bytes : goal.decreases-bytes
decreases-bytes l = length l.bytes - l.at
