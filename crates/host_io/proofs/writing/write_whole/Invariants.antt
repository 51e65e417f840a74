use Rattle.std.proofs.Common.{◌≡◌, ◌≤◌, ◌+◌, ◌-◌, length, take}
use Rattle.host_io.specs.Sink.{with_bytes}
use Rattle.host_io.proofs.writing.write_whole.Given as goal

abbrev pub invariant-pieces : goal.invariant-pieces
invariant-pieces g l = record {
  within : l.at ≤ length l.bytes;
  written : g.S.Sink.held l.sink ≡ with_bytes (g.S.Sink.held l.fn.sink) (take l.at l.bytes);
  count : g.S.Sink.faults l.fn.sink ≤ g.S.Sink.faults l.sink;
  room : length l.bytes ≤ g.S.Sink.takes l.fn.sink → length l.bytes ≤ g.S.Sink.takes l.sink + l.at;
  room_count : length l.bytes ≤ g.S.Sink.takes l.fn.sink → g.S.Sink.faults l.sink ≡ g.S.Sink.faults l.fn.sink;
}

abbrev pub decreases-pieces : goal.decreases-pieces
decreases-pieces g l = length l.bytes - l.at
