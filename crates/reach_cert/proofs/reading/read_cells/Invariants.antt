use Rattle.std.proofs.Common.{◌≡◌, List, [], map, length}
use Rattle.reach_cert.specs.Certs.{Slot, row_of}
use Rattle.reach_cert.specs.Machine.{Inside, goes, Later}
use Rattle.reach_cert.proofs.reading.read_cells.Given as goal

abbrev pub invariant-each : goal.invariant-each
invariant-each l = record {
  later : Later l.fn.lines l.lines;
  read : (slots : List Slot) → goes (Inside slots l.own []) l.fn.lines.lines ≡ goes (Inside slots l.own (map row_of l.cells.items)) l.lines.lines;
}

abbrev pub decreases-each : goal.decreases-each
decreases-each l = length l.lines.lines
