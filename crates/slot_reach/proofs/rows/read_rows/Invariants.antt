use Rattle.std.proofs.Common.{◌≡◌, map, take}
use Rattle.reach_cert.specs.Certs.{row_of}
use Rattle.slot_reach.specs.Reads.{cell_rows}
use Rattle.slot_reach.proofs.rows.read_rows.Given as goal

-- the cells before
abbrev pub invariant-cells : goal.invariant-cells
invariant-cells l = map row_of l.rows.items ≡ cell_rows l.names l.store.cells l.w (take l.cell l.store.cells)
