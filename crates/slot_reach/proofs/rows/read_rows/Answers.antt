use Rattle.std.proofs.Common.{ap, arith, length, map, ◌<◌, ◌∙◌}
use Rattle.std.proofs.lemmas.List.{take_all}
use Rattle.reach_cert.specs.Certs.{row_of}
use Rattle.store_cells.specs.Cells.{is_visible}
use Rattle.slot_reach.specs.Reads.{cell_row, cell_rows}
use Rattle.slot_reach.proofs.Steps.{more_rows}
use Rattle.slot_reach.proofs.rows.read_rows.Goals as goal

pub cells-preserved : goal.cells-preserved
cells-preserved c =
    let cells = c.args.store.now.cells in
    let within : c.cells.cell < length cells = omega (arith, c.cells-test.true, c.in_ok-cell-end.ensures) in
    more_rows (is_visible c.args.w) (cell_row c.args.names.now cells) cells c.cells.cell (map row_of c.cells.rows.items) (map row_of c.push_row.new.rows.items) within c.cells.invariant c.in_ok-push_row.ensures

pub returns : goal.returns
returns c =
    let cells = c.args.store.now.cells in
    c.cells.invariant ∙ ap (cell_rows c.args.names.now cells c.args.w) (take_all c.cells.cell cells (omega (arith, c.cells-test.false, c.in_ok-cell-end.ensures)))
