use Rattle.std.proofs.Common.{refl, length, arith}
use Rattle.std.proofs.lemmas.Option.{slice_get_read}
use Rattle.store_cells.specs.Numbered.{numbered_two}
use Rattle.store_cells.proofs.Lists.{write_ok}
use Rattle.store_table.proofs.table.write_two_at.Goals as goal

pub returns-clause-ok : goal.returns-clause-ok
returns-clause-ok c =
    let cs = c.args.cells.now.items in
    let x = c.index_mut-cell.result.now in
    write_ok c.write_two.result cs c.args.i x c.write_two.new.self (numbered_two c.args.n c.args.value 0 c.args.other c.args.end) (slice_get_read cs (length cs) c.args.i x refl (omega (arith, c.requires, c.args.cells.now.ok.0)) c.index_mut-cell.ensures.value) c.write_two.ensures.ok
