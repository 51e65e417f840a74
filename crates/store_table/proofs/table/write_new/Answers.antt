use Rattle.store_cells.proofs.Elements.{reference_counted, reference_done, reference_indexed, reference_known}
use Rattle.store_table.proofs.table.write_new.Goals as goal

pub returns-clause-known : goal.returns-clause-known
returns-clause-known c =
    let e = c.in_ok-n.ensures in
    reference_known c.args.names.now c.number_or_new.new.names c.args.name.now c.in_ok-n.n c.args.end e.new e.table c.args.cell.now c.args.value c.requires.known c.write.result c.write.new.self c.write.ensures.ok

pub returns-clause-done : goal.returns-clause-done
returns-clause-done c =
    let e = c.in_ok-n.ensures in
    reference_done c.args.names.now c.number_or_new.new.names c.args.name.now c.in_ok-n.n c.args.end e.new e.table c.args.cell.now c.args.value c.requires.known c.write.result c.write.new.self c.write.ensures.ok

pub returns-clause-indexed : goal.returns-clause-indexed
returns-clause-indexed c =
    let e = c.in_ok-n.ensures in
    reference_indexed c.args.names.now c.number_or_new.new.names c.args.name.now c.in_ok-n.n c.args.end e.new e.table c.args.cell.now c.args.value c.requires.known c.write.result c.write.new.self c.write.ensures.ok

pub returns-clause-counted : goal.returns-clause-counted
returns-clause-counted c =
    let e = c.in_ok-n.ensures in
    reference_counted c.args.names.now c.number_or_new.new.names c.args.name.now c.in_ok-n.n c.args.end e.new e.table c.args.cell.now c.args.value c.requires.known c.write.result c.write.new.self c.write.ensures.ok
