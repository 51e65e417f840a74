use Rattle.std.proofs.Common.{◌≡◌, ◌+◌, Some, arith, refl}
use Rattle.std.specs.Fmt.{decimal}
use Rattle.keyed_names.proofs.Interning.{interns_same}
use Rattle.store_cells.specs.Arrays.{end_of}
use Rattle.store_cells.proofs.Elements.{element_end, reference_counted, reference_done, reference_indexed, reference_known}
use Rattle.store_table.proofs.Gifts.{on_ok_given}
use Rattle.store_table.proofs.table.write_element.Goals as goal

pub returns-clause-known : goal.returns-clause-known
returns-clause-known c =
    let names = c.args.names.now in
    let name = decimal c.args.at in
    let n = c.of_index-n.result in
    let is = interns_same names name (Some n) n (c.of_index-n.ensures.number, c.of_index-n.ensures.within) refl in
    reference_known names names name n (c.args.at + 1) is c.requires.table c.args.cell.now c.args.value c.requires.known c.write.result c.write.new.self c.write.ensures.ok

pub returns-clause-done : goal.returns-clause-done
returns-clause-done c =
    let names = c.args.names.now in
    let name = decimal c.args.at in
    let n = c.of_index-n.result in
    let is = interns_same names name (Some n) n (c.of_index-n.ensures.number, c.of_index-n.ensures.within) refl in
    reference_done names names name n (c.args.at + 1) is c.requires.table c.args.cell.now c.args.value c.requires.known c.write.result c.write.new.self c.write.ensures.ok

pub returns-clause-indexed : goal.returns-clause-indexed
returns-clause-indexed c =
    let names = c.args.names.now in
    let name = decimal c.args.at in
    let n = c.of_index-n.result in
    let is = interns_same names name (Some n) n (c.of_index-n.ensures.number, c.of_index-n.ensures.within) refl in
    let end : c.args.at + 1 ≡ end_of name = element_end c.args.at (omega (arith, c.requires.index)) in
    on_ok_given _ c.write.result end (reference_indexed names names name n (c.args.at + 1) is c.requires.table c.args.cell.now c.args.value c.requires.known c.write.result c.write.new.self c.write.ensures.ok)

pub returns-clause-counted : goal.returns-clause-counted
returns-clause-counted c =
    let names = c.args.names.now in
    let name = decimal c.args.at in
    let n = c.of_index-n.result in
    let is = interns_same names name (Some n) n (c.of_index-n.ensures.number, c.of_index-n.ensures.within) refl in
    let end : c.args.at + 1 ≡ end_of name = element_end c.args.at (omega (arith, c.requires.index)) in
    on_ok_given _ c.write.result end (reference_counted names names name n (c.args.at + 1) is c.requires.table c.args.cell.now c.args.value c.requires.known c.write.result c.write.new.self c.write.ensures.ok)
