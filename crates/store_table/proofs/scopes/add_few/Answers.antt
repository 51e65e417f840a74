use Rattle.std.proofs.Common.{refl}
use Rattle.store_cells.specs.First.{first_values}
use Rattle.store_cells.proofs.Filled.{cell_ok, filled_fine, kept_after, kept_err}
use Rattle.store_table.proofs.Scoped.{few_cell, few_plain, known_names, numbers_differ}
use Rattle.store_table.proofs.scopes.add_few.Goals as goal

pub returns-in_err-list-clause-err : goal.returns-in_err-list-clause-err
returns-in_err-list-clause-err c = kept_err c.args.names.now c.first_list.new.table c.first_list.ensures.grown c.first_list.ensures.table c.args.cells.now.items c.requires.base c.from_residual.result

pub push_few-requires-clause-distinct : goal.push_few-requires-clause-distinct
push_few-requires-clause-distinct c = numbers_differ c.first_list.new.table c.in_ok-list.list.items (first_values c.args.first.now) c.in_ok-list.ensures.done c.requires.distinct

pub push_few-requires-clause-names : goal.push_few-requires-clause-names
push_few-requires-clause-names c = known_names c.first_list.new.table c.in_ok-list.list.items c.first_list.ensures.table c.in_ok-list.ensures.known

pub returns-clause-ok : goal.returns-clause-ok
returns-clause-ok c =
    let b = c.in_ok-list.ensures in
    let new = c.first_list.new.table in
    let cs = c.args.cells.now.items in
    let h = c.args.head in
    let pairs = first_values c.args.first.now in
    let cell = few_cell h c.in_ok-list.list.items in
    let is = few_plain new h c.in_ok-list.list.items pairs b.done in
    cell_ok c.args.names.now new c.first_list.ensures.grown c.first_list.ensures.table cs c.requires.base h pairs cell refl is (filled_fine new _ h pairs cell b.known refl is c.requires.other c.requires.refs) c.requires.ordered c.push_few.result c.push_few.new.cells.items c.push_few.ensures.ok

pub returns-clause-err : goal.returns-clause-err
returns-clause-err c = kept_after c.args.names.now c.first_list.new.table c.first_list.ensures.grown c.first_list.ensures.table c.args.cells.now.items c.requires.base c.push_few.new.cells.items c.push_few.result c.push_few.ensures.err
