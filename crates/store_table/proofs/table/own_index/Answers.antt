use Rattle.std.proofs.Common.{◌≡◌, List, Some, ap, arith, length, refl, subst}
use Rattle.std.specs.Fmt.{decimal}
use Rattle.std.specs.Prelude.{OnErr, OnOk}
use Rattle.keyed_names.proofs.Interning.{interns_same}
use Rattle.store_cells.specs.Lists.{changed}
use Rattle.store_cells.specs.Numbered.{NumberedCell, numbered_written}
use Rattle.store_cells.proofs.Writes.{kept_err, wrote_own}
use Rattle.store_table.proofs.Gifts.{on_err}
use Rattle.store_table.proofs.table.own_index.Goals as goal

pub returns-clause-ok : goal.returns-clause-ok
returns-clause-ok c =
    let names = c.args.names.now in
    let name = decimal c.args.at in
    wrote_own names names name c.args.n (interns_same names name (Some c.args.n) c.args.n c.requires.number refl) c.requires.base.table c.args.cells.now.items c.write_at.new.cells.items c.requires.base c.args.i c.write_at.result c.args.value c.requires.value c.args.end c.requires.plan (subst (λ (l : List NumberedCell). OnOk c.write_at.result (c.write_at.new.cells.items ≡ changed l c.args.i (numbered_written c.args.n c.args.value c.args.end))) c.make_places.ensures c.write_at.ensures.ok)

pub returns-clause-err : goal.returns-clause-err
returns-clause-err c =
    let names = c.args.names.now in
    let name = decimal c.args.at in
    kept_err names names name c.args.n (interns_same names name (Some c.args.n) c.args.n c.requires.number refl) c.requires.base.table c.args.cells.now.items c.write_at.new.cells.items c.requires.base c.args.i c.write_at.result (subst (λ (l : List NumberedCell). OnErr c.write_at.result (c.write_at.new.cells.items ≡ l)) c.make_places.ensures c.write_at.ensures.err)

pub returns-in_err-make_places-clause-err : goal.returns-in_err-make_places-clause-err
returns-in_err-make_places-clause-err c =
    let names = c.args.names.now in
    let name = decimal c.args.at in
    kept_err names names name c.args.n (interns_same names name (Some c.args.n) c.args.n c.requires.number refl) c.requires.base.table c.args.cells.now.items c.make_places.new.cells.items c.requires.base c.args.i c.from_residual.result (on_err c.from_residual.result c.make_places.ensures)

pub write_at-requires : goal.write_at-requires
write_at-requires c = omega (arith, c.requires.at, ap (λ (l : List NumberedCell). length l) c.make_places.ensures, c.args.cells.now.ok.0, c.make_places.new.cells.ok.0)
