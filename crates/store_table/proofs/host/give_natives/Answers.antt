use Rattle.std.proofs.Common.{◌+◌, List, [], ap, sym, ◌∙◌, arith, length, get_or}
use Rattle.store_cells.specs.declared.value.Value.TheVariants as value
use Rattle.permitted_table.specs.declared.native.NativeId.TheVariants as native
use Rattle.permitted_table.specs.declared.table.Home.TheVariants as homes
use Rattle.store_cells.specs.Cells.{PlainCell}
use Rattle.store_cells.specs.Numbered.{cells_of}
use Rattle.store_table.specs.Bare.{CodeRow, given, home_place}
use Rattle.store_cells.specs.Host.{first_native}
use Rattle.permitted_table.specs.Natives.{number_of}
use Rattle.store_table.specs.Bare.{no_arrays}
use Rattle.store_table.proofs.Gifts.{pairs_fit, same_length, fold_more}
use Rattle.store_table.proofs.host.give_natives.Goals as goal

pub give-requires-clause-at : goal.give-requires-clause-at
give-requires-clause-at c =
    let d : CodeRow = (homes.Globals, record { ref_ptr = (0, 0); now = [] }, native.Bubble) in
    let fits = pairs_fit (λ (r : CodeRow). home_place r.0) (λ (r : CodeRow). first_native + number_of r.2) (length c.args.cells.now.items) c.args.rows.now c.requires.rows c.loop-home.home-index d c.loop-home-test.true in
    omega (arith, fits.0, same_length c.loop-home.cells.items c.args.cells.now.items c.loop-home.invariant.2, c.loop-home.cells.ok.0, c.home_of.ensures)

pub give-requires-clause-base : goal.give-requires-clause-base
give-requires-clause-base c = c.loop-home.invariant.1

pub give-requires-clause-plain : goal.give-requires-clause-plain
give-requires-clause-plain c = ap no_arrays c.loop-home.invariant.2 ∙ c.requires.plain

pub give-requires-clause-value : goal.give-requires-clause-value
give-requires-clause-value c =
    let d : CodeRow = (homes.Globals, record { ref_ptr = (0, 0); now = [] }, native.Bubble) in
    let fits = pairs_fit (λ (r : CodeRow). home_place r.0) (λ (r : CodeRow). first_native + number_of r.2) (length c.args.cells.now.items) c.args.rows.now c.requires.rows c.loop-home.home-index d c.loop-home-test.true in
    omega (arith, fits.1, same_length c.loop-home.cells.items c.args.cells.now.items c.loop-home.invariant.2, c.native_place.ensures)

pub loop-home-preserved : goal.loop-home-preserved
loop-home-preserved c =
    let wrote = c.in_ok-give.ensures in
    let d : CodeRow = (homes.Globals, record { ref_ptr = (0, 0); now = [] }, native.Bubble) in
    let r = get_or c.args.rows.now c.loop-home.home-index d in
    let more = fold_more given (λ (x : CodeRow). (home_place x.0, x.1.now, value.Ref (first_native + number_of x.2))) (cells_of c.args.names.now c.args.cells.now.items) c.args.rows.now c.loop-home.home-index d c.loop-home-test.true in (
      wrote.done ∙ (λ j. given (cells_of c.loop-home.names c.loop-home.cells.items) (c.home_of.ensures j, r.1.now, value.Ref (c.native_place.ensures j))) ∙ ap (λ (cs : List PlainCell). given cs (home_place r.0, r.1.now, value.Ref (first_native + number_of r.2))) c.loop-home.invariant.0 ∙ sym more,
      wrote.base,
      wrote.heads ∙ c.loop-home.invariant.2,
    )
