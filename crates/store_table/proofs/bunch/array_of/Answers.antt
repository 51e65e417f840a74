use Rattle.std.proofs.Common.{◌<◌, ◌^◌, arith, length, refl}
use Rattle.std.specs.Fmt.{decimal}
use Rattle.store_cells.proofs.Elements.{array_more}
use Rattle.store_table.proofs.bunch.array_of.Goals as goal

pub loop-at-preserved : goal.loop-at-preserved
loop-at-preserved c =
    let names = c.args.names.now in
    let i = c.loop-at.invariant in
    let w = c.in_ok-write_element.ensures in
    let at = c.loop-at.at in
    let vs = c.args.values.now in
    let lt : at < length vs = omega (arith, c.loop-at-test.true) in
    let small : at < 2 ^ 64 = omega (arith, lt, c.requires.few) in
    array_more names names c.args.head (length vs) vs at c.in_ok-value.value (decimal at) c.loop-at.cell c.write_element.new.cell i lt small refl c.in_ok-value.ensures w.known w.head (w.indexed i.indexed) (w.counted i.counted) w.done

pub write_element-requires-clause-index : goal.write_element-requires-clause-index
write_element-requires-clause-index c = omega (arith, c.loop-at-test.true, c.requires.few)
