use Rattle.std.proofs.Common.{arith}
use Rattle.std.specs.Prelude.{◌+◌, length}
use Rattle.widget_meaning.specs.Limits.{max_cells, max_nodes, max_slots, max_units}
use Rattle.page_image.specs.Image.{own}
use Rattle.native_common.proofs.Loops.{over_no, over_yes}
use Rattle.native_image.specs.Weights.{amounts}
use Rattle.native_image.proofs.Weighed.{all_within, cells_over, nodes_over, slots_over, units_over}
use Rattle.native_image.proofs.weighing.weigh.Goals as goal

pub returns-then-bill-paid-clause-stop : goal.returns-then-bill-paid-clause-stop
returns-then-bill-paid-clause-stop c = λ u m e f fs x l b go.
    let k = c.counts-paid.result in
    units_over c.args.w.index c.args.store.now c.args.page.now k c.counts-paid.ensures.paid fs x l b u c.args.bill.cells c.args.bill.slots m go
    (over_yes max_units (k.units + u) (omega (arith, e)))

pub returns-then-bill-paid-2-clause-stop : goal.returns-then-bill-paid-2-clause-stop
returns-then-bill-paid-2-clause-stop c = λ u m e f fs x l b go.
    let k = c.counts-paid.result in
    cells_over c.args.w.index c.args.store.now c.args.page.now k c.counts-paid.ensures.paid fs x l b u c.args.bill.cells c.args.bill.slots m go
    (over_no max_units (k.units + u) (omega (arith, e)))
    (over_yes max_cells (k.cells + c.args.bill.cells) (omega arith))

pub returns-then-bill-paid-3-clause-stop : goal.returns-then-bill-paid-3-clause-stop
returns-then-bill-paid-3-clause-stop c = λ u m e f fs x l b go.
    let k = c.counts-paid.result in
    slots_over c.args.w.index c.args.store.now c.args.page.now k c.counts-paid.ensures.paid fs x l b u c.args.bill.cells c.args.bill.slots m go
    (over_no max_units (k.units + u) (omega (arith, e)))
    (over_no max_cells (k.cells + c.args.bill.cells) (omega arith))
    (over_yes max_slots (k.slots + c.args.bill.slots) (omega arith))

pub returns-then-bill-nodes-clause-stop : goal.returns-then-bill-nodes-clause-stop
returns-then-bill-nodes-clause-stop c = λ u m e f fs x l b go.
    let k = c.counts-paid.result in
    nodes_over c.args.w.index c.args.store.now c.args.page.now k c.counts-paid.ensures.paid fs x l b u c.args.bill.cells c.args.bill.slots m go
    (over_no max_units (k.units + u) (omega (arith, e)))
    (over_no max_cells (k.cells + c.args.bill.cells) (omega arith))
    (over_no max_slots (k.slots + c.args.bill.slots) (omega arith))
    (over_yes max_nodes (length (own c.args.page.now c.args.w.index) + m) (omega (arith, f, c.made-nodes.ensures.exact)))

pub returns-clause-due : goal.returns-clause-due
returns-clause-due c = λ u m e f fs x l b go.
    let k = c.counts-paid.result in
    all_within c.args.w.index c.args.store.now c.args.page.now k c.counts-paid.ensures.paid fs x l b u c.args.bill.cells c.args.bill.slots m go
    (over_no max_units (k.units + u) (omega (arith, e)))
    (over_no max_cells (k.cells + c.args.bill.cells) (omega arith))
    (over_no max_slots (k.slots + c.args.bill.slots) (omega arith))
    (over_no max_nodes (length (own c.args.page.now c.args.w.index) + m) (omega (arith, f, c.made-nodes.ensures.exact)))
    (amounts _)
    (omega (arith, e)) (omega arith) (omega arith) (omega (arith, f, c.made-nodes.ensures.exact))
