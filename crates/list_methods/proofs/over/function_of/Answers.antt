use Rattle.std.proofs.Common.{◌∙◌, ap, sym}
use Rattle.std.specs.Prelude.{is_some}
use Rattle.js_image.specs.Image.{image, seen}
use Rattle.list_methods.proofs.Callees.{callee_seen, cell_refers, function_cell}
use Rattle.list_methods.proofs.over.function_of.Goals as goal

pub returns-then-is_function-clause-own : goal.returns-then-is_function-clause-own
returns-then-is_function-clause-own c = λ fs r w h.
    let is = callee_seen fs w c.args.store.now.cells c.callee.result (image fs r w c.args.store.now) (seen w c.args.store.now.cells c.args.v.now) (c.callee.ensures.called fs r w h) ∙ sym c.is_function.ensures ∙ c.if-is_function.true in
    is ∙ sym (function_cell w c.args.store.now.cells (image fs r w c.args.store.now) c.args.v.now is) ∙ ap is_some (sym c.cell_of.ensures)

pub returns-then-is_function-clause-cell : goal.returns-then-is_function-clause-cell
returns-then-is_function-clause-cell c = cell_refers c.args.v.now c.cell_of.result c.cell_of.ensures

pub returns-else-is_function-clause-own : goal.returns-else-is_function-clause-own
returns-else-is_function-clause-own c = λ fs r w h. callee_seen fs w c.args.store.now.cells c.callee.result (image fs r w c.args.store.now) (seen w c.args.store.now.cells c.args.v.now) (c.callee.ensures.called fs r w h) ∙ sym c.is_function.ensures ∙ c.if-is_function.false
