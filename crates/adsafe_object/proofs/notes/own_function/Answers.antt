use Rattle.std.proofs.Common.{[]}
use Rattle.js_image.specs.Image.{image, no_rest}
use Rattle.adsafe_object.proofs.Shapes.{own_cell, own_ref}
use Rattle.adsafe_object.proofs.notes.own_function.Goals as goal

pub returns-in-Function-clause-cell : goal.returns-in-Function-clause-cell
returns-in-Function-clause-cell c = λ w fine. own_ref w c.args.store.now.cells c.args.v.now (image [] no_rest w c.args.store.now) _ (c.in-Function.ensures.called [] no_rest w fine) c.cell_of.result c.cell_of.ensures

pub returns-in-Function-clause-own : goal.returns-in-Function-clause-own
returns-in-Function-clause-own c = λ w fine. own_cell w c.args.store.now.cells c.args.v.now (image [] no_rest w c.args.store.now) _ (c.in-Function.ensures.called [] no_rest w fine) fine c.cell_of.result c.cell_of.ensures
