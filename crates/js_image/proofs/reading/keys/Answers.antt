use Rattle.std.proofs.Common.{ap, sym, ◌∙◌}
use Rattle.std.proofs.lemmas.Result.{IfOk-weaker}
use Rattle.store_cells.specs.declared.value.Value.{Value}
use Rattle.widget_meaning.specs.Properties.{keys}
use Rattle.js_image.specs.Image.{image, seen}
use Rattle.js_image.proofs.Puts.{held_cell, refers}
use Rattle.js_image.proofs.Listed.{keys_are, keys_primitive}
use Rattle.js_image.proofs.reading.keys.Goals as goal

pub returns-in-None : goal.returns-in-None
returns-in-None c = λ fs r w fine. c.new.ensures.items ∙ sym (keys_primitive fs r w c.args.store.now c.args.base.now (sym c.cell_of.ensures ∙ c.in-None.is))

pub returns-in-Some : goal.returns-in-Some
returns-in-Some c = IfOk-weaker c.keys.result _ _ (λ names h. λ fs r w fine. h ∙ keys_are fs r w c.args.store.now c.lawful.ensures c.bunches_have_nodes.ensures c.in-Some.cell (held_cell w c.args.store.now.cells c.args.base.now c.in-Some.cell (sym c.cell_of.ensures ∙ c.in-Some.is) fine) ∙ sym (ap (λ (b : Value). keys (image fs r w c.args.store.now) (seen w c.args.store.now.cells b)) (refers c.args.base.now c.in-Some.cell (sym c.cell_of.ensures ∙ c.in-Some.is)))) c.keys.ensures
