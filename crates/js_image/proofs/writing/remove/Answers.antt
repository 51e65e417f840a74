use Rattle.std.proofs.Common.{ap, sym, ◌∙◌}
use Rattle.store_cells.specs.declared.value.Value.{Value}
use Rattle.widget_meaning.specs.Properties.{delete}
use Rattle.js_image.specs.Image.{image, seen}
use Rattle.js_image.proofs.Puts.{held_cell, refers}
use Rattle.js_image.proofs.Removes.{delete_primitive}
use Rattle.js_image.proofs.writing.remove.Goals as goal

pub remove_in-requires : goal.remove_in-requires
remove_in-requires c = held_cell c.args.w c.args.store.now.cells c.args.base.now c.in-Some.cell (sym c.cell_of.ensures ∙ c.in-Some.is) c.requires

pub returns-in-None-clause-plan : goal.returns-in-None-clause-plan
returns-in-None-clause-plan c = λ fs r go. delete_primitive c.args.w c.args.store.now.cells c.args.base.now (sym c.cell_of.ensures ∙ c.in-None.is) c.args.name.now (image fs r c.args.w c.args.store.now) go

pub returns-in-Some-clause-plan : goal.returns-in-Some-clause-plan
returns-in-Some-clause-plan c = λ fs r go. ap (λ (b : Value). delete (seen c.args.w c.args.store.now.cells b) c.args.name.now (image fs r c.args.w c.args.store.now) go) (refers c.args.base.now c.in-Some.cell (sym c.cell_of.ensures ∙ c.in-Some.is)) ∙ c.remove_in.ensures.plan fs r go
