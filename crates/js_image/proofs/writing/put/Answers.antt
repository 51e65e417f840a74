use Rattle.std.proofs.Common.{ap, sym, ◌∙◌}
use Rattle.std.proofs.lemmas.Result.{IfOk-weaker}
use Rattle.store_cells.specs.declared.value.Value.{Value}
use Rattle.widget_meaning.specs.Properties.{put}
use Rattle.js_image.specs.Image.{image, seen}
use Rattle.js_image.proofs.Puts.{held_cell, put_primitive, refers}
use Rattle.js_image.proofs.writing.put.Goals as goal

pub put_in-requires-clause-held : goal.put_in-requires-clause-held
put_in-requires-clause-held c = held_cell c.args.w c.args.store.now.cells c.args.base.now c.in-Some.cell (sym c.cell_of.ensures ∙ c.in-Some.is) c.requires.base

pub returns-in-None-clause-plan : goal.returns-in-None-clause-plan
returns-in-None-clause-plan c = λ fs r go. put_primitive c.args.w c.args.store.now.cells c.args.base.now (sym c.cell_of.ensures ∙ c.in-None.is) c.args.name.now (seen c.args.w c.args.store.now.cells c.args.value) (image fs r c.args.w c.args.store.now) go

pub returns-in-Some-clause-plan : goal.returns-in-Some-clause-plan
returns-in-Some-clause-plan c = IfOk-weaker c.put_in.result _ _ (λ p h. λ fs r go. ap (λ (b : Value). put (seen c.args.w c.args.store.now.cells b) c.args.name.now (seen c.args.w c.args.store.now.cells c.args.value) (image fs r c.args.w c.args.store.now) go) (refers c.args.base.now c.in-Some.cell (sym c.cell_of.ensures ∙ c.in-Some.is)) ∙ h fs r go) c.put_in.ensures.plan
