use Rattle.std.proofs.Common.{ap, sym, ◌∙◌}
use Rattle.widget_meaning.specs.NativeForms.{on_array}
use Rattle.js_image.specs.Image.{image}
use Rattle.js_image.proofs.Puts.{refers}
use Rattle.native_common.specs.Receivers.{receiver}
use Rattle.list_methods.proofs.Arrays.{primitive_received, referred}
use Rattle.list_methods.proofs.array.array_of.Goals as goal

pub array_at-requires : goal.array_at-requires
array_at-requires c = referred c.args.w.index c.args.store.now c.args.this.now c.in-Some.cell (refers c.args.this.now c.in-Some.cell (sym c.cell_of.ensures ∙ c.in-Some.is)) c.requires

pub returns-in-Some-clause-plan : goal.returns-in-Some-clause-plan
returns-in-Some-clause-plan c = λ fs r k. ap (λ v. on_array (receiver c.args.w.index c.args.store.now.cells v) (image fs r c.args.w.index c.args.store.now) k) (refers c.args.this.now c.in-Some.cell (sym c.cell_of.ensures ∙ c.in-Some.is)) ∙ c.array_at.ensures.plan fs r k

pub returns-in-None-clause-plan : goal.returns-in-None-clause-plan
returns-in-None-clause-plan c = λ fs r k. primitive_received c.args.w.index c.args.store.now (image fs r c.args.w.index c.args.store.now) c.args.this.now k (sym c.cell_of.ensures ∙ c.in-None.is)
