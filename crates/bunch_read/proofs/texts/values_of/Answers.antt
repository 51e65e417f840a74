use Rattle.std.proofs.Common.{map, ap, sym, subst, ◌∙◌, refl, List}
use Rattle.store_cells.specs.declared.value.Value.{Value as StoreValue}
use Rattle.store_cells.specs.declared.value.Value.TheVariants as value
use Rattle.widget_meaning.specs.BunchReads as means
use Rattle.js_image.specs.Held.{AreFine}
use Rattle.page_image.specs.Image.{number}
use Rattle.bunch_read.proofs.Lists.{element_in, mapped_whole}
use Rattle.bunch_read.proofs.Valued.{page_state, texts_fine}
use Rattle.bunch_read.proofs.texts.values_of.Goals as goal

pub value_of-requires : goal.value_of-requires
value_of-requires c = c.requires _ (element_in c.args.list.now c.each.node-index c.each-test.true)

pub returns-clause-texts : goal.returns-clause-texts
returns-clause-texts c = λ s there. c.each.invariant s there ∙ ap (λ l. map value.Text (map (means.value_of s) l)) (mapped_whole (number c.args.page.now c.args.w) c.args.list.now c.each.node-index c.each-test.false)

pub returns-clause-fine : goal.returns-clause-fine
returns-clause-fine c = λ u cells. subst (λ (vs : List StoreValue). AreFine u cells vs) (sym (c.each.invariant (page_state c.args.page.now c.args.w) refl)) (texts_fine u cells _)
