use Rattle.std.proofs.Common.{sym, ap, ◌∙◌, refl}
use Rattle.std.specs.List.{list_all}
use Rattle.widget_meaning.specs.BunchWrites.{is_value_target}
use Rattle.page_image.specs.Image.{number}
use Rattle.native_image.proofs.Lists.{all_not, element_in, mapped_whole, open_more}
use Rattle.bunch_trees.proofs.valuing.all_take.Goals as goal

pub takes_value-requires : goal.takes_value-requires
takes_value-requires c = c.requires _ (element_in c.args.nodes.now c.each.node-index c.each-test.true)

pub each-init : goal.each-init
each-init c = λ s there. refl

pub each-preserved : goal.each-preserved
each-preserved c = λ s there. open_more (is_value_target s c.args.text.now) (number c.args.page.now c.args.w.index) c.args.nodes.now c.each.node-index c.each-test.true (c.each.invariant s there) (sym (c.takes_value.ensures s there) ∙ c.if-not-takes_value.false)

pub returns-then-not-takes_value : goal.returns-then-not-takes_value
returns-then-not-takes_value c = λ s there. sym (all_not (is_value_target s c.args.text.now) (number c.args.page.now c.args.w.index) c.args.nodes.now c.each.node-index c.each-test.true (sym (c.takes_value.ensures s there) ∙ c.if-not-takes_value.true))

pub returns : goal.returns
returns c = λ s there. sym (sym (ap (list_all (is_value_target s c.args.text.now)) (mapped_whole (number c.args.page.now c.args.w.index) c.args.nodes.now c.each.node-index c.each-test.false)) ∙ c.each.invariant s there)
