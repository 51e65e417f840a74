use Rattle.std.proofs.Common.{sym, ap, ◌∙◌, refl}
use Rattle.std.specs.List.{list_all}
use Rattle.page_image.specs.Image.{number}
use Rattle.native_image.proofs.Lists.{all_not, element_in, mapped_whole, open_more}
use Rattle.bunch_attributes.specs.Tests as tests
use Rattle.bunch_attributes.proofs.judging.all_pass.Goals as goal

pub passes-requires : goal.passes-requires
passes-requires c = c.requires _ (element_in c.args.list.now c.each.node-index c.each-test.true)

pub each-init : goal.each-init
each-init c = λ s there. refl

pub each-preserved : goal.each-preserved
each-preserved c = λ s there. open_more (tests.passes c.args.test s) (number c.args.page.now c.args.w.index) c.args.list.now c.each.node-index c.each-test.true (c.each.invariant s there) (sym (c.passes.ensures s there) ∙ c.if-not-passes.false)

pub returns-then-not-passes : goal.returns-then-not-passes
returns-then-not-passes c = λ s there. sym (all_not (tests.passes c.args.test s) (number c.args.page.now c.args.w.index) c.args.list.now c.each.node-index c.each-test.true (sym (c.passes.ensures s there) ∙ c.if-not-passes.true))

pub returns : goal.returns
returns c = λ s there. sym (sym (ap (list_all (tests.passes c.args.test s)) (mapped_whole (number c.args.page.now c.args.w.index) c.args.list.now c.each.node-index c.each-test.false)) ∙ c.each.invariant s there)
