use Rattle.std.proofs.Common.{sym, ap, ◌∙◌, refl}
use Rattle.std.specs.List.{list_all}
use Rattle.widget_meaning.specs.BunchReads.{has_open_parent}
use Rattle.page_image.specs.Image.{number}
use Rattle.bunch_read.proofs.Lists.{all_not, element_in, mapped_whole, open_more}
use Rattle.bunch_read.proofs.finding.all_open.Goals as goal

pub is_open-requires : goal.is_open-requires
is_open-requires c = c.requires _ (element_in c.args.list.now c.each.node-index c.each-test.true)

pub each-init : goal.each-init
each-init c = λ g s shows. refl

pub each-preserved : goal.each-preserved
each-preserved c = λ g s shows. open_more (has_open_parent s) (number c.args.page.now c.args.w) c.args.list.now c.each.node-index c.each-test.true (c.each.invariant g s shows) (sym (c.is_open.ensures g s shows) ∙ c.if-not-is_open.false)

pub returns-then-not-is_open : goal.returns-then-not-is_open
returns-then-not-is_open c = λ g s shows. sym (all_not (has_open_parent s) (number c.args.page.now c.args.w) c.args.list.now c.each.node-index c.each-test.true (sym (c.is_open.ensures g s shows) ∙ c.if-not-is_open.true))

pub returns : goal.returns
returns c = λ g s shows. sym (sym (ap (list_all (has_open_parent s)) (mapped_whole (number c.args.page.now c.args.w) c.args.list.now c.each.node-index c.each-test.false)) ∙ c.each.invariant g s shows)
