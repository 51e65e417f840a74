use Rattle.std.proofs.Common.{sym, ap, ◌∙◌, refl}
use Rattle.std.specs.Prelude.{not}
use Rattle.std.specs.List.{list_all}
use Rattle.widget_meaning.specs.BunchWrites.{is_no_root}
use Rattle.page_image.specs.Image.{number}
use Rattle.native_image.proofs.Lists.{all_not, element_in, mapped_whole, open_more}
use Rattle.bunch_trees.proofs.rooted.none_root.Goals as goal

pub is_root-requires-clause-own : goal.is_root-requires-clause-own
is_root-requires-clause-own c = c.requires.own _ (element_in c.args.list.now c.each.node-index c.each-test.true)

pub each-init : goal.each-init
each-init c = refl

pub each-preserved : goal.each-preserved
each-preserved c = open_more is_no_root (number c.args.page.now c.args.w.index) c.args.list.now c.each.node-index c.each-test.true c.each.invariant (ap not (sym c.is_root.ensures ∙ c.if-is_root.false))

pub returns-then-is_root : goal.returns-then-is_root
returns-then-is_root c = sym (all_not is_no_root (number c.args.page.now c.args.w.index) c.args.list.now c.each.node-index c.each-test.true (ap not (sym c.is_root.ensures ∙ c.if-is_root.true)))

pub returns : goal.returns
returns c = sym (sym (ap (list_all is_no_root) (mapped_whole (number c.args.page.now c.args.w.index) c.args.list.now c.each.node-index c.each-test.false)) ∙ c.each.invariant)
