use Rattle.std.proofs.Common.{sym, ap, ◌∙◌}
use Rattle.page_image.specs.Image.{number}
use Rattle.widget_meaning.specs.Trees.{depth_of}
use Rattle.bunch_trees.proofs.Tagged.{is_taken, not_taken, taken_above}
use Rattle.bunch_trees.proofs.valuing.takes_value.Goals as goal

pub returns-then-is_closed : goal.returns-then-is_closed
returns-then-is_closed c = λ s there. not_taken s c.args.text.now (number c.args.page.now c.args.w.index c.args.node) (sym (c.is_closed.ensures s there) ∙ c.if-is_closed.true)

pub returns-then-not-gets_text : goal.returns-then-not-gets_text
returns-then-not-gets_text c = λ s there. is_taken s c.args.text.now (number c.args.page.now c.args.w.index c.args.node) (sym (c.is_closed.ensures s there) ∙ c.if-is_closed.false) (sym (c.gets_text.ensures s there) ∙ c.if-not-gets_text.true)

pub returns : goal.returns
returns c = λ s there. taken_above s c.args.text.now (number c.args.page.now c.args.w.index c.args.node) c.depth.result (sym (c.is_closed.ensures s there) ∙ c.if-is_closed.false) (sym (c.gets_text.ensures s there) ∙ c.if-not-gets_text.false)
    (c.depth.ensures ∙ ap (depth_of (number c.args.page.now c.args.w.index c.args.node)) (sym there))
