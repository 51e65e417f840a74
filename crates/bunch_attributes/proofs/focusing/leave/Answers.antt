use Rattle.std.proofs.Common.{sym, ◌∙◌}
use Rattle.bunch_attributes.proofs.Focused.{left_one, left_other}
use Rattle.bunch_attributes.proofs.focusing.leave.Goals as goal

pub returns-then-has_node-clause-shown : goal.returns-then-has_node-clause-shown
returns-then-has_node-clause-shown c = λ g s shows.
    left_one c.args.page.now c.args.w.index g c.args.around.now c.set_focus.new.self s c.args.list.now c.in-Some.node c.requires (sym c.focus.ensures ∙ c.in-Some.is) (sym c.has_node.ensures ∙ c.if-has_node.true) c.set_focus.ensures.done c.set_focus.ensures.kept c.set_focus.ensures.timers c.set_focus.ensures.clock shows

pub returns-else-has_node-clause-shown : goal.returns-else-has_node-clause-shown
returns-else-has_node-clause-shown c = λ g s shows.
    left_other c.args.page.now c.args.w.index g c.args.around.now s c.args.list.now c.in-Some.node c.requires (sym c.focus.ensures ∙ c.in-Some.is) (sym c.has_node.ensures ∙ c.if-has_node.false) shows
