use Rattle.widget_form.specs.Forms.{span_in}
use Rattle.std.proofs.Common.{◌≡◌}
use Rattle.plain_tree.specs.Trees.{beside}
use Rattle.plain_tree.specs.Plains.{placed}
use Rattle.markup_rules.proofs.Steps.{if_ok_then}
use Rattle.widget_form.proofs.Body.{text_child, element_child}
use Rattle.widget_form.proofs.file.child_span.Goals as goal

pub returns-in-Text : goal.returns-in-Text
returns-in-Text c = λ rest. if_ok_then c.text_span.result _ (λ s. s ≡ span_in c.args.script_at (beside (placed c.args.child.now) rest)) (λ s h. text_child c.args.child.now c.in-Text.text c.args.script_at c.in-Text.at s rest c.in-Text.is h) c.text_span.ensures

pub returns-in-Element : goal.returns-in-Element
returns-in-Element c = λ rest. element_child c.args.child.now _ _ _ c.args.script_at _ rest c.in-Element.is
