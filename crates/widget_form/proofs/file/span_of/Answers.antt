use Rattle.widget_form.proofs.Body.{no_child, ok_child}
use Rattle.widget_form.proofs.file.span_of.Goals as goal

pub returns-in-Some : goal.returns-in-Some
returns-in-Some c = ok_child c.child_span.result c.args.script.now.at c.args.script.now.children.now _ c.in-Some.ensures.value c.child_span.ensures

pub returns-in-None : goal.returns-in-None
returns-in-None c = no_child c.args.script.now.at c.args.script.now.children.now c.in-None.ensures.value
