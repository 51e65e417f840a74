use Rattle.std.proofs.Common.{subst, ◌≡◌, take}
use Rattle.plain_tree.specs.Plains.{placed_all}
use Rattle.markup_rules.specs.Elements.{before_scripts}
use Rattle.widget_form.proofs.Body.{trimmed_element, trimmed_text}
use Rattle.widget_form.proofs.file.trimmed.Goals as goal

pub returns-in-Element : goal.returns-in-Element
returns-in-Element c = trimmed_element c.args.root _ _ _ _ _ c.script_place-end.result c.in-Element.is c.truncate.ensures.items (subst (λ l. before_scripts (placed_all l) ≡ placed_all (take c.script_place-end.result l)) c.deref.ensures.value c.script_place-end.ensures)

pub returns-in-Text : goal.returns-in-Text
returns-in-Text c = trimmed_text c.args.root _ _ c.in-Text.is
