use Rattle.std.proofs.Common.{true, false, length, refl, sym, ap, ◌∙◌}
use Rattle.std.specs.Prelude.{nat_eq, not}
use Rattle.widget_meaning.specs.PageForms.{is_input}
use Rattle.page_image.specs.Image.{number}
use Rattle.bunch_trees.proofs.Tagged.{is_no_text, is_some_text, none_new, some_new}
use Rattle.bunch_trees.proofs.valuing.gets_text.Goals as goal

pub returns-then-is_empty : goal.returns-then-is_empty
returns-then-is_empty c = λ s there.
    none_new s c.args.text.now (number c.args.page.now c.args.w.index c.args.node)
    (is_no_text c.args.text.now (ap (λ us. nat_eq (length us) 0) (sym c.units.ensures) ∙ sym c.is_empty.ensures ∙ c.if-is_empty.true))

pub returns-then-not-is_text_node : goal.returns-then-not-is_text_node
returns-then-not-is_text_node c = λ s there.
    some_new s c.args.text.now (number c.args.page.now c.args.w.index c.args.node)
    (is_some_text c.args.text.now (ap (λ us. nat_eq (length us) 0) (sym c.units.ensures) ∙ sym c.is_empty.ensures ∙ c.if-is_empty.false))
    false c.is_input.result (sym c.if-not-is_text_node.true ∙ c.is_text_node.ensures s there) (c.is_input.ensures s there)

pub returns-else-not-is_text_node : goal.returns-else-not-is_text_node
returns-else-not-is_text_node c = λ s there.
    let n = number c.args.page.now c.args.w.index c.args.node in
    ap not c.if-not-is_text_node.false
    ∙ some_new s c.args.text.now n
    (is_some_text c.args.text.now (ap (λ us. nat_eq (length us) 0) (sym c.units.ensures) ∙ sym c.is_empty.ensures ∙ c.if-is_empty.false))
    true (is_input s n) (sym c.if-not-is_text_node.false ∙ c.is_text_node.ensures s there) refl
