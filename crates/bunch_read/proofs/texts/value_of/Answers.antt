use Rattle.std.proofs.Common.{◌++◌, ap, sym, ◌∙◌, Some}
use Rattle.std.specs.Prelude.{option_copied}
use Rattle.std.proofs.lemmas.Result.{IfOk-weaker}
use Rattle.page_nodes.specs.Entries.{label_of}
use Rattle.tree_ops.specs.Trees.{subtree}
use Rattle.page_image.specs.Image.{forest, number}
use Rattle.widget_meaning.specs.PageForms.{texts_of}
use Rattle.bunch_read.proofs.Content.{text_alone}
use Rattle.bunch_read.proofs.Valued.{content_value, input_value}
use Rattle.bunch_read.proofs.texts.value_of.Goals as goal

pub returns-then-is_input : goal.returns-then-is_input
returns-then-is_input c = λ s there. IfOk-weaker c.text_or_empty.result _ _ (λ t e. e ∙ input_value c.args.page.now c.args.w s there c.args.node (sym (c.is_input.ensures s there) ∙ c.if-is_input.true) (option_copied c.attr_of_word.result) c.attr_of_word.ensures) c.text_or_empty.ensures

pub returns-in-Text : goal.returns-in-Text
returns-in-Text c = λ s there. IfOk-weaker c.share.result _ _ (λ t e. e ∙ sym (text_alone c.args.page.now c.args.w c.args.node c.in-Text.text c.requires (c.content.ensures ∙ ap (λ x. Some (label_of x)) c.in-Text.is)) ∙ content_value c.args.page.now c.args.w s there c.args.node (sym (c.is_input.ensures s there) ∙ c.if-is_input.false)) c.share.ensures

pub returns : goal.returns
returns c = λ s there. IfOk-weaker c.from_units.result _ _ (λ t e. e ∙ c.in_ok-push_content.ensures ∙ ap (λ l. l ++ texts_of (subtree (number c.args.page.now c.args.w c.args.node) (forest c.args.page.now c.args.w))) c.new-units.ensures.items ∙ content_value c.args.page.now c.args.w s there c.args.node (sym (c.is_input.ensures s there) ∙ c.if-is_input.false)) c.from_units.ensures
