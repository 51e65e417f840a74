use Rattle.std.proofs.Common.{ap, length, sym, ◌∙◌}
use Rattle.std.specs.Prelude.{option_copied, unwrap_or, []}
use Rattle.native_common.specs.Numbers.{counted}
use Rattle.bunch_read.proofs.Valued.{content_value, input_value}
use Rattle.bunch_read.proofs.texts.value_len.Goals as goal

pub returns-then-not-is_input : goal.returns-then-not-is_input
returns-then-not-is_input c = λ s there. c.content_len.ensures ∙ ap (λ t. counted (length t)) (content_value c.args.page.now c.args.w s there c.args.node (sym (c.is_input.ensures s there) ∙ c.if-not-is_input.true))

pub returns-in-Some : goal.returns-in-Some
returns-in-Some c = λ s there.
    c.text_len.ensures.counted
    ∙ ap (λ o. counted (length (unwrap_or (option_copied o) []))) (sym c.in-Some.is)
    ∙ ap (λ t. counted (length t)) (input_value c.args.page.now c.args.w s there c.args.node (sym (c.is_input.ensures s there) ∙ c.if-not-is_input.false) (option_copied c.attr_of_word.result) c.attr_of_word.ensures)

pub returns-in-None : goal.returns-in-None
returns-in-None c = λ s there.
    ap (λ o. counted (length (unwrap_or (option_copied o) []))) (sym c.in-None.is)
    ∙ ap (λ t. counted (length t)) (input_value c.args.page.now c.args.w s there c.args.node (sym (c.is_input.ensures s there) ∙ c.if-not-is_input.false) (option_copied c.attr_of_word.result) c.attr_of_word.ensures)
