use Rattle.std.proofs.Common.{sym, ap, ◌∙◌}
use Rattle.std.specs.Prelude.{option_copied}
use Rattle.bunch_read.proofs.Valued.{input_is, is_named}
use Rattle.bunch_read.proofs.texts.is_input.Goals as goal

pub returns-in-Some : goal.returns-in-Some
returns-in-Some c = λ s there. c.is_word.ensures ∙ sym (ap (λ o. is_named c.args.page.now c.args.w s there (option_copied o)) c.in-Some.is) ∙ input_is c.args.page.now c.args.w s there c.args.node c.requires (option_copied c.tag.result) c.tag.ensures

pub returns-in-None : goal.returns-in-None
returns-in-None c = λ s there. sym (ap (λ o. is_named c.args.page.now c.args.w s there (option_copied o)) c.in-None.is) ∙ input_is c.args.page.now c.args.w s there c.args.node c.requires (option_copied c.tag.result) c.tag.ensures
