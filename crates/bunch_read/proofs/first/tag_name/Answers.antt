use Rattle.std.proofs.Common.{sym, ap, ◌∙◌}
use Rattle.std.specs.Prelude.{option_copied, unwrap_or, codes}
use Rattle.std.proofs.lemmas.Result.{IfOk-weaker}
use Rattle.bunch_read.proofs.Reading.{tag_is}
use Rattle.bunch_read.proofs.first.tag_name.Goals as goal

pub returns-in-Some : goal.returns-in-Some
returns-in-Some c = λ s there. IfOk-weaker c.share.result _ _ (λ t e. e ∙ ap (λ o. unwrap_or (option_copied o) (codes "#text")) (sym c.in-Some.is) ∙ tag_is c.args.page.now c.args.w s there c.args.node c.requires (option_copied c.tag.result) c.tag.ensures) c.share.ensures

pub returns-in-None : goal.returns-in-None
returns-in-None c = λ s there. IfOk-weaker c.word.result _ _ (λ t e. e ∙ ap (λ o. unwrap_or (option_copied o) (codes "#text")) (sym c.in-None.is) ∙ tag_is c.args.page.now c.args.w s there c.args.node c.requires (option_copied c.tag.result) c.tag.ensures) c.word.ensures
