use Rattle.std.proofs.Common.{sym, ap, ◌∙◌}
use Rattle.std.specs.Prelude.{option_copied}
use Rattle.std.proofs.lemmas.Result.{IfOk-weaker}
use Rattle.query_walks.proofs.Members.{first_has}
use Rattle.bunch_read.proofs.Reading.{mark_is, no_mark}
use Rattle.bunch_read.proofs.first.first_mark.Goals as goal

pub mark-requires : goal.mark-requires
mark-requires c = c.requires.own c.in-Some.node.now (first_has c.args.list.now c.in-Some.node.now (sym c.first.ensures.value ∙ ap option_copied c.in-Some.is))

pub returns-in-Some : goal.returns-in-Some
returns-in-Some c = λ g s shows. IfOk-weaker c.text_or_empty.result _ _ (λ t e. mark_is c.args.page.now c.args.w s c.args.list.now c.in-Some.node.now t (sym c.first.ensures.value ∙ ap option_copied c.in-Some.is) (e ∙ c.mark.ensures g s shows)) c.text_or_empty.ensures

pub returns-in-None : goal.returns-in-None
returns-in-None c = λ g s shows. IfOk-weaker c.word.result _ _ (λ t e. e ∙ no_mark c.args.page.now c.args.w s c.args.list.now (sym c.first.ensures.value ∙ ap option_copied c.in-None.is)) c.word.ensures
