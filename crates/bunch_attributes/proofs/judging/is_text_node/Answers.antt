use Rattle.std.proofs.Common.{ap, sym, ◌∙◌}
use Rattle.std.specs.Prelude.{is_none, option_copied}
use Rattle.bunch_attributes.proofs.Tags.{text_is}
use Rattle.bunch_attributes.proofs.judging.is_text_node.Goals as goal

pub returns-in-Some : goal.returns-in-Some
returns-in-Some c = λ s there. ap (λ o. is_none (option_copied o)) (sym c.in-Some.is) ∙ text_is c.args.page.now c.args.w.index s there c.args.node c.requires _ c.tag.ensures

pub returns-in-None : goal.returns-in-None
returns-in-None c = λ s there. ap (λ o. is_none (option_copied o)) (sym c.in-None.is) ∙ text_is c.args.page.now c.args.w.index s there c.args.node c.requires _ c.tag.ensures
