use Rattle.std.proofs.Common.{sym, ap, ◌∙◌}
use Rattle.std.specs.Prelude.{option_copied}
use Rattle.query_walks.proofs.Members.{first_has}
use Rattle.bunch_read.proofs.Reading.{first_is, no_first_is}
use Rattle.bunch_read.proofs.attributes.first_found.Goals as goal

pub attr_of_word-requires : goal.attr_of_word-requires
attr_of_word-requires c = c.requires.own c.in-Some.node.now (first_has c.args.list.now c.in-Some.node.now (sym c.first.ensures.value ∙ ap option_copied c.in-Some.is))

pub returns-in-Some : goal.returns-in-Some
returns-in-Some c = λ s there. first_is c.args.page.now c.args.w s there c.args.list.now c.in-Some.node.now c.args.name.now (option_copied c.attr_of_word.result) (sym c.first.ensures.value ∙ ap option_copied c.in-Some.is) c.attr_of_word.ensures

pub returns-in-None : goal.returns-in-None
returns-in-None c = λ s there. no_first_is c.args.page.now c.args.w s there c.args.list.now c.args.name.now (sym c.first.ensures.value ∙ ap option_copied c.in-None.is)
