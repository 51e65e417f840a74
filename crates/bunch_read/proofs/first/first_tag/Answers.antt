use Rattle.std.proofs.Common.{sym, ap, ◌∙◌}
use Rattle.std.specs.Prelude.{option_copied}
use Rattle.query_walks.proofs.Members.{first_has}
use Rattle.bunch_read.proofs.Reading.{first_tag_is, no_tag}
use Rattle.bunch_read.proofs.first.first_tag.Goals as goal

pub tag_name-requires : goal.tag_name-requires
tag_name-requires c = c.requires.own c.in-Some.node.now (first_has c.args.list.now c.in-Some.node.now (sym c.first.ensures.value ∙ ap option_copied c.in-Some.is))

pub returns-in_ok-tag_name-in-Some : goal.returns-in_ok-tag_name-in-Some
returns-in_ok-tag_name-in-Some c = λ s there. first_tag_is c.args.page.now c.args.w s there c.args.list.now c.in-Some.node.now c.in_ok-tag_name-in-Some.field-0 (sym c.first.ensures.value ∙ ap option_copied c.in-Some.is) (c.in_ok-tag_name-in-Some.ensures s there)

pub returns-in-None : goal.returns-in-None
returns-in-None c = λ s there. no_tag c.args.page.now c.args.w s there c.args.list.now (sym c.first.ensures.value ∙ ap option_copied c.in-None.is)
