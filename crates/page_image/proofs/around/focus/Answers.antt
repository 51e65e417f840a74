use Rattle.std.proofs.Common.{sym, ap, ◌∙◌, subst}
use Rattle.query_grammar.specs.Renumbering.{renumbered}
use Rattle.page_image.specs.Held.{OptionIn}
use Rattle.page_image.specs.Image.{owns, number}
use Rattle.page_image.proofs.around.focus.Goals as goal

pub returns-clause-image : goal.returns-clause-image
returns-clause-image c = λ g o shows. ap (renumbered (number c.args.page.now c.args.widget)) c.focus.ensures ∙ sym shows.focused

pub returns-clause-own : goal.returns-clause-own
returns-clause-own c = λ g o shows. subst (OptionIn (owns c.args.page.now c.args.widget)) (sym c.focus.ensures) shows.mine
