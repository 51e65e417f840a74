use Rattle.std.proofs.Common.{◌∙◌}
use Rattle.page_image.proofs.Looks.{made_is}
use Rattle.page_image.proofs.Pages.{is_widget}
use Rattle.page_image.proofs.reads.made.Goals as goal

pub made-requires : goal.made-requires
made-requires c = is_widget c.args.widget c.requires

pub returns-clause-exact : goal.returns-clause-exact
returns-clause-exact c = c.made.ensures.exact ∙ made_is c.args.page.now c.args.widget
