use Rattle.plain_tree.specs.Trees.{unmarked}
use Rattle.page_tree.specs.Entries.{tree}
use Rattle.page_tree.specs.Pages.{nodes}
use Rattle.page_output.proofs.Texts.{on_err, prints_none}
use Rattle.std.proofs.Common.{refl}
use Rattle.page_output.proofs.markup.print.Goals as goal

pub returns-in_err-last-clause-part : goal.returns-in_err-last-clause-part
returns-in_err-last-clause-part c = on_err _ _ (prints_none (unmarked (tree (nodes c.args.page.now) c.args.node)) c.args.out.now.items c.args.out.now.items refl)
