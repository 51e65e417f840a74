use Rattle.std.proofs.Common.{sym, ◌∙◌}
use Rattle.page_image.proofs.Pages.{is_node}
use Rattle.bunch_read.proofs.Seen.{passes_image}
use Rattle.bunch_read.proofs.queries.test.Goals as goal

pub test-requires : goal.test-requires
test-requires c = is_node c.args.page.now c.args.widget c.args.node c.requires.own

pub returns : goal.returns
returns c = λ s there seen. c.test.ensures ∙ sym (passes_image c.args.page.now c.args.widget s c.args.focus c.args.by.now c.args.node c.requires.own c.requires.focus there seen)
