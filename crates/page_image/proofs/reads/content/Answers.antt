use Rattle.std.proofs.Common.{Some, sym, ap, ◌∙◌}
use Rattle.page_image.proofs.Looks.{label_at}
use Rattle.page_image.proofs.Pages.{is_node}
use Rattle.page_image.proofs.reads.content.Goals as goal

pub content-requires : goal.content-requires
content-requires c = is_node c.args.page.now c.args.widget c.args.node c.requires

pub returns : goal.returns
returns c = label_at c.args.page.now c.args.widget c.args.node c.requires ∙ ap Some (sym c.content.ensures)
