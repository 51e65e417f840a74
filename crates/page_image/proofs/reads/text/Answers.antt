use Rattle.std.proofs.Common.{sym, ap, ◌∙◌}
use Rattle.std.specs.Prelude.{option_and_then}
use Rattle.tree_ops.specs.Labels.{text_of}
use Rattle.page_image.proofs.Looks.{label_at}
use Rattle.page_image.proofs.Pages.{is_node}
use Rattle.page_image.proofs.reads.text.Goals as goal

pub text-requires : goal.text-requires
text-requires c = is_node c.args.page.now c.args.widget c.args.node c.requires

pub returns : goal.returns
returns c = c.text.ensures ∙ sym (ap (option_and_then text_of) (label_at c.args.page.now c.args.widget c.args.node c.requires))
