use Rattle.std.proofs.Common.{sym, ap, ◌∙◌}
use Rattle.std.specs.Prelude.{option_and_then}
use Rattle.tree_ops.specs.Labels.{attribute_of}
use Rattle.page_image.proofs.Looks.{label_at}
use Rattle.page_image.proofs.Pages.{is_node}
use Rattle.page_image.proofs.reads.attr_of_word.Goals as goal

pub attr_of_word-requires : goal.attr_of_word-requires
attr_of_word-requires c = is_node c.args.page.now c.args.widget c.args.node c.requires

pub returns : goal.returns
returns c = c.attr_of_word.ensures ∙ sym (ap (option_and_then (attribute_of c.args.word.now)) (label_at c.args.page.now c.args.widget c.args.node c.requires))
