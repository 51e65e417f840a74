use Rattle.std.proofs.Common.{◌∙◌}
use Rattle.page_nodes.proofs.AtOnce.{searched_any}
use Rattle.page_nodes.proofs.many.is_listed.Goals as goal

pub returns : goal.returns
returns c = c.is_ok.ensures.value ∙ searched_any c.args.sorted.now c.args.number c.binary_search.result c.requires c.binary_search.ensures.position
