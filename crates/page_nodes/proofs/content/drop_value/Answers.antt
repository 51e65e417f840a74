use Rattle.std.proofs.Common.{rules}
use Rattle.page_nodes.proofs.Values.{without_retained}
use Rattle.page_nodes.proofs.content.drop_value.Goals as goal

pub returns : goal.returns
returns c = without_retained _ c.args.name.now _ (λ x b g h. search rules) _ _ c.retain.ensures.filtered
