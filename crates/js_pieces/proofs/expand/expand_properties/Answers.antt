use Rattle.std.proofs.Common.{ap}
use Rattle.js_tree.specs.Forest.{properties_at}
use Rattle.js_pieces.specs.Costs.{properties_cost}
use Rattle.js_pieces.specs.Tidy.{properties_tokens}
use Rattle.js_pieces.proofs.Steps.{no_items, nothing_listed, split_item, properties_step}
use Rattle.js_pieces.proofs.expand.expand_properties.Goals as goal

pub returns-in-empty : goal.returns-in-empty
unfolding properties_tokens properties_cost
returns-in-empty c = λ f h. nothing_listed f c.args.begun _ _ _ (ap (λ l. properties_tokens (properties_at f l)) (no_items c.args.properties.now c.in-empty.len_below))

pub returns-in_ok-push_all-in-len1-up : goal.returns-in_ok-push_all-in-len1-up
returns-in_ok-push_all-in-len1-up c = λ f h. properties_step c.push_comma.result f c.args.begun _ _ _ (c.push_comma.ensures f) c.args.properties.now _ _ (split_item c.args.properties.now c.property-item.result c.in-len1-up.len_at_least c.property-item.is) h (c.in_ok-push_all-in-len1-up.ensures f)
