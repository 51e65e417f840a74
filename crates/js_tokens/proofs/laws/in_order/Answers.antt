use Rattle.js_tokens.proofs.Order.{tokens_in_order}
use Rattle.js_tokens.proofs.laws.in_order.Goals as goal

pub returns : goal.returns
returns c = tokens_in_order
