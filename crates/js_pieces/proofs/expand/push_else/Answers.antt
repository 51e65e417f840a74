use Rattle.std.proofs.Common.{arith}
use Rattle.js_pieces.proofs.Steps.{weaker}
use Rattle.js_pieces.proofs.expand.push_else.Goals as goal

pub returns : goal.returns
returns c = λ f h. weaker c.push_all.result f _ _ _ _ _ (omega arith) (c.push_all.ensures f (tt, (h, tt)))
