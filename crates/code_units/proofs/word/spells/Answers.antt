use Rattle.std.proofs.Common.{arith}
use Rattle.code_units.proofs.Words.{same_units}
use Rattle.code_units.proofs.word.spells.Goals as goal

pub returns : goal.returns
returns c = same_units _ _ (omega arith) (λ k h. c.loop-i.invariant k (omega arith))
