use Rattle.std.proofs.Common.{arith, inl, inr}
use Rattle.std.proofs.lemmas.Bool.{cases_lt}
use Rattle.code_units.proofs.runs.without_blocks.Goals as goal

-- one block more
pub loop-end-preserved : goal.loop-end-preserved
loop-end-preserved c = record {
  within = omega arith;
  same = λ k le lt. elim (cases_lt k c.loop-end.end) [
    | inl here ↦ c.is_block.ensures c.if-is_block.true k le (omega arith)
    | inr behind ↦ c.loop-end.invariant.same k behind lt
  ];
}
