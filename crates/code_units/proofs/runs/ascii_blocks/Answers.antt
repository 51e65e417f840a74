use Rattle.std.proofs.Common.{arith, inl, inr}
use Rattle.std.proofs.lemmas.Bool.{cases_lt}
use Rattle.code_units.proofs.runs.ascii_blocks.Goals as goal

-- one block more
pub loop-end-preserved : goal.loop-end-preserved
loop-end-preserved c = record {
  within = omega arith;
  same = λ k lt. elim (cases_lt k c.loop-end.end) [
    | inl before ↦ c.loop-end.invariant.same k before
    | inr here ↦ c.is_ascii_block.ensures c.if-is_ascii_block.true k here lt
  ];
}
