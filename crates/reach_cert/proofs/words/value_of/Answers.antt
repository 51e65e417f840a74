use Rattle.std.proofs.Common.{◌∙◌, arith}
use Rattle.reach_cert.proofs.Numbers.{value_more, value_all}
use Rattle.reach_cert.proofs.words.value_of.Goals as goal

pub each-preserved : goal.each-preserved
each-preserved c =
    record {
      low = omega (arith, c.min-value.ensures);
      same = λ n small is. value_more c.args.word.now c.each.byte-index c.each.value _ c.from.result n c.each-test.true small is (c.each.invariant.same n small is) (c.from.ensures ∙ c.saturating_sub.ensures) c.min-value.ensures;
    }

pub returns : goal.returns
returns c = λ n small is. value_all _ _ _ n c.each-test.false small is (c.each.invariant.same n small is)
