use Rattle.std.proofs.Common.{arith}
use Rattle.json_judge.proofs.Digits.{few_digits}
use Rattle.json_judge.proofs.numbers.is_in_range.Goals as goal

pub returns-then-is_few_digits : goal.returns-then-is_few_digits
returns-then-is_few_digits c =
    let h = c.is_few_digits.ensures c.if-is_few_digits.true in
    let few = few_digits _ h.0 h.1 h.2 in
    grind (arith, few)
