use Rattle.std.proofs.Common.{◌≡◌, false, bytes_eq, arith}
use Rattle.std.specs.Fmt.{decimal}
use Rattle.std.proofs.lemmas.Grind.{common_steps}
use Rattle.run_steps.proofs.Counting.{count_spelled, count_positive, count_within, count_parsed}
use Rattle.run_steps.proofs.request.read_count.Goals as goal

pub returns-in_default-clause-none : goal.returns-in_default-clause-none
returns-in_default-clause-none c = λ n count. count_parsed c.args.limit n c.args.word.now c.parse.result c.ranges.limit.fits c.parse.ensures.value.0 count c.in_default.field-0 c.in_default.is

pub returns-then-number-eq0-clause-none : goal.returns-then-number-eq0-clause-none
returns-then-number-eq0-clause-none c = λ n count. count_positive c.args.limit n c.args.word.now c.parse.result c.ranges.limit.fits c.parse.ensures.value.0 count c.in-Ok.number c.in-Ok.is c.if-number-eq0.true

pub returns-then-number-limit-clause-none : goal.returns-then-number-limit-clause-none
returns-then-number-limit-clause-none c = λ n count. count_within c.args.limit n c.args.word.now c.parse.result c.ranges.limit.fits c.parse.ensures.value.0 count c.in-Ok.number c.in-Ok.is c.if-number-limit.true

pub returns-then-not-is_spelled-clause-none : goal.returns-then-not-is_spelled-clause-none
returns-then-not-is_spelled-clause-none c = λ n count.
    (let other : bytes_eq c.args.word.now (decimal c.in-Ok.number) ≡ false = grind (arith, common_steps) in
    count_spelled c.args.limit n c.args.word.now c.parse.result c.ranges.limit.fits c.parse.ensures.value.0 count c.in-Ok.number c.in-Ok.is other)
