use Rattle.std.proofs.Common.{arith, sym, get_or, le-ltb}
use Rattle.std.specs.Char.{is_ascii}
use Rattle.std.proofs.lemmas.List.Sums.{prefix_len_is}
use Rattle.code_units.proofs.runs.ascii_len.Goals as goal

pub returns-else-bytes-end-lt128-clause-len : goal.returns-else-bytes-end-lt128-clause-len
returns-else-bytes-end-lt128-clause-len c =
    sym (prefix_len_is is_ascii c.args.bytes.now c.loop-end.end 0 c.loop-end.invariant.within c.loop-end.invariant.same (λ more. le-ltb (get_or c.args.bytes.now c.loop-end.end 0) 128 c.if-bytes-end-lt128.false))

pub returns-after-loop-end-clause-len : goal.returns-after-loop-end-clause-len
returns-after-loop-end-clause-len c =
    sym (prefix_len_is is_ascii c.args.bytes.now c.loop-end.end 0 c.loop-end.invariant.within c.loop-end.invariant.same (λ more. absurd (omega (arith, more, c.loop-end-test.false))))
