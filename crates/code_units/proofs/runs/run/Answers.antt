use Rattle.std.proofs.Common.{arith, sym, ◌∙◌}
use Rattle.std.proofs.lemmas.List.Sums.{prefix_len_is}
use Rattle.code_units.specs.Runs.{is_of}
use Rattle.code_units.proofs.runs.run.Goals as goal

pub returns-else-is_of-clause-len : goal.returns-else-is_of-clause-len
returns-else-is_of-clause-len c =
    sym (prefix_len_is (is_of c.args.kind) c.args.units.now c.loop-end.end 0 c.loop-end.invariant.within c.loop-end.invariant.same (λ more. sym c.is_of.ensures ∙ c.if-is_of.false))

pub returns-after-loop-end-clause-len : goal.returns-after-loop-end-clause-len
returns-after-loop-end-clause-len c =
    sym (prefix_len_is (is_of c.args.kind) c.args.units.now c.loop-end.end 0 c.loop-end.invariant.within c.loop-end.invariant.same (λ more. absurd (omega (arith, more, c.loop-end-test.false))))
