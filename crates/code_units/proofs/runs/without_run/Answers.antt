use Rattle.std.proofs.Common.{◌≡◌, ◌-◌, arith, length, sym, ◌∙◌}
use Rattle.std.specs.List.{suffix_len}
use Rattle.std.proofs.lemmas.List.Sums.{suffix_len_is}
use Rattle.code_units.specs.Runs.{is_of}
use Rattle.code_units.proofs.runs.without_run.Goals as goal

pub returns-else-is_of : goal.returns-else-is_of
returns-else-is_of c =
    let us = c.args.units.now in
    let run : suffix_len (is_of c.args.kind) us ≡ length us - c.loop-end.end =
    suffix_len_is (is_of c.args.kind) us c.loop-end.end 0 c.loop-end.invariant.within c.loop-end.invariant.same (λ some. sym c.is_of.ensures ∙ c.if-is_of.false) in
    omega (arith, run, c.loop-end.invariant.within)

pub returns-after-loop-end : goal.returns-after-loop-end
returns-after-loop-end c =
    let us = c.args.units.now in
    let run : suffix_len (is_of c.args.kind) us ≡ length us - c.loop-end.end =
    suffix_len_is (is_of c.args.kind) us c.loop-end.end 0 c.loop-end.invariant.within c.loop-end.invariant.same (λ some. absurd (omega (arith, some, c.loop-end-test.false))) in
    omega (arith, run, c.loop-end.invariant.within)
