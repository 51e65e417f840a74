use Rattle.std.proofs.Common.{◌≡◌, ◌≤◌, unsigned_abs, sym, ap, ◌∙◌, arith, rules}
use mir.Val.{of_z, to_z}
use mir.Syntax.{w64}
use Rattle.plain_natives.proofs.PowerLaws.{high_power}
use Rattle.plain_natives.proofs.powers.positive_power.Goals as goal

pub returns-then-n-ge-HIGH-clause-value : goal.returns-then-n-ge-HIGH-clause-value
returns-then-n-ge-HIGH-clause-value c =
    let same : to_z w64 (of_z w64 c.args.x) ≡ c.args.x = search rules in
    let many : 2 ≤ unsigned_abs c.args.x = omega (arith, c.if-unsigned_abs-le1.false, c.unsigned_abs.ensures.value ∙ ap unsigned_abs same) in
    sym (high_power c.args.x c.args.n many c.if-n-ge-HIGH.true)
