use Rattle.std.proofs.Common.{sym, ◌∙◌, arith}
use Rattle.style_text.proofs.Words.{begins_far}
use Rattle.style_text.proofs.value.begins_in_any_case.Goals as goal

pub returns-then-i-units : goal.returns-then-i-units
returns-then-i-units c = sym (c.loop-i.invariant ∙ begins_far c.args.word.now c.args.units.now c.loop-i.i (omega arith) (omega arith))
