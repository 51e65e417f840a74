use Rattle.std.proofs.Common.{sym, ◌∙◌, arith}
use Rattle.markup_rules.proofs.Wording.{begins_far}
use Rattle.markup_rules.proofs.words.begins_with.Goals as goal

pub returns-then-i-units : goal.returns-then-i-units
returns-then-i-units c = sym (c.word.invariant ∙ begins_far c.args.word.now c.args.units.now c.word.i (omega arith) (omega arith))
