use Rattle.std.proofs.Common.{sym, ◌∙◌, arith}
use Rattle.markup_rules.proofs.Wording.{own_far}
use Rattle.markup_rules.proofs.words.is_own.Goals as goal

pub returns-then-i-units : goal.returns-then-i-units
returns-then-i-units c = sym (c.name.invariant ∙ own_far c.args.name.now c.args.units.now c.name.i (omega arith) (omega arith))
