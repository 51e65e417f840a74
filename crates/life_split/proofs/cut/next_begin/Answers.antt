use Rattle.std.proofs.Common.{sym, ◌∙◌}
use Rattle.life_split.proofs.Cutting.{next_from-last}
use Rattle.life_split.proofs.cut.next_begin.Goals as goal

pub returns-in-Some : goal.returns-in-Some
returns-in-Some c = c.unwrap_or.ensures ∙ sym (next_from-last c.args.lives.now c.in-Some.life.now (c.in-Some.ensures.item.3.0) (c.in-Some.ensures.item.1))
