use Rattle.std.proofs.Common.{◌∙◌, sym, arith}
use Rattle.query_walks.proofs.Found.{mark_lowers}
use Rattle.query_walks.proofs.failed.mark.Goals as goal

pub overflow_sub-result : goal.overflow_sub-result
overflow_sub-result c = let more = mark_lowers c.args.found.now.items c.args.place c.index.result.now c.requires.inside (sym c.index.ensures ∙ c.if-index.false) in omega (arith, c.requires.left, more)

pub returns-clause-left : goal.returns-clause-left
returns-clause-left c = let more = mark_lowers c.args.found.now.items c.args.place c.index.result.now c.requires.inside (sym c.index.ensures ∙ c.if-index.false) in omega (arith, c.requires.left, more)
