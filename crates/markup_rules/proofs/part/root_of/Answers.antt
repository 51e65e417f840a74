use Rattle.std.proofs.Common.{sym, ◌∙◌, true}
use Rattle.markup_rules.proofs.Rooted.{roots_pass}
use Rattle.markup_rules.proofs.part.root_of.Goals as goal

pub returns-then-is_word : goal.returns-then-is_word
returns-then-is_word c = c.nodes.invariant ∙ roots_pass c.in-Some.part true c.args.content.now c.nodes.plain-index c.plain-item.result c.nodes-test.true c.plain-item.is c.in-Some.ensures (sym c.if-is_word.ensures)
