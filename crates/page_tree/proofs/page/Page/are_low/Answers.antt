use Rattle.std.proofs.Common.{arith}
use Rattle.page_tree.specs.Pages.{nodes}
use Rattle.page_nodes.proofs.Walk.{limit_is}
use Rattle.page_tree.proofs.Refusals.{all_low, depth_low, highest_low, some_deep}
use Rattle.page_tree.proofs.page.Page.are_low.Goals as goal

pub overflow_add-depth : goal.overflow_add-depth
overflow_add-depth c = omega (arith, depth_low (nodes c.args.self.now) c.args.target _ c.depth.ensures, highest_low (nodes c.args.self.now) c.args.news.now, limit_is, c.highest.ensures)

pub returns-then-depth-highest-gt-LIMIT : goal.returns-then-depth-highest-gt-LIMIT
returns-then-depth-highest-gt-LIMIT c = some_deep (nodes c.args.self.now) c.args.target _ c.args.news.now c.args.self.now.arena.sound c.requires.other c.depth.ensures (omega (arith, limit_is, c.highest.ensures, c.if-depth-highest-gt-LIMIT.true))

pub returns : goal.returns
returns c = all_low (nodes c.args.self.now) c.args.target _ c.args.news.now c.depth.ensures (omega (arith, limit_is, c.highest.ensures, c.if-depth-highest-gt-LIMIT.false))
