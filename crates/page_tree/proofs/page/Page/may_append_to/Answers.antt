use Rattle.std.proofs.Common.{arith, sym, ◌∙◌}
use Rattle.page_tree.specs.Pages.{nodes, root}
use Rattle.page_nodes.proofs.Walk.{limit_is}
use Rattle.page_tree.proofs.Refusals.{all_taken, highest_low, not_body, some_above}
use Rattle.page_tree.proofs.page.Page.may_append_to.Goals as goal

pub all_open-requires-clause-height : goal.all_open-requires-clause-height
all_open-requires-clause-height c = omega (arith, highest_low (nodes c.args.self.now) c.args.news.now, limit_is, c.highest.ensures)

pub returns-then-some_in_any : goal.returns-then-some_in_any
returns-then-some_in_any c = some_above (nodes c.args.self.now) (root c.args.self.now) c.args.targets.now c.args.news.now c.args.in_order.now c.requires.same (sym c.some_in_any.ensures ∙ c.if-some_in_any.true)

pub returns : goal.returns
returns c =
    let k = nodes c.args.self.now in
    let page = c.args.self.now in
    let own = c.if-not-are_own.ensures in
    all_taken k (root page) c.args.owner c.args.targets.now c.args.news.now c.args.in_order.now _ _ c.requires.owned own c.requires.same (sym c.some_in_any.ensures ∙ c.if-some_in_any.false) page.arena.sound (λ i lt. not_body k page.roots page.arena.sound page.rooted _ ((own i lt).1)) c.highest.ensures c.all_open.ensures
