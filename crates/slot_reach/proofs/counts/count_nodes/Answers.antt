use Rattle.std.proofs.Common.{◌≡◌, ap, ◌∙◌, arith}
use Rattle.page_tree.specs.Pages.{nodes}
use Rattle.slot_reach.proofs.Counted.{counted, counted_all}
use Rattle.slot_reach.proofs.counts.count_nodes.Goals as goal

pub returns : goal.returns
returns c =
    let all : c.widgets.w ≡ 32 = omega (arith, c.widgets.auto.w-end, c.widgets-test.false) in
    c.widgets.invariant.exact ∙ ap (λ w. counted w (nodes c.args.page.now)) all ∙ counted_all (nodes c.args.page.now) (λ n lt. c.args.page.now.rooted.owners n)
