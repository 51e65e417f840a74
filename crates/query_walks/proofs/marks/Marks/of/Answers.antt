use Rattle.std.proofs.Common.{ap, ◌∙◌, ◌||◌, eqb, get_or}
use Rattle.query_walks.proofs.Downward.{itself}
use Rattle.query_walks.proofs.Ordered.{has_added}
use Rattle.query_walks.proofs.Marked.{marks_more, marks_all}
use Rattle.query_walks.proofs.marks.Marks.of.Goals as goal

pub each-preserved : goal.each-preserved
each-preserved c =
    let x = get_or c.args.nodes.now c.each.node-index 0 in
    λ n. has_added c.each.marks c.add.new.self x c.in_ok-add.field-0 c.in_ok-add.ensures n ∙ ap (λ b. b || eqb n x) (c.each.invariant n) ∙ marks_more c.args.nodes.now c.each.node-index x c.each-test.true (itself c.args.nodes.now c.each.node-index c.each-test.true) n

pub returns : goal.returns
returns c = marks_all c.args.nodes.now c.each.marks c.each.node-index c.each-test.false c.each.invariant
