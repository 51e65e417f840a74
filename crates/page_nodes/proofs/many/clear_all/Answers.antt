use Rattle.std.proofs.Common.{◌<◌, length, arith, ap, ◌∙◌, get_or}
use Rattle.page_nodes.specs.Entries.{at, entries}
use Rattle.page_nodes.proofs.Detaching.{cleared_next, element_in}
use Rattle.page_nodes.proofs.many.clear_all.Goals as goal

pub set_parent-requires : goal.set_parent-requires
set_parent-requires c =
    let k = entries c.args.rows.now.items in
    let lt : c.each.place < length (at k c.args.parent).children = omega (arith, c.len-width.ensures, ap length c.children_of.ensures, c.each-test.true) in
    omega (
      arith,
      c.each.invariant.kept.made,
      element_in k (at k c.args.parent).children c.each.place c.index-child.result.now c.requires.inside lt
          (c.index-child.ensures ∙ ap (λ l. get_or l c.each.place c.index-child.result.now) (c.children_of-in-each.ensures ∙ c.each.invariant.children c.args.parent)),
    )

pub each-preserved : goal.each-preserved
each-preserved c =
    let k = entries c.args.rows.now.items in
    let lt : c.each.place < length (at k c.args.parent).children = omega (arith, c.len-width.ensures, ap length c.children_of.ensures, c.each-test.true) in
    cleared_next k (entries c.each.rows.items) (entries c.set_parent.new.rows.items) (at k c.args.parent).children c.each.place c.index-child.result.now c.requires.inside lt
    (c.index-child.ensures ∙ ap (λ l. get_or l c.each.place c.index-child.result.now) (c.children_of-in-each.ensures ∙ c.each.invariant.children c.args.parent))
    c.each.invariant c.set_parent.ensures.links
