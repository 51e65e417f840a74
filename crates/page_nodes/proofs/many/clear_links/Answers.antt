use Rattle.std.proofs.Common.{arith, get_or, refl}
use Rattle.page_nodes.specs.Entries.{entries}
use Rattle.page_nodes.proofs.Raised.{raised_start, raised_more}
use Rattle.page_nodes.proofs.many.clear_links.Goals as goal

pub each-init : goal.each-init
each-init c = record { raised = raised_start (entries c.args.rows.now.items) c.args.nodes.now c.requires.nodes; room = λ t. omega arith }

pub each-preserved : goal.each-preserved
each-preserved c = record {
  raised = raised_more (entries c.args.rows.now.items) (entries c.each.rows.items) (entries c.clear_link.new.rows.items) c.args.nodes.now c.each.nodes c.each.place (get_or c.each.nodes c.each.place 0) c.clear_link.result c.requires.sound c.each-test.true refl c.each.invariant.raised c.clear_link.ensures.links c.clear_link.ensures.parent;
  room = λ t. omega (arith, c.each.invariant.room t, c.clear_link.ensures.room t);
}
