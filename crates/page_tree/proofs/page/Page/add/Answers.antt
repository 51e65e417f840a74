use Rattle.std.proofs.Common.{arith}
use Rattle.plain_tree.specs.Plains.{unplaced}
use Rattle.page_tree.specs.Pages.{nodes}
use Rattle.page_nodes.proofs.Walk.{limit_is}
use Rattle.page_tree.proofs.RootsKept.{rooted_added}
use Rattle.page_tree.proofs.Takes.{may_add, too_many, counted_now, add_wants_memory}
use Rattle.page_tree.proofs.page.Page.add.Goals as goal

pub returns-then-not-is_low-clause-refused : goal.returns-then-not-is_low-clause-refused
returns-then-not-is_low-clause-refused c = omega (arith, limit_is, c.if-not-is_low.ensures)

pub returns-in_default-clause-refused : goal.returns-in_default-clause-refused
returns-in_default-clause-refused c = too_many (nodes c.args.self.now) c.args.self.now.made c.args.owner (unplaced c.args.plain.now) c.slot_of.result c.most_of.result c.args.self.now.counted c.requires.owner c.slot_of.ensures.value c.most_of.ensures c.if-not-is_low.ensures c.in_default.ensures

pub add-requires-clause-low : goal.add-requires-clause-low
add-requires-clause-low c = omega (arith, limit_is, c.if-not-is_low.ensures)

pub add-requires-clause-owners : goal.add-requires-clause-owners
add-requires-clause-owners c = c.args.self.now.rooted.owners

pub invariant_of-self-2 : goal.invariant_of-self-2
invariant_of-self-2 c = record {
  rooted = rooted_added (nodes c.args.self.now) _ c.args.self.now.roots _ c.args.owner (unplaced c.args.plain.now) c.args.self.now.arena.sound c.add.new.arena.sound c.args.self.now.rooted c.requires.owner c.in_ok-id.ensures.nodes;
  counted = counted_now (nodes c.args.self.now) _ c.args.self.now.made _ c.args.owner (unplaced c.args.plain.now) c.slot_of.result c.slot_of-2.result c.most_of.result c.most_of-2.result c.in-Some.left c.args.self.now.counted c.in_ok-id.ensures.nodes c.requires.owner c.slot_of.ensures.value c.slot_of-2.ensures.value c.most_of.ensures c.most_of-2.ensures c.in-Some.ensures;
  indexed = c.add.ensures.index;
}

pub returns-clause-allowed : goal.returns-clause-allowed
returns-clause-allowed c = may_add (nodes c.args.self.now) c.args.self.now.made c.args.owner (unplaced c.args.plain.now) c.slot_of.result c.most_of.result c.in-Some.left c.args.self.now.counted c.requires.owner c.slot_of.ensures.value c.most_of.ensures c.if-not-is_low.ensures c.in-Some.ensures

pub returns-in_err-id-clause-refused : goal.returns-in_err-id-clause-refused
returns-in_err-id-clause-refused c = add_wants_memory _ (nodes c.args.self.now) c.args.owner (unplaced c.args.plain.now) c.from_residual.ensures.1 (may_add (nodes c.args.self.now) c.args.self.now.made c.args.owner (unplaced c.args.plain.now) c.slot_of.result c.most_of.result c.in-Some.left c.args.self.now.counted c.requires.owner c.slot_of.ensures.value c.most_of.ensures c.if-not-is_low.ensures c.in-Some.ensures)
