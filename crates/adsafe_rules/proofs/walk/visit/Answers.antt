use Rattle.std.proofs.Common.{length, ap, ◌∙◌}
use Rattle.js_tree.specs.Trees.{trees}
use Rattle.first_breach.specs.Lists.{here}
use Rattle.first_breach.proofs.Members.{in_back}
use Rattle.adsafe_rules.proofs.Stacking.{length_take}
use Rattle.adsafe_rules.proofs.Visiting.{enclosing_take, visit_narrows, visit_going, visit_lighter}
use Rattle.adsafe_rules.proofs.walk.visit.Goals as goal

pub own_rules-least-requires-clause-inside : goal.own_rules-least-requires-clause-inside
own_rules-least-requires-clause-inside c = c.requires.parts c.args.next (in_back c.args.work.now.items here)

pub own_rules-least-requires-clause-enclosing : goal.own_rules-least-requires-clause-enclosing
own_rules-least-requires-clause-enclosing c = enclosing_take (trees c.args.tree.now) c.args.next.depth _ _ c.leave_to.ensures.left c.leave_to.ensures.counted c.requires.enclosing

pub push_outside-requires : goal.push_outside-requires
push_outside-requires c = c.requires.parts c.args.next (in_back c.args.work.now.items here)

pub push_inside-requires-clause-inside : goal.push_inside-requires-clause-inside
push_inside-requires-clause-inside c = c.requires.parts c.args.next (in_back c.args.work.now.items here)

pub push_inside-requires-clause-depth : goal.push_inside-requires-clause-depth
push_inside-requires-clause-depth c = ap length c.leave_to.ensures.left ∙ length_take c.args.next.depth c.args.enclosing.now.stack.items (c.requires.deep c.args.next (in_back c.args.work.now.items here))

pub push_inside-requires-clause-enclosing : goal.push_inside-requires-clause-enclosing
push_inside-requires-clause-enclosing c = enclosing_take (trees c.args.tree.now) c.args.next.depth _ _ c.leave_to.ensures.left c.leave_to.ensures.counted c.requires.enclosing

pub returns-clause-going : goal.returns-clause-going
returns-clause-going c = visit_going (trees c.args.tree.now) c.args.next _ _ _ _ _ _ c.requires c.leave_to.ensures.left c.in_ok-push_outside.ensures c.in_ok-push_inside.ensures

pub returns-clause-narrows : goal.returns-clause-narrows
returns-clause-narrows c = visit_narrows (trees c.args.tree.now) c.args.next _ _ _ _ _ _ c.requires c.leave_to.ensures.left c.in_ok-push_outside.ensures c.in_ok-push_inside.ensures _ _ c.own_rules-least.ensures

pub returns-clause-lighter : goal.returns-clause-lighter
returns-clause-lighter c = visit_lighter (trees c.args.tree.now) c.args.next _ _ _ _ _ _ c.requires c.leave_to.ensures.left c.in_ok-push_outside.ensures c.in_ok-push_inside.ensures
