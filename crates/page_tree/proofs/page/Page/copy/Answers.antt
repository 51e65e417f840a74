use Rattle.page_tree.specs.Pages.{nodes}
use Rattle.page_tree.proofs.Takes.{copy_refused, copy_added, copy_allowed, copy_low}
use Rattle.page_tree.proofs.page.Page.copy.Goals as goal

pub returns-clause-allowed : goal.returns-clause-allowed
returns-clause-allowed c = copy_allowed _ (nodes c.args.self.now) _ _ _ _ c.owner-owner.ensures c.in_ok-plain.ensures c.add.ensures.allowed

pub returns-clause-done : goal.returns-clause-done
returns-clause-done c = copy_added _ (nodes c.args.self.now) _ _ _ _ _ c.owner-owner.ensures c.in_ok-plain.ensures c.add.ensures.done

pub returns-clause-refused : goal.returns-clause-refused
returns-clause-refused c = copy_refused _ (nodes c.args.self.now) _ _ _ _ c.owner-owner.ensures c.in_ok-plain.ensures (copy_low (nodes c.args.self.now) c.args.node c.args.self.now.arena.sound c.requires.widget _ c.in_ok-plain.ensures) c.add.ensures.refused
