use Rattle.page_nodes.specs.Arenas.{nodes_in}
use Rattle.page_nodes.specs.Entries.{entries}
use Rattle.page_nodes.proofs.Detaching.{children_in_page, children_detached, detaches_are}
use Rattle.page_nodes.proofs.arena.Arena.empty.Goals as goal

pub take_children-requires-clause-inside : goal.take_children-requires-clause-inside
take_children-requires-clause-inside c = children_in_page (nodes_in c.args.self.now) c.args.self.now.sound c.args.node

pub invariant_of-self : goal.invariant_of-self
invariant_of-self c = record { sound = (children_detached (nodes_in c.args.self.now) _ c.args.node c.args.self.now.sound c.take_children.ensures).sound }

pub returns-clause-links : goal.returns-clause-links
returns-clause-links c = detaches_are _ _ _ (children_detached (nodes_in c.args.self.now) (entries c.take_children.new.rows.items) c.args.node c.args.self.now.sound c.take_children.ensures).steps

pub returns-clause-steps : goal.returns-clause-steps
returns-clause-steps c = (children_detached (nodes_in c.args.self.now) (entries c.take_children.new.rows.items) c.args.node c.args.self.now.sound c.take_children.ensures).steps
