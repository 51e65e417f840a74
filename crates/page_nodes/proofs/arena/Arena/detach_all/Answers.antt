use Rattle.page_nodes.specs.Arenas.{nodes_in}
use Rattle.page_nodes.specs.Entries.{entries}
use Rattle.page_nodes.proofs.Detaching.{list_detached, nodes_are, detaches_are}
use Rattle.page_nodes.proofs.arena.Arena.detach_all.Goals as goal

pub take_all-requires-clause-nodes : goal.take_all-requires-clause-nodes
take_all-requires-clause-nodes c = nodes_are (nodes_in c.args.self.now) c.args.nodes.items _ c.deref_mut.ensures.value c.requires

pub invariant_of-self : goal.invariant_of-self
invariant_of-self c = record { sound = (list_detached (nodes_in c.args.self.now) (entries c.take_all.new.rows.items) c.args.nodes.items _ c.deref_mut.ensures.value c.args.self.now.sound c.requires c.take_all.ensures.links).sound }

pub returns-clause-links : goal.returns-clause-links
returns-clause-links c = detaches_are _ _ _ (list_detached (nodes_in c.args.self.now) (entries c.take_all.new.rows.items) c.args.nodes.items _ c.deref_mut.ensures.value c.args.self.now.sound c.requires c.take_all.ensures.links).steps

pub returns-clause-steps : goal.returns-clause-steps
returns-clause-steps c = (list_detached (nodes_in c.args.self.now) (entries c.take_all.new.rows.items) c.args.nodes.items _ c.deref_mut.ensures.value c.args.self.now.sound c.requires c.take_all.ensures.links).steps
