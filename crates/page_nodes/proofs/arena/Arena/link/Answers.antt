use Rattle.std.proofs.Common.{◌∙◌, arith, ap, length}
use Rattle.std.proofs.lemmas.List.{length-set}
use Rattle.page_nodes.specs.Arenas.{nodes_in}
use Rattle.page_nodes.proofs.Put.{link_written}
use Rattle.page_nodes.proofs.arena.Arena.link.Goals as goal

pub set_parent-requires : goal.set_parent-requires
set_parent-requires c = let e = ap length c.add_child.ensures.links ∙ length-set (nodes_in c.args.self.now) c.args.target _ in omega (arith, e, c.requires.node)

pub invariant_of-self : goal.invariant_of-self
invariant_of-self c = record { sound = (link_written (nodes_in c.args.self.now) _ _ c.args.target c.args.next c.args.node c.args.self.now.sound c.requires.may c.requires.target c.requires.node c.add_child.ensures.links c.set_parent.ensures.links).0 }

pub returns-clause-links : goal.returns-clause-links
returns-clause-links c = (link_written (nodes_in c.args.self.now) _ _ c.args.target c.args.next c.args.node c.args.self.now.sound c.requires.may c.requires.target c.requires.node c.add_child.ensures.links c.set_parent.ensures.links).1

pub returns-clause-room : goal.returns-clause-room
returns-clause-room c = λ t. omega (arith, c.add_child.ensures.room t, c.set_parent.ensures.room t)
