use Rattle.object_store.proofs.Others.{node_seen, place_seen}
use Rattle.object_store.proofs.Growth.{node_grows}
use Rattle.object_store.proofs.store.Store.add_raw.Goals as goal

pub returns-clause-others : goal.returns-clause-others
returns-clause-others c = λ w. node_seen c.args.self.now c.links_are_older.ensures c.bunches_have_nodes.ensures c.args.node c.add_node.result c.add_node.new.self c.add_node.ensures.ok c.add_node.ensures.err w

pub returns-clause-found : goal.returns-clause-found
returns-clause-found c = place_seen c.args.self.now c.args.node c.add_node.result c.add_node.new.self c.add_node.ensures.ok

pub returns-clause-grows : goal.returns-clause-grows
returns-clause-grows c = λ w. node_grows c.args.self.now w c.args.node c.add_node.result c.add_node.new.self c.add_node.ensures.ok c.add_node.ensures.err
