use Rattle.object_store.proofs.BunchNodes.{more_found, ref_found}
use Rattle.object_store.proofs.store.Store.nodes_in.Goals as goal

pub push_node-requires : goal.push_node-requires
push_node-requires c = ref_found c.args.self.now.cells c.args.array c.requires c.loop-at.at c.in-Some.value.now c.in-Some.ensures c.links_are_older.ensures

pub loop-at-preserved : goal.loop-at-preserved
loop-at-preserved c = more_found c.args.self.now.cells c.args.array c.requires c.loop-at.at c.in-Some.value.now c.in-Some.ensures c.loop-at.nodes.items c.push_node.new.nodes.items c.loop-at.invariant c.in_ok-push_node.ensures
