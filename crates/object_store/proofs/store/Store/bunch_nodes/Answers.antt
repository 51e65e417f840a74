use Rattle.object_store.proofs.BunchNodes.{bunch_distinct, get_there}
use Rattle.object_store.proofs.store.Store.bunch_nodes.Goals as goal

pub returns-clause-distinct : goal.returns-clause-distinct
returns-clause-distinct c =
    let d = get_there c.args.self.now.cells c.args.cell c.requires in
    bunch_distinct c.args.self.now.cells c.args.cell d.0 d.1 c.in-Some.array c.in-Some.ensures c.in_ok-nodes.nodes.items c.in_ok-nodes.ensures c.bunches_have_nodes.ensures
