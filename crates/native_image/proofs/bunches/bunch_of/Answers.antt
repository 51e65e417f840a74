use Rattle.js_image.proofs.Makes.{within_of}
use Rattle.native_image.proofs.Nodes.{all_nodes, all_read}
use Rattle.native_image.proofs.bunches.bunch_of.Goals as goal

pub returns-clause-read : goal.returns-clause-read
returns-clause-read c = all_read c.args.w.index c.args.w.small c.args.store.now c.args.page.now c.requires.held c.args.v.now c.requires.fine c.bunch_nodes.result c.bunch_nodes.ensures.nodes

pub returns-clause-nodes : goal.returns-clause-nodes
returns-clause-nodes c = all_nodes c.args.w.index c.args.w.small c.args.store.now c.args.page.now c.requires.held c.args.v.now c.requires.fine c.bunch_nodes.result c.bunch_nodes.ensures.nodes c.bunch_nodes.ensures.distinct

pub bunch_nodes-requires : goal.bunch_nodes-requires
bunch_nodes-requires c = within_of c.args.w.index c.args.store.now.cells c.args.v.now c.requires.fine
