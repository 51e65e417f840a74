use Rattle.store_cells.specs.Cells.{number_in}
use Rattle.object_store.proofs.OwnMade.{make_own_seen}
use Rattle.object_store.proofs.Others.{make_seen}
use Rattle.object_store.proofs.Growth.{make_grows}
use Rattle.object_store.proofs.store.Store.make.Goals as goal

pub returns-clause-others : goal.returns-clause-others
returns-clause-others c = λ w apart. make_seen c.args.self.now c.links_are_older.ensures c.bunches_have_nodes.ensures (number_in c.args.owner) w apart c.args.cell c.make_in-made.result c.make_in-made.new.self c.make_in-made.ensures.ok c.make_in-made.ensures.same

pub returns-clause-own : goal.returns-clause-own
returns-clause-own c = make_own_seen c.args.self.now c.links_are_older.ensures c.bunches_have_nodes.ensures (number_in c.args.owner) c.args.cell c.requires.fit c.make_in-made.result c.make_in-made.new.self c.permitted_leads_on.ensures c.make_in-made.ensures.ok

pub returns-clause-grows : goal.returns-clause-grows
returns-clause-grows c = λ w. make_grows c.args.self.now w (number_in c.args.owner) c.args.cell c.make_in-made.result c.make_in-made.new.self c.make_in-made.ensures.ok c.make_in-made.ensures.same
