use Rattle.object_store.proofs.Own.{remove_own_seen}
use Rattle.object_store.proofs.Others.{remove_seen}
use Rattle.object_store.proofs.Growth.{remove_grows}
use Rattle.store_cells.specs.declared.value.Value.TheVariants as value
use Rattle.object_store.proofs.store.Store.remove.Goals as goal

pub returns-clause-others : goal.returns-clause-others
returns-clause-others c = λ w other. remove_seen c.args.self.now c.links_are_older.ensures c.bunches_have_nodes.ensures c.args.cell c.args.name.now w other c.remove_in.result c.remove_in.new.self c.remove_in.ensures.ok c.remove_in.ensures.same

pub returns-clause-own : goal.returns-clause-own
returns-clause-own c = remove_own_seen c.args.self.now c.links_are_older.ensures c.bunches_have_nodes.ensures c.args.cell c.args.name.now c.remove_in.result c.remove_in.new.self c.remove_in.ensures.ok

pub returns-clause-grows : goal.returns-clause-grows
returns-clause-grows c = λ w. remove_grows c.args.self.now w c.args.cell c.args.name.now value.Undefined c.remove_in.result c.remove_in.new.self c.remove_in.ensures.ok c.remove_in.ensures.same
